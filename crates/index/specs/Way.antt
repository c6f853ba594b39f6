-- The way of an edge: from the version that it leaves to the entity of the version that it enters.
use Rattle.std.specs.Prelude.{ℕ}
use Rattle.rows.specs.declared.VersionRow.{VersionRow}
use Rattle.rows.specs.declared.EdgeRow.{EdgeRow}
use Rattle.index.specs.declared.way.Way.{Way}

abbrev pub way_of : (ℕ → EdgeRow) → (ℕ → VersionRow) → ℕ → Way
way_of E W k = record { from = (E k).from; to = (W (E k).to.0).entity }
