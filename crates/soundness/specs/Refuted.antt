-- Document 02, 2.4: wrong things that a batch could leave of a signed object, and of sorts; `Framed` holds of none of them, whatever else the
-- batch leaves. It is lent the worked trail, whose report, entity 2, is signed.
use Rattle.std.specs.Prelude.{◌≤◌, ◌≡◌}
use Rattle.rows.specs.Rows.{entity_row, version_row, edge_row, entity_at, version_at, edge_at}
use Rattle.rules.specs.Trail.{counts, none}
use Rattle.rules.specs.Batch.{Batched}
use Rattle.rules.specs.SignedCases.{signed_tables}
use Rattle.soundness.specs.Frame.{Framed}

abbrev pub NoFrame : (Batched → Type 0) → Type 0
NoFrame Wrong = (b : Batched) → Wrong b → Framed (counts 4 5 4 7 7) signed_tables b → ⊥

pub record Refuted : Type 0 where
  -- the report is not signed any more, or has another latest version
  pub row_changed : NoFrame (λ b. (entity_at b.tables.entities 2 ≡ entity_row 2 2 → ⊥))
  -- its version, or an edge into it, has another row: another end, another count
  pub version_changed : NoFrame (λ b. (version_at b.tables.versions 2 ≡ version_row 2 0 6 none → ⊥))
  pub edge_changed : NoFrame (λ b. (edge_at b.tables.edges 1 ≡ edge_row 1 2 2 2 2 4 → ⊥))
  -- a version of it, or an edge into it, is added
  pub version_added : NoFrame (λ b. (6 ≤ b.counts.versions) × ((version_at b.tables.versions 5).entity.0 ≡ 2))
  pub edge_added : NoFrame (λ b. (5 ≤ b.counts.edges) × ((edge_at b.tables.edges 4).to.0 ≡ 2))
  -- the study is a subject now; the stager is signed
  pub study_a_subject : NoFrame (λ b. (entity_at b.tables.entities 0).sort ≡ 1)
  pub stager_signed : NoFrame (λ b. (entity_at b.tables.entities 1).sort ≡ 2)
