-- Document 01, "Traces": "a list of calls, each a batch, a backward or a forward trace, refused ones among them." The last
-- call stands first.
use Rattle.std.specs.Prelude.{ℕ, ◌≤◌, ◌<◌, ◌≡◌, List, [], ◌∷◌}
use Rattle.rows.specs.declared.Counts.{Counts}
use Rattle.rows.specs.Rows.{entity_at, version_at, edge_at}
use Rattle.record.specs.declared.Record.{Record}
use Rattle.rules.specs.Trail.{Tables, tables, Capacity, capacity_of, fresh_counts}
use Rattle.rules.specs.Batch.{batch_of}
use Rattle.rules.specs.PlainList.{added_by}

-- a call with the tables that it is lent; a trace's entity, or forward the list of its entities (document 02, 2.2), its time, work buffer
-- and mark buffer
pub data Call : Type 0 where
  batch : Tables → List ℕ → Call
  backward : Tables → ℕ → ℕ → List ℕ → List ℕ → Call
  forward : Tables → List ℕ → ℕ → List ℕ → List ℕ → Call

abbrev pub lent_to : Call → Tables
lent_to (batch t file) = t
lent_to (backward t v time work marks) = t
lent_to (forward t us time work marks) = t

-- the counts and tables that the calls leave; "It starts from a fresh trail"; a trace changes neither
pub record Held : Type 0 where
  pub counts : Counts
  pub tables : Tables

abbrev pub held : Counts → Tables → Held
held c t = record { counts = c; tables = t }

abbrev pub held_after : List Call → Held
held_after [] = held fresh_counts (tables [] [] [])
held_after (batch t file ∷ cs) = held (batch_of (held_after cs).counts t file).counts (batch_of (held_after cs).counts t file).tables
held_after (backward t v time work marks ∷ cs) = held (held_after cs).counts t
held_after (forward t us time work marks ∷ cs) = held (held_after cs).counts t

-- at least as many rows as are in use
pub record EnoughRows (cap : Capacity) (c : Counts) : Type 0 where
  pub entities : c.entities ≤ cap.entities
  pub versions : c.versions ≤ cap.versions
  pub edges : c.edges ≤ cap.edges

-- "each call is lent the counts and rows in use as the call before left them, in tables of any length"; counts never
-- pass the caps, so `room` asks only that the tables are long enough
pub record Lent (h : Held) (t : Tables) : Type 0 where
  pub room : EnoughRows (capacity_of t) h.counts
  pub entity_rows : (k : ℕ) → k < h.counts.entities → entity_at t.entities k ≡ entity_at h.tables.entities k
  pub version_rows : (k : ℕ) → k < h.counts.versions → version_at t.versions k ≡ version_at h.tables.versions k
  pub edge_rows : (k : ℕ) → k < h.counts.edges → edge_at t.edges k ≡ edge_at h.tables.edges k

abbrev pub AllLent : List Call → Type 0
AllLent [] = Unit {0}
AllLent (x ∷ cs) = Lent (held_after cs) (lent_to x) × AllLent cs

-- "Beside it goes a plain list, the records taken in, at first empty. A batch adds ..; a trace adds nothing. .. Nothing is read
-- from the trail's own tables, counts or answers": only the capacity lent and the file are read of a call
abbrev pub plain_after : List Call → List Record
plain_after [] = []
plain_after (batch t file ∷ cs) = added_by (capacity_of t) (plain_after cs) file
plain_after (backward t v time work marks ∷ cs) = plain_after cs
plain_after (forward t us time work marks ∷ cs) = plain_after cs
