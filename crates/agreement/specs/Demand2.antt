-- Demand 2, of every list of calls: the tables are those that the plain list gives when worked from none. The working
-- (`worked`) is the version building of the paper's section 4 under document 01's rules, with the counts of document 02, 2.1,
-- the signatures of 2.4 and the times of 2.5.
use Rattle.std.specs.Prelude.{ℕ, ◌+◌, ◌≤◌, ◌<◌, ◌≡◌, ◌↔◌, length, take}
use mathlib.Core.List.{List, ◌∷◌, ◌++◌, reverse, Memᴰ}
use Rattle.refusals.specs.Refusals.{number_of}
use Rattle.rows.specs.declared.Counts.{Counts}
use Rattle.rows.specs.Rows.{entity_at, version_at, edge_at}
use Rattle.record.specs.declared.Record.{Record}
use Rattle.rules.specs.declared.BatchAnswer.{BatchAnswer}
use Rattle.rules.specs.Trail.{Tables, capacity_of, trail_of}
use Rattle.rules.specs.Sound.{count_sum}
use Rattle.rules.specs.Batch.{contents_of, batch_of}
use Rattle.rules.specs.History.{accepted, kept_events}
use Rattle.rules.specs.PlainList.{worked, items_of, tried_over, refused_by}
use Rattle.rules.specs.StandsFor.{stands_for, last_time}
use Rattle.rules.specs.KeptLog.{signature_record}
use Rattle.rules.specs.Calls.{Call, batch, plain_after}
use Rattle.causality.specs.Statements.{Logged}
use Rattle.agreement.specs.Left.{LeftBy}
use Rattle.agreement.specs.Signed.{SignedAt, NoMore, Untouched}

-- counts and rows in use are those of the plain list, its last record first
pub record Holds (rs : List Record) (c : Counts) (t : Tables) : Type 0 where
  pub counts : c ≡ (worked rs).counts
  pub entity_rows : (k : ℕ) → k < c.entities → entity_at t.entities k ≡ (worked rs).entity k
  pub version_rows : (k : ℕ) → k < c.versions → version_at t.versions k ≡ (worked rs).version k
  pub edge_rows : (k : ℕ) → k < c.edges → edge_at t.edges k ≡ (worked rs).edge k
  pub accepted_are : c.accepted ≡ length (accepted (items_of rs))
  -- the edges are the kept events in order, with their kinds, entities and times
  pub edges_are : c.edges ≡ length (kept_events (items_of rs))
  pub kept : Logged (trail_of c t) (kept_events (items_of rs))
  -- document 02, 2.1: an edge's count is how many accepted events it stands for, and its last time is that of the last of these; the
  -- sum of the counts is "the events accepted, counted from the files"
  pub counts_are : (k : ℕ) → k < c.edges → (edge_at t.edges k).count ≡ length (stands_for rs k)
  pub lasts_are : (k : ℕ) → k < c.edges → (edge_at t.edges k).last ≡ last_time (stands_for rs k)
  pub sum_is : count_sum (edge_at t.edges) c.edges ≡ length (accepted (items_of rs))
  -- document 02, 2.4: "accepted and the last time stay"; an entity is signed exactly if its signature is among the records, and takes no
  -- more writes then
  pub last_is : c.last ≡ last_time (accepted (items_of rs))
  pub signatures : (x : ℕ) → SignedAt (trail_of c t) x ↔ Memᴰ (signature_record x) rs
  pub no_more : NoMore rs
  -- without its signatures the list is taken in too, and gives the same rows but for sorts and the same events; of traces: `TracesUntouched`
  pub untouched : Untouched rs
  -- "Over a trail grown from fresh, versions ≤ entities + edges."
  pub versions : c.versions ≤ c.entities + c.edges

-- a batch's answer, where the file was taken in after the plain list rs, which then was rs': rs with the first `taken` records
-- of the file added, in order
pub record Answered (rs : List Record) (t : Tables) (file : List ℕ) (rs' : List Record) (a : BatchAnswer) : Type 0 where
  pub refusal : a.refusal ≡ number_of (refused_by (capacity_of t) rs file)
  pub among : a.taken ≤ length (contents_of file).records
  pub grown : rs' ≡ reverse (take a.taken (contents_of file).records) ++ rs
  -- document 02, 2.3: how many edges were tried in the working for the records added
  pub tried : tried_over rs' ≡ tried_over rs + a.tried

pub record Demand2 : Type 0 where
  pub holds : (cs : List Call) (c : Counts) (t : Tables) → LeftBy cs c t → Holds (plain_after cs) c t
  -- "A batch returns the number (0 if none) and how many records it took in; the tables show those records." Document 02, 2.3: and how many
  -- edges it tried
  pub answer : (cs : List Call) (c : Counts) (t : Tables) → LeftBy cs c t → (file : List ℕ)
      → Answered (plain_after cs) t file (plain_after (batch t file ∷ cs)) (batch_of c t file).answer
