-- Document 02, 2.3: "The search, however it is done now, should begin at the newest edge and stop at the first hit." The search as a
-- relation, and the number that a batch returns by it; what is claimed of both. The proofs are in proofs/Search.antt and proofs/Tried.antt.
use Rattle.std.specs.Prelude.{ℕ, zero, suc, ◌+◌, ◌*◌, ◌≤◌, ◌≡◌, ◌↔◌, true, false, List, [], ◌∷◌, Ok, Err, Some, None}
use Rattle.refusals.specs.declared.Refusal.{Refusal}
use Rattle.refusals.specs.Refusals.{first_of, number_of}
use Rattle.rows.specs.declared.Counts.{Counts}
use Rattle.record.specs.declared.Declaration.{Declaration}
use Rattle.record.specs.declared.Event.{Event}
use Rattle.record.specs.declared.Signature.{Signature}
use Rattle.record.specs.declared.Record.{Record}
use Rattle.record.specs.declared.Record.TheVariants as records
use Rattle.rules.specs.Decide.{Found}
use Rattle.rules.specs.Trail.{Tables, capacity_of, Trail, trail_of, latest_of, owner_of}
use Rattle.rules.specs.Decide.{edge_no, folds, repeat_of}
use Rattle.rules.specs.Record.{refusal_of, change_of, tried_for, written}
use Rattle.rules.specs.Batch.{contents_of, batch_checks, results_of, batch_of}

-- edge k goes from version f to some version of entity x
pub record Hit (T : Trail) (f x k : ℕ) : Type 0 where
  pub leaves : (T.edge k).from.0 ≡ f
  pub enters : owner_of T (T.edge k).to.0 ≡ x

-- a search of the first n edges, the newest first: how many it tries, and what it finds
pub data Search (T : Trail) (f x : ℕ) : ℕ → ℕ → Found → Type 0 where
  none_left : Search T f x zero zero None
  stopped : {k : ℕ} → Hit T f x k → Search T f x (suc k) 1 (Some (edge_no k))
  went_on : {k tried : ℕ} {found : Found} → (Hit T f x k → ⊥) → Search T f x k tried found → Search T f x (suc k) (suc tried) found

-- the search for an event: among the edges in use, one from the latest version of its source to some version of its target
abbrev pub SearchFor : Trail → Event → ℕ → Found → Type 0
SearchFor T e tried found = Search T (latest_of T e.source.0) e.target.0 T.counts.edges tried found

-- how many edges are tried for a record: "for each of kinds 1 to 3" those of one search, for another record none
pub data Tried (T : Trail) : Record → ℕ → Type 0 where
  searched : {e : Event} {tried : ℕ} {found : Found} → folds e.kind ≡ true → SearchFor T e tried found → Tried T (records.Event e) tried
  skipped : {e : Event} → folds e.kind ≡ false → Tried T (records.Event e) 0
  declared : {d : Declaration} → Tried T (records.Declaration d) 0
  signed : {s : Signature} → Tried T (records.Signature s) 0

-- how many are tried for records "it took in", up to the first one refused
pub data AllTried : Counts → Tables → List Record → ℕ → Type 0 where
  no_record : {c : Counts} {t : Tables} → AllTried c t [] 0
  refused : {c : Counts} {t : Tables} {r : Record} {rs : List Record} {x : Refusal} → refusal_of (capacity_of t) (trail_of c t) r ≡ Err x
      → AllTried c t (r ∷ rs) 0
  taken : {c : Counts} {t : Tables} {r : Record} {rs : List Record} {tried more : ℕ} → refusal_of (capacity_of t) (trail_of c t) r ≡ Ok tt
      → Tried (trail_of c t) r tried → AllTried (change_of (trail_of c t) r).counts (written t (change_of (trail_of c t) r).writes) rs more
      → AllTried c t (r ∷ rs) (tried + more)

pub record NewestFirst : Type 0 where
  -- for an event of kinds 1 to 3 the search ends in one way: with the edge that the event repeats, if any, and with the number that is
  -- counted for it
  pub finds : (T : Trail) (e : Event) → folds e.kind ≡ true → (tried : ℕ) (found : Found)
      → SearchFor T e tried found ↔ ((tried ≡ tried_for T (records.Event e)) × (found ≡ repeat_of T e))
  -- a batch whose tables or header are refused tries no edge; else it returns the number of the searches, and no other
  pub none : (c : Counts) (t : Tables) (file : List ℕ) (x : Refusal) → first_of (batch_checks c t file) ≡ Err x → (batch_of c t file).answer.tried ≡ 0
  pub all : (c : Counts) (t : Tables) (file : List ℕ) → first_of (batch_checks c t file) ≡ Ok tt → (tried : ℕ)
      → AllTried c t (contents_of file).records tried ↔ (tried ≡ (batch_of c t file).answer.tried)
  -- "Other results are as in 2.1": those of `results_of`, in which no number of edges tried occurs
  pub others : (c : Counts) (t : Tables) (file : List ℕ)
      → ((batch_of c t file).answer.refusal ≡ number_of (results_of c t file).checked)
      × ((batch_of c t file).answer.taken ≡ (results_of c t file).taken)
      × ((batch_of c t file).counts ≡ (results_of c t file).counts)
      × ((batch_of c t file).tables ≡ (results_of c t file).tables)
  -- the sum is at most the records taken in times the edges at the end
  pub most : (c : Counts) (t : Tables) (file : List ℕ)
      → (batch_of c t file).answer.tried ≤ (batch_of c t file).answer.taken * (batch_of c t file).counts.edges
