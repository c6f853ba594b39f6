-- Two trails with the same counts and rows in use: a record is refused alike, and decided alike, and as many edges are tried for it.
use Rattle.std.specs.Prelude.{Ok, Some, None}
use Prim.Native.Nat.{ℕ, zero, suc, ◌<◌}
use native.Mathlib.Omega.{arith}
use mathlib.Core.Path.{◌≡◌, refl, sym, ◌∙◌, ap}
use mathlib.Core.Bool.{Bool, true, false, ◌&&◌, ◌||◌, cond}
use lib.Dec.{leb, eqb}
use borrow.Author.Tests.{leb-false}
use Rattle.refusals.specs.Refusals.{first_of}
use Rattle.rows.specs.declared.Counts.{Counts}
use Rattle.rows.specs.declared.EntityRow.{EntityRow}
use Rattle.rows.specs.declared.VersionRow.{VersionRow}
use Rattle.rows.specs.declared.EdgeRow.{EdgeRow}
use Rattle.record.specs.declared.Event.{Event}
use Rattle.record.specs.declared.Record.{Record}
use Rattle.record.specs.declared.Record.TheVariants as records
use Rattle.record.specs.declared.Signature.{Signature}
use Rattle.rules.specs.Trail.{Capacity, Trail, latest_of}
use Rattle.rules.specs.Decide.{goes_to, newest_to, leaves, folds, repeat_of, has_outgoing, decide, decision_of, edge_no}
use Rattle.rules.specs.Record.{declaration_refusals, early_refusals, room_refusals, event_refusals, refusal_of, to_hit, tried_for, signature_refusals}
use Rattle.soundness.specs.Facts.{RowFacts}
use Rattle.soundness.proofs.Taken.{event-taken}
use Rattle.closure.specs.Same.{SameRows}

-- The searches read only the edges below the count, and the versions that these enter

module _ (E E' : ℕ → EdgeRow) (W W' : ℕ → VersionRow) (f x : ℕ) where
  goes_to-same : (k : ℕ) → E k ≡ E' k → W (E k).to.0 ≡ W' (E k).to.0 → goes_to E W f x k ≡ goes_to E' W' f x k
  unfolding goes_to
  goes_to-same k p q =
      ap (λ (r : EdgeRow). eqb r.from.0 f && eqb (W r.to.0).entity.0 x) p
      ∙ ap (λ (v : VersionRow). eqb (E' k).from.0 f && eqb v.entity.0 x)
      (ap (λ (r : EdgeRow). W r.to.0) (sym p) ∙ q ∙ ap (λ (r : EdgeRow). W' r.to.0) p)

  newest_to-same : (n : ℕ) → ((k : ℕ) → k < n → E k ≡ E' k) → ((k : ℕ) → k < n → W (E k).to.0 ≡ W' (E k).to.0) → newest_to E W f x n ≡ newest_to E' W' f x n
  unfolding newest_to
  newest_to-same zero p q = refl
  newest_to-same (suc n) p q = λ j.
      cond (goes_to-same n (p n (omega arith)) (q n (omega arith)) j) (Some (edge_no n)) (newest_to-same n (λ k l. p k (omega arith)) (λ k l. q k (omega arith)) j)

leaves-same : (E E' : ℕ → EdgeRow) (f n : ℕ) → ((k : ℕ) → k < n → E k ≡ E' k) → leaves E f n ≡ leaves E' f n
unfolding leaves
leaves-same E E' f zero p = refl
leaves-same E E' f (suc n) p = λ j. eqb (p n (omega arith) j).from.0 f || leaves-same E E' f n (λ k l. p k (omega arith)) j

module _ {T T' : Trail} (q : T.counts ≡ T'.counts) (s : SameRows T T') (f : RowFacts T) where
  pub latest_same : (x : ℕ) → x < T.counts.entities → latest_of T x ≡ latest_of T' x
  latest_same x l = ap (λ (r : EntityRow). r.latest.0) (s.entity_rows x l)

  pub sort-same : (x : ℕ) → x < T.counts.entities → (T.entity x).sort ≡ (T'.entity x).sort
  sort-same x l = ap (λ (r : EntityRow). r.sort) (s.entity_rows x l)

  module _ (e : Event) (i : e.source.0 < T.counts.entities) (k : e.target.0 < T.counts.entities) where
    repeat_same : repeat_of T e ≡ repeat_of T' e
    unfolding repeat_of
    repeat_same =
        let a = newest_to-same T.edge T'.edge T.version T'.version (latest_of T e.source.0) e.target.0 T.counts.edges s.edge_rows
        (λ n l. s.version_rows (T.edge n).to.0 (f.edge n l).to_in) in
        λ j. cond (folds e.kind) ((a ∙ (λ h. newest_to T'.edge T'.version (latest_same e.source.0 i h) e.target.0 (s.edges h))) j) None

    gives_same : has_outgoing T e.target.0 ≡ has_outgoing T' e.target.0
    unfolding has_outgoing
    gives_same =
        leaves-same T.edge T'.edge (latest_of T e.target.0) T.counts.edges s.edge_rows
        ∙ (λ h. leaves T'.edge (latest_same e.target.0 k h) (s.edges h))

    pub decision_same : decision_of T e ≡ decision_of T' e
    unfolding decision_of
    decision_same = λ j. decide (repeat_same j) (gives_same j)

    tried_event : tried_for T (records.Event e) ≡ tried_for T' (records.Event e)
    unfolding tried_for
    tried_event = λ j. cond (folds e.kind) (to_hit (s.edges j) (repeat_same j)) 0

    -- what the refusals of an event read of a trail
    refused_same : (cap : Capacity) → first_of (event_refusals cap T e (decision_of T e)) ≡ first_of (event_refusals cap T' e (decision_of T' e))
    unfolding early_refusals room_refusals event_refusals
    refused_same cap = rw (decision_same, sort-same e.source.0 i, sort-same e.target.0 k, q)

  -- an undeclared entity is refused before anything is read of it
  undeclared_same : (cap : Capacity) (e : Event) → (b : Bool) → leb T.counts.entities e.source.0 ≡ b → (c : Bool) → leb T.counts.entities e.target.0 ≡ c
      → first_of (event_refusals cap T e (decision_of T e)) ≡ first_of (event_refusals cap T' e (decision_of T' e))
  unfolding early_refusals room_refusals event_refusals first_of
  undeclared_same cap e true b c z = rw (b, ← q, b)
  undeclared_same cap e false b true z = rw (b, z, ← q, b, z)
  undeclared_same cap e false b false z = refused_same e (leb-false _ _ b) (leb-false _ _ z) cap

  -- so it is with a signature
  signature_same : (g : Signature) → (b : Bool) → leb T.counts.entities g.entity.0 ≡ b
      → first_of (signature_refusals T.counts T.entity g) ≡ first_of (signature_refusals T'.counts T'.entity g)
  unfolding signature_refusals first_of
  signature_same g true b = rw (b, ← q, b)
  signature_same g false b = rw (sort-same g.entity.0 (leb-false _ _ b), q)

  pub refusal-same : (cap : Capacity) (r : Record) → refusal_of cap T r ≡ refusal_of cap T' r
  unfolding refusal_of
  refusal-same cap (records.Declaration d) = ap (λ (c : Counts). first_of (declaration_refusals cap c d)) q
  refusal-same cap (records.Event e) = undeclared_same cap e _ refl _ refl
  refusal-same cap (records.Signature g) = signature_same g _ refl

  pub tried_same : (cap : Capacity) (r : Record) → refusal_of cap T r ≡ Ok tt → tried_for T r ≡ tried_for T' r
  unfolding refusal_of tried_for
  tried_same cap (records.Declaration d) h = refl
  tried_same cap (records.Event e) h = let z = event-taken cap T e h in tried_event e z.source_in z.target_in
  tried_same cap (records.Signature g) h = refl
