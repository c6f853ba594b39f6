-- A batch over a fresh trail takes in every record of a file that the rules take in one after another.
use Rattle.std.specs.Prelude.{Ok}
use Prim.Native.Nat.{ℕ, ◌+◌}
use native.Mathlib.Omega.{arith}
use mathlib.Core.Path.{◌≡◌, refl, ◌∙◌, subst}
use mathlib.Core.List.{List, [], ◌∷◌, reverse, reverse_aux, reverse-reverse}
use lib.ListN.{length}
use Rattle.refusals.specs.Refusals.{first_of}
use Rattle.rows.specs.declared.Counts.{Counts}
use Rattle.record.specs.declared.Record.{Record}
use Rattle.record.specs.Header.{header_checks}
use Rattle.rules.specs.Trail.{Tables, Capacity, capacity_of, trail_of, fresh_counts}
use Rattle.rules.specs.Record.{change_of, written, refusal_of}
use Rattle.rules.specs.PlainList.{worked}
use Rattle.rules.specs.Batch.{Results, contents_of, take_in, batch_checks, results_of, batch_of}
use Rattle.soundness.specs.Taken.{SortFits}
use Rattle.soundness.proofs.Step.{fresh_sound}
use Rattle.kept_log.specs.LogRecords.{wholly}
use Rattle.agreement.specs.Taken.{Within, begun}
use Rattle.agreement.proofs.Matching.{Ready, checked-same, ready_next, capacity_within}
use Rattle.agreement.proofs.Relogged.{TakenBy}

-- records in the order of a file, each taken in after those of rs and the ones before it
abbrev Passing : Capacity → List Record → List Record → Type 0
Passing cap rs [] = Unit {0}
Passing cap rs (r ∷ more) = (SortFits r × (refusal_of cap (worked rs) r ≡ Ok tt)) × Passing cap (r ∷ rs) more

taken_by_passing : (cap : Capacity) (rs more : List Record) → TakenBy cap rs → Passing cap rs more → Passing cap [] (reverse_aux rs more)
taken_by_passing cap [] more a p = p
taken_by_passing cap (r ∷ rs) more a p = taken_by_passing cap rs (r ∷ more) a.1 (a.0, p)

record AllTaken (cap : Capacity) (n : ℕ) (rs : List Record) (b : Results) : Type 0 where
  ready : Ready cap b.counts b.tables rs
  checked : b.checked ≡ Ok tt
  taken : b.taken ≡ n

module _ (cap : Capacity) (w : Within cap) where
  take_in_all : (c : Counts) (t : Tables) (rs : List Record) → Ready cap c t rs → (n : ℕ) (more : List Record) → Passing cap rs more
      → AllTaken cap (n + length more) (reverse_aux more rs) (take_in c t n more (Ok tt))
  unfolding take_in
  take_in_all c t rs y n [] p = record { ready = y; checked = refl; taken = omega arith }
  take_in_all c t rs y n (r ∷ more) p =
      let z = take_in_all (change_of (trail_of c t) r).counts (written t (change_of (trail_of c t) r).writes) (r ∷ rs) (ready_next cap w c t rs y r p.0.0 p.0.1) (n + 1) more p.1 in
      rw (checked-same cap w c t rs y r ∙ p.0.1) (record { ready = z.ready; checked = z.checked; taken = omega (arith, z.taken) })

fresh_ready : (t : Tables) → Ready (capacity_of t) fresh_counts t []
fresh_ready t = record {
  taken = begun;
  alike = record {
    counts = refl;
    rows = record {
      entities = refl;
      versions = refl;
      edges = refl;
      entity_rows = λ k l. absurd (omega arith);
      version_rows = λ k l. absurd (omega arith);
      edge_rows = λ k l. absurd (omega arith);
    };
  };
  sound = fresh_sound (capacity_of t) (trail_of fresh_counts t) refl;
  capacity = refl;
}

module _ (t : Tables) (file : List ℕ) (h : first_of (header_checks file) ≡ Ok tt) (rs : List Record) (a : TakenBy (capacity_of t) rs)
    (q : contents_of file ≡ wholly (reverse rs)) where
  batch_passed : results_of fresh_counts t file ≡ take_in fresh_counts t 0 (reverse rs) (Ok tt)
  unfolding results_of batch_checks first_of
  batch_passed = rw (fresh_sound (capacity_of t) (trail_of fresh_counts t) refl, h, q)

  taken_all : AllTaken (capacity_of t) (0 + length (reverse rs)) (reverse (reverse rs)) (take_in fresh_counts t 0 (reverse rs) (Ok tt))
  taken_all = take_in_all (capacity_of t) (capacity_within t) fresh_counts t [] (fresh_ready t) 0 (reverse rs) (taken_by_passing (capacity_of t) rs [] a tt)

  pub batch_all : Ready (capacity_of t) (batch_of fresh_counts t file).counts (batch_of fresh_counts t file).tables rs
  unfolding batch_of
  batch_all = rw batch_passed (subst (Ready (capacity_of t) _ _) (reverse-reverse rs) taken_all.ready)

  pub batch-refusal : (batch_of fresh_counts t file).answer.refusal ≡ 0
  unfolding batch_of
  batch-refusal = rw (batch_passed, taken_all.checked)

  pub batch-taken : (batch_of fresh_counts t file).answer.taken ≡ length (reverse rs)
  unfolding batch_of
  batch-taken = let q = taken_all.taken in rw batch_passed (omega arith)
