-- The test of an edge by the codes of the entities at its ends is that of document 01.
use Prim.Native.Nat.{ℕ, zero, suc, ◌+◌, ◌*◌, ◌/◌, ◌%◌, ◌^◌, ◌≤◌, ◌<◌}
use native.Mathlib.Omega.{arith}
use mathlib.Core.Path.{◌≡◌, refl, sym, ◌∙◌, ap}
use mathlib.Core.Bool.{Bool, true, false, ◌&&◌, beq, and_assoc, and-true}
use mathlib.Core.List.{List, [], ◌∷◌}
use lib.Dec.{eqb}
use lib.ListN.{get_or}
use borrow.Author.Tests.{ltb-true, leb-true, eqb-false, not-true, lt-ltb, le-leb, ne_eqb}
use Rattle.refusals.proofs.Checks.{not_true_of}
use Rattle.record.specs.Layout.{most_kind}
use Rattle.rules.specs.Trail.{Trail, owner_of}
use Rattle.rules.specs.KeptLog.{declared_sort}
use Rattle.rules.specs.Sound.{every, all_below, source_fits, target_fits, may_follow, time_before, edge_test}
use Rattle.soundness.specs.Facts.{EdgeFacts}
use Rattle.soundness.specs.Parts.{code_of, Owners, sorts_fit, sound_codes, least_time, coded_edge, coded_test}
use Rattle.soundness.proofs.All.{every_at, all_at, done, ◌also◌, hold_every}
use Rattle.soundness.proofs.Sorts.{declared_low, declared_subject, source_same, target_same}
use Rattle.soundness.proofs.Facts.{edge_facts, edge-after}
use Rattle.soundness.proofs.Passes.{edge-passes}
use Rattle.soundness.proofs.Edges.{time_before_zero, time_before_suc, least_time_zero, least_time_suc}

-- two tests that hold together are equal
same_tests : (a b : Bool) → (a ≡ true → b ≡ true) → (b ≡ true → a ≡ true) → a ≡ b
same_tests true b f g = sym (f refl)
same_tests false true f g = g refl
same_tests false false f g = refl

equal_tests : (a b : Bool) → beq a b ≡ true → a ≡ b
equal_tests true true h = refl
equal_tests true false h = sym h
equal_tests false true h = h
equal_tests false false h = refl

-- two tests, and two that are the same if those before them hold
and_same : (a b p q : Bool) → a ≡ b → (b ≡ true → p ≡ q) → (a && p) ≡ (b && q)
and_same a true p q e f = rw e (f refl)
and_same a false p q e f = rw e refl

-- bit 4 * kind + 2 * s + t of the number bits
abbrev pub bit_at : ℕ → ℕ → ℕ → ℕ → Bool
bit_at bits kind s t = eqb (bits / 2 ^ (4 * kind + 2 * s + t) % 2) 1

-- the bits are right for each kind and each two sorts, by one test to compute
unfoldable pub bits_fit : ℕ → Bool
bits_fit bits = all_below (λ (k : ℕ). all_below (λ (x : ℕ). all_below (λ (y : ℕ). beq (bit_at bits k x y) (sorts_fit k x y)) 2) 2) 6

pub bits_fit_lem : (bits : ℕ) → bits_fit bits ≡ true → (kind s t : ℕ) → kind ≤ most_kind → s < 2 → t < 2 → bit_at bits kind s t ≡ sorts_fit kind s t
unfolding bits_fit
bits_fit_lem bits h kind s t l m n = equal_tests _ _ (all_at _ 2 (all_at _ 2 (all_at _ 6 h kind (omega arith)) s m) t n)

-- six tests made at once, of which a call returned the first as x
pub every_six : (a b c d e f x : Bool) → x ≡ a → (((((x && b) && c) && d) && e) && f) ≡ every (a ∷ b ∷ c ∷ d ∷ e ∷ f ∷ [])
unfolding every
every_six a b c d e f x q = simp (q, and_assoc, and-true)

-- the codes of the versions' entities
module _ (T : Trail) (owners : List ℕ) (o : Owners T T.counts.versions owners) where
  abbrev code : ℕ → ℕ
  code v = get_or owners v 0

  abbrev sort : ℕ → ℕ
  sort v = (T.entity (owner_of T v)).sort

  bit_of : (v : ℕ) → v < T.counts.versions → code v % 2 ≡ declared_sort (sort v)
  bit_of v l = let q = o v l in let s = declared_low (sort v) in omega arith

  -- the code tells what a kind asks for

  source_of : (kind v : ℕ) → v < T.counts.versions → source_fits kind (code v % 2) ≡ source_fits kind (sort v)
  source_of kind v l = ap (source_fits kind) (bit_of v l) ∙ source_same kind (sort v) (declared_sort (sort v)) (declared_subject (sort v))

  target_of : (kind v : ℕ) → v < T.counts.versions → target_fits kind (code v % 2) ≡ target_fits kind (sort v)
  target_of kind v l = ap (target_fits kind) (bit_of v l) ∙ target_same kind (sort v) (declared_sort (sort v)) (declared_subject (sort v))

  owner_of_lem : (v w : ℕ) → v < T.counts.versions → w < T.counts.versions → code v ≡ code w → owner_of T v ≡ owner_of T w
  owner_of_lem v w l m e = let p = o v l in let q = o w m in let s = declared_low (sort v) in let t = declared_low (sort w) in omega arith

  module _ (k : ℕ) where
    abbrev from : ℕ
    from = (T.edge k).from.0

    abbrev to : ℕ
    to = (T.edge k).to.0

    -- if the least time is 1 or more
    coded_facts : 1 ≤ least_time T.edge k → coded_test T.counts owners T.edge k ≡ true → (EdgeFacts T k) × (least_time T.edge k ≤ (T.edge k).time)
    unfolding coded_test coded_edge sound_codes sorts_fit may_follow
    coded_facts low h =
        let q = every_at _ h in
        let l : from < T.counts.versions = ltb-true _ _ (q 0) in
        let m : to < T.counts.versions = ltb-true _ _ (q 1) in
        let r = every_at _ (q 3) in
        let s = every_at _ (r 0) in
        let after : least_time T.edge k ≤ (T.edge k).time = leb-true _ _ (r 2) in (
          record {
            from_in = l;
            to_in = m;
            apart = λ e. eqb-false _ _ (not-true _ (r 1)) (o from l ∙ ap (code_of T.entity) e ∙ sym (o to m));
            kind_low = leb-true _ _ (s 0);
            kind_high = leb-true _ _ (q 2);
            source_fits_lem = sym (source_of (T.edge k).kind from l) ∙ s 1;
            target_fits_lem = sym (target_of (T.edge k).kind to m) ∙ s 2;
            time_low = omega arith;
            time_last = let a = leb-true (T.edge k).time _ (r 4) in let b = leb-true (T.edge k).last _ (r 5) in omega arith;
            count_low = leb-true _ _ (r 3);
            last_low = leb-true _ _ (r 4);
            last_high = leb-true _ _ (r 5);
          },
          after,
        )

    facts_coded : EdgeFacts T k → least_time T.edge k ≤ (T.edge k).time → coded_test T.counts owners T.edge k ≡ true
    unfolding coded_test coded_edge sound_codes sorts_fit may_follow
    facts_coded h after =
        let l = h.from_in in
        let m = h.to_in in
        hold_every
        (lt-ltb _ _ l
        also lt-ltb _ _ m
        also le-leb _ _ h.kind_high
        also hold_every
        (hold_every (le-leb _ _ h.kind_low also (source_of (T.edge k).kind from l ∙ h.source_fits_lem) also (target_of (T.edge k).kind to m ∙ h.target_fits_lem) also done)
        also not_true_of _ (ne_eqb _ _ (λ e. h.apart (owner_of_lem from to l m e)))
        also le-leb _ _ after
        also le-leb _ _ h.count_low
        also le-leb _ _ h.last_low
        also le-leb _ _ h.last_high
        also done)
        also done)

  -- the least time of an edge is the time before it, or 1 for the first

  before_least : (k : ℕ) → time_before T.edge k ≤ least_time T.edge k
  before_least zero = omega (arith, time_before_zero T.edge)
  before_least (suc k) = omega (arith, time_before_suc T.edge k, least_time_suc T.edge k)

  least_before : (k : ℕ) → 1 ≤ (T.edge k).time → time_before T.edge k ≤ (T.edge k).time → least_time T.edge k ≤ (T.edge k).time
  least_before zero l h = omega (arith, least_time_zero T.edge)
  least_before (suc k) l h = omega (arith, time_before_suc T.edge k, least_time_suc T.edge k)

  least_low : (k : ℕ) → all_below (edge_test T) k ≡ true → 1 ≤ least_time T.edge k
  least_low zero h = omega (arith, least_time_zero T.edge)
  least_low (suc k) h = omega (arith, (edge_facts T k (all_at _ _ h k (omega arith))).time_low, least_time_suc T.edge k)

  coded_next : (k : ℕ) → all_below (edge_test T) k ≡ true → coded_test T.counts owners T.edge k ≡ edge_test T k
  coded_next k h =
      same_tests _ _ (λ a. let q = coded_facts k (least_low k h) a in edge-passes T k q.0 (omega (arith, q.1, before_least k)))
      (λ a. let f = edge_facts T k a in facts_coded k f (least_before k f.time_low (edge-after T k a)))

  pub coded_is : (n : ℕ) → all_below (coded_test T.counts owners T.edge) n ≡ all_below (edge_test T) n
  unfolding all_below
  coded_is zero = refl
  coded_is (suc k) = and_same _ _ _ _ (coded_is k) (coded_next k)
