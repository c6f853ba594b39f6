-- The loop over the edges, which keeps the least time of the next one and the sum of the counts.
use Prim.Native.Nat.{ℕ, suc, ◌+◌, ◌-◌, ◌<◌}
use native.Mathlib.Numerals.{add-one}
use native.Mathlib.Omega.{arith}
use mathlib.Core.Path.{◌≡◌, refl, sym, ◌∙◌, ap}
use mathlib.Core.Bool.{Bool, true, false, ◌&&◌}
use mathlib.Core.List.{List}
use lib.Dec.{eqb}
use borrow.Author.Tests.{ne_eqb}
use Rattle.rows.specs.declared.Counts.{Counts}
use Rattle.rows.specs.declared.EdgeRow.{EdgeRow}
use Rattle.rows.specs.Rows.{edge_at}
use Rattle.rules.specs.Sound.{all_below, time_before, count_sum, sum_below}
use Rattle.soundness.specs.Parts.{least_time, coded_edge, coded_test}
use Rattle.soundness.proofs.All.{all_none, all_stop, all_next}
use Rattle.soundness.proofs.Sums.{sum_zero}
use Rattle.soundness.proofs.Tests.{and_false}

pub time_before_zero : (E : ℕ → EdgeRow) → 0 ≡ time_before E 0
unfolding time_before
time_before_zero E = refl

pub time_before_suc : (E : ℕ → EdgeRow) (k : ℕ) → time_before E (suc k) ≡ (E k).time
unfolding time_before
time_before_suc E k =
    let z : eqb (suc k) 0 ≡ false = ne_eqb (suc k) 0 (λ e. omega arith) in
    let m : suc k - 1 ≡ k = omega arith in
    rw (z, m)

pub least_time_zero : (E : ℕ → EdgeRow) → 1 ≡ least_time E 0
unfolding least_time
least_time_zero E = refl

pub least_time_suc : (E : ℕ → EdgeRow) (k : ℕ) → least_time E (suc k) ≡ (E k).time
unfolding least_time
least_time_suc E k =
    let z : eqb (suc k) 0 ≡ false = ne_eqb (suc k) 0 (λ e. omega arith) in
    let m : suc k - 1 ≡ k = omega arith in
    rw (z, m)

-- edge k has row e and the least time b, and the test gave r
module _ (c : Counts) (owners ds : List ℕ) (k : ℕ) (e : EdgeRow) (q : e ≡ edge_at ds k) where
  pub time_next : e.time ≡ least_time (edge_at ds) (k + 1)
  time_next = ap (λ (x : EdgeRow). x.time) q ∙ sym (rw (add-one k) (least_time_suc (edge_at ds) k))

  module _ (b : ℕ) (p : b ≡ least_time (edge_at ds) k) (r : Bool) (g : r ≡ coded_edge c owners b e) where
    test_is : r ≡ coded_test c owners (edge_at ds) k
    unfolding coded_test
    test_is = g ∙ rw (p, q)

    pub edges_stop : (n : ℕ) (x : Bool) → k < n → r ≡ false → false ≡ (all_below (coded_test c owners (edge_at ds)) n && x)
    edges_stop n x l f = and_false _ _ (all_stop _ n k r l test_is f)

    pub edges_next : all_below (coded_test c owners (edge_at ds)) k ≡ true → r ≡ true → all_below (coded_test c owners (edge_at ds)) (k + 1) ≡ true
    edges_next a f = all_next _ k r a test_is f

-- The sum of the counts

pub sum_read : (ds : List ℕ) (k : ℕ) (e : EdgeRow) → e ≡ edge_at ds k → (s : ℕ) → s ≡ count_sum (edge_at ds) k → s + e.count ≡ count_sum (edge_at ds) (k + 1)
unfolding sum_below
sum_read ds k e q s p = rw (add-one k, p, q)

pub ruleset edge_loop = (all_none, least_time_zero, time_next, edges_stop, edges_next, sum_read, sum_zero)
