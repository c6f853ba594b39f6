-- `every` and `all_below`: what tests that all hold say, and the loop that makes one test after another.
use Prim.Native.Nat.{ℕ, zero, suc, ◌+◌, ◌≤◌, ◌<◌}
use native.Mathlib.Nat.{not-suc-le-zero, le_of_suc-le-suc, eq-or-lt_of_le}
use native.Mathlib.Numerals.{add-one}
use native.Mathlib.Omega.{arith}
use mathlib.Core.Path.{◌≡◌, refl, sym, ◌∙◌, subst}
use mathlib.Core.Logic.{⊎_elim}
use mathlib.Core.Bool.{Bool, true, false}
use mathlib.Core.List.{List, [], ◌∷◌}
pub use Rattle.std.proofs.lemmas.Bool.{and_parts}
use Rattle.std.proofs.lemmas.Bool.{and_from}
use Rattle.std.specs.Bool.{MatchBool}
use Rattle.std.specs.List.{range_with_len, AllWithin, HoldsAt}
use Rattle.std.proofs.lemmas.List.FromFn.{length-range_with_len, get_or-range_with_len}
use lib.ListN.{length}
use native.Mathlib.Nat.{zero-add}
use Rattle.rules.specs.Sound.{every, all_below}

-- test i of them, true past the end
abbrev test_at : List Bool → ℕ → Bool
test_at [] i = true
test_at (b ∷ bs) zero = b
test_at (b ∷ bs) (suc i) = test_at bs i

pub every_at : (bs : List Bool) → every bs ≡ true → (i : ℕ) → test_at bs i ≡ true
unfolding every
every_at [] h i = refl
every_at (b ∷ bs) h zero = (and_parts b (every bs) h).0
every_at (b ∷ bs) h (suc i) = every_at bs (and_parts b (every bs) h).1 i

-- each of the tests holds
infixr 60 ◌also◌
pub data Hold : List Bool → Type 0 where
  done : Hold []
  ◌also◌ : {b : Bool} {bs : List Bool} → b ≡ true → Hold bs → Hold (b ∷ bs)

pub hold_every : {bs : List Bool} → Hold bs → every bs ≡ true
unfolding every
hold_every done = refl
hold_every (e also h) = and_from _ _ e (hold_every h)

-- what holds of n, and of each number below it
pub below_next : (n : ℕ) (P : ℕ → Type 0) → P n → ((k : ℕ) → k < n → P k) → (k : ℕ) → k < n + 1 → P k
below_next n P p q k l = let h : k ≤ n = omega arith in ⊎_elim (λ e. subst P (sym e) p) (λ i. q k i) (eq-or-lt_of_le h)

module _ (p : ℕ → Bool) where
  pub all_at : (n : ℕ) → all_below p n ≡ true → (k : ℕ) → k < n → p k ≡ true
  unfolding all_below
  all_at zero h k l = absurd (not-suc-le-zero l)
  all_at (suc n) h k l =
      let q = and_parts (all_below p n) (p n) h in
      ⊎_elim (λ e. subst (λ (j : ℕ). p j ≡ true) (sym e) q.1) (λ l'. all_at n q.0 k l') (eq-or-lt_of_le (le_of_suc-le-suc l))

  pub at_all : (n : ℕ) → ((k : ℕ) → k < n → p k ≡ true) → all_below p n ≡ true
  unfolding all_below
  at_all zero h = refl
  at_all (suc n) h = and_from (all_below p n) (p n) (at_all n (λ k l. h k (omega arith))) (h n (omega arith))

  false_at : (n k : ℕ) → k < n → p k ≡ false → (b : Bool) → all_below p n ≡ b → b ≡ false
  false_at n k l e true h = absurd (let z : p k ≡ true = all_at n h k l in let y : ◌≡◌ {A = ℕ} 0 1 = cc in omega arith)
  false_at n k l e false h = refl

  -- the loop stands at k, where the test gave r

  pub all_none : all_below p 0 ≡ true
  unfolding all_below
  all_none = refl

  pub all_stop : (n k : ℕ) (r : Bool) → k < n → r ≡ p k → r ≡ false → false ≡ all_below p n
  all_stop n k r l q e = sym (false_at n k l (sym q ∙ e) (all_below p n) refl)

  pub all_next : (k : ℕ) (r : Bool) → all_below p k ≡ true → r ≡ p k → r ≡ true → all_below p (k + 1) ≡ true
  unfolding all_below
  all_next k r h q e = rw (add-one k, h) (sym q ∙ e)

-- what `all` over a range answers
pub range_all : (p : ℕ → Bool) (n : ℕ) (r : Bool)
    → MatchBool r (AllWithin (λ k. p k ≡ true) (range_with_len 0 n) 0 (length (range_with_len 0 n)))
    ((k : ℕ) × (k < length (range_with_len 0 n)) × HoldsAt (λ k. p k ≡ false) (range_with_len 0 n) k)
    → r ≡ all_below p n
range_all p n true h =
    let l = length-range_with_len 0 n in
    sym (at_all p n (λ k i. rw (get_or-range_with_len 0 n k 0 i, zero-add) at (h k 0 (omega arith) (omega arith))))
range_all p n false (k, i, h) =
    let l = length-range_with_len 0 n in
    let j : k < n = omega arith in
    all_stop p n k false j (sym (rw (get_or-range_with_len 0 n k 0 j, zero-add) at (h 0))) refl
