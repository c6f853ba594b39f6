-- The digits of a number: those before the last one, and the last one.
use Prim.Native.Nat.{ℕ, zero, suc, ◌+◌, ◌/◌, ◌%◌, ◌^◌, ◌≤◌, ◌<◌}
use native.Mathlib.Nat.{mod-eq_of_lt}
use native.Mathlib.Omega.{arith}
use mathlib.Core.Path.{◌≡◌, refl, ◌∙◌, ap}
use mathlib.Core.Bool.{Bool, true, false, cond}
use mathlib.Core.List.{List, [], ◌∷◌, ◌++◌}
use lib.ListN.{length, length-append}
use lib.Dec.{ltb}
use borrow.Author.Tests.{lt-ltb, le-ltb}
use Rattle.rules.specs.Listing.{decimal_in, decimal}
use Rattle.words.proofs.Decimal.{Small}

-- more digits than the number has change nothing
more_digits : (n x : ℕ) → x < 10 ^ suc n → decimal_in n x ≡ decimal_in (suc n) x
unfolding decimal_in
more_digits zero x l = rw (lt-ltb x 10 (omega arith), mod-eq_of_lt {n = x} {m = 10} (omega arith))
more_digits (suc n) x l = go (ltb x 10) refl (λ k. more_digits n (x / 10) k)
  where
    go : (b : Bool) → ltb x 10 ≡ b → (x / 10 < 10 ^ suc n → decimal_in n (x / 10) ≡ decimal_in (suc n) (x / 10))
        → cond b ((48 + x) ∷ []) (decimal_in n (x / 10) ++ ((48 + x % 10) ∷ [])) ≡ cond b ((48 + x) ∷ []) (decimal_in (suc n) (x / 10) ++ ((48 + x % 10) ∷ []))
    go true e h = refl
    go false e h = ap (λ (ds : List ℕ). ds ++ ((48 + x % 10) ∷ [])) (h (omega arith))

first_digits : (n x : ℕ) → 10 ≤ x → decimal_in (suc n) x ≡ decimal_in n (x / 10) ++ ((48 + x % 10) ∷ [])
unfolding decimal_in
first_digits n x l = rw (le-ltb x 10 l)

pub decimal_high : (x : ℕ) → 10 ≤ x → Small x → decimal x ≡ decimal (x / 10) ++ ((48 + x % 10) ∷ [])
decimal_high x l k = first_digits 8 x l ∙ ap (λ (ds : List ℕ). ds ++ ((48 + x % 10) ∷ [])) (more_digits 8 (x / 10) (omega arith))

pub decimal_low : (x : ℕ) → x < 10 → decimal x ≡ (48 + x % 10) ∷ []
unfolding decimal_in
decimal_low x l = rw (lt-ltb x 10 l, mod-eq_of_lt {n = x} {m = 10} l)

-- a number has at most ten digits
digits_few : (n x : ℕ) → length (decimal_in n x) ≤ n + 1
unfolding decimal_in
digits_few zero x = omega arith
digits_few (suc n) x = go (ltb x 10) (digits_few n (x / 10))
  where
    go : (b : Bool) → length (decimal_in n (x / 10)) ≤ n + 1 → length (cond b ((48 + x) ∷ []) (decimal_in n (x / 10) ++ ((48 + x % 10) ∷ []))) ≤ suc n + 1
    go true h = omega arith
    go false h = rw (length-append (decimal_in n (x / 10)) ((48 + x % 10) ∷ [])) (omega arith)

pub length_few : (x : ℕ) → length (decimal x) ≤ 10
length_few x = digits_few 9 x
