-- A number in decimal tells the number, also at the front of a text that goes on with no digit.
use Prim.Native.Nat.{ℕ, zero, suc, ◌+◌, ◌-◌, ◌*◌, ◌/◌, ◌%◌, ◌^◌, ◌<◌}
use native.Mathlib.Omega.{arith}
use mathlib.Core.Path.{◌≡◌, refl, sym, ◌∙◌, ap}
use mathlib.Core.Bool.{Bool, true, false, ◌&&◌, cond}
use mathlib.Core.List.{List, [], ◌∷◌, ◌++◌}
use lib.Dec.{leb, ltb}
use borrow.Author.Tests.{ltb-true, le-leb, lt-ltb}
use Rattle.rules.specs.Listing.{decimal_in, decimal}
use Rattle.words.proofs.Split.{All, all-++, Told, split}

unfoldable pub is_digit : ℕ → Bool
is_digit c = leb 48 c && ltb c 58

digit_is : (x : ℕ) → x < 10 → is_digit (48 + x) ≡ true
unfolding is_digit
digit_is x l = rw (le-leb 48 (48 + x) (omega arith), lt-ltb (48 + x) 58 (omega arith))

last_digit : (x : ℕ) → x % 10 < 10
last_digit x = omega arith

pub digits : (n x : ℕ) → All is_digit (decimal_in n x)
unfolding decimal_in
digits zero x = (digit_is (x % 10) (last_digit x), tt)
digits (suc n) x = go (ltb x 10) refl (digits n (x / 10))
  where
    go : (b : Bool) → ltb x 10 ≡ b → All is_digit (decimal_in n (x / 10))
        → All is_digit (cond b ((48 + x) ∷ []) (decimal_in n (x / 10) ++ ((48 + x % 10) ∷ [])))
    go true e h = (digit_is x (ltb-true x 10 e), tt)
    go false e h = all-++ is_digit (decimal_in n (x / 10)) _ h (digit_is (x % 10) (last_digit x), tt)

-- the number read back, after digits of the value v
value_from : ℕ → List ℕ → ℕ
value_from v [] = v
value_from v (d ∷ ds) = value_from (v * 10 + (d - 48)) ds

value_from-++ : (v : ℕ) (a b : List ℕ) → value_from v (a ++ b) ≡ value_from (value_from v a) b
unfolding value_from
value_from-++ v [] b = refl
value_from-++ v (d ∷ a) b = value_from-++ (v * 10 + (d - 48)) a b

value_is : (n x : ℕ) → x < 10 ^ suc n → value_from 0 (decimal_in n x) ≡ x
unfolding decimal_in value_from
value_is zero x l = omega arith
value_is (suc n) x l = go (ltb x 10) refl (λ k. value_is n (x / 10) k)
  where
    go : (b : Bool) → ltb x 10 ≡ b → (x / 10 < 10 ^ suc n → value_from 0 (decimal_in n (x / 10)) ≡ x / 10)
        → value_from 0 (cond b ((48 + x) ∷ []) (decimal_in n (x / 10) ++ ((48 + x % 10) ∷ []))) ≡ x
    go true e h = omega arith
    go false e h =
        let i : value_from 0 (decimal_in n (x / 10)) ≡ x / 10 = h (omega arith) in
        value_from-++ 0 (decimal_in n (x / 10)) ((48 + x % 10) ∷ []) ∙ rw i (omega arith)

-- the numbers that `decimal` writes whole
abbrev pub Small : ℕ → Type 0
Small x = x < 10000000000

decimal_tells : (x y : ℕ) → Small x → Small y → decimal x ≡ decimal y → x ≡ y
decimal_tells x y l k e = sym (value_is 9 x l) ∙ (ap (value_from 0) e ∙ value_is 9 y k)

pub decimal_split : {c d : ℕ} {r s : List ℕ} → is_digit c ≡ false → is_digit d ≡ false → (x y : ℕ) → Small x → Small y
    → decimal x ++ (c ∷ r) ≡ decimal y ++ (d ∷ s) → Told x y (c ∷ r) (d ∷ s)
decimal_split p q x y l k e =
    let t = split is_digit p q (decimal x) (decimal y) (digits 9 x) (digits 9 y) e in
    record { same = decimal_tells x y l k t.same; rest = t.rest }
