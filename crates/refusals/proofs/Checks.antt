-- What a list of checks gives, from the facts of its conditions: `search checks depth 14` proves a result that was reached through
-- early returns, `search picks depth 14` one that a choice on tests defines. Where a test compares with a number that a call returned
-- on its right, or on both sides, `search (checks, by_right, by_both) depth 14 fits 10000`. Then what a list that passes says.
use Rattle.std.specs.Prelude.{Ok, Err}
use Prim.Native.Nat.{ℕ, ◌≤◌, ◌<◌}
use mathlib.Core.Path.{◌≡◌, refl}
use mathlib.Core.Bool.{Bool, true, false, not, cond}
use mathlib.Core.List.{List, [], ◌∷◌}
use native.Mathlib.Omega.{arith}
use lib.Dec.{leb, ltb, eqb}
use borrow.Author.Tests.{lt-ltb, le-ltb, le-leb, lt-leb, eq-eqb, ne_eqb}
use Rattle.refusals.specs.declared.Refusal.{Refusal}
use Rattle.refusals.specs.Refusals.{Checked}
use Rattle.refusals.specs.Refusals.{Check, check, first_of}

module _ (x : Checked) (b : Bool) (r : Refusal) (cs : List Check) where
  pub first_here : b ≡ true → x ≡ Err r → x ≡ first_of (check b r ∷ cs)
  unfolding first_of
  first_here e p = rw e p

  pub first_next : b ≡ false → x ≡ first_of cs → x ≡ first_of (check b r ∷ cs)
  unfolding first_of
  first_next e p = rw e p

pub first_none : Ok tt ≡ first_of []
unfolding first_of
first_none = refl

pub not_true_of : (b : Bool) → b ≡ false → not b ≡ true
not_true_of b e = rw e

pub not_false_of : (b : Bool) → b ≡ true → not b ≡ false
not_false_of b e = rw e

-- a test on a number r that a call returned, which is a by what the call ensures; on the right, s for b; on both sides
module _ (a b r : ℕ) (p : r ≡ a) where
  pub lt_true_by : r < b → ltb a b ≡ true
  lt_true_by h = lt-ltb a b (omega arith)

  pub lt_false_by : b ≤ r → ltb a b ≡ false
  lt_false_by h = le-ltb a b (omega arith)

  pub le_true_by : r ≤ b → leb a b ≡ true
  le_true_by h = le-leb a b (omega arith)

  pub le_false_by : b < r → leb a b ≡ false
  le_false_by h = lt-leb a b (omega arith)

  pub eq_true_by : r ≡ b → eqb a b ≡ true
  eq_true_by h = eq-eqb a b (omega arith)

  pub eq_false_by : (r ≡ b → ⊥) → eqb a b ≡ false
  eq_false_by h = ne_eqb a b (λ e. h (omega arith))

module _ (a b s : ℕ) (q : s ≡ b) where
  pub lt_true_by_right : a < s → ltb a b ≡ true
  lt_true_by_right h = lt-ltb a b (omega arith)

  pub lt_false_by_right : s ≤ a → ltb a b ≡ false
  lt_false_by_right h = le-ltb a b (omega arith)

  pub le_true_by_right : a ≤ s → leb a b ≡ true
  le_true_by_right h = le-leb a b (omega arith)

  pub le_false_by_right : s < a → leb a b ≡ false
  le_false_by_right h = lt-leb a b (omega arith)

  pub eq_true_by_right : a ≡ s → eqb a b ≡ true
  eq_true_by_right h = eq-eqb a b (omega arith)

  pub eq_false_by_right : (a ≡ s → ⊥) → eqb a b ≡ false
  eq_false_by_right h = ne_eqb a b (λ e. h (omega arith))

module _ (a b r s : ℕ) (p : r ≡ a) (q : s ≡ b) where
  pub lt_true_by_both : r < s → ltb a b ≡ true
  lt_true_by_both h = lt-ltb a b (omega arith)

  pub lt_false_by_both : s ≤ r → ltb a b ≡ false
  lt_false_by_both h = le-ltb a b (omega arith)

  pub le_true_by_both : r ≤ s → leb a b ≡ true
  le_true_by_both h = le-leb a b (omega arith)

  pub le_false_by_both : s < r → leb a b ≡ false
  le_false_by_both h = lt-leb a b (omega arith)

  pub eq_true_by_both : r ≡ s → eqb a b ≡ true
  eq_true_by_both h = eq-eqb a b (omega arith)

  pub eq_false_by_both : (r ≡ s → ⊥) → eqb a b ≡ false
  eq_false_by_both h = ne_eqb a b (λ e. h (omega arith))

-- a choice on a test
module _ {A : Type 0} (x y z : A) (b : Bool) where
  pub pick_true : b ≡ true → x ≡ y → x ≡ cond b y z
  pick_true e p = rw e p

  pub pick_false : b ≡ false → x ≡ z → x ≡ cond b y z
  pick_false e p = rw e p

pub ruleset plain = (lt-ltb, le-ltb, le-leb, lt-leb, eq-eqb, ne_eqb, not_true_of, not_false_of)

pub ruleset tests = (plain, lt_true_by, lt_false_by, le_true_by, le_false_by, eq_true_by, eq_false_by)

pub ruleset by_right = (lt_true_by_right, lt_false_by_right, le_true_by_right, le_false_by_right, eq_true_by_right, eq_false_by_right)

pub ruleset by_both = (lt_true_by_both, lt_false_by_both, le_true_by_both, le_false_by_both, eq_true_by_both, eq_false_by_both)

pub ruleset checks = (first_here, first_next, first_none, tests)

pub ruleset picks = (pick_true, pick_false, tests)

-- every condition of the list is false
abbrev pub AllFalse : List Check → Type 0
AllFalse [] = Unit
AllFalse (check b r ∷ cs) = (b ≡ false) × AllFalse cs

pub passed_all_false : (cs : List Check) → first_of cs ≡ Ok tt → AllFalse cs
unfolding first_of
passed_all_false [] e = tt
passed_all_false (check true r ∷ cs) e = absurd (let z : ◌≡◌ {A = ℕ} 0 1 = cc in omega arith)
passed_all_false (check false r ∷ cs) e = (refl, passed_all_false cs e)

pub all_false_passed : (cs : List Check) → AllFalse cs → first_of cs ≡ Ok tt
unfolding first_of
all_false_passed [] h = refl
all_false_passed (check b r ∷ cs) h = rw h.0 (all_false_passed cs h.1)
