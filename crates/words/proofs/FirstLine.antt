-- The first line of a text: where it ends, and what follows.
use Prim.Native.Nat.{ℕ, suc, ◌+◌, ◌≤◌, ◌<◌}
use native.Mathlib.Omega.{arith}
use mathlib.Core.Path.{◌≡◌, refl, ap}
use mathlib.Core.Bool.{Bool, true, false, cond}
use mathlib.Core.List.{List, [], ◌∷◌}
use lib.ListN.{length, take, drop}
use lib.Dec.{eqb}
use Rattle.std.specs.Prelude.{None, Some}
use Rattle.std.specs.List.{position, position_or_len}
use Rattle.std.proofs.lemmas.List.Recursion.{is_position_or_len}
use Rattle.std.proofs.lemmas.Bool.Decides.{nat_tests}
use Rattle.words.specs.Names.{line_end, lines_in, first_line, past_line}

abbrev pub is_end : ℕ → Bool
is_end b = eqb b line_end

-- where the first line ends: at the first byte that is its end, or at the end of the text
line_length : (s : List ℕ) → length (first_line s) ≡ position_or_len is_end s
unfolding first_line
line_length = is_position_or_len (λ s. length (first_line s)) is_end refl (λ b s. go (eqb b line_end) b s)
  where
    go : (e : Bool) (b : ℕ) (s : List ℕ) → length (cond e [] (b ∷ first_line s)) ≡ cond e 0 (1 + length (first_line s))
    go true b s = refl
    go false b s = omega arith

pub end_at : (s : List ℕ) (k : ℕ) → Some k ≡ position is_end s → (k ≡ length (first_line s)) × (k < length s)
end_at s k e = grind (arith, line_length, nat_tests)

pub no_end_at : (s : List ℕ) → None ≡ position is_end s → length s ≤ length (first_line s)
no_end_at s e = grind (arith, line_length, nat_tests)

-- a text with a first line that ends, and one with none
pub ends : (s : List ℕ) → length (first_line s) < length s → lines_in s ≡ suc (lines_in (past_line s))
unfolding first_line lines_in past_line
ends [] l = absurd (omega arith)
ends (c ∷ s) l = go (eqb c line_end) (λ k. ends s k) l
  where
    go : (b : Bool) → (length (first_line s) < length s → lines_in s ≡ suc (lines_in (past_line s)))
        → length (cond b [] (c ∷ first_line s)) < suc (length s) → cond b (suc (lines_in s)) (lines_in s) ≡ suc (lines_in (cond b s (past_line s)))
    go true h k = refl
    go false h k = h (omega arith)

pub ends_past : (s : List ℕ) → length (first_line s) < length s → past_line s ≡ drop (suc (length (first_line s))) s
unfolding first_line past_line
ends_past [] l = absurd (omega arith)
ends_past (c ∷ s) l = go (eqb c line_end) (λ k. ends_past s k) l
  where
    go : (b : Bool) → (length (first_line s) < length s → past_line s ≡ drop (suc (length (first_line s))) s)
        → length (cond b [] (c ∷ first_line s)) < suc (length s) → cond b s (past_line s) ≡ drop (length (cond b [] (c ∷ first_line s))) s
    go true h k = refl
    go false h k = h (omega arith)

pub no_end : (s : List ℕ) → length s ≤ length (first_line s) → lines_in s ≡ 0
unfolding first_line lines_in
no_end [] l = refl
no_end (c ∷ s) l = go (eqb c line_end) (λ k. no_end s k) l
  where
    go : (b : Bool) → (length s ≤ length (first_line s) → lines_in s ≡ 0)
        → suc (length s) ≤ length (cond b [] (c ∷ first_line s)) → cond b (suc (lines_in s)) (lines_in s) ≡ 0
    go true h k = absurd (omega arith)
    go false h k = h (omega arith)

pub first_part : (s : List ℕ) → first_line s ≡ take (length (first_line s)) s
unfolding first_line
first_part [] = refl
first_part (c ∷ s) = go (eqb c line_end) (first_part s)
  where
    go : (b : Bool) → first_line s ≡ take (length (first_line s)) s → cond b [] (c ∷ first_line s) ≡ take (length (cond b [] (c ∷ first_line s))) (c ∷ s)
    go true h = refl
    go false h = ap (λ (z : List ℕ). c ∷ z) h
