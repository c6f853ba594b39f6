-- Document 02, 2.6: "Names come from a lent text, line i naming entity i, each ended by byte hex 0A".
use Rattle.std.specs.Prelude.{ℕ, zero, suc, ◌<◌, ◌≡◌, cond, List, [], ◌∷◌, eqb, ltb}

abbrev pub line_end : ℕ
line_end = 0x0A

-- how many lines a text has: bytes after the last end are no line
unfoldable pub lines_in : List ℕ → ℕ
lines_in [] = 0
lines_in (c ∷ cs) = cond (eqb c line_end) (suc (lines_in cs)) (lines_in cs)

-- up to the first end, and past it
unfoldable pub first_line : List ℕ → List ℕ
first_line [] = []
first_line (c ∷ cs) = cond (eqb c line_end) [] (c ∷ first_line cs)

unfoldable pub past_line : List ℕ → List ℕ
past_line [] = []
past_line (c ∷ cs) = cond (eqb c line_end) cs (past_line cs)

unfoldable pub past_lines : ℕ → List ℕ → List ℕ
past_lines zero s = s
past_lines (suc n) s = past_lines n (past_line s)

-- the name of entity i: line i without its end; of an entity without a line, nothing
unfoldable pub name_in : List ℕ → ℕ → List ℕ
name_in text i = cond (ltb i (lines_in text)) (first_line (past_lines i text)) []

-- "names, all different": those of the first n entities
abbrev pub AllDifferent : (ℕ → List ℕ) → ℕ → Type 0
AllDifferent N n = (i j : ℕ) → i < n → j < n → N i ≡ N j → i ≡ j
