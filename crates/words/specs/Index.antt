-- Where the lines of a text begin: what stands in a lent buffer once they were looked for.
use Rattle.std.specs.Prelude.{ℕ, zero, suc, ◌+◌, ◌≤◌, ◌<◌, min, ◌≡◌, List, length, get_or, drop}
use Rattle.words.specs.Names.{lines_in, first_line}

-- where line i begins: after the i lines before it, each with its end
unfoldable pub line_start : List ℕ → ℕ → ℕ
line_start text zero = 0
line_start text (suc i) = line_start text i + suc (length (first_line (drop (line_start text i) text)))

-- r of n lines were found, and it is known where each begins and where the last one ends
pub record Indexed (text : List ℕ) (n r : ℕ) (starts : List ℕ) : Type 0 where
  pub found : r ≡ min n (lines_in text)
  pub at : (i : ℕ) → i ≤ r → get_or starts i 0 ≡ line_start text i

-- line i is there, and it is known where it begins and ends
pub record HasLine (text starts : List ℕ) (i : ℕ) : Type 0 where
  pub line : i < lines_in text
  pub places : suc i < length starts
  pub start : get_or starts i 0 ≡ line_start text i
  pub next : get_or starts (suc i) 0 ≡ line_start text (suc i)
