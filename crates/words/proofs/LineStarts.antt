-- Where the lines of a text begin, as they are found one after another.
use Prim.Native.Nat.{ℕ, zero, suc, ◌+◌, ◌-◌, ◌≤◌, ◌<◌}
use native.Mathlib.Decide.{dec_lt}
use native.Mathlib.Omega.{arith}
use native.Mathlib.Numerals.{add-one}
use mathlib.Core.Path.{◌≡◌, refl, sym, ◌∙◌, ap, subst}
use mathlib.Core.List.{List}
use lib.ListN.{length, take, drop, get_or, set, length-drop}
use lib.Seq.{take-length, drop-drop, get_or-set_same, get_or-set_other}
use borrow.Author.Tests.{lt-ltb}
use Rattle.words.specs.Names.{lines_in, first_line, past_line, past_lines, name_in}
use Rattle.words.specs.Index.{line_start, Indexed, HasLine}
use Rattle.words.proofs.FirstLine.{is_end, end_at, no_end_at, ends, ends_past, no_end, first_part}
use Rattle.std.specs.Prelude.{None, Some}
use Rattle.std.specs.List.{position}

past_suc : (i : ℕ) (s : List ℕ) → past_lines (suc i) s ≡ past_line (past_lines i s)
unfolding past_lines
past_suc zero s = refl
past_suc (suc i) s = past_suc i (past_line s)

-- line i begins at a place, or the text ends there
pub record Begins (text : List ℕ) (i at : ℕ) : Type 0 where
  pub is : at ≡ line_start text i
  pub within : at ≤ length text
  pub rest : drop at text ≡ past_lines i text
  pub lines : lines_in text ≡ i + lines_in (drop at text)

begins_first : (text : List ℕ) → Begins text 0 0
unfolding line_start past_lines
begins_first text = record { is = refl; within = omega arith; rest = refl; lines = omega arith }

-- the line that begins there ends at `end`
module _ (text : List ℕ) (i at : ℕ) (b : Begins text i at) (end : ℕ) (e : end ≡ at + length (first_line (drop at text))) where
  ends_here : end < length text → length (first_line (drop at text)) < length (drop at text)
  ends_here l = rw (length-drop at text) (omega arith)

  begins_next : end < length text → Begins text (suc i) (end + 1)
  unfolding line_start
  begins_next l =
      let d : at + suc (length (first_line (drop at text))) ≡ end + 1 = omega arith in
      let p : drop (end + 1) text ≡ past_line (drop at text) =
      ap (λ (k : ℕ). drop k text) (sym d) ∙ (sym (drop-drop (suc (length (first_line (drop at text)))) at text) ∙ sym (ends_past (drop at text) (ends_here l))) in
      record {
        is = sym d ∙ ap (λ (k : ℕ). k + suc (length (first_line (drop k text)))) b.is;
        within = omega arith;
        rest = p ∙ (ap past_line b.rest ∙ sym (past_suc i text));
        lines = let q = ends (drop at text) (ends_here l) in let r = ap lines_in p in let m = b.lines in omega arith;
      }

  begins_last : length text ≤ end → lines_in text ≡ i
  begins_last l =
      let z : lines_in (drop at text) ≡ 0 = no_end (drop at text) (rw (length-drop at text) (omega arith)) in
      let m = b.lines in omega arith

pub begins : (text : List ℕ) (i : ℕ) → i ≤ lines_in text → Begins text i (line_start text i)
unfolding line_start
begins text zero l = begins_first text
begins text (suc i) l = go (begins text i (omega arith)) (dec_lt _ _)
  where
    go : Begins text i (line_start text i) → Dec (line_start text i + length (first_line (drop (line_start text i) text)) < length text)
        → Begins text (suc i) (line_start text i + suc (length (first_line (drop (line_start text i) text))))
    go b (yes k) =
        let d : line_start text i + length (first_line (drop (line_start text i) text)) + 1 ≡ line_start text i + suc (length (first_line (drop (line_start text i) text))) = omega arith in
        subst (λ (k : ℕ). Begins text (suc i) k) d (begins_next text i (line_start text i) b _ refl k)
    go b (no k) = absurd (let e = begins_last text i (line_start text i) b _ refl (omega arith) in let z : ⊥ = omega arith in z)

-- the part of the text that is line i
module _ (text starts : List ℕ) (i : ℕ) (h : HasLine text starts i) where
  here : Begins text i (line_start text i)
  here = begins text i (let l = h.line in omega arith)

  next_is : line_start text (suc i) ≡ line_start text i + suc (length (first_line (drop (line_start text i) text)))
  unfolding line_start
  next_is = refl

  name_is : name_in text i ≡ first_line (drop (line_start text i) text)
  unfolding name_in
  name_is = rw (lt-ltb i (lines_in text) h.line) (sym (ap first_line here.rest))

  module _ (next : ℕ) (q : next ≡ get_or starts (i + 1) 0) where
    end_is : next ≡ line_start text i + suc (length (first_line (drop (line_start text i) text)))
    end_is = q ∙ rw (add-one i) (h.next ∙ next_is)

    pub part_some : 1 ≤ next
    part_some = let e = end_is in omega arith

    pub part_end : next - 1 ≤ length text
    part_end =
        let e = end_is in
        let b = (begins text (suc i) (let l = h.line in omega arith)).within in let n = next_is in omega arith

    module _ (start : ℕ) (p : start ≡ get_or starts i 0) where
      start_is : start ≡ line_start text i
      start_is = p ∙ h.start

      pub part_start : start ≤ next - 1
      part_start = let e = end_is in let s = start_is in omega arith

      pub part_is : take (next - 1 - start) (drop start text) ≡ name_in text i
      part_is =
          let s = start_is in let e = end_is in
          let d : next - 1 - start ≡ length (first_line (drop (line_start text i) text)) = omega arith in
          rw (d, s) (sym (name_is ∙ first_part (drop (line_start text i) text)))

-- looking for n lines: it is known where those before `found` begin, and line `found` begins at `at`
pub record Indexing (text : List ℕ) (found at : ℕ) (starts : List ℕ) : Type 0 where
  pub begun : Begins text found at
  pub known : (i : ℕ) → i < found → get_or starts i 0 ≡ line_start text i

pub indexing_begins : (text starts : List ℕ) → Indexing text 0 0 starts
indexing_begins text starts = record { begun = begins_first text; known = λ i l. absurd (let z : ⊥ = omega arith in z) }

module _ (text starts : List ℕ) (n found at : ℕ) (h : Indexing text found at starts) (k : found ≤ n) (m : n < length starts) where
  known_more : (i : ℕ) → i ≤ found → get_or (set starts found at) i 0 ≡ line_start text i
  known_more i l = go (dec_lt i found)
    where
      go : Dec (i < found) → get_or (set starts found at) i 0 ≡ line_start text i
      go (yes j) = get_or-set_other starts found i at 0 (λ (z : i ≡ found). let y : i ≡ found = z in omega arith) ∙ h.known i j
      go (no j) = let z : i ≡ found = omega arith in rw z (get_or-set_same starts found at 0 (omega arith) ∙ h.begun.is)

  pub indexed_all : n ≤ found → Indexed text n found (set starts found at)
  indexed_all l = record { found = let z = h.begun.lines in omega arith; at = known_more }

  rest_is : take (length text - at) (drop at text) ≡ drop at text
  rest_is = rw (← length-drop at text) (take-length (drop at text))

  -- the line that begins at `at` has no end, or its end is found after `len` bytes
  module _ (l : found < n) where
    pub indexed_short : None ≡ position is_end (take (length text - at) (drop at text)) → Indexed text n found (set starts found at)
    indexed_short e =
        let j = no_end_at (drop at text) (rw rest_is at e) in let d = length-drop at text in
        record { found = let z = begins_last text found at h.begun _ refl (omega arith) in omega arith; at = known_more }

    module _ (len : ℕ) (e : Some len ≡ position is_end (take (length text - at) (drop at text))) where
      pub indexing_next : Indexing text (found + 1) (at + (len + 1)) (set starts found at)
      indexing_next =
          let j = end_at (drop at text) len (rw rest_is at e) in let r = length-drop at text in let d : at + len + 1 ≡ at + (len + 1) = omega arith in
          record {
            begun = rw (add-one found, ← d) (begins_next text found at h.begun (at + len) (omega arith) (omega arith));
            known = λ i j. known_more i (omega arith);
          }

-- each of the n lines that were found
pub indexed_has : (text starts : List ℕ) (n i : ℕ) → Indexed text n n starts → n < length starts → i < n → HasLine text starts i
indexed_has text starts n i x k l = record {
  line = let m = x.found in omega arith;
  places = omega arith;
  start = x.at i (omega arith);
  next = x.at (suc i) (omega arith);
}
