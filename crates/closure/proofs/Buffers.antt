-- The buffers of a trace: computed marks laid over what was lent, and what they say alone determines them.
use Prim.Native.Nat.{ℕ, ◌-◌, ◌+◌, ◌≤◌, ◌<◌}
use native.Mathlib.Omega.{arith}
use native.Mathlib.Decide.{dec_lt}
use mathlib.Core.Path.{◌≡◌, sym, ◌∙◌, ap, subst}
use mathlib.Core.Logic.{◌⊎◌, inl, inr, ◌↔◌}
use mathlib.Core.List.{List}
use lib.ListN.{length, get_or, drop, length-append, length-drop, get_or-append}
use lib.Seq.{get_or-append-add, get_or-drop, ext_get_or}
use Rattle.rules.specs.Marks.{ones, overlaid}
use Rattle.closure.specs.Arcs.{Marked, Bits}
use Rattle.closure.specs.ByRelations.{MarksLeft, CountOf}
use Rattle.closure.proofs.Marks.{marked_in}
use Rattle.closure.proofs.Ones.{places, ones-places, places_iff, places-descending}

-- marks m of n places, laid over a buffer
module _ (n : ℕ) (m lent : List ℕ) (l : length m ≡ n) where
  pub overlaid_at : (k : ℕ) → k < n → get_or (overlaid m lent) k 0 ≡ get_or m k 0
  overlaid_at k h = get_or-append m (drop (length m) lent) 0 k (omega arith)

  overlaid_past : (k : ℕ) → n ≤ k → get_or (overlaid m lent) k 0 ≡ get_or lent k 0
  overlaid_past k h =
      let q : k ≡ length m + (k - length m) = omega arith in
      ap (λ j. get_or (overlaid m lent) j 0) q ∙ get_or-append-add m (drop (length m) lent) (k - length m) 0 ∙ get_or-drop (length m) lent (k - length m) 0
      ∙ ap (λ j. get_or lent j 0) (sym q)

  module _ (M : ℕ → Type 0) (bits : Bits m) (is : (k : ℕ) → k < n → Marked m k ↔ M k) (inside : (k : ℕ) → M k → k < n) where
    pub marks-left : n ≤ length lent → MarksLeft n M lent (overlaid m lent)
    marks-left room = record {
      same_length = simp (length-append, length-drop) (omega arith);
      bits = λ k h. subst (λ (y : ℕ). (y ≡ 0) ⊎ (y ≡ 1)) (sym (overlaid_at k h)) (bits k);
      marked = λ k. (λ o. (is k o.0).0 (sym (overlaid_at k o.0) ∙ o.1), λ d. let h = inside k d in (h, overlaid_at k h ∙ (is k h).1 d));
      untouched = overlaid_past;
    }

    pub counted-ones : CountOf M (ones m)
    counted-ones = record {
      list = places m;
      once = places-descending m;
      has = λ x. (λ z. let o = (places_iff m x).0 z in (is x (omega (arith, marked_in m x o))).0 o, λ d. (places_iff m x).1 ((is x (inside x d)).1 d));
      count_is = ones-places m;
    }

-- what is left is one buffer
pub marks_one : {n : ℕ} {M : ℕ → Type 0} {lent a b : List ℕ} → MarksLeft n M lent a → MarksLeft n M lent b → a ≡ b
marks_one {n} {M} {lent} {a} {b} p q = ext_get_or 0 a b (p.same_length ∙ sym q.same_length) (λ k _. go k (dec_lt k n))
  where
    by : (k : ℕ) → k < n → (get_or a k 0 ≡ 0) ⊎ (get_or a k 0 ≡ 1) → (get_or b k 0 ≡ 0) ⊎ (get_or b k 0 ≡ 1) → get_or a k 0 ≡ get_or b k 0
    by k l (inr x) y = x ∙ sym ((q.marked k).1 ((p.marked k).0 (l, x))).1
    by k l (inl x) (inl y) = x ∙ sym y
    by k l (inl x) (inr y) = ((p.marked k).1 ((q.marked k).0 (l, y))).1 ∙ sym y

    go : (k : ℕ) → Dec (k < n) → get_or a k 0 ≡ get_or b k 0
    go k (yes l) = by k l (p.bits k l) (q.bits k l)
    go k (no l) = p.untouched k (omega arith) ∙ sym (q.untouched k (omega arith))
