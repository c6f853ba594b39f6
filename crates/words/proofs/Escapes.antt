-- A name in quotes, a byte at a time.
use Prim.Native.Nat.{ℕ, suc, ◌+◌, ◌<◌}
use native.Mathlib.Numerals.{add-one}
use native.Mathlib.Omega.{arith}
use mathlib.Core.Path.{◌≡◌, refl, ◌∙◌, ap}
use mathlib.Core.Bool.{Bool, true, false, cond}
use mathlib.Core.List.{List, [], ◌∷◌, ◌++◌, append_assoc}
use lib.ListN.{length, length-append, get_or, take, drop}
use lib.Seq.{take-suc, drop-cons}
use Rattle.words.specs.Quoted.{backslash, quote, is_marked, escaped, quoted}
use Rattle.words.specs.Sink.{SinkLaws}

escaped-++ : (p q : List ℕ) → escaped (p ++ q) ≡ escaped p ++ escaped q
unfolding escaped
escaped-++ [] q = refl
escaped-++ (c ∷ p) q = go (is_marked c) (escaped-++ p q)
  where
    go : (b : Bool) → escaped (p ++ q) ≡ escaped p ++ escaped q
        → cond b (backslash ∷ (c ∷ escaped (p ++ q))) (c ∷ escaped (p ++ q)) ≡ cond b (backslash ∷ (c ∷ escaped p)) (c ∷ escaped p) ++ escaped q
    go true h = ap (λ (s : List ℕ). backslash ∷ (c ∷ s)) h
    go false h = ap (λ (s : List ℕ). c ∷ s) h

pub escaped_none : escaped [] ≡ []
unfolding escaped
escaped_none = refl

-- a name's bytes one after another: the first i of them were put
module _ (name : List ℕ) (i : ℕ) (l : i < length name) where
  escaped_more : escaped (take (i + 1) name) ≡ escaped (take i name) ++ escaped (get_or name i 0 ∷ [])
  escaped_more = rw (add-one i, take-suc name i 0 l) (escaped-++ (take i name) (get_or name i 0 ∷ []))

  escaped_left : (q : List ℕ) → escaped (drop i name) ++ q ≡ escaped (get_or name i 0 ∷ []) ++ (escaped (drop (i + 1) name) ++ q)
  escaped_left q =
      rw (add-one i, drop-cons name i 0 l, escaped-++ (get_or name i 0 ∷ []) (drop (suc i) name), append_assoc)

  module _ {S : Type 0} {R : S → List ℕ → Type 0} {T : S → List ℕ → S → Type 0} (laws : SinkLaws R T) (s : S) where
    pub byte_fits : (q : List ℕ) → R s (escaped (drop i name) ++ q) → R s (escaped (get_or name i 0 ∷ []))
    byte_fits q r = laws.room_first _ (rw (escaped_left q) at r)

    module _ {t : S} (p : T s (escaped (get_or name i 0 ∷ [])) t) where
      pub rest_fits : (q : List ℕ) → R s (escaped (drop i name) ++ q) → R t (escaped (drop (i + 1) name) ++ q)
      rest_fits q r = laws.room_rest p (rw (escaped_left q) at r)

      pub more_put : {s₀ : S} → T s₀ (escaped (take i name)) s → T s₀ (escaped (take (i + 1) name)) t
      more_put q = rw escaped_more (laws.join q p)

-- the quotes around a name

pub length-quoted : (name : List ℕ) → length (quoted name) ≡ length (escaped name) + 2
unfolding quoted
length-quoted name = ap suc (length-append (escaped name) (quote ∷ [])) ∙ let e : suc (length (escaped name) + 1) ≡ length (escaped name) + 2 = omega arith in e
