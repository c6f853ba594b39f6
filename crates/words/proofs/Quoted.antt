-- A name in quotes tells the name, at the front of any text: it is read back.
use Prim.Native.Nat.{ℕ}
use mathlib.Core.Path.{◌≡◌, refl, sym, ◌∙◌, ap}
use mathlib.Core.Bool.{Bool, true, false, ◌||◌, cond}
use mathlib.Core.List.{List, [], ◌∷◌, ◌++◌, append_assoc, tail-eq_of_cons-eq}
use lib.Dec.{eqb}
use Rattle.words.specs.Quoted.{quote, backslash, is_marked, escaped, quoted}
use Rattle.words.proofs.Split.{Told}

record Read : Type 0 where
  name : List ℕ
  rest : List ℕ

abbrev read : List ℕ → List ℕ → Read
read n r = record { name = n; rest = r }

abbrev keep : ℕ → Read → Read
keep c x = read (c ∷ x.name) x.rest

-- what follows the first quote; b: the byte before was a backslash that stands for the next one
read_name : Bool → List ℕ → Read
read_name b [] = read [] []
read_name true (c ∷ s) = keep c (read_name false s)
read_name false (c ∷ s) = cond (eqb c quote) (read [] s) (cond (eqb c backslash) (read_name true s) (keep c (read_name false s)))

neither : (a b : Bool) → (a || b) ≡ false → (a ≡ false) × (b ≡ false)
neither false false e = (refl, refl)
neither false true e = (refl, e)
neither true b e = (e, cc)

read_back_lem : (name r : List ℕ) → read_name false (escaped name ++ (quote ∷ r)) ≡ read name r
unfolding escaped read_name is_marked
read_back_lem [] r = refl
read_back_lem (c ∷ cs) r = go (is_marked c) refl (read_back_lem cs r)
  where
    go : (b : Bool) → is_marked c ≡ b → read_name false (escaped cs ++ (quote ∷ r)) ≡ read cs r
        → read_name false (cond b (backslash ∷ (c ∷ escaped cs)) (c ∷ escaped cs) ++ (quote ∷ r)) ≡ read (c ∷ cs) r
    go true e h = ap (keep c) h
    go false e h = let n = neither (eqb c quote) (eqb c backslash) e in rw (n.0, n.1) (ap (keep c) h)

pub quoted_split : (a b r s : List ℕ) → quoted a ++ r ≡ quoted b ++ s → Told a b r s
unfolding quoted
quoted_split a b r s e =
    let f : quote ∷ (escaped a ++ (quote ∷ r)) ≡ quote ∷ (escaped b ++ (quote ∷ s)) = simp append_assoc at e in
    let g : read a r ≡ read b s = sym (read_back_lem a r) ∙ (ap (read_name false) (tail-eq_of_cons-eq f) ∙ read_back_lem b s) in
    record { same = ap (λ x. x.name) g; rest = ap (λ x. x.rest) g }
