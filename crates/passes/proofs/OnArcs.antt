-- The arcs of a forward pass, by what was read of the rows.
use Prim.Native.Nat.{ℕ, ◌≤◌}
use native.Mathlib.Omega.{arith}
use mathlib.Core.Path.{◌≡◌, refl, sym, ◌∙◌, ap, subst}
use mathlib.Core.Bool.{Bool, true, false, ◌||◌, not, cond}
use mathlib.Core.List.{List, [], ◌∷◌, ◌++◌, Memᴰ}
use lib.ListN.{length, get_or, set, get_or-eq_default}
use lib.Seq.{set-set}
use lib.Dec.{eqb}
use borrow.Author.Tests.{eqb-true}
use Rattle.rows.specs.declared.VersionRow.{VersionRow}
use Rattle.rows.specs.declared.EdgeRow.{EdgeRow}
use Rattle.rules.specs.Trail.{Trail, none}
use Rattle.rules.specs.Marks.{Arc, arc, follow, pass}
use Rattle.marks.specs.MarkedIf.{MarkedIf}
use Rattle.passes.specs.Followed.{changes, Followed, up}
use Rattle.passes.specs.TraceArcs.{when, step_on, target_on, edge_on, first_on, later_on}
use Rattle.passes.proofs.Members.{up_iff, with_more}
use Rattle.passes.proofs.Followed.{arc_followed, arc_idle, followed_none, followed_append}

-- a version that was marked just now is not changed by its step
step_again : (m : List ℕ) (p v : ℕ) → pass (step_on p v) (set m v 1) ≡ set m v 1
unfolding step_on pass follow
step_again m p v = go (not (eqb p none))
  where
    mark : (x : Bool) → cond x (set (set m v 1) v 1) (set m v 1) ≡ set m v 1
    mark true = set-set m v 1 1
    mark false = refl

    go : (b : Bool) → pass (when b (arc p v)) (set m v 1) ≡ set m v 1
    go true = mark (eqb (get_or (set m v 1) p 0) 1)
    go false = refl

module _ (m : List ℕ) (l : length m ≤ none) where
  -- no byte stands at `none`
  step_on_lem : (p v : ℕ) (c : Bool) (m' : List ℕ) → Followed (arc p v ∷ []) m c m' → Followed (step_on p v) m c m'
  unfolding step_on
  step_on_lem p v c m' f = go (eqb p none) refl
    where
      go : (b : Bool) → eqb p none ≡ b → Followed (when (not b) (arc p v)) m c m'
      go false q = f
      go true q =
          let z : get_or m p 0 ≡ 0 = get_or-eq_default m 0 {n = p} (omega (arith, eqb-true p none q)) in
          let g = arc_idle m p v false (sym (ap (λ x. eqb x 1) z)) refl in
          record { changed = f.changed ∙ sym g.changed ∙ (followed_none m).changed; marks = f.marks ∙ sym g.marks ∙ (followed_none m).marks }

  -- two arcs into a place that is not marked are one arc from either
  two_arcs : (f p t : ℕ) (a b c : Bool) (m' : List ℕ) → eqb (get_or m t 0) 1 ≡ false → a ≡ eqb (get_or m f 0) 1 → b ≡ eqb (get_or m p 0) 1 → MarkedIf (a || b) t m c m'
      → Followed ((arc f t ∷ []) ++ step_on p t) m c m'
  two_arcs f p t false b c m' u x y w =
      followed_append (arc f t ∷ []) (step_on p t) m m m' false c c (arc_idle m f t false x refl) (step_on_lem p t c m' (arc_followed m p t b c m' y w)) refl
  two_arcs f p t true b c m' u x y w =
      followed_append (arc f t ∷ []) (step_on p t) m (set m t 1) m' true (changes (step_on p t) (set m t 1)) c
      (arc_followed m f t true true (set m t 1) x (record { changed = sym (ap not u); marks = refl }))
      (record { changed = refl; marks = w.marks ∙ sym (step_again m p t) })
      (w.changed ∙ ap not u)

-- by what was read of the edge
module _ (W : ℕ → VersionRow) (e row : EdgeRow) (q : e ≡ row) (m : List ℕ) (r : Bool) (z : r ≡ eqb (get_or m e.to.0 0) 1) where
  pub edge_on_lem : length m ≤ none → (v : VersionRow) (a b c : Bool) (m' : List ℕ) → v ≡ W e.to.0 → a ≡ eqb (get_or m e.from.0 0) 1
      → b ≡ eqb (get_or m v.previous.0 0) 1 → MarkedIf (a || b) e.to.0 m c m' → r ≡ false → Followed (edge_on W row) m c m'
  unfolding edge_on target_on
  edge_on_lem l v a b c m' o x y w h =
      subst (λ i. Followed (edge_on W i) m c m') q
      (rw (← o) (two_arcs m l e.from.0 v.previous.0 e.to.0 a b c m' (sym z ∙ h) x y w))

-- what a later pass follows the first one follows
pub later_first : (T : Trail) (x : Arc) → Memᴰ x (later_on T) → Memᴰ x (first_on T)
unfolding later_on first_on edge_on
later_first T x = with_more up up_iff x (λ k. target_on (T.edge k)) (λ k. step_on (T.version (T.edge k).to.0).previous.0 (T.edge k).to.0) T.counts.edges _
