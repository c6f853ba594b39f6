-- Causal paths in by t are those through events with time ≤ t.
use Prim.Native.Nat.{ℕ, ◌≤◌}
use native.Mathlib.Omega.{arith}
use native.Mathlib.Decide.{dec_le}
use mathlib.Core.Path.{subst}
use mathlib.Core.Logic.{◌↔◌}
use mathlib.Core.List.{List, [], ◌∷◌}
use Rattle.record.specs.declared.Event.{Event}
use Rattle.rules.specs.Paths.{Part, done, skip, take, CausalPath, All, PathBy}
use Rattle.causality.proofs.Parts.{up_to, up_to_in, up_to_out}

module _ (t : ℕ) where
  abbrev By : List Event → Type 0
  By = All (λ e. e.time ≤ t)

  part_by : (es p : List Event) → Part p (up_to t es) → Part p es × By p
  part_by [] p s = go p (unfold up_to in s)
    where
      go : (p : List Event) → Part p [] → Part p [] × By p
      go p done = (done, tt)
  part_by (e ∷ es) p s = go (dec_le e.time t) (part_by es)
    where
      in_by : e.time ≤ t → ((c : List Event) → Part c (up_to t es) → Part c es × By c) → (c : List Event) → Part c (e ∷ up_to t es) → Part c (e ∷ es) × By c
      in_by l ih c (skip r) = let o = ih c r in (skip o.0, o.1)
      in_by l ih c (take {p = d} r) = let o = ih d r in (take o.0, (l, o.1))

      go : Dec (e.time ≤ t) → ((c : List Event) → Part c (up_to t es) → Part c es × By c) → Part p (e ∷ es) × By p
      go (yes l) ih = in_by l ih p (subst (Part p) (up_to_in t e es l) s)
      go (no l) ih = let o = ih p (subst (Part p) (up_to_out t e es (omega arith)) s) in (skip o.0, o.1)

  by_part : {p es : List Event} → Part p es → By p → Part p (up_to t es)
  by_part done b = unfold up_to in done
  by_part (skip {e = e} {p = p} {es = es} s) b = go (dec_le e.time t) (by_part s b)
    where
      go : Dec (e.time ≤ t) → Part p (up_to t es) → Part p (up_to t (e ∷ es))
      go (yes l) r = rw (up_to_in t e es l) (skip r)
      go (no l) r = rw (up_to_out t e es (omega arith)) r
  by_part (take {e = e} {es = es} s) b = rw (up_to_in t e es b.0) (take (by_part s b.1))

  pub causal_by : (es : List Event) (x y : ℕ) → CausalPath (up_to t es) x y ↔ PathBy es t x y
  causal_by es x y = (to, from)
    where
      to : CausalPath (up_to t es) x y → PathBy es t x y
      to p = let o = part_by es p.path p.order in (record { path = p.path; links = p.links; order = o.0 }, o.1)

      from : PathBy es t x y → CausalPath (up_to t es) x y
      from (p, b) = record { path = p.path; links = p.links; order = by_part p.order b }
