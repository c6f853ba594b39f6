-- Causal paths in lists of few events: each way to leave events out of the list is looked at.
use Prim.Native.Nat.{ℕ, ◌≤◌, ◌<◌}
use native.Mathlib.Omega.{arith}
use mathlib.Core.Path.{refl}
use mathlib.Core.List.{List, [], ◌∷◌}
use Rattle.record.specs.declared.Event.{Event}
use Rattle.rules.specs.Paths.{Links, Part, done, skip, take, CausalPath, All}
use Rattle.rules.specs.RecordCases.{read}
use Rattle.rules.specs.PathCases.{write, read_then_write, write_then_read, PathCases}

in_order : (s t : ℕ) → CausalPath (read_then_write s t) 0 2
in_order s t = record { path = write 1 2 t ∷ read 0 1 s ∷ []; links = (refl, (refl, refl)); order = take (take done) }

itself : (es : List Event) (x : ℕ) → CausalPath es x x
itself es x = record { path = []; links = refl; order = nothing es }
  where
    nothing : (es : List Event) → Part [] es
    nothing [] = done
    nothing (e ∷ es) = skip (nothing es)

none : (p : List Event) → Part p [] → Links 0 1 p → ⊥
none p done l = omega arith

turned : (s t : ℕ) (p : List Event) → Part p (write_then_read s t) → Links 0 2 p → ⊥
turned s t p (take o) l = omega (arith, l.0)
turned s t p (skip (take o)) l = none _ o l.1
turned s t p (skip (skip done)) l = omega arith

-- nothing before the last two leads from 0
by_position : (t : ℕ) (p : List Event) → Part p (write 1 2 t ∷ read 0 1 t ∷ read 2 3 t ∷ write 1 2 t ∷ []) → Links 0 3 p → ⊥
by_position t p (take o) l = omega (arith, l.0)
by_position t p (skip (take o)) l = omega (arith, l.0)
by_position t p (skip (skip (take (take done)))) l = omega (arith, l.1.1)
by_position t p (skip (skip (take (skip done)))) l = omega (arith, l.1)
by_position t p (skip (skip (skip (take o)))) l = omega (arith, l.0)
by_position t p (skip (skip (skip (skip done)))) l = omega arith

no_way_back : (t : ℕ) (p : List Event) → Part p (read 0 1 t ∷ []) → Links 1 0 p → ⊥
no_way_back t p (take o) l = omega (arith, l.0)
no_way_back t p (skip done) l = omega arith

-- a path from 0 to 2 has both events
both : (q : Event → Type 0) (s t : ℕ) (p : List Event) → Part p (read_then_write s t) → Links 0 2 p → All q p → q (write 1 2 t) × q (read 0 1 s)
both q s t p (take (take done)) l a = (a.0, a.1.0)
both q s t p (take (skip done)) l a = absurd (omega (arith, l.1))
both q s t p (skip (take o)) l a = absurd (omega (arith, l.0))
both q s t p (skip (skip done)) l a = absurd (omega arith)

pub path_cases : PathCases
unfolding in_order
path_cases = record {
  itself = itself;
  none = λ p. none p.path p.order p.links;
  in_order = in_order;
  turned = λ s t p. turned s t p.path p.order p.links;
  twice = λ t. record { path = write 1 2 t ∷ read 0 1 t ∷ []; links = (refl, (refl, refl)); order = take (take (skip done)) };
  by_position = λ t p. by_position t p.path p.order p.links;
  no_way_back = λ t p. no_way_back t p.path p.order p.links;
  by = (in_order 4 5, (omega arith, (omega arith, tt)));
  not_by = λ (p, a). let k = both (λ e. e.time ≤ 4) 4 5 p.path p.order p.links a in omega (arith, k.0);
  every_by = λ (p, a). let k = both (λ e. e.time ≤ 5) 6 5 p.path p.order p.links a in omega (arith, k.1);
  by_tie = (in_order 5 5, (omega arith, (omega arith, tt)));
  not_by_tie = λ (p, a). let k = both (λ e. e.time ≤ 4) 5 5 p.path p.order p.links a in omega (arith, k.0);
  after = (in_order 4 5, (omega arith, (omega arith, tt)));
  not_after = λ (p, a). let k = both (λ e. 4 < e.time) 4 5 p.path p.order p.links a in omega (arith, k.1);
  after_tie = (in_order 5 5, (omega arith, (omega arith, tt)));
  not_after_tie = λ (p, a). let k = both (λ e. 5 < e.time) 5 5 p.path p.order p.links a in omega (arith, k.0);
}
