-- An entity has one start version at a time (document 01, "Traces"), if it has any.
use Prim.Native.Nat.{ℕ}
use native.Mathlib.Omega.{arith}
use mathlib.Core.Path.{◌≡◌}
use Rattle.rules.specs.Trail.{Trail}
use Rattle.rules.specs.Start.{StartVersion}

pub start_one : {T : Trail} {x t s r : ℕ} → StartVersion T x t s → StartVersion T x t r → s ≡ r
start_one {s = s} {r = r} p q = omega (arith, p.highest r q.on_chain q.by, q.highest s p.on_chain p.by)
