-- Bytes written to an output: one byte more in front.
use Prim.Native.Nat.{ℕ, suc, ◌+◌, ◌<◌}
use native.Mathlib.Omega.{arith}
use native.Mathlib.Numerals.{add-one}
use mathlib.Core.Path.{◌≡◌, refl, ◌∙◌, ap}
use mathlib.Core.List.{List, [], ◌∷◌}
use lib.ListN.{set}
use lib.Seq.{sets, set_comm}

-- a byte set below what was written is a byte more in front
set-sets : (out : List ℕ) (i at b : ℕ) (p : List ℕ) → i < at → set (sets out at p) i b ≡ sets (set out i b) at p
set-sets out i at b [] l = refl
set-sets out i at b (c ∷ p) l =
    set-sets (set out at c) i (suc at) b p (omega arith)
    ∙ ap (λ (o : List ℕ). sets o (suc at) p) (set_comm out at i c b (λ (e : at ≡ i). let f : at ≡ i = e in omega arith))

pub sets_front : (out : List ℕ) (at b : ℕ) (p : List ℕ) → set (sets out (at + 1) p) at b ≡ sets out at (b ∷ p)
sets_front out at b p = rw add-one (set-sets out at (suc at) b p (omega arith))
