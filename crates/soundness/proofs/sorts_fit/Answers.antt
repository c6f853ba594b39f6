-- The bits of the constant are what `sorts_fit` says of each kind and each two sorts.
use Prim.Native.Nat.{◌%◌}
use mathlib.Core.Path.{refl}
use Rattle.rules.specs.Sound.{every, all_below, is_object, is_subject, source_fits, target_fits}
use Rattle.soundness.specs.Parts.{sorts_fit}
use Rattle.soundness.proofs.Coded.{bits_fit, bits_fit_lem}
use native.Mathlib.Omega.{arith}
use Rattle.soundness.proofs.sorts_fit.Goals as goal

pub returns : goal.returns
unfolding bits_fit sorts_fit source_fits target_fits is_object is_subject every all_below
returns c = bits_fit_lem _ refl c.args.kind (c.args.a % 2) (c.args.b % 2) (omega arith) (omega arith) (omega arith)
