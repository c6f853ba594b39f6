-- What one test and another say, and a flag that a call returned.
use mathlib.Core.Path.{◌≡◌, sym, ◌∙◌}
use mathlib.Core.Bool.{Bool, true, false, not, ◌&&◌}
use borrow.Author.Tests.{not-true, not-false}

pub and_false : (a b : Bool) → false ≡ a → false ≡ a && b
and_false a b e = rw (← e)
