-- What g gives of the numbers below a count that pass a test, the highest first: the form of the lists behind the traces.
use Rattle.std.specs.Prelude.{ℕ, zero, suc, Bool, cond, List, [], ◌∷◌}

unfoldable pub collected : {A : Type 0} → (ℕ → Bool) → (ℕ → A) → ℕ → List A
collected p g zero = []
collected p g (suc k) = cond (p k) (g k ∷ collected p g k) (collected p g k)
