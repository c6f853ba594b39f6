-- The lists behind the traces (document 01, "Traces"), of rows that are the same below a count.
use Prim.Native.Nat.{ℕ, zero, suc, ◌<◌}
use native.Mathlib.Omega.{arith}
use mathlib.Core.Path.{◌≡◌, refl}
use mathlib.Core.List.{List}
use Rattle.rows.specs.declared.VersionRow.{VersionRow}
use Rattle.rows.specs.declared.EdgeRow.{EdgeRow}
use Rattle.rules.specs.Start.{times_into}
use Rattle.rules.specs.Marks.{has_marked, marks_below}
use Rattle.rules.specs.Backward.{edges_back, steps_back}
use Rattle.rules.specs.Forward.{edges_on, steps_on}

abbrev Below : {A : Type 0} → (ℕ → A) → (ℕ → A) → ℕ → Type 0
Below f g n = (k : ℕ) → k < n → f k ≡ g k

below : {A : Type 0} {f g : ℕ → A} {n : ℕ} → Below f g (suc n) → Below f g n
below q k l = q k (omega arith)

module _ {E E' : ℕ → EdgeRow} where
  pub edges_back-same : (s t n : ℕ) → Below E E' n → edges_back E s t n ≡ edges_back E' s t n
  unfolding edges_back
  edges_back-same s t zero q = refl
  edges_back-same s t (suc n) q = rw (q n (omega arith), edges_back-same s t n (below q))

  pub edges_on-same : (n : ℕ) → Below E E' n → edges_on E n ≡ edges_on E' n
  unfolding edges_on
  edges_on-same zero q = refl
  edges_on-same (suc n) q = rw (q n (omega arith), edges_on-same n (below q))

  pub times_into-same : (s t n : ℕ) → Below E E' n → times_into E s t n ≡ times_into E' s t n
  unfolding times_into
  times_into-same s t zero q = refl
  times_into-same s t (suc n) q = rw (q n (omega arith), times_into-same s t n (below q))

module _ {W W' : ℕ → VersionRow} where
  pub steps_back-same : (n : ℕ) → Below W W' n → steps_back W n ≡ steps_back W' n
  unfolding steps_back
  steps_back-same zero q = refl
  steps_back-same (suc n) q = rw (q n (omega arith), steps_back-same n (below q))

  pub steps_on-same : (n : ℕ) → Below W W' n → steps_on W n ≡ steps_on W' n
  unfolding steps_on
  steps_on-same zero q = refl
  steps_on-same (suc n) q = rw (q n (omega arith), steps_on-same n (below q))

  has_marked-same : (work : List ℕ) (x n : ℕ) → Below W W' n → has_marked W work x n ≡ has_marked W' work x n
  unfolding has_marked
  has_marked-same work x zero q = refl
  has_marked-same work x (suc n) q = rw (q n (omega arith), has_marked-same work x n (below q))

  pub marks_below-same : (work : List ℕ) (n m : ℕ) → Below W W' n → marks_below W work n m ≡ marks_below W' work n m
  unfolding marks_below
  marks_below-same work n zero q = refl
  marks_below-same work n (suc x) q = rw (has_marked-same work x n q, marks_below-same work n x q)
