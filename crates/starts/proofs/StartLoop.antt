-- The loop that looks for a start version: k of n steps are made, and version w is reached.
use Rattle.std.proofs.Common.{ℕ, suc, ◌+◌, ◌-◌, ◌≤◌, ◌<◌, ◌≡◌, refl, sym, ◌∙◌, List, [], arith}
use borrow.Author.Tests.{lt-leb}
use Rattle.rows.specs.declared.Counts.{Counts}
use Rattle.rows.specs.declared.VersionNo.{VersionNo}
use Rattle.rows.specs.declared.VersionRow.{VersionRow}
use Rattle.rows.specs.Rows.{version_at}
use Rattle.rules.specs.Trail.{tables, trail_of, fresh_counts}
use Rattle.rules.specs.Start.{start_from, start_of}
use Rattle.closure.proofs.Start.{start_from_stop}

module _ (vs : List ℕ) (t s n k : ℕ) (w : VersionNo) (i : start_from (version_at vs) t (n - k) w.0 ≡ s) where
  module _ (row : VersionRow) (q : row ≡ version_at vs w.0) where
    pub start_stop : row.start ≤ t → w.0 ≡ s
    start_stop l = sym (start_from_stop (trail_of fresh_counts (tables [] vs [])) t (n - k) w.0 (rw q at l)) ∙ i

    pub start_next : k < n → t < row.start → start_from (version_at vs) t (n - (k + 1)) row.previous.0 ≡ s
    unfolding start_from
    start_next l h = go (n - (k + 1)) (omega arith)
      where
        go : (j : ℕ) → n - k ≡ suc j → start_from (version_at vs) t j row.previous.0 ≡ s
        go j z = rw q (rw (lt-leb (version_at vs w.0).start t (rw q at h)) at (rw z at i))

  pub start_end : n ≤ k → w.0 ≡ s
  unfolding start_from
  start_end l = let z : n - k ≡ 0 = omega arith in rw z at i

-- the start version does not depend on the edges
pub start_any : (c : Counts) (es vs ds : List ℕ) (x t : ℕ) → start_of (trail_of c (tables es vs [])) x t ≡ start_of (trail_of c (tables es vs ds)) x t
unfolding start_of
start_any c es vs ds x t = refl
