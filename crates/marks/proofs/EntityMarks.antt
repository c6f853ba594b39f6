-- The mark buffer is the one of document 01, and the count is the number of its ones.
use Rattle.std.proofs.Common.{ℕ, zero, suc, ◌+◌, ◌≡◌, refl, sym, ◌∙◌, ap, Bool, true, false, cond, List, ◌++◌, get_or, set, drop, replicate, count_by, eqb, add-one, arith}
use borrow.Author.Tests.{eqb-true, eqb-false}
use Rattle.std.proofs.lemmas.List.Recursion.{is_count_by}
use Rattle.rows.specs.declared.VersionRow.{VersionRow}
use Rattle.rules.specs.Trail.{Trail}
use Rattle.rules.specs.Marks.{marks_below, ones}
use Rattle.closure.proofs.Entities.{length-marks_below, marks_below_zero, marks_below_marked, marks_below-other}
use Rattle.marks.specs.MarkedIf.{MarkedIf}
use Rattle.marks.specs.Owners.{owner_marked, owners_marked, EntitiesMarked}

module _ (W : ℕ → VersionRow) (work : List ℕ) where
  -- one version, by what was read of it
  pub owner_marked_lem : (k : ℕ) (m m' : List ℕ) (row : VersionRow) (r c : Bool) → row ≡ W k → r ≡ eqb (get_or work k 0) 1 → MarkedIf r row.entity.0 m c m'
      → m' ≡ owner_marked W work k m
  unfolding owner_marked
  owner_marked_lem k m m' row r c e q w = w.marks ∙ (λ i. cond (q i) (set m (e i).entity.0 1) m)

  -- the loop stands at k
  module _ (k : ℕ) (m₀ m : List ℕ) (i : m ≡ owners_marked W work k m₀) where
    pub owners_next : (m' : List ℕ) → m' ≡ owner_marked W work k m → m' ≡ owners_marked W work (k + 1) m₀
    unfolding owners_marked
    owners_next m' q = q ∙ ap (owner_marked W work k) i ∙ ap (λ j. owners_marked W work j m₀) (sym (add-one k))

  -- of a cleared buffer for e entities
  pub owners_below : (e n : ℕ) → owners_marked W work n (replicate e 0) ≡ marks_below W work n e
  unfolding owners_marked owner_marked
  owners_below e zero = marks_below_zero W work e
  owners_below e (suc k) = go (eqb (get_or work k 0) 1) refl (owners_below e k)
    where
      go : (b : Bool) → eqb (get_or work k 0) 1 ≡ b → owners_marked W work k (replicate e 0) ≡ marks_below W work k e
          → cond b (set (owners_marked W work k (replicate e 0)) (W k).entity.0 1) (owners_marked W work k (replicate e 0)) ≡ marks_below W work (suc k) e
      go true q ih = ap (λ m. set m (W k).entity.0 1) ih ∙ marks_below_marked W work k e (eqb-true _ _ q)
      go false q ih = ih ∙ marks_below-other W work k e (eqb-false _ _ q)

-- the count
pub ones_counted : (m : List ℕ) → ones m ≡ count_by (λ b. eqb b 1) m
unfolding ones
ones_counted = is_count_by ones (λ b. eqb b 1) refl (λ b m. step (eqb b 1) (ones m))
  where
    step : (b : Bool) (n : ℕ) → cond b 1 0 + n ≡ cond b (1 + n) n
    step true n = refl
    step false n = omega arith

-- in the lent buffer
pub entities_marked : (T : Trail) (work m g : List ℕ) (r : ℕ) → r ≡ ones g → g ≡ marks_below T.version work T.counts.versions T.counts.entities
    → EntitiesMarked T work m r (g ++ drop T.counts.entities m)
entities_marked T work m g r p q =
    let e = T.counts.entities in
    let b = marks_below T.version work T.counts.versions e in
    record { count = p ∙ ap ones q; marks = ap (λ x. x ++ drop e m) q ∙ ap (λ j. b ++ drop j m) (sym (length-marks_below T.version work T.counts.versions e)) }
