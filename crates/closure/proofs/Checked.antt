-- The checks of a trace: by the number that it returns, and what is known where they pass.
use Rattle.std.specs.Prelude.{Ok, Err}
use Prim.Native.Nat.{ℕ, ◌≤◌, ◌<◌}
use native.Mathlib.Omega.{arith}
use native.Mathlib.Decide.{dec_le}
use mathlib.Core.Path.{◌≡◌, refl, sym, ◌∙◌, ap}
use mathlib.Core.Logic.{◌⊎◌, inl, inr}
use mathlib.Core.Bool.{Bool, true, false, not, cond}
use mathlib.Core.List.Memᴰ
use mathlib.Core.List.{List, [], ◌∷◌, ◌++◌, Memᴰ}
use lib.ListN.{length}
use lib.Dec.{leb, ltb}
use borrow.Author.Tests.{not-false, ltb-false, leb-false, lt-leb}
use Rattle.refusals.specs.Refusals.{Checked}
use Rattle.refusals.specs.declared.Refusal.TheVariants.{Unsound, Undeclared, BufferShort}
use Rattle.refusals.specs.Refusals.{Check, first_of, number_of}
use Rattle.refusals.proofs.Checks.{AllFalse, passed_all_false}
use Rattle.rows.specs.declared.Counts.{Counts}
use Rattle.rows.specs.Capacity.{version_capacity, edge_capacity}
use Rattle.rules.specs.Trail.{Tables, capacity_of, trail_of, none}
use Rattle.rules.specs.Sound.{is_sound}
use Rattle.rules.specs.Backward.{undeclared_checks, buffer_checks, trace_refusals, trace_checks}
use Rattle.soundness.specs.Facts.{RowFacts}
use Rattle.soundness.proofs.Facts.{sound_counts_lem, sound_rows}
use Rattle.closure.specs.Arcs.{AllBelow}

-- The checks of the members

module _ (n : ℕ) where
  -- each is declared, or one is not
  pub declared_or_not : (xs : List ℕ) → AllBelow n xs ⊎ ((x : ℕ) × Memᴰ x xs × (n ≤ x))
  declared_or_not [] = inl (λ x m. absurd (Memᴰ.not-nil m))
  declared_or_not (x ∷ xs) = go (dec_le n x) (declared_or_not xs)
    where
      go : Dec (n ≤ x) → AllBelow n xs ⊎ ((y : ℕ) × Memᴰ y xs × (n ≤ y))
          → AllBelow n (x ∷ xs) ⊎ ((y : ℕ) × Memᴰ y (x ∷ xs) × (n ≤ y))
      go (yes l) z = inr (x, Memᴰ.head refl, l)
      go (no l) (inr (y, m, k)) = inr (y, Memᴰ.tail m, k)
      go (no l) (inl h) = inl (λ y m. at y (Memᴰ.cases_cons m))
        where
          at : (y : ℕ) → (y ≡ x) ⊎ Memᴰ y xs → y < n
          at y (inl q) = omega arith
          at y (inr m) = h y m

module _ (n : ℕ) (cs : List Check) where
  -- where each is, the checks after them decide
  pub declared_next : (xs : List ℕ) → AllBelow n xs → first_of (undeclared_checks n xs ++ cs) ≡ first_of cs
  unfolding first_of
  declared_next [] h = refl
  declared_next (x ∷ xs) h = rw (lt-leb n x (h x (Memᴰ.head refl))) (declared_next xs (λ y m. h y (Memᴰ.tail m)))

  -- "One undeclared member gives 5"
  pub undeclared_refused : (xs : List ℕ) (x : ℕ) → Memᴰ x xs → n ≤ x → first_of (undeclared_checks n xs ++ cs) ≡ Err Undeclared
  unfolding first_of
  undeclared_refused [] x m l = absurd (Memᴰ.not-nil m)
  undeclared_refused (y ∷ ys) x m l = go (Memᴰ.cases_cons m) (leb n y) refl (λ k. undeclared_refused ys x k l)
    where
      go : (x ≡ y) ⊎ Memᴰ x ys → (b : Bool) → leb n y ≡ b → (Memᴰ x ys → first_of (undeclared_checks n ys ++ cs) ≡ Err Undeclared)
          → cond b (Err Undeclared) (first_of (undeclared_checks n ys ++ cs)) ≡ Err Undeclared
      go z true q ih = refl
      go (inl e) false q ih = absurd (omega (arith, leb-false n y q))
      go (inr k) false q ih = ih k

  all_declared : (xs : List ℕ) → AllFalse (undeclared_checks n xs ++ cs) → AllBelow n xs × AllFalse cs
  all_declared [] h = (λ x m. absurd (Memᴰ.not-nil m), h)
  all_declared (x ∷ xs) h = let r = all_declared xs h.1 in (λ y m. at y (Memᴰ.cases_cons m) r.0, r.1)
    where
      at : (y : ℕ) → (y ≡ x) ⊎ Memᴰ y xs → AllBelow n xs → y < n
      at y (inl q) z = omega (arith, leb-false n x h.0)
      at y (inr m) z = z y m

-- All checks

-- where 5 and 14 are the same, all are
pub checked_by : (c : Counts) (t : Tables) (xs ys work marks : List ℕ) → first_of (trace_refusals c xs work marks) ≡ first_of (trace_refusals c ys work marks)
    → first_of (trace_checks c t xs work marks) ≡ first_of (trace_checks c t ys work marks)
unfolding trace_checks first_of
checked_by c t xs ys work marks = ap (cond (not (is_sound (capacity_of t) (trail_of c t))) (Err Unsound))

module _ (c : Counts) (t : Tables) (xs work marks : List ℕ) where
  refusals_passed : (ys : List ℕ) → number_of (first_of (trace_refusals c ys work marks)) ≡ 0 → first_of (trace_refusals c ys work marks) ≡ Ok tt
  unfolding first_of
  refusals_passed [] = go (ltb (length work) c.versions) (ltb (length marks) c.entities)
    where
      go : (v w : Bool) → number_of (cond v (Err BufferShort) (cond w (Err BufferShort) (Ok tt))) ≡ 0
          → cond v (Err BufferShort) (cond w (Err BufferShort) (Ok (tt {0}))) ≡ Ok tt
      go true w q = absurd (omega arith)
      go false true q = absurd (omega arith)
      go false false q = refl
  refusals_passed (y ∷ ys) = go (leb c.entities y) (refusals_passed ys)
    where
      go : (b : Bool) → (number_of (first_of (trace_refusals c ys work marks)) ≡ 0 → first_of (trace_refusals c ys work marks) ≡ Ok tt)
          → number_of (cond b (Err Undeclared) (first_of (trace_refusals c ys work marks))) ≡ 0 → cond b (Err Undeclared) (first_of (trace_refusals c ys work marks)) ≡ Ok tt
      go true ih q = absurd (omega arith)
      go false ih q = ih q

  -- a trace that is not refused passed its checks
  pub number_passed : number_of (first_of (trace_checks c t xs work marks)) ≡ 0 → first_of (trace_checks c t xs work marks) ≡ Ok tt
  unfolding trace_checks first_of
  number_passed = go (is_sound (capacity_of t) (trail_of c t))
    where
      go : (s : Bool) → number_of (cond (not s) (Err Unsound) (first_of (trace_refusals c xs work marks))) ≡ 0
          → cond (not s) (Err Unsound) (first_of (trace_refusals c xs work marks)) ≡ Ok tt
      go false q = absurd (omega arith)
      go true q = refusals_passed xs q

module _ (c : Counts) (t : Tables) (xs work marks : List ℕ) (p : first_of (trace_checks c t xs work marks) ≡ Ok tt) where
  all_false : AllFalse (trace_checks c t xs work marks)
  all_false = passed_all_false _ p

  passed_sound : is_sound (capacity_of t) (trail_of c t) ≡ true
  unfolding trace_checks
  passed_sound = not-false _ all_false.0

  pub passed_rows : RowFacts (trail_of c t)
  passed_rows = sound_rows (capacity_of t) (trail_of c t) passed_sound

  pub versions_fit : c.versions ≤ version_capacity t.versions
  versions_fit = (sound_counts_lem (capacity_of t) (trail_of c t) passed_sound).versions_in

  -- numbers of versions are below none
  pub versions_few : c.versions ≤ none
  unfolding version_capacity
  versions_few = omega (arith, versions_fit)

  pub edges_fit : c.edges ≤ edge_capacity t.edges
  edges_fit = (sound_counts_lem (capacity_of t) (trail_of c t) passed_sound).edges_in

  checked : AllBelow c.entities xs × AllFalse (buffer_checks c work marks)
  unfolding trace_checks
  checked = all_declared c.entities (buffer_checks c work marks) xs all_false.1

  -- a trace whose checks pass is of entities that are declared
  pub passed_entities : AllBelow c.entities xs
  passed_entities = checked.0

  pub work_fits : c.versions ≤ length work
  work_fits = ltb-false _ _ checked.1.0

  pub marks-fit : c.entities ≤ length marks
  marks-fit = ltb-false _ _ checked.1.1.0

-- of one entity
pub passed_entity : (c : Counts) (t : Tables) (x : ℕ) (work marks : List ℕ) → first_of (trace_checks c t (x ∷ []) work marks) ≡ Ok tt → x < c.entities
passed_entity c t x work marks p = passed_entities c t (x ∷ []) work marks p x (Memᴰ.head refl)
