-- The least intake of the members' start versions is the one of documents 01 and 02.
use Prim.Native.Nat.{ℕ, zero, suc, ◌≤◌, ◌<◌}
use native.Mathlib.Omega.{arith}
use native.Mathlib.Decide.{ℕ_discrete}
use mathlib.Core.Path.{◌≡◌, refl, sym, ◌∙◌, ap, subst}
use mathlib.Core.Logic.{◌⊎◌, inl, inr}
use mathlib.Core.Bool.{cond}
use mathlib.Core.List.{List, [], ◌∷◌, map, Memᴰ}
use lib.ListN.{length}
use Rattle.rules.specs.Trail.{Trail}
use Rattle.rules.specs.Start.{Enters, IsIntake, start_of, intake_of}
use Rattle.rules.specs.Marks.{seeded}
use Rattle.rules.specs.Members.{OfAny, IsEarliest, earliest}
use Rattle.rules.specs.Forward.{starts_of, forward_intake}
use Rattle.rules.proofs.Members.{mem_map, earliest_one, earliest_is}
use Rattle.rules.proofs.Intake.{ByCase, by_cases, intake_of_is}
use Rattle.soundness.specs.Facts.{RowFacts}
use Rattle.closure.specs.Arcs.{Marked, AllBelow}
use Rattle.closure.proofs.Intake.{intake_start, intake_last}
use Rattle.closure.proofs.Closed.{marked_seeded, seeded_marked}
use Rattle.closure.proofs.Start.{start_in}
use Rattle.intake.specs.Intake.{enters_by, last_intake, Least, LeastIntake}

-- the least of b and of what f gives is the earliest of what g gives for the members: both give the same, and none is above b
least-earliest : (g : ℕ → ℕ) (P : ℕ → Type 0) (f : ℕ → ℕ) (b r : ℕ) (us : List ℕ) → Least P f b r → ((v : ℕ) → P v → OfAny us (λ u i. i ≡ g u) (f v))
    → ((u : ℕ) → Memᴰ u us → (g u ≤ b) × ((v : ℕ) × P v × (f v ≡ g u))) → (u : ℕ) → Memᴰ u us → r ≡ earliest (map g us)
least-earliest g P f b r us o out into u k =
    earliest_one {us = us} {I = λ w i. i ≡ g w} (IsEarliest.least (one o.is_one) (λ j z. omega (arith, low z.0 z.1, z.2))) (earliest_is g us)
  where
    low : (w : ℕ) → Memᴰ w us → r ≤ g w
    low w m = let z = (into w m).1 in subst (λ x. r ≤ x) z.2 (o.least z.0 z.1)

    one : (r ≡ b) ⊎ ((v : ℕ) × P v × (r ≡ f v)) → OfAny us (λ w i. i ≡ g w) r
    one (inl q) = (u, k, omega (arith, low u k, (into u k).0))
    one (inr (v, p, q)) = let z = out v p in (z.0, z.1, q ∙ z.2)

module _ (T : Trail) (f : RowFacts T) (t : ℕ) where
  module _ (s : ℕ) where
    last_is : (n : ℕ) → n ≤ T.counts.edges → ((j : ℕ) → n ≤ j → Enters T s t j → ⊥) → last_intake T.version T.edge s t n ≡ intake_of T s t
    unfolding last_intake enters_by
    last_is zero l none = sym (intake_start T s t (λ k. none k (omega arith)))
    last_is (suc k) l none = go (by_cases (T.edge k).to.0 s (T.edge k).time t) (λ h. last_is k (omega arith) h)
      where
        go : ByCase (T.edge k).to.0 s (T.edge k).time t
            → (((j : ℕ) → k ≤ j → Enters T s t j → ⊥) → last_intake T.version T.edge s t k ≡ intake_of T s t)
            → cond (enters_by s t (T.edge k)) (T.edge k).time (last_intake T.version T.edge s t k) ≡ intake_of T s t
        go (inl c) ih = rw c.2 (sym (intake_last T f s t k (l, c.0, c.1) (λ j h. none j h)))
        go (inr c) ih = rw c.1 (ih (λ j h. by j h (ℕ_discrete j k)))
          where
            by : (j : ℕ) → k ≤ j → Dec (j ≡ k) → Enters T s t j → ⊥
            by j h (yes e) d = let i = subst (Enters T s t) e d in c.0 i.1 i.2
            by j h (no e) d = none j (omega arith) d

    pub last_intake_is : last_intake T.version T.edge s t T.counts.edges ≡ intake_of T s t
    last_intake_is = last_is T.counts.edges (omega arith) (λ j h e. omega (arith, e.0))

    intake_by_last : s < T.counts.versions → intake_of T s t ≤ T.counts.last
    intake_by_last h = go (intake_of_is T s t)
      where
        go : IsIntake T s t (intake_of T s t) → intake_of T s t ≤ T.counts.last
        go (IsIntake.greatest k e q _) = omega (arith, (f.edge k e.0).time_last)
        go (IsIntake.start _ q) = omega (arith, (f.version s h).start_end, (f.version s h).end_last)

  module _ (us : List ℕ) (h : AllBelow T.counts.entities us) where
    abbrev marks : List ℕ
    marks = seeded T.counts.versions (starts_of T us t)

    marked_start : (u : ℕ) → Memᴰ u us → (intake_of T (start_of T u t) t ≤ T.counts.last) × ((v : ℕ) × Marked marks v × (last_intake T.version T.edge v t T.counts.edges ≡ intake_of T (start_of T u t) t))
    marked_start u k =
        let s = start_of T u t in
        let l = start_in T f u t (h u k) in
        (intake_by_last s l, (s, marked_seeded T.counts.versions (starts_of T us t) s l ((mem_map (λ w. start_of T w t) us s).1 (u, k, refl)), last_intake_is s))

    of_member : (v : ℕ) → Marked marks v → OfAny us (λ u i. i ≡ intake_of T (start_of T u t) t) (last_intake T.version T.edge v t T.counts.edges)
    of_member v o =
        let z = (mem_map (λ u. start_of T u t) us v).0 (seeded_marked T.counts.versions (starts_of T us t) v o) in
        (z.0, z.1, last_intake_is v ∙ ap (λ s. intake_of T s t) z.2)

    pub intake_of_starts : (r : ℕ) → LeastIntake T.version T.edge t T.counts.edges marks T.counts.last r → (length us ≡ 0 → ⊥) → r ≡ forward_intake T us t
    unfolding forward_intake
    intake_of_starts r o z = go us refl
      where
        go : (vs : List ℕ) → us ≡ vs → r ≡ earliest (map (λ u. intake_of T (start_of T u t) t) us)
        go [] q = absurd (z (ap length q))
        go (u ∷ vs) q = least-earliest (λ u. intake_of T (start_of T u t) t) (Marked marks) _ T.counts.last r us o of_member marked_start u (rw q (Memᴰ.head refl))
