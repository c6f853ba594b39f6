-- What is said of the members of a list of entities (document 02, 2.2): of one member, of members that are the same, and the earliest time.
use Prim.Native.Nat.{ℕ, min, ◌≤◌}
use native.Mathlib.Omega.{arith}
use native.Mathlib.Decide.{dec_le}
use mathlib.Core.Path.{◌≡◌, refl, sym, ◌∙◌, ap, subst}
use mathlib.Core.Logic.{◌⊎◌, inl, inr, ◌↔◌}
use mathlib.Core.List.Memᴰ
use mathlib.Core.List.{List, [], ◌∷◌, map, Memᴰ}
use Rattle.rules.specs.Members.{OfAny, IsEarliest, earliest}

-- the values of the members
pub mem_map : (g : ℕ → ℕ) (us : List ℕ) (x : ℕ) → Memᴰ x (map g us) ↔ ((u : ℕ) × Memᴰ u us × (x ≡ g u))
mem_map g us x = (to us, λ z. from us z.0 z.1 z.2)
  where
    to : (vs : List ℕ) → Memᴰ x (map g vs) → (u : ℕ) × Memᴰ u vs × (x ≡ g u)
    to [] m = absurd (Memᴰ.not-nil m)
    to (v ∷ vs) m = go (Memᴰ.cases_cons m) (to vs)
      where
        go : (x ≡ g v) ⊎ Memᴰ x (map g vs) → (Memᴰ x (map g vs) → (u : ℕ) × Memᴰ u vs × (x ≡ g u)) → (u : ℕ) × Memᴰ u (v ∷ vs) × (x ≡ g u)
        go (inl q) ih = (v, Memᴰ.head refl, q)
        go (inr k) ih = let z = ih k in (z.0, Memᴰ.tail z.1, z.2)

    from : (vs : List ℕ) (u : ℕ) → Memᴰ u vs → x ≡ g u → Memᴰ x (map g vs)
    from [] u m q = absurd (Memᴰ.not-nil m)
    from (v ∷ vs) u m q = go (Memᴰ.cases_cons m) (λ k. from vs u k q)
      where
        go : (u ≡ v) ⊎ Memᴰ u vs → (Memᴰ u vs → Memᴰ x (map g vs)) → Memᴰ x (g v ∷ map g vs)
        go (inl e) ih = Memᴰ.head (q ∙ ap g e)
        go (inr k) ih = Memᴰ.tail (ih k)

module _ (us : List ℕ) (R S : ℕ → ℕ → Type 0) (x : ℕ) where
  pub of_any_iff : ((u : ℕ) → Memᴰ u us → R u x ↔ S u x) → OfAny us R x ↔ OfAny us S x
  of_any_iff h = (λ z. (z.0, z.1, (h z.0 z.1).0 z.2), λ z. (z.0, z.1, (h z.0 z.1).1 z.2))

module _ (R : ℕ → ℕ → Type 0) where
  pub of_any_one : (u x : ℕ) → OfAny (u ∷ []) R x ↔ R u x
  of_any_one u x = (λ z. subst (λ (v : ℕ). R v x) (Memᴰ.eq_of_singleton z.1) z.2, λ r. (u, Memᴰ.head refl, r))

  pub of_any_map : (g : ℕ → ℕ) (us : List ℕ) (x : ℕ) → OfAny (map g us) R x ↔ OfAny us (λ u. R (g u)) x
  of_any_map g us x = (
    λ z. let k = (mem_map g us z.0).0 z.1 in (k.0, k.1, subst (λ (v : ℕ). R v x) k.2 z.2),
    λ z. (g z.0, (mem_map g us (g z.0)).1 (z.0, z.1, refl), z.2),
  )

  pub of_any_same : (us vs : List ℕ) → ((u : ℕ) → Memᴰ u us ↔ Memᴰ u vs) → (x : ℕ) → OfAny us R x ↔ OfAny vs R x
  of_any_same us vs h x = (λ z. (z.0, (h z.0).0 z.1, z.2), λ z. (z.0, (h z.0).1 z.1, z.2))

-- The earliest time

-- there is one at the most
pub earliest_one : {us : List ℕ} {I : ℕ → ℕ → Type 0} {i j : ℕ} → IsEarliest us I i → IsEarliest us I j → i ≡ j
earliest_one (IsEarliest.least o b) (IsEarliest.least p c) = omega (arith, b _ p, c _ o)
earliest_one (IsEarliest.least o b) (IsEarliest.empty q r) = absurd (Memᴰ.not-nil (subst (Memᴰ o.0) q o.1))
earliest_one (IsEarliest.empty q r) (IsEarliest.least p c) = absurd (Memᴰ.not-nil (subst (Memᴰ p.0) q p.1))
earliest_one (IsEarliest.empty q r) (IsEarliest.empty s z) = r ∙ sym z

-- of lists with the same members, and of the same times
module _ {us vs : List ℕ} {I J : ℕ → ℕ → Type 0} (h : (i : ℕ) → OfAny us I i ↔ OfAny vs J i) (none : us ≡ [] → vs ≡ []) where
  pub earliest-same : {i : ℕ} → IsEarliest us I i → IsEarliest vs J i
  earliest-same {i} (IsEarliest.least o b) = IsEarliest.least ((h i).0 o) (λ j z. b j ((h j).1 z))
  earliest-same (IsEarliest.empty q r) = IsEarliest.empty (none q) r

-- as computed
module _ (g : ℕ → ℕ) where
  abbrev Least : List ℕ → ℕ → Type 0
  Least us i = OfAny us (λ u j. j ≡ g u) i × ((u : ℕ) → Memᴰ u us → i ≤ g u)

  least_cons : (u : ℕ) (us : List ℕ) → Least (u ∷ us) (earliest (map g (u ∷ us)))
  least_cons u [] = ((u, Memᴰ.head refl, refl), λ v m. omega (arith, ap g (Memᴰ.eq_of_singleton m)))
  least_cons u (v ∷ us) = go (earliest (map g (v ∷ us))) (least_cons v us)
    where
      go : (e : ℕ) → Least (v ∷ us) e → Least (u ∷ (v ∷ us)) (min (g u) e)
      go e (o, b) = (at (dec_le (g u) e), λ w m. by w (Memᴰ.cases_cons m))
        where
          at : Dec (g u ≤ e) → OfAny (u ∷ (v ∷ us)) (λ w j. j ≡ g w) (min (g u) e)
          at (yes l) = (u, Memᴰ.head refl, omega arith)
          at (no l) = (o.0, Memᴰ.tail o.1, omega (arith, o.2))

          by : (w : ℕ) → (w ≡ u) ⊎ Memᴰ w (v ∷ us) → min (g u) e ≤ g w
          by w (inl q) = omega (arith, ap g q)
          by w (inr k) = omega (arith, b w k)

  pub earliest_is : (us : List ℕ) → IsEarliest us (λ u i. i ≡ g u) (earliest (map g us))
  earliest_is [] = IsEarliest.empty refl refl
  earliest_is (u ∷ us) = let z = least_cons u us in IsEarliest.least z.0 (λ j o. omega (arith, z.1 o.0 o.1, o.2))

  pub earliest_alone : {u i : ℕ} → IsEarliest (u ∷ []) (λ v j. j ≡ g v) i ↔ (i ≡ g u)
  earliest_alone {u} {i} = (
    λ z. earliest_one z (earliest_is (u ∷ [])),
    λ q. subst (IsEarliest (u ∷ []) (λ v j. j ≡ g v)) (sym q) (earliest_is (u ∷ [])),
  )
