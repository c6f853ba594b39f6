-- The arcs that the traces follow, as sets: an arc for each edge and each step to or from a previous version.
use Prim.Native.Nat.{ℕ, zero, suc, ◌≤◌, ◌<◌}
use mathlib.Core.Path.{◌≡◌, refl, ap, subst}
use mathlib.Core.Logic.{◌↔◌}
use mathlib.Core.Bool.{Bool, true, false, ◌||◌, not, cond}
use mathlib.Core.List.{List, ◌∷◌, Memᴰ}
use lib.Dec.{eqb, leb}
use borrow.Author.Tests.{eqb-true, eqb-false, leb-true, eq-eqb, ne_eqb, le-leb, not-true}
use Rattle.rows.specs.declared.VersionRow.{VersionRow}
use Rattle.rows.specs.declared.EdgeRow.{EdgeRow}
use Rattle.rules.specs.Trail.{none}
use Rattle.rules.specs.Marks.{Arc, arc}
use Rattle.rules.specs.Backward.{is_followed, edges_back, steps_back}
use Rattle.rules.specs.Forward.{edges_on, steps_on}
use Rattle.closure.specs.Collected.{collected}
use Rattle.closure.proofs.Collected.{collected_iff}

-- the lists as collected ones

abbrev pub has_previous : (ℕ → VersionRow) → ℕ → Bool
has_previous W k = not (eqb (W k).previous.0 none)

pub edges_back-collected : (E : ℕ → EdgeRow) (s t n : ℕ) → edges_back E s t n ≡ collected (λ k. is_followed s t (E k)) (λ k. arc (E k).to.0 (E k).from.0) n
unfolding edges_back collected
edges_back-collected E s t zero = refl
edges_back-collected E s t (suc k) = ap (λ l. cond (is_followed s t (E k)) (arc (E k).to.0 (E k).from.0 ∷ l) l) (edges_back-collected E s t k)

pub edges_on-collected : (E : ℕ → EdgeRow) (n : ℕ) → edges_on E n ≡ collected (λ k. true) (λ k. arc (E k).from.0 (E k).to.0) n
unfolding edges_on collected
edges_on-collected E zero = refl
edges_on-collected E (suc k) = ap (λ l. arc (E k).from.0 (E k).to.0 ∷ l) (edges_on-collected E k)

-- the steps test for none, where the collected list tests for the rest
cond_not : (b : Bool) (a : Arc) (l l' : List Arc) → l ≡ l' → cond b l (a ∷ l) ≡ cond (not b) (a ∷ l') l'
cond_not true a l l' q = q
cond_not false a l l' q = ap (λ m. a ∷ m) q

pub steps_back-collected : (W : ℕ → VersionRow) (n : ℕ) → steps_back W n ≡ collected (has_previous W) (λ k. arc k (W k).previous.0) n
unfolding steps_back collected
steps_back-collected W zero = refl
steps_back-collected W (suc k) = cond_not (eqb (W k).previous.0 none) (arc k (W k).previous.0) _ _ (steps_back-collected W k)

pub steps_on-collected : (W : ℕ → VersionRow) (n : ℕ) → steps_on W n ≡ collected (has_previous W) (λ k. arc (W k).previous.0 k) n
unfolding steps_on collected
steps_on-collected W zero = refl
steps_on-collected W (suc k) = cond_not (eqb (W k).previous.0 none) (arc (W k).previous.0 k) _ _ (steps_on-collected W k)

-- their members

followed_iff : (s t : ℕ) (e : EdgeRow) → is_followed s t e ≡ true ↔ (e.to.0 ≡ s → e.time ≤ t)
unfolding is_followed
followed_iff s t e = (λ q r. leb-true _ _ (subst (λ b. (not b || leb e.time t) ≡ true) (eq-eqb _ _ r) q), λ h. go h (eqb e.to.0 s) refl)
  where
    go : (e.to.0 ≡ s → e.time ≤ t) → (b : Bool) → eqb e.to.0 s ≡ b → (not b || leb e.time t) ≡ true
    go h true q = le-leb _ _ (h (eqb-true _ _ q))
    go h false q = refl

previous_iff : (W : ℕ → VersionRow) (k : ℕ) → has_previous W k ≡ true ↔ ((W k).previous.0 ≡ none → ⊥)
previous_iff W k = (λ q. eqb-false _ _ (not-true _ q), λ h. ap not (ne_eqb _ _ h))

pub edges_back_iff : (E : ℕ → EdgeRow) (s t n : ℕ) (x : Arc)
    → Memᴰ x (edges_back E s t n) ↔ ((k : ℕ) × (k < n) × ((E k).to.0 ≡ s → (E k).time ≤ t) × (x ≡ arc (E k).to.0 (E k).from.0))
edges_back_iff E s t n x =
    rw (edges_back-collected E s t n)
    (let i = collected_iff _ _ n x in
    (λ m. let z = i.0 m in (z.0, z.1, (followed_iff s t (E z.0)).0 z.2, z.3), λ z. i.1 (z.0, z.1, (followed_iff s t (E z.0)).1 z.2, z.3)))

pub edges_on_iff : (E : ℕ → EdgeRow) (n : ℕ) (x : Arc) → Memᴰ x (edges_on E n) ↔ ((k : ℕ) × (k < n) × (x ≡ arc (E k).from.0 (E k).to.0))
edges_on_iff E n x =
    rw (edges_on-collected E n)
    (let i = collected_iff _ _ n x in
    (λ m. let z = i.0 m in (z.0, z.1, z.3), λ z. i.1 (z.0, z.1, refl, z.2)))

steps_iff : (W : ℕ → VersionRow) (g : ℕ → Arc) (n : ℕ) (x : Arc)
    → Memᴰ x (collected (has_previous W) g n) ↔ ((k : ℕ) × (k < n) × ((W k).previous.0 ≡ none → ⊥) × (x ≡ g k))
steps_iff W g n x =
    let i = collected_iff (has_previous W) g n x in
    (λ m. let z = i.0 m in (z.0, z.1, (previous_iff W z.0).0 z.2, z.3), λ z. i.1 (z.0, z.1, (previous_iff W z.0).1 z.2, z.3))

pub steps_back_iff : (W : ℕ → VersionRow) (n : ℕ) (x : Arc)
    → Memᴰ x (steps_back W n) ↔ ((k : ℕ) × (k < n) × ((W k).previous.0 ≡ none → ⊥) × (x ≡ arc k (W k).previous.0))
steps_back_iff W n x = rw (steps_back-collected W n) (steps_iff W (λ k. arc k (W k).previous.0) n x)

pub steps_on_iff : (W : ℕ → VersionRow) (n : ℕ) (x : Arc)
    → Memᴰ x (steps_on W n) ↔ ((k : ℕ) × (k < n) × ((W k).previous.0 ≡ none → ⊥) × (x ≡ arc (W k).previous.0 k))
steps_on_iff W n x = rw (steps_on-collected W n) (steps_iff W (λ k. arc (W k).previous.0 k) n x)
