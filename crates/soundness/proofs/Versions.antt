-- The loop over the versions, which writes the code of each version's entity.
use Prim.Native.Nat.{ℕ, ◌+◌, ◌<◌}
use native.Mathlib.Omega.{arith}
use mathlib.Core.Path.{◌≡◌, sym, ◌∙◌, ap}
use mathlib.Core.Bool.{Bool, true, false}
use mathlib.Core.List.{List}
use lib.ListN.{length, get_or, set}
use lib.Seq.{get_or-set_same, get_or-set_other}
use borrow.Author.Tests.{ltb-true}
use Rattle.rows.specs.declared.Counts.{Counts}
use Rattle.rows.specs.declared.VersionRow.{VersionRow}
use Rattle.rows.specs.Rows.{entity_at, version_at}
use Rattle.rows.specs.Capacity.{most_entities}
use Rattle.rules.specs.Trail.{Tables, Trail, trail_of}
use Rattle.rules.specs.Sound.{all_below, sound_version, version_test}
use Rattle.soundness.specs.Parts.{code_of, Owners, VersionsReady}
use borrow.Author.Count.{below_more}
use Rattle.soundness.proofs.All.{every_at, all_stop, all_next}

-- version k of row v passed
pub owner_low : (c : Counts) (es vs owners : List ℕ) → VersionsReady c es vs owners → (k : ℕ) (v p : VersionRow) (r : Bool) → r ≡ sound_version c k v p → r ≡ true
    → v.entity.0 < most_entities
unfolding sound_version
owner_low c es vs owners f k v p r g h =
    let l : v.entity.0 < c.entities = ltb-true _ _ (every_at _ (sym g ∙ h) 0) in
    let m = f.entities_in in
    omega arith

-- version k has row v, and the test gave r
module _ (c : Counts) (t : Tables) (k : ℕ) (v : VersionRow) (r : Bool) (g : r ≡ sound_version c k v (version_at t.versions v.previous.0)) where
  abbrev T : Trail
  T = trail_of c t

  module _ (q : v ≡ version_at t.versions k) where
    test_is : r ≡ version_test T k
    unfolding version_test
    test_is = g ∙ rw q

    pub versions_stop : (n : ℕ) → k < n → r ≡ false → false ≡ all_below (version_test T) n
    versions_stop n l h = all_stop _ n k r l test_is h

    pub versions_next : all_below (version_test T) k ≡ true → r ≡ true → all_below (version_test T) (k + 1) ≡ true
    versions_next a h = all_next _ k r a test_is h

-- the code w of the entity of version k, of row v, is written
pub owners_next : (c : Counts) (t : Tables) (owners₀ : List ℕ) → VersionsReady c t.entities t.versions owners₀ → (k : ℕ) → k < c.versions
    → (v : VersionRow) → v ≡ version_at t.versions k
    → (owners : List ℕ) → length owners ≡ length owners₀ → Owners (trail_of c t) k owners → (w : ℕ) → w ≡ code_of (entity_at t.entities) v.entity.0
    → Owners (trail_of c t) (k + 1) (set owners k w)
owners_next c t owners₀ f k l v q owners s o w e =
    let m = f.room in
    below_more (λ (j : ℕ). get_or (set owners k w) j 0 ≡ code_of (entity_at t.entities) (version_at t.versions j).entity.0) k
    (λ j i. get_or-set_other owners k j w 0 (λ z. omega arith) ∙ o j i)
    (get_or-set_same owners k w 0 (omega arith) ∙ e ∙ ap (λ (x : VersionRow). code_of (entity_at t.entities) x.entity.0) q)
