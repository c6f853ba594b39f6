-- What lists of calls leave: none leave a fresh trail, and each call goes on from what it is lent.
use Prim.Native.Nat.{ℕ}
use native.Mathlib.Omega.{arith}
use mathlib.Core.Path.{◌≡◌, refl, sym, ◌∙◌, subst}
use mathlib.Core.Bool.{true}
use mathlib.Core.List.{List, ◌∷◌}
use Rattle.rows.specs.declared.Counts.{Counts}
use Rattle.rules.specs.Trail.{Tables, capacity_of, trail_of}
use Rattle.rules.specs.Sound.{is_sound}
use Rattle.rules.specs.Batch.{batch_of}
use Rattle.rules.specs.Calls.{Call, batch, backward, forward, held, held_after, Lent, AllLent}
use Rattle.soundness.specs.Facts.{CountFacts}
use Rattle.soundness.proofs.Facts.{sound_counts_lem}
use Rattle.soundness.proofs.BatchStep.{batch_sound}
use Rattle.agreement.specs.Left.{LeftBy, Leaving}
use Rattle.agreement.proofs.Matching.{matches, lent_sound}

-- the counts and rows that stand in tables are lent with them
pub own_lent : (c : Counts) (t : Tables) → CountFacts (capacity_of t) c → Lent (held c t) t
own_lent c t f = record {
  room = record { entities = f.entities_in; versions = f.versions_in; edges = f.edges_in };
  entity_rows = λ k l. refl;
  version_rows = λ k l. refl;
  edge_rows = λ k l. refl;
}

own_sound : (c : Counts) (t : Tables) → is_sound (capacity_of t) (trail_of c t) ≡ true → Lent (held c t) t
own_sound c t s = own_lent c t (sound_counts_lem _ _ s)

-- what holds of the counts that the calls leave holds of the counts c
pub left_by : (P : Counts → Type 0) {cs : List Call} {c : Counts} {t : Tables} → LeftBy cs c t → P (held_after cs).counts → P c
left_by P l p = subst P (sym l.counts) p

module _ (cs : List Call) (t : Tables) (a : AllLent cs) (l : Lent (held_after cs) t) where
  pub left_sound : is_sound (capacity_of t) (trail_of (held_after cs).counts t) ≡ true
  left_sound = lent_sound _ _ (matches cs a) t l

  batch-left : (file : List ℕ) → LeftBy (batch t file ∷ cs) (batch_of (held_after cs).counts t file).counts (batch_of (held_after cs).counts t file).tables
  batch-left file = record { lent = (l, a); counts = refl; rows = own_sound _ _ (batch_sound (held_after cs).counts t file left_sound) }

  backward-left : (v time : ℕ) (work marks : List ℕ) → LeftBy (backward t v time work marks ∷ cs) (held_after cs).counts t
  backward-left v time work marks = record { lent = (l, a); counts = refl; rows = own_sound _ _ left_sound }

  forward-left : (us : List ℕ) (time : ℕ) (work marks : List ℕ) → LeftBy (forward t us time work marks ∷ cs) (held_after cs).counts t
  forward-left us time work marks = record { lent = (l, a); counts = refl; rows = own_sound _ _ left_sound }

  moved_left : (other : Tables) → Lent (held (held_after cs).counts t) other → LeftBy cs (held_after cs).counts other
  moved_left other m = record {
    lent = a;
    counts = refl;
    rows = record {
      room = m.room;
      entity_rows = λ k i. m.entity_rows k i ∙ l.entity_rows k i;
      version_rows = λ k i. m.version_rows k i ∙ l.version_rows k i;
      edge_rows = λ k i. m.edge_rows k i ∙ l.edge_rows k i;
    };
  }

pub after-batch : (cs : List Call) (c : Counts) (t : Tables) → LeftBy cs c t → (file : List ℕ)
    → LeftBy (batch t file ∷ cs) (batch_of c t file).counts (batch_of c t file).tables
after-batch cs c t l file =
    left_by (λ k. LeftBy (batch t file ∷ cs) (batch_of k t file).counts (batch_of k t file).tables) l (batch-left cs t l.lent l.rows file)

pub leaving : Leaving
leaving = record {
  fresh = λ t. record {
    lent = tt;
    counts = refl;
    rows = record {
      room = record { entities = omega arith; versions = omega arith; edges = omega arith };
      entity_rows = λ k i. absurd (omega arith);
      version_rows = λ k i. absurd (omega arith);
      edge_rows = λ k i. absurd (omega arith);
    };
  };
  backward = λ cs c t l v time work marks. left_by (λ k. LeftBy (backward t v time work marks ∷ cs) k t) l (backward-left cs t l.lent l.rows v time work marks);
  forward = λ cs c t l us time work marks. left_by (λ k. LeftBy (forward t us time work marks ∷ cs) k t) l (forward-left cs t l.lent l.rows us time work marks);
  moved = λ cs c t l other. left_by (λ k. Lent (held k t) other → LeftBy cs k other) l (moved_left cs t l.lent l.rows other);
}
