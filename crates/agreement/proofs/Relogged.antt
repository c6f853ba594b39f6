-- The kept log as a plain list, the last record first; its declarations are taken in again.
use Rattle.std.specs.Prelude.{Ok}
use Prim.Native.Nat.{ℕ, zero, suc, ◌≤◌, ◌<◌}
use native.Mathlib.Omega.{arith}
use native.Mathlib.Decide.{ℕ_discrete}
use mathlib.Core.Path.{◌≡◌, refl, sym, ◌∙◌, ap}
use mathlib.Core.List.{List, [], ◌∷◌}
use Rattle.rows.specs.declared.EntityRow.{EntityRow}
use Rattle.record.specs.declared.Event.{Event}
use Rattle.record.specs.declared.Record.{Record}
use Rattle.record.specs.declared.Record.TheVariants as records
use Rattle.rules.specs.Trail.{Capacity, Trail}
use Rattle.rules.specs.Record.{refusal_of, change_of}
use Rattle.rules.specs.PlainList.{worked, items_of}
use Rattle.rules.specs.KeptLog.{declaration_record, declared_sort}
use Rattle.rules.specs.Calls.{EnoughRows}
use Rattle.soundness.specs.Taken.{SortFits}
use Rattle.soundness.proofs.Put.{put_same, put_other}
use Rattle.agreement.specs.Taken.{Within, Taken, begun, next}
use Rattle.agreement.proofs.Passing.{declaration-passes}
use Rattle.soundness.proofs.Sorts.{declared_low}

-- the records of f below n, the last first
abbrev pub descending : (ℕ → Record) → ℕ → List Record
descending f zero = []
descending f (suc k) = f k ∷ descending f k

-- kept events, the last first, in front of the declarations of F
abbrev pub relogged : Trail → List Event → List Record
relogged F [] = descending (declaration_record F) F.counts.entities
relogged F (e ∷ ks) = records.Event e ∷ relogged F ks

-- each record is taken in with capacity cap
abbrev pub TakenBy : Capacity → List Record → Type 0
TakenBy cap [] = Unit {0}
TakenBy cap (r ∷ rs) = (SortFits r × (refusal_of cap (worked rs) r ≡ Ok tt)) × TakenBy cap rs

pub taken_by_taken : (cap : Capacity) → Within cap → (rs : List Record) → TakenBy cap rs → Taken rs
taken_by_taken cap w [] a = begun
taken_by_taken cap w (r ∷ rs) a = next (taken_by_taken cap w rs a.1) cap w r a.0.0 a.0.1

-- n declarations of F, the last first, taken in
pub record Declared (cap : Capacity) (F : Trail) (n : ℕ) (rs : List Record) : Type 0 where
  pub by : TakenBy cap rs
  pub items : items_of rs ≡ []
  pub entities : (worked rs).counts.entities ≡ n
  pub versions : (worked rs).counts.versions ≡ n
  pub edges : (worked rs).counts.edges ≡ 0
  pub accepted : (worked rs).counts.accepted ≡ 0
  pub last : (worked rs).counts.last ≡ 0
  pub sorts : (x : ℕ) → x < n → ((worked rs).entity x).sort ≡ declared_sort (F.entity x).sort

module _ (F : Trail) (cap : Capacity) (room : EnoughRows cap F.counts)
    (few : F.counts.entities ≤ F.counts.versions) where
  declares_next : (n : ℕ) (rs : List Record) → n < F.counts.entities → Declared cap F n rs → Declared cap F (suc n) (declaration_record F n ∷ rs)
  unfolding refusal_of change_of
  declares_next n rs l o = record {
    by = ((declared_low (F.entity n).sort, passes), o.by);
    items = o.items;
    entities = omega (arith, o.entities);
    versions = omega (arith, o.versions);
    edges = o.edges;
    accepted = o.accepted;
    last = o.last;
    sorts = λ x h. go x h (ℕ_discrete x n);
  }
    where
      passes : refusal_of cap (worked rs) (declaration_record F n) ≡ Ok tt
      passes = declaration-passes cap (worked rs).counts _ (record {
        next = sym o.entities;
        entities_left = omega (arith, o.entities, room.entities);
        versions_left = omega (arith, o.versions, room.versions);
      })

      go : (x : ℕ) → x < suc n → Dec (x ≡ n) → ((worked (declaration_record F n ∷ rs)).entity x).sort ≡ declared_sort (F.entity x).sort
      go x h (yes q) =
          ap (λ (y : ℕ). ((worked (declaration_record F n ∷ rs)).entity y).sort) (q ∙ sym o.entities)
          ∙ ap (λ (r : EntityRow). r.sort) (put_same (worked rs).entity _ _) ∙ ap (λ (y : ℕ). declared_sort (F.entity y).sort) (sym q)
      go x h (no q) =
          ap (λ (r : EntityRow). r.sort) (put_other (worked rs).entity _ _ x (λ z. q (z ∙ o.entities))) ∙ o.sorts x (omega arith)

  pub declares : (n : ℕ) → n ≤ F.counts.entities → Declared cap F n (descending (declaration_record F) n)
  declares zero l = record {
    by = tt;
    items = refl;
    entities = refl;
    versions = refl;
    edges = refl;
    accepted = refl;
    last = refl;
    sorts = λ x h. absurd (omega arith);
  }
  declares (suc n) l = declares_next n _ l (declares n (omega arith))
