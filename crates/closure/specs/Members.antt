-- Document 02, 2.2: what lists of entities give in a forward trace, said of the calls themselves.
use Rattle.std.specs.Prelude.{ℕ, ◌<◌, ◌≡◌, ◌↔◌, get_or}
use mathlib.Core.List.{List, [], ◌∷◌, Memᴰ}
use Rattle.rows.specs.declared.Counts.{Counts}
use Rattle.rules.specs.Trail.{Tables, trail_of}
use Rattle.rules.specs.Start.{StartVersion, IsIntake}
use Rattle.rules.specs.Members.{OfAny, IsEarliest}
use Rattle.rules.specs.Forward.{ForwardMarks, ForwardTrace, forward_of}
use Rattle.closure.specs.ByRelations.{CountOf, Marking, IsForwardTrace}

-- the same members, in any order, each any number of times
abbrev pub SameMembers : List ℕ → List ℕ → Type 0
SameMembers us us' = (u : ℕ) → Memᴰ u us ↔ Memᴰ u us'

-- alone u is the trace of the list of u, lent the same as the trace f of the list us
module _ (us : List ℕ) (alone : ℕ → ForwardTrace) where
  -- the byte of place k is 1 in what one of the members leaves alone
  abbrev pub MarkedAlone : (ForwardTrace → List ℕ) → ℕ → Type 0
  MarkedAlone buffer = OfAny us (λ u k. get_or (buffer (alone u)) k 0 ≡ 1)

  -- "mark what any of them marks alone .. The count is of the union; the intake given is the earliest of the members', 0 for an empty list."
  pub record Union (c : Counts) (f : ForwardTrace) : Type 0 where
    pub member : (u : ℕ) → Memᴰ u us → (alone u).answer.refusal ≡ 0
    pub work : (w : ℕ) → w < c.versions → (get_or f.work w 0 ≡ 1) ↔ MarkedAlone (λ g. g.work) w
    pub marks : (x : ℕ) → x < c.entities → (get_or f.marks x 0 ≡ 1) ↔ MarkedAlone (λ g. g.marks) x
    pub count : CountOf (λ x. (x < c.entities) × MarkedAlone (λ g. g.marks) x) f.answer.count
    pub intake : IsEarliest us (λ u i. i ≡ (alone u).answer.intake) f.answer.intake

pub record Members : Type 0 where
  -- for any tables: those that are not sound are refused
  pub union : (c : Counts) (t : Tables) (us : List ℕ) (time : ℕ) (work marks : List ℕ) → (forward_of c t us time work marks).answer.refusal ≡ 0
      → Union us (λ u. forward_of c t (u ∷ []) time work marks) c (forward_of c t us time work marks)
  -- "One undeclared member gives 5", wherever it stands
  pub undeclared : (c : Counts) (t : Tables) (us : List ℕ) (time : ℕ) (work marks : List ℕ) (u : ℕ) → Memᴰ u us
      → (forward_of c t (u ∷ []) time work marks).answer.refusal ≡ 5 → (forward_of c t us time work marks).answer.refusal ≡ 5
  -- "Repeats change no mark": nor do they change anything else, refused calls too; and the order of the list does not matter
  pub same_members : (c : Counts) (t : Tables) (us us' : List ℕ) → SameMembers us us' → (time : ℕ) (work marks : List ℕ)
      → forward_of c t us time work marks ≡ forward_of c t us' time work marks
  -- document 01's forward trace, of one entity
  pub one : (c : Counts) (t : Tables) (u time : ℕ) (work marks : List ℕ) (f : ForwardTrace) → IsForwardTrace c t (u ∷ []) time work marks f
      → f.answer.refusal ≡ 0 → (s : ℕ) × StartVersion (trail_of c t) u time s × IsIntake (trail_of c t) s time f.answer.intake
      × Marking (trail_of c t) (ForwardMarks (trail_of c t) s) work marks f.work f.marks f.answer.count
