-- The parts of a list of events: those by a time, those after the latest kept intake.
use Prim.Native.Nat.{ℕ, ◌≤◌, ◌<◌}
use native.Mathlib.Omega.{arith}
use mathlib.Core.Path.{◌≡◌, refl, ◌∙◌, ap}
use mathlib.Core.Logic.{◌⊎◌, ⊎_elim}
use mathlib.Core.Bool.{Bool, true, false, cond}
use mathlib.Core.List.{List, [], ◌∷◌}
use lib.Dec.{leb}
use borrow.Author.Tests.{leb-true, le-leb}
use Rattle.record.specs.declared.Event.{Event}
use Rattle.rules.specs.Paths.{Part, done, skip, take, All}
use Rattle.rules.specs.History.{Item, kept, dropped, accepted, into, since, intake_time}
use Rattle.rules.proofs.Intake.{by_cases}
use Rattle.causality.proofs.Reach.{part_nil}

-- an event enters u by t, or it does not
abbrev pub IntoCase : ℕ → ℕ → Event → Type 0
IntoCase u t e =
    ((e.target.0 ≡ u) × (e.time ≤ t) × (into u t e ≡ true)) ⊎ ((e.target.0 ≡ u → e.time ≤ t → ⊥) × (into u t e ≡ false))

pub into_cases : (u t : ℕ) (e : Event) → IntoCase u t e
unfolding into
into_cases u t e = by_cases e.target.0 u e.time t

-- the events with time ≤ t
unfoldable pub up_to : ℕ → List Event → List Event
up_to t [] = []
up_to t (e ∷ es) = cond (leb e.time t) (e ∷ up_to t es) (up_to t es)

pub up_to_in : (t : ℕ) (e : Event) (es : List Event) → e.time ≤ t → up_to t (e ∷ es) ≡ e ∷ up_to t es
unfolding up_to
up_to_in t e es l = rw (le-leb e.time t l)

pub up_to_out : (t : ℕ) (e : Event) (es : List Event) → t < e.time → up_to t (e ∷ es) ≡ up_to t es
unfolding up_to
up_to_out t e es l = go (leb e.time t) refl
  where
    go : (b : Bool) → leb e.time t ≡ b → cond b (e ∷ up_to t es) (up_to t es) ≡ up_to t es
    go true q = absurd (omega (arith, leb-true e.time t q))
    go false q = refl

pub up_to_all : (t : ℕ) (es : List Event) → All (λ e. e.time ≤ t) es → up_to t es ≡ es
up_to_all t [] a = unfold up_to in refl
up_to_all t (e ∷ es) a = up_to_in t e es a.0 ∙ ap (λ (l : List Event). e ∷ l) (up_to_all t es a.1)

pub up_to_part : (t : ℕ) (es : List Event) → Part (up_to t es) es
unfolding up_to
up_to_part t [] = done
up_to_part t (e ∷ es) = go (leb e.time t) (up_to_part t es)
  where
    go : (b : Bool) → Part (up_to t es) es → Part (cond b (e ∷ up_to t es) (up_to t es)) (e ∷ es)
    go true s = take s
    go false s = skip s

-- where no accepted event enters u by t, all are after its latest kept intake, and its time is 0
module _ (u t : ℕ) where
  abbrev NotInto : Event → Type 0
  NotInto e = e.target.0 ≡ u → e.time ≤ t → ⊥

  into_false : (e : Event) → NotInto e → into u t e ≡ false
  into_false e n = ⊎_elim (λ c. absurd (n c.0 c.1)) (λ c. c.1) (into_cases u t e)

  pub since_all : (hs : List Item) → All NotInto (accepted hs) → since u t hs ≡ accepted hs
  unfolding since
  since_all [] n = refl
  since_all (dropped e ∷ hs) n = ap (λ (l : List Event). e ∷ l) (since_all hs n.1)
  since_all (kept e ∷ hs) n = rw (into_false e n.0) (ap (λ (l : List Event). e ∷ l) (since_all hs n.1))

  pub intake_time-none : (hs : List Item) → All NotInto (accepted hs) → intake_time u t hs ≡ 0
  unfolding intake_time
  intake_time-none [] n = refl
  intake_time-none (dropped e ∷ hs) n = intake_time-none hs n.1
  intake_time-none (kept e ∷ hs) n = rw (into_false e n.0) (intake_time-none hs n.1)

pub since_part : (u t : ℕ) (hs : List Item) → Part (since u t hs) (accepted hs)
unfolding since
since_part u t [] = done
since_part u t (dropped e ∷ hs) = take (since_part u t hs)
since_part u t (kept e ∷ hs) = go (into u t e) (since_part u t hs)
  where
    go : (b : Bool) → Part (since u t hs) (accepted hs) → Part (cond b [] (e ∷ since u t hs)) (e ∷ accepted hs)
    go true s = part_nil (e ∷ accepted hs)
    go false s = take s
