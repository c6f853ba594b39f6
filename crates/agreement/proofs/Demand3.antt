-- Demand 3: every trace that a list of calls leads to agrees with the full list, since the tables that it is lent are those that the plain
-- list gives.
use Prim.Native.Nat.{ℕ}
use mathlib.Core.Path.{◌≡◌, refl, sym}
use mathlib.Core.Bool.{true}
use mathlib.Core.List.{List, [], ◌∷◌}
use Rattle.rows.specs.declared.Counts.{Counts}
use Rattle.rules.specs.Trail.{Tables, capacity_of, trail_of}
use Rattle.rules.specs.Sound.{is_sound}
use Rattle.rules.specs.PlainList.{items_of}
use Rattle.rules.specs.Backward.{backward_of}
use Rattle.rules.specs.Forward.{forward_of}
use Rattle.rules.specs.Calls.{Call, batch, backward, forward, held_after, Lent, AllLent, plain_after}
use Rattle.closure.proofs.ByRelations.{traces_by_relations}
use Rattle.causality.proofs.Theorem.{claims}
use Rattle.agreement.specs.Left.{LeftBy}
use Rattle.agreement.specs.Demand3.{BackwardAgrees, ForwardAgrees, TracesAgree, GainsAreKept, Demand3}
use Rattle.agreement.proofs.Plain.{taken_fine}
use Rattle.agreement.proofs.Matching.{Matches, matches, lent_sound}
use Rattle.agreement.proofs.Held.{known}
use Rattle.agreement.proofs.TraceAnswers.{backward_answer, forward_answer}
use Rattle.agreement.proofs.Left.{left_by}

module _ (cs : List Call) (a : AllLent cs) (t : Tables) (l : Lent (held_after cs) t) where
  m : Matches (held_after cs) (plain_after cs)
  m = matches cs a

  abbrev c : Counts
  c = (held_after cs).counts

  s : is_sound (capacity_of t) (trail_of c t) ≡ true
  s = lent_sound _ _ m t l

  backward-held : (x time : ℕ) (work marks : List ℕ) → BackwardAgrees (plain_after cs) x time work marks (backward_of c t x time work marks)
  backward-held x time work marks =
      backward_answer c t (plain_after cs) (known _ _ m t l) s (sym m.alike.counts) x time work marks _ ((traces_by_relations.backward c t x time work marks _).0 refl)

  forward-held : (us : List ℕ) (time : ℕ) (work marks : List ℕ) → ForwardAgrees (plain_after cs) us time work marks (forward_of c t us time work marks)
  forward-held us time work marks =
      forward_answer c t (plain_after cs) (known _ _ m t l) s (sym m.alike.counts) us time work marks _ ((traces_by_relations.forward c t us time work marks _).0 refl)

traces_agree : (cs : List Call) → AllLent cs → TracesAgree cs
traces_agree [] a = tt
traces_agree (batch t file ∷ cs) a = traces_agree cs a.1
traces_agree (backward t v time work marks ∷ cs) a = (backward-held cs a.1 t a.0 v time work marks, traces_agree cs a.1)
traces_agree (forward t us time work marks ∷ cs) a = (forward-held cs a.1 t a.0 us time work marks, traces_agree cs a.1)

gains_kept : (cs : List Call) → AllLent cs → GainsAreKept (items_of (plain_after cs))
gains_kept cs a later earlier e x q g = let f = taken_fine (matches cs a).taken in g.1 (g.0.0, (claims.any_working f.grown).gain later earlier e x q g.0.1)

pub demand3 : Demand3
demand3 cs a = (traces_agree cs a, gains_kept cs a)

-- of a trace lent what a list of calls leaves: it goes on the list
module _ {cs : List Call} {c : Counts} {t : Tables} (l : LeftBy cs c t) where
  pub next_backward : (x time : ℕ) (work marks : List ℕ) → BackwardAgrees (plain_after cs) x time work marks (backward_of c t x time work marks)
  next_backward x time work marks =
      left_by (λ k. BackwardAgrees (plain_after cs) x time work marks (backward_of k t x time work marks)) l
      (demand3 (backward t x time work marks ∷ cs) (l.rows, l.lent)).0.0

  pub next_forward : (us : List ℕ) (time : ℕ) (work marks : List ℕ) → ForwardAgrees (plain_after cs) us time work marks (forward_of c t us time work marks)
  next_forward us time work marks =
      left_by (λ k. ForwardAgrees (plain_after cs) us time work marks (forward_of k t us time work marks)) l
      (demand3 (forward t us time work marks ∷ cs) (l.rows, l.lent)).0.0
