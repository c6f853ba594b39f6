-- What a trace leaves where the versions of M are marked: its computed buffers and count, and that there is no other.
use Prim.Native.Nat.{ℕ, ◌≤◌, ◌<◌}
use native.Mathlib.Omega.{arith}
use mathlib.Core.Path.{◌≡◌}
use mathlib.Core.Logic.Iff
use mathlib.Core.Logic.{◌↔◌}
use mathlib.Core.List.{List}
use lib.ListN.{length}
use Rattle.rules.specs.Trail.{Trail}
use Rattle.rules.specs.Marks.{marks_below, ones, overlaid}
use Rattle.soundness.specs.Facts.{RowFacts}
use Rattle.closure.specs.Arcs.{Marked, Bits}
use Rattle.closure.specs.ByRelations.{MarksLeft, CountOf, HasMarkedVersion, Marking}
use Rattle.closure.proofs.Entities.{length-marks_below, bits_marks_below}
use Rattle.closure.proofs.Traces.{entities_iff}
use Rattle.closure.proofs.Descending.{count_one}
use Rattle.closure.proofs.Buffers.{marks-left, counted-ones, marks_one}

-- a work list w that marks the versions of M, and the marks of the entities that come of it
module _ (T : Trail) (f : RowFacts T) (M : ℕ → Type 0) (w : List ℕ) (l : length w ≡ T.counts.versions) (b : Bits w) (is : (k : ℕ) → Marked w k ↔ M k)
    (inside : (k : ℕ) → M k → k < T.counts.versions) where
  abbrev e : List ℕ
  e = marks_below T.version w T.counts.versions T.counts.entities

  owner_inside : (x : ℕ) → HasMarkedVersion T M x → x < T.counts.entities
  owner_inside x z = omega (arith, (f.version z.0 (inside z.0 z.1)).owner_in, z.2)

  pub marking : (work marks : List ℕ) → T.counts.versions ≤ length work → T.counts.entities ≤ length marks
      → Marking T M work marks (overlaid w work) (overlaid e marks) (ones e)
  marking work marks i j =
      let n = length-marks_below T.version w T.counts.versions T.counts.entities in
      let d = bits_marks_below T.version w T.counts.versions T.counts.entities in
      let o = entities_iff T w M is inside in
      record {
        versions = marks-left T.counts.versions w work l M b (λ k _. is k) inside i;
        entities = marks-left T.counts.entities e marks n (HasMarkedVersion T M) d o owner_inside j;
        counted = counted-ones T.counts.entities e marks n (HasMarkedVersion T M) d o owner_inside;
      }

pub marking_one : {T : Trail} {M : ℕ → Type 0} {work marks w e w' e' : List ℕ} {n n' : ℕ} → Marking T M work marks w e n → Marking T M work marks w' e' n'
    → (w ≡ w') × (e ≡ e') × (n ≡ n')
marking_one p q = (marks_one p.versions q.versions, marks_one p.entities q.entities, count_one p.counted q.counted)

-- of the same versions

pub count_of_iff : {M N : ℕ → Type 0} {n : ℕ} → ((x : ℕ) → M x ↔ N x) → CountOf M n → CountOf N n
count_of_iff h r = record { list = r.list; once = r.once; has = λ x. Iff.trans (r.has x) (h x); count_is = r.count_is }

marks_left_iff : {n : ℕ} {M N : ℕ → Type 0} {lent left : List ℕ} → ((x : ℕ) → M x ↔ N x) → MarksLeft n M lent left → MarksLeft n N lent left
marks_left_iff h g = record { same_length = g.same_length; bits = g.bits; marked = λ k. Iff.trans (g.marked k) (h k); untouched = g.untouched }

pub marking_iff : {T : Trail} {M N : ℕ → Type 0} {work marks w e : List ℕ} {n : ℕ} → ((x : ℕ) → M x ↔ N x) → Marking T M work marks w e n → Marking T N work marks w e n
marking_iff {T} {M} {N} h g = record { versions = marks_left_iff h g.versions; entities = marks_left_iff owned g.entities; counted = count_of_iff owned g.counted }
  where
    owned : (x : ℕ) → HasMarkedVersion T M x ↔ HasMarkedVersion T N x
    owned x = (λ z. (z.0, (h z.0).0 z.1, z.2), λ z. (z.0, (h z.0).1 z.1, z.2))
