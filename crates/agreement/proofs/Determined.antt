-- The claims determine the answers: a byte is 0 or 1 and says whether the claim's relation holds; a relation has one count;
-- there is one earliest intake; rows and counts are given by equations; a plain list grew by as many records as it is longer.
use Prim.Native.Nat.{ℕ, ◌+◌}
use native.Mathlib.Omega.{arith}
use mathlib.Core.Path.{◌≡◌, sym, ◌∙◌, ap}
use mathlib.Core.Logic.{◌⊎◌, inl, inr}
use mathlib.Core.List.{List, [], ◌∷◌, reverse_aux, reverse_aux-eq}
use lib.ListN.{length, get_or, take}
use lib.Seq.{length-take-le}
use Rattle.rows.specs.declared.Counts.{Counts}
use Rattle.record.specs.declared.Record.{Record}
use Rattle.rules.specs.declared.BatchAnswer.{BatchAnswer}
use Rattle.rules.specs.Trail.{Tables, trail_of}
use Rattle.rules.specs.Batch.{contents_of}
use Rattle.rules.proofs.Members.{earliest_one}
use Rattle.closure.specs.Same.{SameRows}
use Rattle.closure.proofs.Descending.{count_one}
use Rattle.agreement.specs.Demand2.{Holds, Answered}
use Rattle.agreement.specs.Demand3.{MarksAre}
use Rattle.agreement.specs.Refuted.{SameMarks, Determined}

module _ {n : ℕ} {M : ℕ → Type 0} {marks marks' : List ℕ} {k k' : ℕ} (a : MarksAre n M marks k) (b : MarksAre n M marks' k') where
  marks_one : SameMarks n marks marks'
  marks_one x l = go (a.bits x l) (b.bits x l)
    where
      go : (get_or marks x 0 ≡ 0) ⊎ (get_or marks x 0 ≡ 1) → (get_or marks' x 0 ≡ 0) ⊎ (get_or marks' x 0 ≡ 1) → get_or marks x 0 ≡ get_or marks' x 0
      go (inl p) (inl q) = p ∙ sym q
      go (inl p) (inr q) = absurd (omega (arith, (a.marked x l).1 ((b.marked x l).0 q)))
      go (inr p) (inl q) = absurd (omega (arith, (b.marked x l).1 ((a.marked x l).0 p)))
      go (inr p) (inr q) = p ∙ sym q

  count_same : k ≡ k'
  count_same = count_one a.counted b.counted

module _ (rs : List Record) (c c' : Counts) (t t' : Tables) (h : Holds rs c t) (h' : Holds rs c' t') where
  counts_one : c ≡ c'
  counts_one = h.counts ∙ sym h'.counts

  rows_one : SameRows (trail_of c t) (trail_of c' t')
  rows_one =
      let e : c.entities ≡ c'.entities = ap (λ (z : Counts). z.entities) counts_one in
      let v : c.versions ≡ c'.versions = ap (λ (z : Counts). z.versions) counts_one in
      let d : c.edges ≡ c'.edges = ap (λ (z : Counts). z.edges) counts_one in
      record {
        entities = e;
        versions = v;
        edges = d;
        entity_rows = λ k l. h.entity_rows k l ∙ sym (h'.entity_rows k (omega arith));
        version_rows = λ k l. h.version_rows k l ∙ sym (h'.version_rows k (omega arith));
        edge_rows = λ k l. h.edge_rows k l ∙ sym (h'.edge_rows k (omega arith));
      }

-- a list turned round onto another has the elements of both
length_onto : (l r : List Record) → length (reverse_aux l r) ≡ length l + length r
length_onto [] r = omega arith
length_onto (x ∷ l) r = omega (arith, length_onto l (x ∷ r))

taken-length : (rs : List Record) (t : Tables) (file : List ℕ) (rs' : List Record) (a : BatchAnswer) → Answered rs t file rs' a → length rs' ≡ a.taken + length rs
taken-length rs t file rs' a g =
    let more = (contents_of file).records in
    ap length (g.grown ∙ sym (reverse_aux-eq (take a.taken more) rs)) ∙ length_onto (take a.taken more) rs
    ∙ ap (λ (k : ℕ). k + length rs) (length-take-le a.taken more g.among)

pub determined : Determined
determined = record {
  backward = λ rs v time work marks work' marks' b b' a a' z z'. (marks_one (a.marks_are z) (a'.marks_are z'), count_same (a.marks_are z) (a'.marks_are z'));
  forward = λ rs us time work marks work' marks' f f' a a' z z'. (
    marks_one (a.marks_are z) (a'.marks_are z'),
    count_same (a.marks_are z) (a'.marks_are z'),
    earliest_one (a.intake_is z) (a'.intake_is z'),
  );
  holds = λ rs c c' t t' h h'. (counts_one rs c c' t t' h h', rows_one rs c c' t t' h h');
  answer = λ rs t file rs' a a' g g'.
      let p : a.refusal ≡ a'.refusal = g.refusal ∙ sym g'.refusal in
      let q : a.taken ≡ a'.taken = omega (arith, taken-length rs t file rs' a g, taken-length rs t file rs' a' g') in
      let w : a.tried ≡ a'.tried = omega (arith, g.tried, g'.tried) in
      λ i. record { refusal = p i; taken = q i; tried = w i };
}
