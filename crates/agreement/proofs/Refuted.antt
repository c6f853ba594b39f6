-- Each wrong answer contradicts the claim: the worked list of calls has one answer (`WorkedAnswers`), and it is another.
use Rattle.std.specs.Prelude.{Ok, Err}
use Prim.Native.Nat.{ℕ, ◌+◌}
use native.Mathlib.Omega.{arith}
use mathlib.Core.Path.{◌≡◌, refl, sym, ◌∙◌, ap}
use mathlib.Core.Bool.{Bool, true, false, cond}
use mathlib.Core.List.Memᴰ
use mathlib.Core.List.{List, [], ◌∷◌}
use lib.ListN.{length, replicate}
use lib.Dec.{leb, ltb}
use Rattle.refusals.specs.declared.Refusal.TheVariants.{Unsound, Undeclared, BufferShort}
use Rattle.refusals.specs.Refusals.{first_of, refusal_no, number_of}
use Rattle.rows.specs.declared.Counts.{Counts}
use Rattle.record.specs.declared.Record.{Record}
use Rattle.rows.specs.declared.EntityRow.{EntityRow}
use Rattle.rows.specs.declared.VersionRow.{VersionRow}
use Rattle.rows.specs.declared.EdgeRow.{EdgeRow}
use Rattle.rules.specs.declared.BatchAnswer.{BatchAnswer}
use Rattle.rules.specs.declared.BackwardAnswer.{BackwardAnswer}
use Rattle.rules.specs.Trail.{Trail, Tables}
use Rattle.rules.specs.PlainList.{worked, tried_over}
use Rattle.rules.specs.Calls.{plain_after}
use Rattle.rules.specs.Worked.{room, file}
use Rattle.rules.specs.StandsFor.{stands_for, last_time}
use Rattle.rules.specs.Backward.{backward_of, buffer_checks, trace_refusals}
use Rattle.rules.specs.Members.{IsEarliest}
use Rattle.rules.specs.CallCases.{execves}
use Rattle.rules.proofs.Computed.{computed}
use Rattle.rules.proofs.MemberCases.{member_cases}
use Rattle.rules.proofs.Members.{earliest_one}
use Rattle.rules.specs.Batch.{Batched}
use Rattle.rules.specs.Order.{event}
use Rattle.rules.proofs.SignedCases.{signed_cases}
use Rattle.closure.proofs.Checked.{undeclared_refused}
use Rattle.agreement.specs.Demand2.{Answered}
use Rattle.agreement.specs.RoundTrip.{SameTrail, SameCalls}
use Rattle.agreement.specs.Refuted.{worked_calls, worked_plain, NoAnswer, Refuted}
use Rattle.agreement.proofs.WorkedAnswers.{rows, entities_are, versions_are, edges_are, accepted_are, last_is, stager_row, report_version, edge_at_1, edge_at_6, answer_is, p4_count, four, unsigned-batch, not_refused, log_not_refused, backward_is, forward_is}
use Rattle.agreement.proofs.NoEdge.{no_edge_traced}
use Rattle.agreement.proofs.LongerPaths.{montage_back, study_forward, montage_forward}
use Rattle.agreement.proofs.OwnIntakes.{subject_not_marked}
use Rattle.agreement.proofs.GainDropped.{time_6_kept}
use Rattle.agreement.proofs.SignedAnswers.{signed_counts, report_row, report_signed, last_time_lem, study_row, some_signed, not_written, not_signed_again, signed_answer_is}

-- what the claim says of the trail that took the log in: as many edges, the same backward traces
same_edges : {T U : Trail} → SameTrail T U → U.counts.edges ≡ T.counts.edges
same_edges s = s.edges

same_backward : {c c' : Counts} {t t' : Tables} → SameCalls c t c' t' → (v time : ℕ) (work marks : List ℕ)
    → (backward_of c' t' v time work marks).answer ≡ (backward_of c t v time work marks).answer
same_backward s = s.backward_answer

-- the plain list refuses no trace with 16
not_16 : (rs : List Record) (xs work marks : List ℕ) → number_of (first_of (trace_refusals (worked rs).counts xs work marks)) ≡ refusal_no Unsound → ⊥
unfolding first_of
not_16 rs [] work marks = go (ltb (length work) (worked rs).counts.versions) (ltb (length marks) (worked rs).counts.entities)
  where
    go : (b d : Bool) → number_of (cond b (Err BufferShort) (cond d (Err BufferShort) (Ok tt))) ≡ refusal_no Unsound → ⊥
    go true d q = omega arith
    go false true q = omega arith
    go false false q = omega arith
not_16 rs (x ∷ xs) work marks = go (leb (worked rs).counts.entities x) (not_16 rs xs work marks)
  where
    go : (a : Bool) → (number_of (first_of (trace_refusals (worked rs).counts xs work marks)) ≡ refusal_no Unsound → ⊥)
        → number_of (cond a (Err Undeclared) (first_of (trace_refusals (worked rs).counts xs work marks))) ≡ refusal_no Unsound → ⊥
    go true ih q = omega arith
    go false ih q = ih q

-- the worked trail has no entity 4
four_undeclared : (work marks : List ℕ) → number_of (first_of (trace_refusals (worked worked_plain).counts (1 ∷ 4 ∷ []) work marks)) ≡ 5
four_undeclared work marks =
    let n = (worked worked_plain).counts in
    ap number_of (undeclared_refused n.entities (buffer_checks n work marks) (1 ∷ 4 ∷ []) 4 (Memᴰ.tail (Memᴰ.head refl)) (omega (arith, four)))

-- of two execves and a read that repeats both, the first execve's edge stands for that event alone, the second's for the read too
execves_edges : (worked execves).counts.edges ≡ 2
unfolding computed
execves_edges = refl

execves_first : length (stands_for execves 0) ≡ 1
unfolding computed
execves_first = refl

execves_last : last_time (stands_for execves 1) ≡ 3
unfolding computed
execves_last = refl

-- for the read, the newest edge alone is tried
execves_tries : tried_over execves ≡ tried_over [] + 1
unfolding computed
execves_tries = refl

tries : (a : BatchAnswer) → Answered [] (room 8) (file 1) (plain_after (worked_calls 8)) a → a.tried ≡ 11
tries a g = ap (λ (z : BatchAnswer). z.tried) (answer_is 8 a g ∙ rows.p1_answer)

eleven : (k : ℕ) → (k ≡ 11 → ⊥) → NoAnswer 8 (λ a. a.taken ≡ k)
eleven k n a w g = n (sym w ∙ ap (λ (z : BatchAnswer). z.taken) (answer_is 8 a g ∙ rows.p1_answer))

pub refuted : Refuted
refuted = record {
  backward_only_itself = λ work marks b z w a. let e = w 0 (omega arith) ((backward_is rows.p4 b a z).0 0 (omega arith)) in omega arith;
  forward_only_itself = λ work marks f z w a. let e = w 1 (omega arith) ((forward_is rows.p5 f a z).0 1 (omega arith)) in omega arith;
  backward_same_marks = λ work marks b b' z z' s a a'.
      omega (arith, s 0 (omega arith), (backward_is rows.p2 b a z).0 0 (omega arith), (backward_is rows.p4 b' a' z').0 0 (omega arith));
  forward_same_marks = λ work marks f f' z z' s a a'.
      omega (arith, s 0 (omega arith), (forward_is rows.p5 f a z).0 0 (omega arith), (forward_is rows.p8 f' a' z').0 0 (omega arith));
  forward_report_missed = λ work marks f z w a. omega (arith, (forward_is rows.p5 f a z).0 2 (omega arith));
  backward_montage_at_4 = λ work marks b z w a. omega (arith, (backward_is rows.p3_at_4 b a z).0 3 (omega arith));
  backward_montage_at_5 = λ work marks b z w a. omega (arith, (backward_is rows.p3_at_5 b a z).0 3 (omega arith));
  forward_from_t_alone = λ work marks f z w a. let e = w 1 (omega arith) ((forward_is rows.p8 f a z).0 1 (omega arith)) in omega arith;
  forward_study_at_4 = λ work marks f z w a. omega (arith, (forward_is rows.p6 f a z).0 0 (omega arith));
  backward_without_previous = λ work marks b z w a. omega (arith, montage_back b a z);
  forward_without_version_steps = λ work marks f z w a. omega (arith, study_forward f a z);
  forward_before_intake = λ work marks f z w a. montage_forward f a z w;
  backward_other_byte = λ work marks b z w a. w.0 ((backward_is rows.p3_at_4 b a z).0 3 (omega arith));
  forward_other_byte = λ work marks f z w a. w.0 ((forward_is rows.p6 f a z).0 0 (omega arith));
  backward_other_count = λ work marks b z w a. w (backward_is rows.p4 b a z).1;
  forward_other_count = λ work marks f z w a. w (forward_is rows.p5 f a z).1;
  intake_zero = λ work marks f z w a. omega (arith, (forward_is rows.p6 f a z).2);
  intake_free = λ work marks f z w a. w (forward_is rows.p6 f a z).2;
  intake_latest = λ work marks f z w a. omega (arith, (forward_is member_cases.two f a z).2);
  intake_of_none = λ work marks f z w a. w (earliest_one (a.intake_is z) (IsEarliest.empty refl refl));
  first_left_out = λ work marks f z w a. omega (arith, (forward_is member_cases.studies f a z).0 0 (omega arith));
  last_left_out = λ work marks f z w a. omega (arith, (forward_is member_cases.studies f a z).0 3 (omega arith));
  counts_added = λ work marks f z w a. omega (arith, (forward_is member_cases.studies f a z).1);
  marks_of_none = λ work marks f z w a. Memᴰ.not-nil (((a.marks_are z).marked 0 (omega (arith, four))).0 w).1;
  all_from_the_earliest = λ work marks f z w a. subject_not_marked f a z w;
  undeclared_taken = λ work marks f z w a. omega (arith, a.refusal, four_undeclared work marks);
  none_refused = λ work marks f l m w a. w (a.refusal ∙ not_refused [] work marks (λ x i. absurd (Memᴰ.not-nil i)) l m);
  backward_refused = λ work marks b z a. not_16 worked_plain (2 ∷ []) work marks (sym a.refusal ∙ z);
  forward_refused = λ work marks f z a. not_16 worked_plain (3 ∷ []) work marks (sym a.refusal ∙ z);
  backward_always_refused = λ work marks b l m w a. w (a.refusal ∙ not_refused (2 ∷ []) work marks (λ x i. let q = Memᴰ.eq_of_singleton i in omega arith) l m);
  forward_always_refused = λ work marks f l m w a. w (a.refusal ∙ not_refused (3 ∷ []) work marks (λ x i. let q = Memᴰ.eq_of_singleton i in omega arith) l m);
  no_edge = λ c t w h. omega (arith, edges_are h);
  no_edge_traced = no_edge_traced;
  time_6_dropped = λ c t w h. omega (arith, edges_are h);
  widen_always = λ c t w h. omega (arith, versions_are h);
  renew_always = λ c t w h. omega (arith, versions_are h);
  version_each_event = λ c t w h. omega (arith, versions_are h);
  first_record_counted = λ c t w h. omega (arith, entities_are h);
  accepted_free = λ c t w h. w (accepted_are h);
  last_without_repeat = λ c t w h. omega (arith, last_is h);
  edge_from_older = λ c t w h. omega (arith, ap (λ (r : EdgeRow). r.from.0) (edge_at_6 h));
  end_not_widened = λ c t w h. omega (arith, ap (λ (r : VersionRow). r.end) (report_version h));
  latest_not_new = λ c t w h. omega (arith, ap (λ (r : EntityRow). r.latest.0) (stager_row h));
  repeat_not_counted = λ c t w h. omega (arith, ap (λ (r : EdgeRow). r.count) (edge_at_1 h));
  repeat_counted_elsewhere = λ c t w h. omega (arith, ap (λ (r : EdgeRow). r.count) (edge_at_6 h));
  last_not_set = λ c t w h. omega (arith, ap (λ (r : EdgeRow). r.last) (edge_at_1 h));
  last_of_the_trail = λ c t w h. omega (arith, ap (λ (r : EdgeRow). r.last) (edge_at_1 h));
  sum_free = λ c t w h. w (h.sum_is ∙ sym h.accepted_are ∙ accepted_are h);
  count_on_the_oldest = λ c t w h.
      let n = ap (λ (z : Counts). z.edges) h.counts in
      omega (arith, h.counts_are 0 (omega (arith, execves_edges)), execves_first);
  last_of_the_kept = λ c t w h.
      let n = ap (λ (z : Counts). z.edges) h.counts in
      omega (arith, h.lasts_are 1 (omega (arith, execves_edges)), execves_last);
  all_refused = eleven 0 (λ q. omega arith);
  first_record_taken = eleven 1 (λ q. omega arith);
  no_row_left = eleven 9 (λ q. omega arith);
  full_before_repeat = λ a w g. omega (arith, ap (λ (z : BatchAnswer). z.taken) (answer_is 4 a g ∙ rows.p10));
  refused_for_nothing = λ a w g. w (ap (λ (z : BatchAnswer). z.refusal) (answer_is 8 a g ∙ rows.p1_answer));
  refused_for_another = λ a w g. w (ap (λ (z : BatchAnswer). z.refusal) (answer_is 3 a g ∙ rows.p11));
  more_than_the_file = eleven 12 (λ q. omega arith);
  hit_not_counted = λ a w g. omega (arith, tries a g);
  tried_from_the_oldest = λ a w g. omega (arith, tries a g);
  all_tried = λ a w g. omega (arith, tries a g);
  tried_free = λ a w g. w (tries a g);
  refused_tried = λ a w g. omega (arith, ap (λ (z : BatchAnswer). z.tried) (answer_is 3 a g ∙ rows.p11));
  execves_tried = λ t file a w g. omega (arith, g.tried, execves_tries);
  gain_dropped = λ hs q w g. let k = time_6_kept hs q g in w k.0 k.1 k.2;
  log_always_refused = λ c t out k l w a. w (a.refusal ∙ log_not_refused out l);
  log_of_no_event = λ b w a. omega (arith, same_edges a.same, ap (λ (z : Counts). z.edges) rows.p1_counts);
  log_refused = λ b w a. w a.refusal;
  log_taken_free = λ b w a.
      let x = ap (λ (z : Counts). z.entities) rows.p1_counts in
      let y = ap (λ (z : Counts). z.edges) rows.p1_counts in
      w (omega (arith, a.taken, unsigned-batch));
  log_counts_kept = λ b w a. w (a.counts_one 0 (omega (arith, ap (λ (z : Counts). z.edges) rows.p1_counts)));
  log_lasts_kept = λ b w a. w (a.lasts_own 0 (omega (arith, ap (λ (z : Counts). z.edges) rows.p1_counts)));
  log_other_trace = λ b w a. w (ap (λ (z : BackwardAnswer). z.count) (same_backward a.calls 2 6 (replicate 6 9) (replicate 5 9)) ∙ p4_count);
  signature_lost = λ c t w h. omega (arith, report_signed h);
  other_signed = λ c t w h. omega (arith, ap (λ (r : EntityRow). r.sort) (study_row h));
  latest_lost = λ c t w h. w (ap (λ (r : EntityRow). r.latest.0) (report_row h));
  signature_accepted = λ c t w h. omega (arith, ap (λ (z : Counts). z.accepted) (signed_counts h));
  last_moved = λ c t w h. w (last_time_lem h);
  written_after = not_written;
  signed_twice = not_signed_again;
  signature_refused = λ a w g. w (ap (λ (z : BatchAnswer). z.refusal) (signed_answer_is [] a g ∙ signed_cases.signed_answer));
  signature_not_taken = λ a w g. omega (arith, ap (λ (z : BatchAnswer). z.taken) (signed_answer_is [] a g ∙ signed_cases.signed_answer));
  write_not_refused = λ a w g.
      w (ap (λ (z : BatchAnswer). z.refusal) (signed_answer_is (event 2 1 2 8) a g ∙ ap (λ (b : Batched). b.answer) signed_cases.repeat_left));
  log_signature_lost = λ c t h b w a.
      let e = ap (λ (z : Counts). z.entities) (signed_counts h) in
      omega (arith, ap (λ (r : EntityRow). r.sort) (report_row h), a.same.sorts 2 (omega arith));
  log_signature_not_taken = λ c t h b w a.
      omega (arith, a.taken, some_signed h, ap (λ (z : Counts). z.entities) (signed_counts h), ap (λ (z : Counts). z.edges) (signed_counts h));
}
