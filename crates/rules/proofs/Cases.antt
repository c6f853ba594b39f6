-- The worked trail and the order of refusals: every row is computed by the definitions, from the bytes of the file.
use mathlib.Core.Path.{refl}
use Rattle.rules.specs.Worked.{WorkedTrail}
use Rattle.rules.specs.Order.{OrderOfRefusals}
use Rattle.rules.proofs.Computed.{computed}

pub cases : WorkedTrail × OrderOfRefusals
unfolding computed
cases = (
  record {
    p1_answer = refl;
    p1_counts = refl;
    p1_edges = refl;
    p1_versions = refl;
    p1_entities = refl;
    p1_listing = refl;
    p2 = (refl, refl);
    p3_at_4 = (refl, refl);
    p3_at_5 = (refl, refl);
    p4 = (refl, refl);
    p5 = (refl, refl);
    p6 = (refl, refl);
    p7 = (refl, refl);
    p8 = (refl, refl);
    p9_at_0 = refl;
    p9_listing = refl;
    p9_at_1 = refl;
    p10 = refl;
    p11 = refl;
    p11_counts = refl;
    p11_versions = refl;
    p11_edges = refl;
    count_of_entities = refl;
    empty_file = refl;
    header_alone = refl;
    log_again = refl;
    log_104 = refl;
    log_103 = refl;
    log_bytes = refl;
    log_refused = refl;
  },
  record {
    r16_1 = refl;
    r1_2 = refl;
    r1_2_zeros = refl;
    r2_3 = refl;
    r3_4 = refl;
    r3_after = refl;
    r4_6 = refl;
    r4_5 = refl;
    r6_10 = refl;
    r10_11 = refl;
    r11 = refl;
    r5_7 = refl;
    r5_8 = refl;
    r7_8 = refl;
    r8_9 = refl;
    r8_target = refl;
    r9_13 = refl;
    r13_tie = refl;
    r12_tie = refl;
    r13_12 = refl;
    r13_repeat = refl;
    r12_11 = refl;
    r11_event = refl;
    r12_execve = refl;
    trace_16_5 = refl;
    trace_5_14 = refl;
    trace_14_work = refl;
    trace_14_marks = refl;
    trace_refused_marks = refl;
    log_16_15 = refl;
    log_15 = refl;
  },
)
