-- What the cases compute with: a proof that names `computed` on its `unfolding` line unfolds all of it.
use Rattle.refusals.specs.Refusals.{first_of}
use Rattle.rows.specs.Rows.{entity_at, version_at, edge_at, put_entity, put_version, put_edge}
use Rattle.rows.specs.Capacity.{entity_capacity, version_capacity, edge_capacity}
use Rattle.record.specs.Layout.{kind_of}
use Rattle.record.specs.Header.{header_checks}
use Rattle.record.specs.Decode.{zero_checks, declaration_checks, event_checks, signature_checks, decode_of, decode_from}
use Rattle.record.specs.Encode.{encode_of}
use Rattle.rules.specs.Sound.{every, all_below, is_subject, is_object, is_signed, source_fits, target_fits, may_follow, sound_counts, sound_entity, sound_previous, sound_version, time_before, entity_test, version_test, edge_test, sum_below, is_sound}
use Rattle.rules.specs.Decide.{goes_to, newest_to, leaves, repeat_of, has_outgoing, decision_of}
use Rattle.rules.specs.Record.{declaration_refusals, early_refusals, room_refusals, event_refusals, signature_refusals, refusal_of, change_of, tried_for}
use Rattle.rules.specs.Batch.{read_from, contents_of, take_in, tried_in, batch_checks, results_of, tried_of, batch_of}
use Rattle.rules.specs.PlainList.{put, tried_over, added, added_by}
use Rattle.rules.specs.StandsFor.{stands_for}
use Rattle.rules.specs.Start.{start_from, start_of, times_into, intake_of}
use Rattle.rules.specs.Marks.{follow, pass, passes, seeded, closed, has_marked, marks_below, ones}
use Rattle.rules.specs.Backward.{is_followed, edges_back, steps_back, backward_arcs, backward_work, backward_entities, trace_checks, backward_of}
use Rattle.rules.specs.Forward.{edges_on, steps_on, forward_arcs, forward_work, forward_entities, forward_intake, forward_of}
use Rattle.rules.specs.KeptLog.{declared_sort, encoded_below, signature_bytes, signatures_below, log_version, log_bytes, log_checks, kept_log_of}
use Rattle.rules.specs.Listing.{decimal_in, spaced, edge_lines, record_no, refused_line, listing_of}
use Rattle.rules.specs.Worked.{batch, backward, forward, log}
use Rattle.rules.specs.RecordCases.{grown, grown_then_declared}
use Rattle.rules.specs.TriedCases.{events_from}

unfoldable pub computed : Type 0
unfolding first_of entity_at version_at edge_at put_entity put_version put_edge entity_capacity version_capacity edge_capacity kind_of header_checks zero_checks declaration_checks event_checks signature_checks decode_of decode_from encode_of every all_below is_subject is_object is_signed source_fits target_fits may_follow sound_counts sound_entity sound_previous sound_version time_before entity_test version_test edge_test sum_below is_sound goes_to newest_to leaves repeat_of has_outgoing decision_of declaration_refusals early_refusals room_refusals event_refusals signature_refusals refusal_of change_of tried_for read_from contents_of take_in tried_in batch_checks results_of tried_of batch_of start_from start_of times_into intake_of follow pass passes seeded closed has_marked marks_below ones is_followed edges_back steps_back backward_arcs backward_work backward_entities trace_checks backward_of edges_on steps_on forward_arcs forward_work forward_entities forward_intake forward_of declared_sort encoded_below signature_bytes signatures_below log_version log_bytes log_checks kept_log_of decimal_in spaced edge_lines record_no refused_line listing_of put tried_over added added_by stands_for batch backward forward log grown grown_then_declared events_from
computed = Unit {0}
