-- The plain lists of the refutations, computed from the bytes of the files: the events accepted, kept or dropped, and how many entities.
use Prim.Native.Nat.{ℕ}
use mathlib.Core.Path.{◌≡◌, refl}
use mathlib.Core.List.{List, [], ◌∷◌, map}
use Rattle.refusals.specs.Refusals.{first_of}
use Rattle.rows.specs.Rows.{entity_no, entity_at, version_at, edge_at}
use Rattle.rows.specs.Capacity.{entity_capacity, version_capacity, edge_capacity}
use Rattle.record.specs.declared.Kind.{Kind}
use Rattle.record.specs.declared.Kind.TheVariants.{Read, Write}
use Rattle.record.specs.declared.Event.{Event}
use Rattle.record.specs.Layout.{kind_of}
use Rattle.record.specs.Header.{header_checks}
use Rattle.record.specs.Decode.{zero_checks, declaration_checks, event_checks, decode_of, decode_from}
use Rattle.rules.specs.Sound.{is_object, is_subject, is_signed, sum_below, source_fits, target_fits, may_follow}
use Rattle.rules.specs.Decide.{goes_to, newest_to, leaves, repeat_of, has_outgoing, decision_of}
use Rattle.rules.specs.Record.{declaration_refusals, early_refusals, room_refusals, event_refusals, refusal_of, change_of}
use Rattle.rules.specs.Batch.{read_from, contents_of}
use Rattle.rules.specs.History.{Item, kept, dropped}
use Rattle.rules.specs.PlainList.{put, worked, items_of, added, added_by}
use Rattle.rules.specs.MemberCases.{written_plain}
use Rattle.rules.specs.TickCases.{read_write, write_read, read_back, turns, plain_of}
use Rattle.rules.specs.KeptLog.{signed_in}
use Rattle.agreement.specs.Refuted.{worked_plain, longer_plain}

abbrev pub event : Kind → ℕ → ℕ → ℕ → Event
event k u v t = record { kind = k; source = entity_no u; target = entity_no v; time = t }

abbrev pub items_by_5 : List Item
items_by_5 = kept (event Read 3 1 5) ∷ dropped (event Write 1 2 4) ∷ dropped (event Read 0 1 3) ∷ kept (event Write 1 2 2) ∷ kept (event Read 0 1 1) ∷ []

abbrev pub items_by_7 : List Item
items_by_7 = dropped (event Read 3 1 7) ∷ kept (event Write 1 2 6) ∷ items_by_5

pub record Computed : Type 0 where
  pub items : items_of worked_plain ≡ items_by_7
  pub longer : items_of longer_plain ≡ kept (event Write 1 3 8) ∷ items_by_7
  pub unsigned : signed_in (worked worked_plain) ≡ 0
  pub entities : (worked longer_plain).counts.entities ≡ 4
  pub written : items_of written_plain ≡ kept (event Write 1 0 2) ∷ kept (event Read 0 1 1) ∷ []
  pub written_entities : (worked written_plain).counts.entities ≡ 3
  pub read-write : items_of (plain_of read_write) ≡ kept (event Write 1 2 1) ∷ kept (event Read 0 1 1) ∷ []
  pub write_read_lem : items_of (plain_of write_read) ≡ kept (event Read 0 1 1) ∷ kept (event Write 1 2 1) ∷ []
  pub read_back_lem : items_of (plain_of read_back) ≡ kept (event Write 1 0 1) ∷ kept (event Read 0 1 1) ∷ []
  pub by_turns : items_of (plain_of turns) ≡ kept (event Write 1 0 1) ∷ kept (event Read 0 1 1) ∷ kept (event Write 1 0 1) ∷ kept (event Read 0 1 1) ∷ []
  pub tick_entities : map (λ bytes. (worked (plain_of bytes)).counts.entities) (read_write ∷ write_read ∷ read_back ∷ turns ∷ []) ≡ 4 ∷ 4 ∷ 4 ∷ 4 ∷ []

pub computed : Computed
unfolding first_of entity_at version_at edge_at entity_capacity version_capacity edge_capacity kind_of header_checks zero_checks declaration_checks event_checks decode_of decode_from is_object is_subject is_signed sum_below source_fits target_fits may_follow goes_to newest_to leaves repeat_of has_outgoing decision_of declaration_refusals early_refusals room_refusals event_refusals refusal_of change_of read_from contents_of put added added_by
computed = record { items = refl; longer = refl; unsigned = refl; entities = refl; written = refl; written_entities = refl; read-write = refl; write_read_lem = refl; read_back_lem = refl; by_turns = refl; tick_entities = refl }
