-- The only answers that the claims allow for the worked file with the signature of the report after it.
use Prim.Native.Nat.{ℕ, ◌≤◌}
use native.Mathlib.Omega.{arith}
use mathlib.Core.Path.{◌≡◌, refl, ◌∙◌, ap, sym, subst}
use mathlib.Core.Bool.{Bool, cond}
use mathlib.Core.List.{List, [], ◌∷◌, Memᴰ}
use lib.ListN.{get_or}
use Rattle.rows.specs.declared.Counts.{Counts}
use Rattle.rows.specs.declared.EntityRow.{EntityRow}
use Rattle.rows.specs.Rows.{entity_row, entity_at}
use Rattle.rules.specs.declared.BatchAnswer.{BatchAnswer}
use Rattle.rules.specs.Trail.{Tables, counts, fresh_counts}
use Rattle.rules.specs.Batch.{batch_of}
use Rattle.rules.specs.KeptLog.{signed_one, signed_below, signature_record}
use Rattle.rules.specs.PlainList.{worked}
use Rattle.rules.specs.Calls.{batch, plain_after}
use Rattle.rules.specs.Worked.{room}
use Rattle.rules.specs.SignedCases.{signed_file}
use Rattle.rules.specs.SignedListCases.{signed_plain, worked_signed, worked_records, report_written}
use Rattle.rules.proofs.SignedListCases.{signed_list_cases}
use Rattle.rules.specs.Sound.{signed_sort}
use Rattle.rules.specs.History.{Item, accepted}
use Rattle.rules.specs.StandsFor.{last_time}
use Rattle.soundness.proofs.Sums.{sum_at}
use Rattle.soundness.proofs.Sorts.{sort-signed, signed-sort}
use Rattle.agreement.specs.Demand2.{Holds, Answered}
use Rattle.agreement.proofs.Left.{leaving}
use Rattle.agreement.proofs.Demand2.{demand2}
use Rattle.agreement.proofs.Determined.{determined}

module _ {c : Counts} {t : Tables} (h : Holds (signed_plain []) c t) where
  pub signed_counts : c ≡ counts 4 5 4 7 7
  signed_counts = h.counts ∙ signed_list_cases.plain_counts

  inside : (x : ℕ) → x ≤ 3 → entity_at t.entities x ≡ (worked (signed_plain [])).entity x
  inside x l = h.entity_rows x (let e = ap (λ (z : Counts). z.entities) signed_counts in omega arith)

  pub report_row : entity_at t.entities 2 ≡ entity_row 2 2
  report_row = inside 2 (omega arith) ∙ ap (λ (l : List EntityRow). get_or l 2 (entity_row 0 0)) signed_list_cases.plain_entities

  -- the same by what the claim says of signatures, and of the last time
  pub report_signed : (entity_at t.entities 2).sort ≡ signed_sort
  report_signed = signed-sort _ ((h.signatures 2).1 (subst (Memᴰ (signature_record 2)) (sym signed_list_cases.plain_signed) (Memᴰ.head refl))).1

  pub last_time_lem : c.last ≡ 7
  last_time_lem = h.last_is ∙ ap (λ (l : List (List Item)). last_time (accepted (get_or l 0 []))) signed_list_cases.plain_items

  pub study_row : entity_at t.entities 0 ≡ entity_row 0 0
  study_row = inside 0 (omega arith) ∙ ap (λ (l : List EntityRow). get_or l 0 (entity_row 0 0)) signed_list_cases.plain_entities

  -- at least the report is signed
  pub some_signed : 1 ≤ signed_below (entity_at t.entities) c.entities
  some_signed =
      let e = ap (λ (z : Counts). z.entities) signed_counts in
      let one : signed_one (entity_at t.entities 2) ≡ 1
      = ap (λ (b : Bool). cond b 1 0) (sort-signed (entity_at t.entities 2).sort (ap (λ (r : EntityRow). r.sort) report_row)) in
      omega (arith, sum_at signed_one (entity_at t.entities) c.entities 2 (omega arith))

pub not_written : (c : Counts) (t : Tables) → Holds (report_written ∷ worked_signed) c t → ⊥
not_written c t h = h.no_more (report_written ∷ []) worked_records 2 refl report_written (Memᴰ.head refl) refl

pub not_signed_again : (c : Counts) (t : Tables) → Holds (signature_record 2 ∷ worked_signed) c t → ⊥
not_signed_again c t h = h.no_more (signature_record 2 ∷ []) worked_records 2 refl (signature_record 2) (Memᴰ.head refl) refl

pub signed_answer_is : (bytes : List ℕ) (a : BatchAnswer) → Answered [] (room 8) (signed_file bytes) (plain_after (batch (room 8) (signed_file bytes) ∷ [])) a
    → a ≡ (batch_of fresh_counts (room 8) (signed_file bytes)).answer
signed_answer_is bytes a g =
    determined.answer [] (room 8) (signed_file bytes) _ a _ g (demand2.answer [] fresh_counts (room 8) (leaving.fresh (room 8)) (signed_file bytes))
