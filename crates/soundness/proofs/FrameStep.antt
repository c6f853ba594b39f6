-- What one record that is taken in over sound tables leaves as it was lent.
use Rattle.std.specs.Prelude.{Ok}
use Prim.Native.Nat.{ℕ}
use native.Mathlib.Omega.{arith}
use mathlib.Core.Path.{◌≡◌, sym, subst, ◌∙◌, ap}
use mathlib.Core.Bool.{true}
use Rattle.refusals.specs.Refusals.{Checked}
use Rattle.rows.specs.declared.Counts.{Counts}
use Rattle.record.specs.declared.Event.{Event}
use Rattle.record.specs.declared.Record.{Record}
use Rattle.record.specs.declared.Record.TheVariants as records
use Rattle.rules.specs.declared.Decision.{Decision}
use Rattle.rules.specs.declared.Decision.TheVariants.{Repeat, Widen, Renew}
use Rattle.rules.specs.Trail.{Tables, Capacity, capacity_of, Trail, trail_of}
use Rattle.rules.specs.Sound.{is_sound}
use Rattle.rules.specs.Decide.{decision_of}
use Rattle.rules.specs.Record.{refusal_of, happened, change_of, written}
use Rattle.rules.specs.Batch.{results, answered}
use Rattle.soundness.specs.Facts.{RowFacts}
use Rattle.soundness.specs.Taken.{EventTaken, SortFits}
use Rattle.soundness.specs.Frame.{CountsGrow, RowsStay, Framed, counted_in}
use Rattle.soundness.proofs.Facts.{sound_rows}
use Rattle.soundness.proofs.Taken.{event-taken, signature_taken}
use Rattle.soundness.proofs.Written.{Within}
use Rattle.soundness.proofs.TableStep.{step_trail}
use Rattle.soundness.proofs.Past.{AllPastStay, past_written}
use Rattle.soundness.proofs.RowsStay.{step_stay}
use Rattle.soundness.proofs.Counted.{change-counted}

-- as many rows as are in use
abbrev in_use : Counts → Capacity
in_use c = record { entities = c.entities; versions = c.versions; edges = c.edges }

module _ (cap : Capacity) (T : Trail) (f : RowFacts T) where
  -- a record writes at rows that are in use after it
  happened_in_use : (e : Event) (d : Decision) → EventTaken cap T e d → Within (in_use (happened T e d).counts) (happened T e d).writes
  happened_in_use e (Repeat k) p = (p.room_left, tt)
  happened_in_use e Widen p = ((f.entity e.target.0 p.target_in).latest_in, (omega arith, tt))
  happened_in_use e Renew p = (omega arith, (p.target_in, (omega arith, tt)))

  writes_in_use : (r : Record) → refusal_of cap T r ≡ Ok tt → Within (in_use (change_of T r).counts) (change_of T r).writes
  unfolding refusal_of change_of
  writes_in_use (records.Declaration d) h = (omega arith, (omega arith, tt))
  writes_in_use (records.Event e) h = happened_in_use e (decision_of T e) (event-taken cap T e h)
  writes_in_use (records.Signature s) h = ((signature_taken T s h).entity_in, tt)

  -- what it makes of the counts
  happened_grow : (e : Event) (d : Decision) → EventTaken cap T e d → CountsGrow T.counts (happened T e d).counts
  happened_grow e (Repeat k) p = let l = p.not_earlier in search arith
  happened_grow e Widen p = let l = p.not_earlier in search arith
  happened_grow e Renew p = let l = p.not_earlier in search arith

  counts_grow : (r : Record) → refusal_of cap T r ≡ Ok tt → CountsGrow T.counts (change_of T r).counts
  unfolding refusal_of change_of
  counts_grow (records.Declaration d) h = search arith
  counts_grow (records.Event e) h = happened_grow e (decision_of T e) (event-taken cap T e h)
  counts_grow (records.Signature s) h = search arith

module _ (c : Counts) (t : Tables) (s : is_sound (capacity_of t) (trail_of c t) ≡ true) (r : Record) (fits : SortFits r) where
  abbrev cap : Capacity
  cap = capacity_of t

  abbrev T : Trail
  T = trail_of c t

  facts : RowFacts T
  facts = sound_rows cap T s

  module _ (h : refusal_of cap T r ≡ Ok tt) where
    past : AllPastStay (in_use (change_of T r).counts) t (written t (change_of T r).writes)
    past = past_written _ t (change_of T r).writes (writes_in_use cap T facts r h)

    pub step_framed : (x : Checked) (w : ℕ) → Framed c t (answered (results x 1 (change_of T r).counts (written t (change_of T r).writes)) w)
    step_framed x w = record {
      counts = counts_grow cap T facts r h;
      records_are = ap counted_in (step_trail c t r s h) ∙ change-counted cap T r fits h;
      entities = past.entities;
      versions = past.versions;
      edges = past.edges;
      rows = subst (RowsStay T) (sym (step_trail c t r s h)) (step_stay T cap r h facts);
      none_taken = λ e. absurd (omega arith);
    }
