-- What stays of the rows in use when a record is taken in.
use Rattle.std.specs.Prelude.{Ok}
use Prim.Native.Nat.{ℕ, ◌≤◌, ◌<◌}
use native.Mathlib.Omega.{arith}
use mathlib.Core.Path.{◌≡◌, refl, ap}
use mathlib.Core.Logic.{◌⊎◌, inl, inr, ⊎_elim}
use mathlib.Core.Bool.{true}
use Rattle.rows.specs.declared.EntityRow.{EntityRow}
use Rattle.rows.specs.declared.VersionRow.{VersionRow}
use Rattle.record.specs.declared.Declaration.{Declaration}
use Rattle.record.specs.declared.Event.{Event}
use Rattle.record.specs.declared.Record.{Record}
use Rattle.record.specs.declared.Record.TheVariants as records
use Rattle.rows.specs.Rows.{entity_row}
use Rattle.record.specs.declared.Signature.{Signature}
use Rattle.rules.specs.declared.Decision.{Decision}
use Rattle.rules.specs.declared.Decision.TheVariants.{Repeat, Widen, Renew}
use Rattle.rules.specs.Trail.{Capacity, Trail, latest_of}
use Rattle.rules.specs.Decide.{decision_of}
use Rattle.rules.specs.Record.{declared, renewed, refusal_of, happened, change_of, signed}
use Rattle.rules.specs.PlainList.{put, changed}
use Rattle.rules.specs.Sound.{is_signed}
use Rattle.soundness.specs.Facts.{RowFacts}
use Rattle.soundness.specs.Taken.{EventTaken, SignatureTaken}
use Rattle.soundness.specs.Frame.{SameOrMore, RowsStay, SignedStays}
use Rattle.soundness.proofs.Put.{put_other, put_cases}
use Rattle.soundness.proofs.Taken.{event-taken, signature_taken}
use Rattle.soundness.proofs.Extends.{Extends}
use Rattle.soundness.proofs.Declared.{declared_extends, other_entity}
use Rattle.soundness.proofs.Repeated.{repeated_extends, repeated_edges}
use Rattle.soundness.proofs.Kept.{old_row}
use Rattle.soundness.proofs.Widened.{widened_extends}
use Rattle.soundness.proofs.Renewed.{renewed_extends}
use Rattle.soundness.proofs.Signed.{signed_extends, latest_same}
use Rattle.soundness.proofs.SignedStay.{declared_keeps, signed_keeps, happened_keeps}

-- the latest version of entity x in T' is the one it has in T, or one that was added
abbrev pub LatestOrAdded : Trail → Trail → ℕ → Type 0
LatestOrAdded T T' x = (latest_of T' x ≡ latest_of T x) ⊎ ((T.counts.versions ≤ latest_of T' x) × (latest_of T' x < T'.counts.versions))

module _ (T : Trail) where
  -- what is left to show of T' where it extends T: latest versions, ends, counts of edges, and what stays of signed objects
  abbrev Latest : Trail → Type 0
  Latest T' = (x : ℕ) → x < T.counts.entities → LatestOrAdded T T' x

  abbrev Ends : (ℕ → VersionRow) → Type 0
  Ends W = (k : ℕ) → k < T.counts.versions → (T.version k).end ≤ (W k).end

  abbrev Counted : Trail → Type 0
  Counted T' = (k : ℕ) → k < T.counts.edges → SameOrMore T T' k

  abbrev Kept : Trail → Type 0
  Kept T' = (x : ℕ) → x < T.counts.entities → is_signed (T.entity x).sort ≡ true → SignedStays T T' x

  extends_stay : (T' : Trail) → Extends T T' → Latest T' → Ends T'.version → Counted T' → Kept T' → RowsStay T T'
  extends_stay T' g latest ends counted kept = record {
    sort_same_or_signed = g.sort_stays;
    latest_or_added = latest;
    owner_same = g.owner_same;
    start_same = g.start_same;
    end_le = ends;
    previous_same = g.previous_same;
    signed_stays = kept;
    edge_same_or_more = counted;
  }

  -- a version added leaves the ends of those before it
  added_ends : (r : VersionRow) → Ends (put T.version T.counts.versions r)
  added_ends r k l = rw (put_other T.version T.counts.versions r k (λ e. omega arith)) (omega arith)

  declared_stay : (d : Declaration) → RowsStay T (changed T (declared T.counts d))
  declared_stay d =
      extends_stay _ (declared_extends T d) (λ x l. inl (ap (λ (r : EntityRow). r.latest.0) (other_entity T d x l)))
      (added_ends _) (λ k l. inl refl) (λ x l s. declared_keeps T x l s d)

  signed_stay : (s : Signature) → SignatureTaken T s → RowsStay T (changed T (signed T s))
  signed_stay s p = extends_stay _ (signed_extends T s p) (λ x l. inl (latest_same T s p x)) (λ k l. omega arith) (λ k l. inl refl)
      (λ x l q. signed_keeps T x l q s p)

  module _ (cap : Capacity) (f : RowFacts T) (e : Event) where
    -- the end becomes the event's time, which no end is above
    widened_ends : T.counts.last ≤ e.time → (o : ℕ) (r : VersionRow) → r.end ≡ e.time → Ends (put T.version o r)
    widened_ends p o r q k l =
        let i = (f.version k l).end_last in
        ⊎_elim (λ c. rw c (omega arith)) (λ c. rw c (omega arith)) (put_cases T.version o r k)

    renewed_latest : Latest (changed T (renewed T e))
    renewed_latest x l =
        ⊎_elim (λ c. let q = ap (λ (r : EntityRow). r.latest.0) c in inr (omega arith, omega arith)) (λ c. inl (ap (λ (r : EntityRow). r.latest.0) c))
        (put_cases T.entity e.target.0 (entity_row (T.entity e.target.0).sort T.counts.versions) x)

    happened_stay : (d : Decision) → decision_of T e ≡ d → EventTaken cap T e d → RowsStay T (changed T (happened T e d))
    happened_stay (Repeat k) q p =
        extends_stay _ (repeated_extends cap T e k p) (λ x l. inl refl) (λ k l. omega arith) (λ j l. repeated_edges cap T e k p j)
        (λ x l s. happened_keeps T x l s cap f e (Repeat k) q p)
    happened_stay Widen q p =
        extends_stay _ (widened_extends cap T e Widen p) (λ x l. inl refl) (widened_ends p.not_earlier _ _ refl) (λ k l. inl (old_row T e _ k l))
        (λ x l s. happened_keeps T x l s cap f e Widen q p)
    happened_stay Renew q p =
        extends_stay _ (renewed_extends cap T e Renew p) renewed_latest (added_ends _) (λ k l. inl (old_row T e _ k l))
        (λ x l s. happened_keeps T x l s cap f e Renew q p)

  pub step_stay : (cap : Capacity) (r : Record) → refusal_of cap T r ≡ Ok tt → RowFacts T → RowsStay T (changed T (change_of T r))
  unfolding refusal_of change_of
  step_stay cap (records.Declaration d) h f = declared_stay d
  step_stay cap (records.Event e) h f = happened_stay cap f e (decision_of T e) refl (event-taken cap T e h)
  step_stay cap (records.Signature s) h f = signed_stay s (signature_taken T s h)
