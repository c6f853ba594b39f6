-- Two trails with the same counts and rows in use: a record that is taken in leaves them the same.
use Rattle.std.specs.Prelude.{Ok}
use Prim.Native.Nat.{ℕ, ◌+◌, ◌<◌}
use native.Mathlib.Omega.{arith}
use mathlib.Core.Path.{◌≡◌, refl, ap, subst}
use mathlib.Core.Bool.{Bool, true, false, cond}
use lib.Dec.{eqb}
use borrow.Author.Tests.{eqb-false}
use Rattle.rows.specs.declared.EntityRow.{EntityRow}
use Rattle.rows.specs.declared.VersionRow.{VersionRow}
use Rattle.rows.specs.declared.EdgeRow.{EdgeRow}
use Rattle.record.specs.declared.Declaration.{Declaration}
use Rattle.record.specs.declared.Event.{Event}
use Rattle.record.specs.declared.Record.{Record}
use Rattle.record.specs.declared.Record.TheVariants as records
use Rattle.rows.specs.Rows.{entity_row, recounted}
use Rattle.record.specs.declared.Signature.{Signature}
use Rattle.rules.specs.declared.Decision.{Decision}
use Rattle.rules.specs.declared.Decision.TheVariants.{Repeat, Widen, Renew}
use Rattle.rules.specs.Trail.{Capacity, Trail, latest_of}
use Rattle.rules.specs.Decide.{decision_of}
use Rattle.rules.specs.Record.{declared, happened, kept_edge, refusal_of, change_of, signed}
use Rattle.rules.specs.PlainList.{put, changed}
use Rattle.rules.specs.Sound.{signed_sort}
use Rattle.soundness.specs.Facts.{RowFacts}
use Rattle.soundness.specs.Taken.{RoomLeft, EventTaken}
use Rattle.soundness.proofs.Taken.{event-taken, signature_taken}
use Rattle.closure.specs.Same.{SameRows}
use Rattle.agreement.proofs.Judged.{latest_same, sort-same, decision_same}

-- one row written on both sides
put_alike : {A : Type 0} (f f' : ℕ → A) (k : ℕ) (r r' : A) (j : ℕ) → r ≡ r' → ((j ≡ k → ⊥) → f j ≡ f' j) → put f k r j ≡ put f' k r' j
unfolding put
put_alike {A} f f' k r r' j p h = go (eqb j k) refl
  where
    go : (b : Bool) → eqb j k ≡ b → cond b r (f j) ≡ cond b r' (f' j)
    go true q = p
    go false q = h (eqb-false j k q)

-- a trail with the counts of T and other rows
module _ (T : Trail) (E : ℕ → EntityRow) (V' : ℕ → VersionRow) (D : ℕ → EdgeRow) where
  abbrev other : Trail
  other = record { counts = T.counts; entity = E; version = V'; edge = D }

  module _ (s : SameRows T other) (f : RowFacts T) where
    declared_same : (d : Declaration) → SameRows (changed T (declared T.counts d)) (changed other (declared T.counts d))
    declared_same d = record {
      entities = refl;
      versions = refl;
      edges = refl;
      entity_rows = λ k l. put_alike T.entity E T.counts.entities _ _ k refl (λ n. s.entity_rows k (omega arith));
      version_rows = λ k l. put_alike T.version V' T.counts.versions _ _ k refl (λ n. s.version_rows k (omega arith));
      edge_rows = s.edge_rows;
    }

    signed_same : (g : Signature) → g.entity.0 < T.counts.entities → SameRows (changed T (signed T g)) (changed other (signed other g))
    signed_same g i = record {
      entities = refl;
      versions = refl;
      edges = refl;
      entity_rows = λ k l. put_alike T.entity E g.entity.0 _ _ k (ap (entity_row signed_sort) (latest_same refl s f g.entity.0 i)) (λ n. s.entity_rows k l);
      version_rows = s.version_rows;
      edge_rows = s.edge_rows;
    }

    module _ (e : Event) (i : e.source.0 < T.counts.entities) (h : e.target.0 < T.counts.entities) where
      source : latest_of T e.source.0 ≡ latest_of other e.source.0
      source = latest_same refl s f e.source.0 i

      target : latest_of T e.target.0 ≡ latest_of other e.target.0
      target = latest_same refl s f e.target.0 h

      edge_row : (o o' : ℕ) → o ≡ o' → kept_edge T e o ≡ kept_edge other e o'
      edge_row o o' p = λ j. record {
        from = record { 0 = source j };
        to = record { 0 = p j };
        kind = (kept_edge T e o).kind;
        time = e.time;
        count = 1;
        last = e.time;
      }

      edges_same : (o o' : ℕ) → o ≡ o' → (k : ℕ) → k < T.counts.edges + 1
          → put T.edge T.counts.edges (kept_edge T e o) k ≡ put D T.counts.edges (kept_edge other e o') k
      edges_same o o' p k l = put_alike T.edge D T.counts.edges _ _ k (edge_row o o' p) (λ n. s.edge_rows k (omega arith))

      happened-same : (cap : Capacity) (d : Decision) → RoomLeft cap T.counts d → SameRows (changed T (happened T e d)) (changed other (happened other e d))
      happened-same cap (Repeat k) r = record {
        entities = refl;
        versions = refl;
        edges = refl;
        entity_rows = s.entity_rows;
        version_rows = s.version_rows;
        edge_rows = λ j l. put_alike T.edge D k.0 _ _ j
            (ap (λ (x : EdgeRow). recounted x (x.count + 1) e.time) (s.edge_rows k.0 r)) (λ n. s.edge_rows j l);
      }
      happened-same cap Widen r = record {
        entities = refl;
        versions = refl;
        edges = refl;
        entity_rows = s.entity_rows;
        version_rows = λ k l. subst (λ (o : ℕ). widen k (latest_of T e.target.0) ≡ put V' o (ended V' o) k) target
            (put_alike T.version V' (latest_of T e.target.0) _ _ k (ended_same (f.entity e.target.0 h).latest_in) (λ n. s.version_rows k l));
        edge_rows = edges_same _ _ target;
      }
        where
          ended : (ℕ → VersionRow) → ℕ → VersionRow
          ended W o = record { entity = (W o).entity; start = (W o).start; end = e.time; previous = (W o).previous }

          widen : ℕ → ℕ → VersionRow
          widen k o = put T.version o (ended T.version o) k

          ended_same : latest_of T e.target.0 < T.counts.versions → ended T.version (latest_of T e.target.0) ≡ ended V' (latest_of T e.target.0)
          ended_same l = ap (λ (r : VersionRow). record { entity = r.entity; start = r.start; end = e.time; previous = r.previous }) (s.version_rows _ l)
      happened-same cap Renew r = record {
        entities = refl;
        versions = refl;
        edges = refl;
        entity_rows = λ k l. put_alike T.entity E e.target.0 _ _ k
            (ap (λ (x : ℕ). entity_row x T.counts.versions) (sort-same refl s f e.target.0 h)) (λ n. s.entity_rows k l);
        version_rows = λ k l. put_alike T.version V' T.counts.versions _ _ k
            (λ j. record { entity = e.target; start = e.time; end = e.time; previous = record { 0 = target j } }) (λ n. s.version_rows k (omega arith));
        edge_rows = edges_same _ _ refl;
      }

-- the same counts and rows in use
pub record Alike (T T' : Trail) : Type 0 where
  pub counts : T.counts ≡ T'.counts
  pub rows : SameRows T T'

module _ (T : Trail) (f : RowFacts T) (cap : Capacity) where
  abbrev After : Record → Trail → Type 0
  After r U = Alike (changed T (change_of T r)) (changed U (change_of U r))

  module _ (E : ℕ → EntityRow) (V' : ℕ → VersionRow) (D : ℕ → EdgeRow) (s : SameRows T (other T E V' D)) where
    abbrev U : Trail
    U = other T E V' D

    happened_alike : (e : Event) (d : Decision) → EventTaken cap T e d → Alike (changed T (happened T e d)) (changed U (happened U e d))
    happened_alike e (Repeat k) p = record { counts = refl; rows = happened-same T E V' D s f e p.source_in p.target_in cap (Repeat k) p.room_left }
    happened_alike e Widen p = record { counts = refl; rows = happened-same T E V' D s f e p.source_in p.target_in cap Widen p.room_left }
    happened_alike e Renew p = record { counts = refl; rows = happened-same T E V' D s f e p.source_in p.target_in cap Renew p.room_left }

    other_alike : (r : Record) → refusal_of cap T r ≡ Ok tt → After r U
    unfolding refusal_of change_of
    other_alike (records.Declaration d) h = record { counts = refl; rows = declared_same T E V' D s f d }
    other_alike (records.Event e) h =
        let p = event-taken cap T e h in
        subst (λ (d : Decision). Alike (changed T (happened T e (decision_of T e))) (changed U (happened U e d))) (decision_same refl s f e p.source_in p.target_in)
        (happened_alike e (decision_of T e) p)
    other_alike (records.Signature g) h = record { counts = refl; rows = signed_same T E V' D s f g (signature_taken T g h).entity_in }

  pub changed_alike : (T' : Trail) → Alike T T' → (r : Record) → refusal_of cap T r ≡ Ok tt → After r T'
  changed_alike T' a r h =
      let s : SameRows T (other T T'.entity T'.version T'.edge)
      = record { entities = refl; versions = refl; edges = refl; entity_rows = a.rows.entity_rows; version_rows = a.rows.version_rows; edge_rows = a.rows.edge_rows } in
      subst (After r) (λ j. record { counts = a.counts j; entity = T'.entity; version = T'.version; edge = T'.edge })
      (other_alike T'.entity T'.version T'.edge s r h)
