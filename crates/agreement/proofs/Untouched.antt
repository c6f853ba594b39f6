-- A signature leaves the counts, the versions, the edges and each entity's latest version, and a decision reads nothing else.
use Rattle.std.specs.Prelude.{None}
use Prim.Native.Nat.{ℕ, ◌+◌}
use mathlib.Core.Path.{◌≡◌, refl, sym, ◌∙◌, ap, subst}
use mathlib.Core.Bool.{Bool, true, false, cond}
use mathlib.Core.List.{List, [], ◌∷◌}
use lib.Dec.{eqb}
use Rattle.rows.specs.declared.Counts.{Counts}
use Rattle.rows.specs.declared.EntityRow.{EntityRow}
use Rattle.rows.specs.declared.VersionRow.{VersionRow}
use Rattle.rows.specs.declared.EdgeRow.{EdgeRow}
use Rattle.rows.specs.Rows.{entity_row, version_row, edge_row, recounted}
use Rattle.record.specs.declared.Declaration.{Declaration}
use Rattle.record.specs.declared.Event.{Event}
use Rattle.record.specs.declared.Signature.{Signature}
use Rattle.record.specs.declared.Record.{Record}
use Rattle.record.specs.declared.Record.TheVariants as records
use Rattle.record.specs.Layout.{kind_no}
use Rattle.rules.specs.declared.Decision.{Decision}
use Rattle.rules.specs.declared.Decision.TheVariants.{Repeat, Widen, Renew}
use Rattle.rules.specs.Trail.{Trail, none, latest_of}
use Rattle.rules.specs.Decide.{newest_to, leaves, folds, repeat_of, has_outgoing, decide, decision_of}
use Rattle.rules.specs.Record.{declared, happened, signed, accepted_at, change_of}
use Rattle.rules.specs.History.{item_of}
use Rattle.rules.specs.PlainList.{put, changed, worked, items_of, unsigned}
use Rattle.closure.specs.Same.{SameButSorts}
use Rattle.soundness.proofs.Put.{put_keeps}

-- T and U differ in sorts alone, in all rows
pub record Alike (T U : Trail) : Type 0 where
  pub counts : T.counts ≡ U.counts
  pub version : T.version ≡ U.version
  pub edge : T.edge ≡ U.edge
  pub latest : (x : ℕ) → latest_of T x ≡ latest_of U x

-- what f reads of a row is the same in both, and in the row that is written
pub put_alike : {A : Type 0} (f : EntityRow → A) (N N' : ℕ → EntityRow) (k : ℕ) (r r' : EntityRow) → f r ≡ f r' → ((x : ℕ) → f (N x) ≡ f (N' x))
    → (x : ℕ) → f (put N k r x) ≡ f (put N' k r' x)
unfolding put
put_alike f N N' k r r' p q x = go (eqb x k)
  where
    go : (b : Bool) → f (cond b r (N x)) ≡ f (cond b r' (N' x))
    go true = p
    go false = q x

latest_put : (N N' : ℕ → EntityRow) (k : ℕ) (r r' : EntityRow) → r.latest.0 ≡ r'.latest.0 → ((x : ℕ) → (N x).latest.0 ≡ (N' x).latest.0)
    → (x : ℕ) → (put N k r x).latest.0 ≡ (put N' k r' x).latest.0
latest_put = put_alike (λ (r : EntityRow). r.latest.0)

module _ {T U : Trail} (a : Alike T U) where
  declared_alike : (d : Declaration) → Alike (changed T (declared T.counts d)) (changed U (declared U.counts d))
  declared_alike d = record {
    counts = ap (λ (c : Counts). (declared c d).counts) a.counts;
    version = λ j. put (a.version j) (a.counts j).versions (version_row (a.counts j).entities 0 0 none);
    edge = a.edge;
    latest = λ x. latest_put T.entity U.entity _ _ _ refl a.latest x
        ∙ ap (λ (c : Counts). (put U.entity c.entities (entity_row d.sort c.versions) x).latest.0) a.counts;
  }

  signed_alike : (g : Signature) → Alike T (changed U (signed U g))
  signed_alike g = record {
    counts = a.counts;
    version = a.version;
    edge = a.edge;
    latest = λ x. a.latest x ∙ sym (put_keeps U.entity g.entity.0 _ (λ (r : EntityRow). r.latest.0) refl x);
  }

  module _ (e : Event) where
    pub decision_alike : decision_of T e ≡ decision_of U e
    unfolding decision_of repeat_of has_outgoing
    decision_alike = λ j.
        decide (cond (folds e.kind) (newest_to (a.edge j) (a.version j) (a.latest e.source.0 j) e.target.0 (a.counts j).edges) None)
        (leaves (a.edge j) (a.latest e.target.0 j) (a.counts j).edges)

    -- the edge that is kept, into version o
    kept_alike : {o o' : ℕ} → o ≡ o' → put T.edge T.counts.edges (edge_row (latest_of T e.source.0) o (kind_no e.kind) e.time 1 e.time)
        ≡ put U.edge U.counts.edges (edge_row (latest_of U e.source.0) o' (kind_no e.kind) e.time 1 e.time)
    kept_alike p = λ j. put (a.edge j) (a.counts j).edges (edge_row (a.latest e.source.0 j) (p j) (kind_no e.kind) e.time 1 e.time)

    happened_alike : (d : Decision) → Alike (changed T (happened T e d)) (changed U (happened U e d))
    happened_alike (Repeat k) = record {
      counts = ap (λ (c : Counts). accepted_at c c.versions c.edges e.time) a.counts;
      version = a.version;
      edge = ap (λ (E : ℕ → EdgeRow). put E k.0 (recounted (E k.0) ((E k.0).count + 1) e.time)) a.edge;
      latest = a.latest;
    }
    happened_alike Widen = record {
      counts = ap (λ (c : Counts). accepted_at c c.versions (c.edges + 1) e.time) a.counts;
      version = λ j.
          let W : ℕ → VersionRow = a.version j in
          let o : ℕ = a.latest e.target.0 j in
          put W o (version_row (W o).entity.0 (W o).start e.time (W o).previous.0);
      edge = kept_alike (a.latest e.target.0);
      latest = a.latest;
    }
    happened_alike Renew = record {
      counts = ap (λ (c : Counts). accepted_at c (c.versions + 1) (c.edges + 1) e.time) a.counts;
      version = λ j. put (a.version j) (a.counts j).versions (version_row e.target.0 e.time e.time (a.latest e.target.0 j));
      edge = kept_alike (ap (λ (c : Counts). c.versions) a.counts);
      latest = latest_put T.entity U.entity e.target.0 _ _ (ap (λ (c : Counts). c.versions) a.counts) a.latest;
    }

    event_alike : Alike (changed T (happened T e (decision_of T e))) (changed U (happened U e (decision_of U e)))
    event_alike =
        subst (λ (d : Decision). Alike (changed T (happened T e d)) (changed U (happened U e (decision_of U e)))) (sym decision_alike) (happened_alike (decision_of U e))

pub alike : (rs : List Record) → Alike (worked (unsigned rs)) (worked rs)
unfolding change_of
alike [] = record { counts = refl; version = refl; edge = refl; latest = λ x. refl }
alike (records.Declaration d ∷ rs) = declared_alike (alike rs) d
alike (records.Event e ∷ rs) = event_alike (alike rs) e
alike (records.Signature g ∷ rs) = signed_alike (alike rs) g

pub same-items : (rs : List Record) → items_of (unsigned rs) ≡ items_of rs
same-items [] = refl
same-items (records.Declaration d ∷ rs) = same-items rs
same-items (records.Event e ∷ rs) = λ j. item_of (decision_alike (alike rs) e j) e ∷ same-items rs j
same-items (records.Signature g ∷ rs) = same-items rs

pub same_but_sorts : (rs : List Record) → SameButSorts (worked (unsigned rs)) (worked rs)
same_but_sorts rs =
    let a = alike rs in
    record {
      counts = a.counts;
      latest = λ x l. a.latest x;
      version_rows = λ k l. ap (λ (W : ℕ → VersionRow). W k) a.version;
      edge_rows = λ k l. ap (λ (E : ℕ → EdgeRow). E k) a.edge;
    }
