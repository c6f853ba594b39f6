-- The edges are the kept events in order; versions are no more than entities and edges.
use Prim.Native.Nat.{ℕ, suc, ◌+◌, ◌≤◌, ◌<◌}
use native.Mathlib.Omega.{arith}
use mathlib.Core.Path.{◌≡◌, refl, sym, ◌∙◌, ap}
use mathlib.Core.Logic.{◌⊎◌, inl, inr}
use mathlib.Core.List.{List, [], ◌∷◌}
use lib.ListN.{length}
use Rattle.rows.specs.Rows.{entity_no}
use Rattle.record.specs.declared.Event.{Event}
use Rattle.record.specs.declared.Record.TheVariants as records
use Rattle.record.specs.Layout.{kind_of}
use Rattle.record.proofs.Numbers.{kind_of-kind_no}
use Rattle.rules.specs.Trail.{Trail, owner_of}
use Rattle.rules.specs.History.{Item, kept_events}
use Rattle.rules.specs.KeptLog.{event_record}
use Rattle.causality.specs.Working.{ne, nv, nd, Keeps, Wide, New, Grown}
use Rattle.causality.specs.Statements.{Logged}
use Rattle.causality.proofs.Invariant.{Inv}
use Rattle.causality.proofs.Kept.{Kept, source_now}
use Rattle.causality.proofs.Growth.{inv, grown_ind, OnDeclared, OnKept}
use Rattle.causality.proofs.ForwardMarks.{edge_at}

abbrev EdgeCount : Trail → List Item → Type 0
EdgeCount T hs = nd T ≡ length (kept_events hs)

pub edge_count : {T : Trail} {hs : List Item} → Grown T hs → nd T ≡ length (kept_events hs)
edge_count g =
    grown_ind EdgeCount (λ T _ _ d. d) (λ T T' hs g d ih. d.row.nd_is ∙ ih) (λ T hs e g f l ih. ih) (λ T T' hs e w g k ih. k.now.row.nd_is ∙ ap suc ih) g

-- edges that stand are the same events
logged_stands : {T T' : Trail} {last : ℕ} → Inv T last → Keeps T T' → (ks : List Event) → length ks ≤ nd T → Logged T ks → Logged T' ks
logged_stands i o [] h a = tt
logged_stands {T} {T'} i o (e ∷ ks) h a = (same ∙ a.0, o.kind_old n m ∙ a.1, logged_stands i o ks (omega arith) a.2)
  where
    n : ℕ
    n = length ks

    m : n < nd T
    m = omega arith

    same : event_record T' n ≡ event_record T n
    same = λ j.
        records.Event (record {
          kind = kind_of (o.kind_old n m j);
          source = entity_no ((ap (owner_of T') (o.from_old n m) ∙ o.owner_old _ (i.from_in (edge_at n m refl))) j);
          target = entity_no ((ap (owner_of T') (o.to_old n m) ∙ o.owner_old _ (i.to_in (edge_at n m refl))) j);
          time = o.time_old n m j;
        })

-- the edge of a kept event
new-edge : {T T' : Trail} {last : ℕ} {e : Event} {w : ℕ} → Kept T T' last e w → event_record T' (nd T) ≡ records.Event e
new-edge {T} {T'} {e = e} k = λ j.
    let r = k.now.row in
    records.Event (record {
      kind = (ap kind_of r.kind_new ∙ kind_of-kind_no e.kind) j;
      source = entity_no ((ap (owner_of T') r.from_new ∙ k.now.owner_old _ (source_now k) ∙ k.was.latest_owner _ k.fit.source_in) j);
      target = entity_no ((ap (owner_of T') r.to_new ∙ k.now.owner-w) j);
      time = r.time_new j;
    })

abbrev Log : Trail → List Item → Type 0
Log T hs = Logged T (kept_events hs)

pub logged : {T : Trail} {hs : List Item} → Grown T hs → Logged T (kept_events hs)
logged g = grown_ind Log (λ T _ _ _. tt) decl (λ T hs e g f l ih. ih) keep g
  where
    decl : OnDeclared Log
    decl T T' hs g d ih = logged_stands (inv g) d.row.old (kept_events hs) (omega (arith, edge_count g)) ih

    keep : OnKept Log
    keep T T' hs e w g k ih = (
      ap (event_record T') (sym (edge_count g)) ∙ new-edge k,
      ap (λ (n : ℕ). (T'.edge n).kind) (sym (edge_count g)) ∙ k.now.row.kind_new,
      logged_stands (inv g) k.now.row.old (kept_events hs) (omega (arith, edge_count g)) ih,
    )

abbrev Few : Trail → List Item → Type 0
Few T hs = nv T ≤ ne T + nd T

pub versions_le : {T : Trail} {hs : List Item} → Grown T hs → nv T ≤ ne T + nd T
versions_le g = grown_ind Few (λ T _ v _. omega arith) decl (λ T hs e g f l ih. ih) keep g
  where
    decl : OnDeclared Few
    decl T T' hs g d h = omega (arith, d.row.nv_is, d.row.ne_is, d.row.nd_is)

    keep : OnKept Few
    keep T T' hs e w g k h = go k.now.row.shape
      where
        go : Wide T T' e w ⊎ New T T' e w → nv T' ≤ ne T' + nd T'
        go (inl s) = omega (arith, s.nv_is, k.now.row.ne_is, k.now.row.nd_is)
        go (inr s) = omega (arith, s.nv_is, k.now.row.ne_is, k.now.row.nd_is)
