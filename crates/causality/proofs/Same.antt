-- Growth reads only the rows in use: a trail with the same rows in use has grown as well.
use Prim.Native.Nat.{ℕ, ◌≤◌, ◌<◌}
use native.Mathlib.Omega.{arith}
use mathlib.Core.Path.{sym, ◌∙◌, subst}
use mathlib.Core.Logic.{◌⊎◌, inl, inr}
use mathlib.Core.List.{List}
use Rattle.record.specs.declared.Event.{Event}
use Rattle.rules.specs.Trail.{Trail}
use Rattle.rules.specs.History.{Item}
use Rattle.causality.specs.Working.{ne, nv, nd, Leads, Keeps, Same, Declares, Wide, New, AddsEdge, Fit, Grown, begun, declared, repeated, entered}
use Rattle.causality.proofs.Declared.{edge_stands, prev_stands}
use Rattle.causality.proofs.Entered.{nv_grows}
use Rattle.causality.proofs.Growth.{inv}
use Rattle.causality.proofs.ForwardMarks.{fwd_more, fwd_in}

keeps_trans : {T U R : Trail} → nv T ≤ nv U → nd T ≤ nd U → Keeps T U → Keeps U R → Keeps T R
keeps_trans m n p q =
    record {
      owner_old = λ a h. q.owner_old a (omega arith) ∙ p.owner_old a h;
      start_old = λ a h. q.start_old a (omega arith) ∙ p.start_old a h;
      previous_old = λ a h. q.previous_old a (omega arith) ∙ p.previous_old a h;
      from_old = λ k h. q.from_old k (omega arith) ∙ p.from_old k h;
      to_old = λ k h. q.to_old k (omega arith) ∙ p.to_old k h;
      kind_old = λ k h. q.kind_old k (omega arith) ∙ p.kind_old k h;
      time_old = λ k h. q.time_old k (omega arith) ∙ p.time_old k h;
    }

declares_same : {T U R : Trail} → Declares T U → Same U R → Declares T R
declares_same d s =
    record {
      ne_is = s.ne_is ∙ d.ne_is;
      nv_is = s.nv_is ∙ d.nv_is;
      nd_is = s.nd_is ∙ d.nd_is;
      latest_new = s.latest_old _ (omega (arith, d.ne_is)) ∙ d.latest_new;
      latest_old = λ y h. s.latest_old y (omega (arith, d.ne_is)) ∙ d.latest_old y h;
      owner_new = s.old.owner_old _ (omega (arith, d.nv_is)) ∙ d.owner_new;
      start_new = s.old.start_old _ (omega (arith, d.nv_is)) ∙ d.start_new;
      previous_new = s.old.previous_old _ (omega (arith, d.nv_is)) ∙ d.previous_new;
      old = keeps_trans (omega (arith, d.nv_is)) (omega (arith, d.nd_is)) d.old s.old;
    }

module _ {T U R : Trail} {e : Event} {w : ℕ} (target_in : e.target.0 < ne T) (r : AddsEdge T U e w) (s : Same U R) where
  shape_same : Wide T U e w ⊎ New T U e w → Wide T R e w ⊎ New T R e w
  shape_same (inl c) = inl (record { is = c.is; nv_is = s.nv_is ∙ c.nv_is; unused = c.unused })
  shape_same (inr c) =
      let h : w < nv U = omega (arith, c.is, c.nv_is) in
      inr (record {
        is = c.is;
        nv_is = s.nv_is ∙ c.nv_is;
        owner = s.old.owner_old w h ∙ c.owner;
        start = s.old.start_old w h ∙ c.start;
        some = λ q. c.some (sym (s.old.previous_old w h) ∙ q);
        previous = s.old.previous_old w h ∙ c.previous;
      })

  enters-same : AddsEdge T R e w
  enters-same =
      record {
        ne_is = s.ne_is ∙ r.ne_is;
        nd_is = s.nd_is ∙ r.nd_is;
        latest_target = s.latest_old _ (omega (arith, r.ne_is)) ∙ r.latest_target;
        latest_other = λ y h n. s.latest_old y (omega (arith, r.ne_is)) ∙ r.latest_other y h n;
        from_new = s.old.from_old _ (omega (arith, r.nd_is)) ∙ r.from_new;
        to_new = s.old.to_old _ (omega (arith, r.nd_is)) ∙ r.to_new;
        kind_new = s.old.kind_old _ (omega (arith, r.nd_is)) ∙ r.kind_new;
        time_new = s.old.time_old _ (omega (arith, r.nd_is)) ∙ r.time_new;
        shape = shape_same r.shape;
        old = keeps_trans (nv_grows r.shape) (omega (arith, r.nd_is)) r.old s.old;
      }

fit_same : {T U : Trail} {last : ℕ} {e : Event} → Same T U → Fit T last e → Fit U last e
fit_same s f =
    record {
      source_in = omega (arith, f.source_in, s.ne_is);
      target_in = omega (arith, f.target_in, s.ne_is);
      apart = f.apart;
      not_earlier = f.not_earlier;
      positive = f.positive;
    }

leads_same : {T U : Trail} {hs : List Item} → Grown T hs → Same T U → {a v : ℕ} → a < nv T → Leads T a v → Leads U a v
leads_same g s h l =
    record {
      version = l.version;
      marked = fwd_more (λ a b t. edge_stands s.old (omega (arith, s.nd_is))) (λ a b. prev_stands s.old (omega (arith, s.nv_is))) l.marked;
      owner = s.old.owner_old _ (fwd_in (inv g) h l.marked) ∙ l.owner;
    }

pub grown-same : {T U : Trail} {hs : List Item} → Grown T hs → Same T U → Grown U hs
grown-same (begun e v d) s = begun (s.ne_is ∙ e) (s.nv_is ∙ v) (s.nd_is ∙ d)
grown-same (declared g d) s = declared g (declares_same d s)
grown-same {U = U} (repeated {T = T} {hs = hs} g e f l) s =
    let k = leads_same g s ((inv g).latest_in _ f.source_in) l in
    repeated (grown-same g s) e (fit_same s f) (subst (λ z. Leads U z e.target.0) (sym (s.latest_old _ f.source_in)) k)
grown-same (entered g e f w r) s = entered g e f w (enters-same f.target_in r s)
