-- The kept events alone carry every trace: the events that were dropped add no path.
use Prim.Native.Nat.{ℕ, ◌≤◌, ◌<◌}
use native.Mathlib.Omega.{arith}
use native.Mathlib.Decide.{dec_le}
use mathlib.Core.Path.{◌≡◌, refl, sym, ap, subst}
use mathlib.Core.Logic.{inl, inr, ◌↔◌}
use mathlib.Core.Bool.{Bool, true, false, cond}
use mathlib.Core.List.{List, [], ◌∷◌}
use Rattle.record.specs.declared.Event.{Event}
use Rattle.rules.specs.Trail.{Trail}
use Rattle.rules.specs.Paths.{Part, done, skip, take}
use Rattle.rules.specs.History.{Item, kept, dropped, accepted, kept_events, into, since, intake_time}
use Rattle.causality.specs.Working.{ne, Grown}
use Rattle.causality.proofs.Declared.{OldEntity}
use Rattle.causality.proofs.Growth.{inv, grown_ind, OnDeclared, OnDropped, OnKept}
use Rattle.causality.proofs.Reach.{Reach, All-imp, reach_refl, reach_part, reach_stuck}
use Rattle.causality.proofs.Parts.{up_to, up_to_in, up_to_out, up_to_all, since_part}
use Rattle.causality.proofs.Accepted.{grown_within}
use Rattle.causality.proofs.Walk.{StartsAt, starts_some}
use Rattle.causality.proofs.ForwardMarks.{fwd_trans}
use Rattle.causality.proofs.Upward.{leads_up}
use Rattle.causality.proofs.Forward.{forward_latest}
use Rattle.causality.proofs.Ancestors.{dropped_gains_none}

-- a list of events, each of them kept
abbrev pub all_kept : List Event → List Item
all_kept [] = []
all_kept (e ∷ ks) = kept e ∷ all_kept ks

pub accepted-all_kept : (ks : List Event) → accepted (all_kept ks) ≡ ks
accepted-all_kept [] = refl
accepted-all_kept (e ∷ ks) = ap (λ (l : List Event). e ∷ l) (accepted-all_kept ks)

pub kept_events-all_kept : (ks : List Event) → kept_events (all_kept ks) ≡ ks
kept_events-all_kept [] = refl
kept_events-all_kept (e ∷ ks) = ap (λ (l : List Event). e ∷ l) (kept_events-all_kept ks)

pub kept_part : (hs : List Item) → Part (kept_events hs) (accepted hs)
kept_part [] = done
kept_part (kept e ∷ hs) = take (kept_part hs)
kept_part (dropped e ∷ hs) = skip (kept_part hs)

-- forward

since_kept_part : (u t : ℕ) (hs : List Item) → Part (since u t (all_kept (kept_events hs))) (since u t hs)
unfolding since
since_kept_part u t [] = done
since_kept_part u t (dropped e ∷ hs) = skip (since_kept_part u t hs)
since_kept_part u t (kept e ∷ hs) = go (into u t e) (since_kept_part u t hs)
  where
    go : (b : Bool) → Part (since u t (all_kept (kept_events hs))) (since u t hs)
        → Part (cond b [] (e ∷ since u t (all_kept (kept_events hs)))) (cond b [] (e ∷ since u t hs))
    go true s = done
    go false s = take s

abbrev Carried : Trail → List Item → Type 0
Carried T hs = (u t y : ℕ) → u < ne T → Reach (since u t hs) u y → Reach (since u t (all_kept (kept_events hs))) u y

carried : {T : Trail} {hs : List Item} → Grown T hs → Carried T hs
carried g = grown_ind Carried (λ T q _ _ u t y h. absurd (omega arith)) decl drop keep g
  where
    decl : OnDeclared Carried
    decl T T' hs g d ih u t y h r = go (d.entity_inv u h)
      where
        go : OldEntity T u → Reach (since u t (all_kept (kept_events hs))) u y
        go (inl m) = ih u t y m r
        go (inr q) =
            let p : u ≡ y = reach_stuck (accepted hs) u y (All-imp (λ e w z. omega (arith, w.source_in)) (accepted hs) (grown_within g)) (reach_part (since_part u t hs) u y r) in
            subst (λ z. Reach (since u t (all_kept (kept_events hs))) u z) p (reach_refl (since u t (all_kept (kept_events hs))) u)

    drop : OnDropped Carried
    drop T hs e g f l ih u t y h r = go (starts_some g u t h) (unfold since in r)
      where
        go : (s : ℕ) × StartsAt T u t s → Reach (e ∷ since u t hs) u y → Reach (since u t (all_kept (kept_events hs))) u y
        go s (inl z) = ih u t y h z
        go (s, p) (inr z) =
            let a = (forward_latest g u t s e.source.0 h f.source_in p).1 z.1 in
            let b = (forward_latest g u t s e.target.0 h f.target_in p).0 (fwd_trans a (leads_up g ((inv g).latest_in _ f.source_in) l)) in
            ih u t y h (rw z.0 b)

    keep : OnKept Carried
    keep T T' hs e w g k ih u t y h r = unfold since in go (into u t e) (unfold since in r)
      where
        m : u < ne T
        m = omega (arith, k.now.row.ne_is)

        go : (b : Bool) → Reach (cond b [] (e ∷ since u t hs)) u y → Reach (cond b [] (e ∷ since u t (all_kept (kept_events hs)))) u y
        go true z = z
        go false (inl z) = inl (ih u t y m z)
        go false (inr z) = inr (z.0, ih u t e.source.0 m z.1)

pub forward_kept : {T : Trail} {hs : List Item} → Grown T hs → (u t y : ℕ) → u < ne T
    → Reach (since u t (all_kept (kept_events hs))) u y ↔ Reach (since u t hs) u y
forward_kept {T} {hs} g u t y h = (reach_part (since_kept_part u t hs) u y, carried g u t y h)

pub intake_time_kept : (u t : ℕ) (hs : List Item) → intake_time u t (all_kept (kept_events hs)) ≡ intake_time u t hs
unfolding intake_time
intake_time_kept u t [] = refl
intake_time_kept u t (kept e ∷ hs) = ap (cond (into u t e) e.time) (intake_time_kept u t hs)
intake_time_kept u t (dropped e ∷ hs) = intake_time_kept u t hs

-- backward

reach_cons : (e : Event) (es fs : List Event) (x : ℕ) → ((y : ℕ) → Reach es x y ↔ Reach fs x y) → (y : ℕ) → Reach (e ∷ es) x y ↔ Reach (e ∷ fs) x y
reach_cons e es fs x h y = (to, from)
  where
    to : Reach (e ∷ es) x y → Reach (e ∷ fs) x y
    to (inl r) = inl ((h y).0 r)
    to (inr r) = inr (r.0, (h e.source.0).0 r.1)

    from : Reach (e ∷ fs) x y → Reach (e ∷ es) x y
    from (inl r) = inl ((h y).1 r)
    from (inr r) = inr (r.0, (h e.source.0).1 r.1)

abbrev Borne : Trail → List Item → Type 0
Borne T hs = (t x y : ℕ) → Reach (up_to t (accepted hs)) x y ↔ Reach (up_to t (kept_events hs)) x y

pub backward_kept : {T : Trail} {hs : List Item} → Grown T hs → (t x y : ℕ) → Reach (up_to t (accepted hs)) x y ↔ Reach (up_to t (kept_events hs)) x y
backward_kept g = grown_ind Borne (λ T _ _ _ t x y. (λ z. z, λ z. z)) (λ T T' hs g d ih. ih) drop keep g
  where
    drop : OnDropped Borne
    drop T hs e g f l ih t x y = go (dec_le e.time t)
      where
        all : e.time ≤ t → up_to t (accepted hs) ≡ accepted hs
        all k = up_to_all t (accepted hs) (All-imp (λ d w. omega (arith, w.by, f.not_earlier)) (accepted hs) (grown_within g))

        go : Dec (e.time ≤ t) → Reach (up_to t (e ∷ accepted hs)) x y ↔ Reach (up_to t (kept_events hs)) x y
        go (no n) = rw (up_to_out t e (accepted hs) (omega arith)) (ih t x y)
        go (yes k) =
            rw (up_to_in t e (accepted hs) k) (
              λ z. (ih t x y).0 (subst (λ l. Reach l x y) (sym (all k)) (dropped_gains_none (Grown.repeated g e f l) [] (dropped e) hs refl x y (subst (λ r. Reach (e ∷ r) x y) (all k) z))),
              λ z. inl ((ih t x y).1 z),
            )

    keep : OnKept Borne
    keep T T' hs e w g k ih t x y = go (dec_le e.time t)
      where
        go : Dec (e.time ≤ t) → Reach (up_to t (e ∷ accepted hs)) x y ↔ Reach (up_to t (e ∷ kept_events hs)) x y
        go (no n) = rw (up_to_out t e (accepted hs) (omega arith), up_to_out t e (kept_events hs) (omega arith)) (ih t x y)
        go (yes l) = rw (up_to_in t e (accepted hs) l, up_to_in t e (kept_events hs) l) (reach_cons e (up_to t (accepted hs)) (up_to t (kept_events hs)) x (λ z. ih t x z) y)
