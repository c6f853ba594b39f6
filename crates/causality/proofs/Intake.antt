-- The intake of a forward trace is the time of the latest kept intake at or before t, 0 if there is none.
use Prim.Native.Nat.{ℕ, ◌≤◌, ◌<◌}
use native.Mathlib.Omega.{arith}
use mathlib.Core.Path.{◌≡◌, refl, sym, ◌∙◌, ap, subst}
use mathlib.Core.Logic.{inl, inr}
use mathlib.Core.Bool.{cond}
use mathlib.Core.List.{List}
use Rattle.rules.specs.Trail.{Trail, latest_of}
use Rattle.rules.specs.History.{Item, accepted, into, intake_time}
use Rattle.rules.specs.Start.{Enters, IsIntake, intake_of}
use Rattle.rules.proofs.Intake.{intake_of_is, intake_one}
use Rattle.causality.specs.Working.{ne, nv, start_time, EdgeIn, Grown}
use Rattle.causality.proofs.Declared.{OldEntity}
use Rattle.causality.proofs.Entered.{NewEdge}
use Rattle.causality.proofs.Kept.{kept_latest, NewLatest, w-other}
use Rattle.causality.proofs.KeptInvariant.{inv_kept}
use Rattle.causality.proofs.Growth.{inv, grown_ind, OnDeclared, OnKept}
use Rattle.causality.proofs.Reach.{All-imp}
use Rattle.causality.proofs.Parts.{IntoCase, into_cases, intake_time-none}
use Rattle.causality.proofs.Accepted.{grown_within}
use Rattle.causality.proofs.Walk.{StartsAt, walk_last, walk_declared, starts_in, starts_back}

-- an edge that enters s by t, as an edge between versions, and the other way round
enters-edge : {T : Trail} {s t k : ℕ} → Enters T s t k → EdgeIn T (T.edge k).from.0 s (T.edge k).time
enters-edge {k = k} (l, q, _) = record { number = k; inside = l; from = refl; to = q; time = refl }

edge-enters : {T : Trail} {a s x t : ℕ} (h : EdgeIn T a s x) → x ≤ t → Enters T s t h.number
edge-enters h l = (h.inside, h.to, omega (arith, h.time))

-- the intake where an edge enters s at time i, and none later by t
by_edge_lem : {T : Trail} {a s t i : ℕ} → EdgeIn T a s i → i ≤ t → ((b x : ℕ) → EdgeIn T b s x → x ≤ t → x ≤ i) → IsIntake T s t i
by_edge_lem h l most = IsIntake.greatest h.number (edge-enters h l) (sym h.time) (λ j d. most _ _ (enters-edge d) d.2)

-- the time of the latest kept intake is the intake of the start version
abbrev Timed : Trail → List Item → Type 0
Timed T hs = (u t s : ℕ) → u < ne T → StartsAt T u t s → IsIntake T s t (intake_time u t hs)

-- a start version that was there, and that no edge enters by t since
stays : {T T' : Trail} {s t i : ℕ} → start_time T' s ≡ start_time T s → ((a x : ℕ) → EdgeIn T a s x → EdgeIn T' a s x)
    → ((a x : ℕ) → EdgeIn T' a s x → x ≤ t → EdgeIn T a s x) → IsIntake T s t i → IsIntake T' s t i
stays {T} {s = s} q old new (IsIntake.greatest k e p b) =
    by_edge_lem (old _ _ (subst (EdgeIn T _ s) (sym p) (enters-edge e))) (omega (arith, e.2))
    (λ a x h l. let o = new a x h l in omega (arith, b o.number (edge-enters o l), o.time))
stays q old new (IsIntake.start n p) = IsIntake.start (λ k e. let o = new _ _ (enters-edge e) e.2 in n o.number (edge-enters o e.2)) (p ∙ sym q)

timed_declared : OnDeclared Timed
timed_declared T T' hs g d ih u t s h r = go (d.entity_inv u h)
  where
    go : OldEntity T u → IsIntake T' s t (intake_time u t hs)
    go (inl m) =
        let z = walk_declared (inv g) d ((inv g).latest_in u m) (rw (d.row.latest_old u m) at r) in
        stays (d.start_old s (starts_in (inv g) m z)) (λ a x k. d.edge-old k) (λ a x k l. d.edge_inv k) (ih u t s m z)
    go (inr q) =
        let y : nv T ≡ s = walk_last (omega (arith, d.row.start_new)) (rw (q, d.row.latest_new) at r) in
        rw (q, intake_time-none (ne T) t hs (All-imp (λ e w q _. omega (arith, w.target_in)) (accepted hs) (grown_within g)), ← y)
        (IsIntake.start (λ k e. omega (arith, (inv g).to_in (d.edge_inv (enters-edge e)))) (sym d.row.start_new))

timed_kept : OnKept Timed
unfolding intake_time
timed_kept T T' hs e w g k ih u t s h r = go (into_cases u t e)
  where
    m : u < ne T
    m = omega (arith, k.now.row.ne_is)

    -- the event enters the start version
    now : e.target.0 ≡ u → e.time ≤ t → IsIntake T' s t e.time
    now q l =
        let y : latest_of T' u ≡ w = ap (latest_of T') (sym q) ∙ k.now.row.latest_target in
        let o : w ≡ s = walk_last (omega (arith, (inv_kept k).start_in w k.now.w_in)) (rw y at r) in
        rw (← o) (by_edge_lem k.now.edge-new l (λ a x c _. (inv_kept k).time_in c))

    -- it does not, by t
    other : (e.target.0 ≡ u → e.time ≤ t → ⊥) → IsIntake T' s t (intake_time u t hs)
    other n = stays (k.now.start_old s (starts_in k.was m z)) (λ a x y. k.now.edge-old y) (λ a x y l. new a x l (k.now.edge_inv y)) (ih u t s m z)
      where
        late : (e.time ≤ t → ⊥) → t < e.time
        late f = omega (arith, f)

        z : StartsAt T u t s
        z = starts_back k m (λ q. late (n (sym q))) r

        not_w : s ≡ w → e.time ≤ t → NewLatest T T' e w u → ⊥
        not_w q l (inl c) = n (sym c.0) l
        not_w q l (inr c) = w-other k u m c.0 (walk_last (omega (arith, k.was.start_in _ c.2, k.fit.not_earlier)) z ∙ q)

        new : (a x : ℕ) → x ≤ t → NewEdge T e w a s x → EdgeIn T a s x
        new a x l (inl o) = o
        new a x l (inr o) = absurd (not_w o.1 (omega (arith, o.2)) (kept_latest k u m))

    go : IntoCase u t e → IsIntake T' s t (cond (into u t e) e.time (intake_time u t hs))
    go (inl c) = rw c.2 (now c.0 c.1)
    go (inr c) = rw c.1 (other c.0)

timed : {T : Trail} {hs : List Item} → Grown T hs → Timed T hs
unfolding intake_time
timed g = grown_ind Timed (λ T x _ _ u t s h. absurd (omega arith)) timed_declared (λ T hs e g f l ih. ih) timed_kept g

pub intake_is_latest : {T : Trail} {hs : List Item} → Grown T hs → (u t s : ℕ) → u < ne T → StartsAt T u t s → intake_of T s t ≡ intake_time u t hs
intake_is_latest {T} g u t s h r = intake_one T s t (intake_of_is T s t) (timed g u t s h r)
