-- Which edges leave an entity's latest version, said by the kept events alone: those from the entity after the last one into it.
use Prim.Native.Nat.{ℕ, ◌<◌}
use native.Mathlib.Omega.{arith}
use mathlib.Core.Path.{◌≡◌, refl, sym, ◌∙◌, ap, subst}
use mathlib.Core.Logic.{◌⊎◌, inl, inr, ◌↔◌}
use mathlib.Core.Bool.{Bool, true, false, cond}
use mathlib.Core.List.Memᴰ
use mathlib.Core.List.{List, [], ◌∷◌, Memᴰ}
use lib.Dec.{eqb}
use borrow.Author.Tests.{eq-eqb, ne_eqb}
use Rattle.record.specs.declared.Event.{Event}
use Rattle.rules.specs.Trail.{Trail, latest_of, owner_of}
use Rattle.rules.specs.Paths.{Part, take, done, All}
use Rattle.rules.specs.History.{Item, kept_events}
use Rattle.causality.specs.Working.{ne, EdgeIn, last_of, Grown}
use Rattle.causality.proofs.Declared.{OldEntity}
use Rattle.causality.proofs.Entered.{NewEdge}
use Rattle.causality.proofs.Kept.{NewLatest, kept_latest, latest_inj, w_unused}
use Rattle.causality.proofs.Growth.{inv, grown_ind, OnDeclared, OnKept}
use Rattle.causality.proofs.Reach.{All-part, part_nil}
use Rattle.causality.proofs.Accepted.{Within, grown_within}
use Rattle.agreement.proofs.KeptOnly.{kept_part}

-- the events after the last one into u; all of them if there is none
recent : ℕ → List Event → List Event
recent u [] = []
recent u (e ∷ ks) = cond (eqb e.target.0 u) [] (e ∷ recent u ks)

recent_in : (u : ℕ) (e : Event) (ks : List Event) → e.target.0 ≡ u → recent u (e ∷ ks) ≡ []
unfolding recent
recent_in u e ks q = rw (eq-eqb e.target.0 u q)

recent_out : (u : ℕ) (e : Event) (ks : List Event) → (e.target.0 ≡ u → ⊥) → recent u (e ∷ ks) ≡ e ∷ recent u ks
unfolding recent
recent_out u e ks n = rw (ne_eqb e.target.0 u n)

recent_part : (u : ℕ) (ks : List Event) → Part (recent u ks) ks
unfolding recent
recent_part u [] = done
recent_part u (e ∷ ks) = go (eqb e.target.0 u) (recent_part u ks)
  where
    go : (b : Bool) → Part (recent u ks) ks → Part (cond b [] (e ∷ recent u ks)) (e ∷ ks)
    go true s = part_nil (e ∷ ks)
    go false s = take s

-- an edge from the latest version of u to a version of v; an event of es from u to v
pub record EdgeTo (T : Trail) (u v : ℕ) : Type 0 where
  pub to : ℕ
  pub time : ℕ
  pub edge : EdgeIn T (latest_of T u) to time
  pub owner : owner_of T to ≡ v

record SentTo (u v : ℕ) (es : List Event) : Type 0 where
  event : Event
  mem : Memᴰ event es
  source : event.source.0 ≡ u
  target : event.target.0 ≡ v

-- no event leaves an entity that is not declared
unsent : (n l u v : ℕ) (es : List Event) → All (Within n l) es → u ≡ n → SentTo u v es → ⊥
unsent n l u v [] a q x = Memᴰ.not-nil x.mem
unsent n l u v (d ∷ es) a q x = by (Memᴰ.cases_cons x.mem) (λ k. unsent n l u v es a.1 q (record { event = x.event; mem = k; source = x.source; target = x.target }))
  where
    by : (x.event ≡ d) ⊎ Memᴰ x.event es → (Memᴰ x.event es → ⊥) → ⊥
    by (inl p) ih = omega (arith, a.0.source_in, ap (λ (y : Event). y.source.0) p, x.source)
    by (inr k) ih = ih k

abbrev Sends : Trail → List Item → Type 0
Sends T hs = (u v : ℕ) → u < ne T → EdgeTo T u v ↔ SentTo u v (recent u (kept_events hs))

sends_declared : OnDeclared Sends
sends_declared T T' hs g d ih u v h = go (d.entity_inv u h)
  where
    old : u < ne T → EdgeTo T' u v → EdgeTo T u v
    old m x =
        let k = d.edge_inv (subst (λ a. EdgeIn T' a x.to x.time) (d.row.latest_old u m) x.edge) in
        record { to = x.to; time = x.time; edge = k; owner = sym (d.owner_old _ ((inv g).to_in k)) ∙ x.owner }

    new : u < ne T → EdgeTo T u v → EdgeTo T' u v
    new m x =
        record {
          to = x.to;
          time = x.time;
          edge = subst (λ a. EdgeIn T' a x.to x.time) (sym (d.row.latest_old u m)) (d.edge-old x.edge);
          owner = d.owner_old _ ((inv g).to_in x.edge) ∙ x.owner;
        }

    within : All (Within (ne T) (last_of hs)) (recent u (kept_events hs))
    within = All-part (Within (ne T) (last_of hs)) (recent_part u (kept_events hs)) (All-part (Within (ne T) (last_of hs)) (kept_part hs) (grown_within g))

    go : OldEntity T u → EdgeTo T' u v ↔ SentTo u v (recent u (kept_events hs))
    go (inl m) = (λ x. (ih u v m).0 (old m x), λ x. new m ((ih u v m).1 x))
    go (inr q) = (
      λ x. absurd (omega (arith, (inv g).from_in (d.edge_inv x.edge), ap (latest_of T') q, d.row.latest_new)),
      λ x. absurd (unsent (ne T) (last_of hs) u v _ within q x),
    )

sends_kept : OnKept Sends
sends_kept T T' hs e w g k ih u v h = go (kept_latest k u m)
  where
    m : u < ne T
    m = omega (arith, k.now.row.ne_is)

    -- another entity than the target
    to : (u ≡ e.target.0 → ⊥) → latest_of T' u ≡ latest_of T u → EdgeTo T' u v → SentTo u v (e ∷ recent u (kept_events hs))
    to n q x = by (k.now.edge_inv (subst (λ a. EdgeIn T' a x.to x.time) q x.edge))
      where
        by : NewEdge T e w (latest_of T u) x.to x.time → SentTo u v (e ∷ recent u (kept_events hs))
        by (inl o) =
            let s = (ih u v m).0 (record { to = x.to; time = x.time; edge = o; owner = sym (k.now.owner_old _ (k.was.to_in o)) ∙ x.owner }) in
            record { event = s.event; mem = Memᴰ.tail s.mem; source = s.source; target = s.target }
        by (inr c) =
            record {
              event = e;
              mem = Memᴰ.head refl;
              source = sym (latest_inj k u e.source.0 m k.fit.source_in c.0);
              target = sym k.now.owner-w ∙ ap (owner_of T') (sym c.1) ∙ x.owner;
            }

    from : latest_of T' u ≡ latest_of T u → SentTo u v (e ∷ recent u (kept_events hs)) → EdgeTo T' u v
    from q x = by (Memᴰ.cases_cons x.mem)
      where
        by : (x.event ≡ e) ⊎ Memᴰ x.event (recent u (kept_events hs)) → EdgeTo T' u v
        by (inl p) =
            let s : e.source.0 ≡ u = ap (λ (y : Event). y.source.0) (sym p) ∙ x.source in
            record {
              to = w;
              time = e.time;
              edge = subst (λ a. EdgeIn T' a w e.time) (ap (latest_of T) s ∙ sym q) k.now.edge-new;
              owner = k.now.owner-w ∙ ap (λ (y : Event). y.target.0) (sym p) ∙ x.target;
            }
        by (inr j) =
            let s = (ih u v m).1 (record { event = x.event; mem = j; source = x.source; target = x.target }) in
            record {
              to = s.to;
              time = s.time;
              edge = subst (λ a. EdgeIn T' a s.to s.time) (sym q) (k.now.edge-old s.edge);
              owner = k.now.owner_old _ (k.was.to_in s.edge) ∙ s.owner;
            }

    go : NewLatest T T' e w u → EdgeTo T' u v ↔ SentTo u v (recent u (e ∷ kept_events hs))
    go (inl c) =
        rw (recent_in u e (kept_events hs) (sym c.0))
        (λ x. absurd (w_unused k (subst (λ a. EdgeIn T' a x.to x.time) c.1 x.edge)), λ x. absurd (Memᴰ.not-nil x.mem))
    go (inr c) = rw (recent_out u e (kept_events hs) (λ q. c.0 (sym q))) (to c.0 c.1, from c.1)

sends : {T : Trail} {hs : List Item} → Grown T hs → Sends T hs
sends g = grown_ind Sends (λ T q _ _ u v h. absurd (omega arith)) sends_declared (λ T hs e g f l ih. ih) sends_kept g

-- two trails with the same kept events have such edges alike
pub edge_again : {T U : Trail} {hs js : List Item} → Grown T hs → Grown U js → kept_events hs ≡ kept_events js → (u v : ℕ) → u < ne T → u < ne U
    → EdgeTo T u v → EdgeTo U u v
edge_again g i q u v h k x = (sends i u v k).1 (subst (λ (l : List Event). SentTo u v (recent u l)) q ((sends g u v h).0 x))
