-- Whether an event is kept, and whether its target gets a new version, depends on the kept events alone.
use Rattle.std.specs.Prelude.{Some, None}
use Prim.Native.Nat.{ℕ, zero, suc, ◌<◌}
use native.Mathlib.Omega.{arith}
use native.Mathlib.Decide.{ℕ_discrete}
use mathlib.Core.Path.{◌≡◌, refl, sym, ◌∙◌, ap}
use mathlib.Core.Bool.{Bool, true, false, ◌||◌, cond}
use mathlib.Core.List.{List}
use lib.Dec.{eqb}
use borrow.Author.Tests.{eqb-true, eq-eqb}
use Rattle.rows.specs.declared.VersionRow.{VersionRow}
use Rattle.rows.specs.declared.EdgeRow.{EdgeRow}
use Rattle.record.specs.declared.Event.{Event}
use Rattle.rules.specs.Decide.{Found}
use Rattle.rules.specs.Trail.{Trail, latest_of, owner_of}
use Rattle.rules.specs.Decide.{edge_no, goes_to, newest_to, leaves, folds, repeat_of, has_outgoing, decide, decision_of}
use Rattle.rules.specs.History.{Item, kept, item_of, kept_events}
use Rattle.soundness.proofs.Hit.{Goes, newest_to-found}
use Rattle.causality.specs.Working.{ne, Grown}
use Rattle.agreement.proofs.Growing.{leaves_none}
use Rattle.agreement.proofs.Recent.{EdgeTo, edge_again}

-- What the searches find

goes_to_is : (E : ℕ → EdgeRow) (W : ℕ → VersionRow) (f x k : ℕ) → Goes E W f x k → goes_to E W f x k ≡ true
unfolding goes_to
goes_to_is E W f x k g = rw (eq-eqb _ _ g.0, eq-eqb _ _ g.1)

newest_to-none : (E : ℕ → EdgeRow) (W : ℕ → VersionRow) (f x n : ℕ) → newest_to E W f x n ≡ None → (k : ℕ) → k < n → Goes E W f x k → ⊥
unfolding newest_to
newest_to-none E W f x zero h k l g = omega arith
newest_to-none E W f x (suc n) h k l g = go (goes_to E W f x n) refl h (ℕ_discrete k n) (λ q i. newest_to-none E W f x n q k i g)
  where
    go : (b : Bool) → goes_to E W f x n ≡ b → cond b (Some (edge_no n)) (newest_to E W f x n) ≡ None → Dec (k ≡ n) → (newest_to E W f x n ≡ None → k < n → ⊥) → ⊥
    go true q h c ih = let z : ◌≡◌ {A = ℕ} 0 1 = cc in omega arith
    go false q h (yes p) ih =
        let a : goes_to E W f x n ≡ true = ap (goes_to E W f x) (sym p) ∙ goes_to_is E W f x k g in
        let z : ◌≡◌ {A = ℕ} 0 1 = cc in
        omega arith
    go false q h (no p) ih = ih h (omega arith)

leaves_some : (E : ℕ → EdgeRow) (f n : ℕ) → leaves E f n ≡ true → (k : ℕ) × (k < n) × ((E k).from.0 ≡ f)
unfolding leaves
leaves_some E f zero h = absurd (let z : ◌≡◌ {A = ℕ} 0 1 = cc in omega arith)
leaves_some E f (suc n) h = go (eqb (E n).from.0 f) refl h (λ q. leaves_some E f n q)
  where
    go : (b : Bool) → eqb (E n).from.0 f ≡ b → (b || leaves E f n) ≡ true → (leaves E f n ≡ true → (k : ℕ) × (k < n) × ((E k).from.0 ≡ f))
        → (k : ℕ) × (k < suc n) × ((E k).from.0 ≡ f)
    go true q h ih = (n, omega arith, eqb-true _ _ q)
    go false q h ih = let z = ih h in (z.0, omega (arith, z.1), z.2)

-- edge k as an edge from the latest version of u to a version of v
edge_to : (T : Trail) (u v k : ℕ) → k < T.counts.edges → (T.edge k).from.0 ≡ latest_of T u → owner_of T (T.edge k).to.0 ≡ v → EdgeTo T u v
edge_to T u v k l p q = record {
  to = (T.edge k).to.0;
  time = (T.edge k).time;
  edge = record { number = k; inside = l; from = p; to = refl; time = refl };
  owner = q;
}

-- Two trails with the same kept events

module _ {T U : Trail} {hs js : List Item} (g : Grown T hs) (i : Grown U js) (q : kept_events hs ≡ kept_events js) where
  nothing_again : (u v : ℕ) → u < ne T → u < ne U → newest_to T.edge T.version (latest_of T u) v T.counts.edges ≡ None
      → newest_to U.edge U.version (latest_of U u) v U.counts.edges ≡ None
  nothing_again u v h k n = go (newest_to U.edge U.version (latest_of U u) v U.counts.edges) refl
    where
      go : (x : Found) → newest_to U.edge U.version (latest_of U u) v U.counts.edges ≡ x → x ≡ None
      go None p = refl
      go (Some j) p =
          let z = newest_to-found U.edge U.version _ _ _ j p in
          let x = edge_again i g (sym q) u v k h (edge_to U u v j.0 z.0 z.1.0 z.1.1) in
          absurd (newest_to-none T.edge T.version _ _ _ n x.edge.number x.edge.inside (x.edge.from, ap (owner_of T) x.edge.to ∙ x.owner))

  gives_some : (x : ℕ) → x < ne T → x < ne U → has_outgoing T x ≡ true → has_outgoing U x ≡ false → ⊥
  unfolding has_outgoing
  gives_some x h k a b =
      let z = leaves_some T.edge (latest_of T x) T.counts.edges a in
      let y = edge_again g i q x _ h k (edge_to T x _ z.0 z.1 z.2 refl) in
      leaves_none U.edge _ _ b y.edge.number y.edge.inside y.edge.from

module _ {T U : Trail} {hs js : List Item} (g : Grown T hs) (i : Grown U js) (q : kept_events hs ≡ kept_events js) where
  gives_again : (x : ℕ) → x < ne T → x < ne U → has_outgoing U x ≡ has_outgoing T x
  gives_again x h k = go (has_outgoing T x) refl (has_outgoing U x) refl
    where
      go : (a : Bool) → has_outgoing T x ≡ a → (b : Bool) → has_outgoing U x ≡ b → b ≡ a
      go true p true r = refl
      go false p false r = refl
      go true p false r = absurd (gives_some g i q x h k p r)
      go false p true r = absurd (gives_some i g (sym q) x k h r p)

  module _ (e : Event) (source_in : e.source.0 < ne T) (target_in : e.target.0 < ne T) (source-again : e.source.0 < ne U) (target-again : e.target.0 < ne U) where
    repeat_again : repeat_of T e ≡ None → repeat_of U e ≡ None
    unfolding repeat_of
    repeat_again h = go (folds e.kind) h
      where
        go : (b : Bool) → cond b (newest_to T.edge T.version (latest_of T e.source.0) e.target.0 T.counts.edges) None ≡ None
            → cond b (newest_to U.edge U.version (latest_of U e.source.0) e.target.0 U.counts.edges) None ≡ None
        go true h = nothing_again g i q _ _ source_in source-again h
        go false h = refl

    kept_nothing : (x : Found) (b : Bool) → item_of (decide x b) e ≡ kept e → x ≡ None
    kept_nothing (Some k) b h = absurd (let z : ◌≡◌ {A = ℕ} 0 1 = cc in omega arith)
    kept_nothing None b h = refl

    -- an event that the one keeps, the other keeps alike
    pub decision_again : item_of (decision_of T e) e ≡ kept e → decision_of U e ≡ decision_of T e
    unfolding decision_of
    decision_again h =
        let n = kept_nothing (repeat_of T e) (has_outgoing T e.target.0) h in
        rw (n, repeat_again n, gives_again e.target.0 target_in target-again)
