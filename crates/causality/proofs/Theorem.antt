-- The proof of what Statements claims.
use Prim.Native.Nat.{ℕ, ◌<◌}
use mathlib.Core.Path.{◌≡◌, subst}
use mathlib.Core.Logic.Iff
use mathlib.Core.Logic.{◌↔◌}
use mathlib.Core.List.{List, [], ◌∷◌, ◌++◌}
use Rattle.record.specs.declared.Event.{Event}
use Rattle.rules.specs.Trail.{Trail}
use Rattle.rules.specs.Paths.{CausalPath}
use Rattle.rules.specs.History.{Item, kept, dropped, accepted, since}
use Rattle.rules.specs.Start.{StartVersion}
use Rattle.rules.specs.Backward.{BackwardMarks}
use Rattle.rules.proofs.Start.{start_one}
use Rattle.causality.specs.Working.{ne, EntityMarked, Grown}
use Rattle.causality.specs.Times.{Strict, ByTimes}
use Rattle.causality.specs.Statements.{Faithful, Stable, Claims}
use Rattle.causality.proofs.Reach.{reach_path}
use Rattle.causality.proofs.Parts.{up_to, since_part}
use Rattle.causality.proofs.Accepted.{grown_ordered}
use Rattle.causality.proofs.Start.{start_some, version_walk}
use Rattle.causality.proofs.Forward.{forward_reach}
use Rattle.causality.proofs.Ancestors.{dropped_gains_none}
use Rattle.causality.proofs.Backward.{backward_reach}
use Rattle.causality.proofs.Later.{up_to-same, after-since}
use Rattle.causality.proofs.Log.{edge_count, logged, versions_le}
use Rattle.causality.proofs.Intake.{intake_is_latest}
use Rattle.causality.proofs.Strict.{strict_part, causal_rising, rising_by, rising_from}
use Rattle.causality.proofs.PathsBy.{causal_by}
use Rattle.causality.proofs.AtOrLater.{from-since}

-- any working

gain : {T : Trail} {hs : List Item} → Grown T hs → (later earlier : List Item) (e : Event) (x : ℕ) → hs ≡ later ++ (dropped e ∷ earlier)
    → CausalPath (e ∷ accepted earlier) x e.target.0 → CausalPath (accepted earlier) x e.target.0
gain g later earlier e x q p =
    (reach_path (accepted earlier) x e.target.0).0
    (dropped_gains_none g later (dropped e) earlier q x e.target.0 ((reach_path (e ∷ accepted earlier) x e.target.0).1 p))

backward_by : {T : Trail} {hs : List Item} → Grown T hs → (v t s x : ℕ) → v < ne T → StartVersion T v t s
    → EntityMarked T (BackwardMarks T s t) x ↔ CausalPath (up_to t (accepted hs)) x v
backward_by {hs = hs} g v t s x h r = Iff.trans (backward_reach g t x v s h (version_walk g h r)) (reach_path (up_to t (accepted hs)) x v)

faithful : {T : Trail} {hs : List Item} → Grown T hs → Faithful T hs
faithful {T} {hs} g =
    record {
      start = start_some g;
      start_one = λ x t s r p q. start_one p q;
      backward = λ v t s x h r. Iff.trans (backward_by g v t s x h r) (causal_by t (accepted hs) x v);
      forward = λ u t s y h r. Iff.trans (forward_reach g u t s y h (version_walk g h r)) (reach_path (since u t hs) u y);
      intake = λ u t s h r. intake_is_latest g u t s h (version_walk g h r);
      never_less = λ u t s y h r (p, a).
          (forward_reach g u t s y h (version_walk g h r)).1
          ((reach_path (since u t hs) u y).1 (record { path = p.path; links = p.links; order = after-since u t hs (grown_ordered g) p.path p.order a }));
      gain = gain g;
      edges = edge_count g;
      log = logged g;
      versions = versions_le g;
    }

stable : {T T' : Trail} (hs more : List Item) → Grown T hs → Grown T' (more ++ hs) → Stable T hs T' more
stable {T} {T'} hs more g g' v t s r x h h' p p' l =
    let o = subst (λ es. EntityMarked T' (BackwardMarks T' r t) x ↔ CausalPath es x v) (up_to-same t more hs (grown_ordered g') l) (backward_by g' v t r x h' p') in
    Iff.trans o (Iff.symm (backward_by g v t s x h p))

-- document 01, where times rise strictly

strict_append : (later earlier : List Item) → Strict (accepted (later ++ earlier)) → Strict (accepted earlier)
strict_append [] earlier f = f
strict_append (kept e ∷ later) earlier f = strict_append later earlier f.1
strict_append (dropped e ∷ later) earlier f = strict_append later earlier f.1

by_times : {T : Trail} {hs : List Item} → Grown T hs → Strict (accepted hs) → ByTimes hs
by_times {hs = hs} g f = record {
  paths = λ later earlier q x y. causal_rising (accepted earlier) (strict_append later earlier (subst (λ z. Strict (accepted z)) q f)) x y;
  by = λ t x y. rising_by (accepted hs) f x y t;
  reached = λ u t y. causal_rising (since u t hs) (strict_part (since_part u t hs) f) u y;
  never_less = λ u t y p. let c = rising_from (accepted hs) f u y t p in from-since g f u t y c.0 c.1;
}

pub claims : Claims
claims = record { any_working = faithful; stable = stable; document01 = by_times }
