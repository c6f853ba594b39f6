-- The versions marked forward from a start version are of the entities reached through later events.
use Prim.Native.Nat.{ℕ, ◌<◌}
use native.Mathlib.Omega.{arith}
use mathlib.Core.Logic.{◌↔◌}
use mathlib.Core.List.{List}
use Rattle.rules.specs.Trail.{Trail, latest_of}
use Rattle.rules.specs.History.{Item, accepted, since}
use Rattle.causality.specs.Working.{ne, nv, Leads, last_of, Grown}
use Rattle.causality.proofs.Invariant.{Inv}
use Rattle.causality.proofs.Growth.{inv, grown_ind}
use Rattle.causality.proofs.Reach.{Reach, reach_part}
use Rattle.causality.proofs.Parts.{since_part}
use Rattle.causality.proofs.Accepted.{grown_within, reach_within}
use Rattle.causality.proofs.Walk.{StartsAt, starts_in}
use Rattle.causality.proofs.ForwardMarks.{fwd_in}
use Rattle.causality.proofs.Upward.{leads_up}
use Rattle.causality.proofs.ForwardSteps.{Claim, claim_declared, claim_dropped, claim_kept}

pub forward_latest : {T : Trail} {hs : List Item} → Grown T hs → Claim T hs
forward_latest g = grown_ind Claim (λ T x _ _ u t s y h. absurd (omega arith)) claim_declared claim_dropped (λ T T' hs e w g k ih. claim_kept T T' hs e w k ih) g

-- the entities with a version marked forward from the start version
pub forward_reach : {T : Trail} {hs : List Item} → Grown T hs → (u t s y : ℕ) → u < ne T → StartsAt T u t s → Leads T s y ↔ Reach (since u t hs) u y
forward_reach {T} {hs} g u t s y h r = (to, from)
  where
    i : Inv T (last_of hs)
    i = inv g

    m : s < nv T
    m = starts_in i h r

    to : Leads T s y → Reach (since u t hs) u y
    to l = (forward_latest g u t s y h (rw l.owner at (i.owner_in l.version (fwd_in i m l.marked))) r).0 (leads_up g m l)

    from : Reach (since u t hs) u y → Leads T s y
    from z =
        let n = reach_within (ne T) (last_of hs) (accepted hs) (grown_within g) u y h (reach_part (since_part u t hs) u y z) in
        record { version = latest_of T y; marked = (forward_latest g u t s y h n r).1 z; owner = i.latest_owner y n }
