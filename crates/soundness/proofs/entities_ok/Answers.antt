use native.Mathlib.Omega.{arith}
use mathlib.Core.Path.{◌≡◌}
use mathlib.Core.Bool.{true, false}
use borrow.Author.Rules.{rules}
use borrow.Author.Tests.{tests}
use Rattle.std.proofs.lemmas.Iterator.{cases_from_all, YieldsList-from_range}
use Rattle.rules.specs.Trail.{lent, trail_of}
use Rattle.rules.specs.Sound.{entity_test}
use Rattle.soundness.proofs.All.{range_all}
use Rattle.soundness.proofs.entities_ok.Goals as goal

pub returns : goal.returns
returns c =
    let p = entity_test (trail_of c.args.t.now.counts (lent c.args.t.now)) in
    range_all p _ _
    (cases_from_all _ _ _ (λ k. p k ≡ true) (λ k. p k ≡ false) c.all.ensures.ran (YieldsList-from_range 0 c.args.t.now.counts.entities c.args.t.now.counts.entities (cc) (omega arith))
    (λ x q k. search (rules, tests)) (λ x q k. search (rules, tests)))
