-- Tables without an edge contradict demand 3 alone: a backward trace over them marks versions of its own entity and no others, but the
-- full list has a causal path from another.
use Prim.Native.Nat.{ℕ, ◌≤◌}
use native.Mathlib.Omega.{arith}
use mathlib.Core.Path.{◌≡◌, refl, sym, ◌∙◌, subst}
use mathlib.Core.List.Memᴰ
use mathlib.Core.List.{List, [], ◌∷◌}
use lib.ListN.{length}
use Rattle.rows.specs.declared.Counts.{Counts}
use Rattle.rules.specs.Trail.{Tables, Trail, trail_of}
use Rattle.rules.specs.Start.{OnChain}
use Rattle.rules.specs.Backward.{BackwardMarks, backward_of}
use Rattle.closure.proofs.StartVersion.{on_chain_in}
use Rattle.closure.proofs.Checked.{number_passed, passed_rows, passed_entity}
use Rattle.closure.proofs.ByRelations.{traces_by_relations}
use Rattle.agreement.specs.Demand3.{BackwardAgrees}
use Rattle.agreement.specs.Refuted.{worked_plain}
use Rattle.agreement.proofs.WorkedAnswers.{rows, not_refused, backward_is}

on_chain : {T : Trail} {x s t a : ℕ} → T.counts.edges ≡ 0 → OnChain T x s → BackwardMarks T s t a → OnChain T x a
on_chain {T} {x} e o (BackwardMarks.start q) = subst (OnChain T x) (sym q) o
on_chain e o (BackwardMarks.into_start k l p i q) = absurd (omega arith)
on_chain e o (BackwardMarks.into_other k m n l p q) = absurd (omega arith)
on_chain e o (BackwardMarks.previous m n q) = OnChain.previous (on_chain e o m) n q

module _ (c : Counts) (t : Tables) (work marks : List ℕ) (e : c.edges ≡ 0) (l : 5 ≤ length work) (j : 4 ≤ length marks)
    (g : BackwardAgrees worked_plain 2 6 work marks (backward_of c t 2 6 work marks)) where
  pub no_edge_traced : ⊥
  no_edge_traced =
      let r = (traces_by_relations.backward c t 2 6 work marks _).0 refl in
      let z : (backward_of c t 2 6 work marks).answer.refusal ≡ 0 = g.refusal ∙ not_refused (2 ∷ []) work marks (λ x i. let q = Memᴰ.eq_of_singleton i in omega arith) l j in
      let p = number_passed c t (2 ∷ []) work marks (sym r.refusal ∙ z) in
      let b = r.traced z in
      let y = (backward_is rows.p4 (backward_of c t 2 6 work marks) g z).0 0 (omega arith) in
      let i = passed_entity c t 2 work marks p in
      let m = (b.2.entities.marked 0).0 (omega arith, y) in
      let o = (on_chain_in (trail_of c t) (passed_rows c t (2 ∷ []) work marks p) i (on_chain e b.1.on_chain m.1)).1 in
      omega (arith, m.2, o)
