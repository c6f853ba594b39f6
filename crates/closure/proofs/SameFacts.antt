-- Trails with the same rows in use: the facts of sound tables carry over.
use Prim.Native.Nat.{◌<◌}
use native.Mathlib.Omega.{arith}
use mathlib.Core.Path.{◌≡◌, sym, ◌∙◌, ap}
use mathlib.Core.Logic.{inl}
use Rattle.rows.specs.declared.EntityRow.{EntityRow}
use Rattle.rows.specs.declared.VersionRow.{VersionRow}
use Rattle.rows.specs.declared.EdgeRow.{EdgeRow}
use Rattle.rules.specs.Trail.{Trail}
use Rattle.rules.specs.Sound.{count_sum}
use Rattle.soundness.specs.Facts.{RowFacts}
use Rattle.soundness.proofs.Sums.{sum_same}
use Rattle.soundness.proofs.Extends.{Extends, rows_stay, old_entity, old_version, same-edge, old-times}
use Rattle.closure.specs.Same.{SameRows}

module _ {T T' : Trail} (s : SameRows T T') (last : T.counts.last ≡ T'.counts.last) where
  pub same_extends : Extends T T'
  same_extends = record {
    entities_le = omega (arith, s.entities);
    versions_le = omega (arith, s.versions);
    last_le = omega arith;
    sort_stays = λ x l. inl (sym (ap (λ (r : EntityRow). r.sort) (s.entity_rows x l)));
    owner_same = λ k l. sym (ap (λ (r : VersionRow). r.entity.0) (s.version_rows k l));
    start_same = λ k l. sym (ap (λ (r : VersionRow). r.start) (s.version_rows k l));
    previous_same = λ k l. sym (ap (λ (r : VersionRow). r.previous.0) (s.version_rows k l));
    edges = rows_stay (λ k l. sym (s.edge_rows k l));
  }

  pub row_facts_same : T.counts.accepted ≡ T'.counts.accepted → RowFacts T → RowFacts T'
  row_facts_same accepted f = record {
    entity = λ x l.
        let h : x < T.counts.entities = omega (arith, s.entities) in
        old_entity T T' f same_extends x h (sym (ap (λ (r : EntityRow). r.latest.0) (s.entity_rows x h)));
    version = λ k l.
        let h : k < T.counts.versions = omega (arith, s.versions) in
        let v = f.version k h in
        let start = ap (λ (r : VersionRow). r.start) (s.version_rows k h) in
        let end = ap (λ (r : VersionRow). r.end) (s.version_rows k h) in
        old_version T T' f same_extends k h (omega (arith, v.start_end)) (omega (arith, v.end_last));
    edge = λ k l. let h : k < T.counts.edges = omega (arith, s.edges) in same-edge T T' f same_extends k h (sym (s.edge_rows k h));
    times_ordered = λ k l. old-times T T' f same_extends k (omega (arith, s.edges));
    sum = ap (count_sum T'.edge) (sym s.edges)
        ∙ sym (sum_same (λ (r : EdgeRow). r.count) T.edge T'.edge T.counts.edges (λ k l. ap (λ (r : EdgeRow). r.count) (s.edge_rows k l)))
        ∙ f.sum ∙ accepted;
  }
