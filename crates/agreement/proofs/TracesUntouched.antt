-- Tables that hold plain lists that differ in signatures alone differ in sorts alone, which traces do not read.
use Prim.Native.Nat.{◌<◌}
use native.Mathlib.Omega.{arith}
use mathlib.Core.Path.{◌≡◌, sym, ◌∙◌, ap, subst}
use mathlib.Core.Bool.{true}
use mathlib.Core.List.{List}
use Rattle.rows.specs.declared.Counts.{Counts}
use Rattle.rows.specs.declared.EntityRow.{EntityRow}
use Rattle.record.specs.declared.Record.{Record}
use Rattle.rules.specs.Trail.{Tables, capacity_of, Trail, trail_of}
use Rattle.rules.specs.Sound.{is_sound}
use Rattle.rules.specs.PlainList.{worked, unsigned}
use Rattle.rules.specs.Calls.{Call}
use Rattle.closure.specs.Same.{SameButSorts}
use Rattle.closure.proofs.Sorts.{no_sort_read}
use Rattle.agreement.specs.Left.{LeftBy}
use Rattle.agreement.specs.Demand2.{Holds}
use Rattle.agreement.specs.Signed.{TracesUntouched}
use Rattle.agreement.proofs.Left.{left_by, left_sound}
use Rattle.agreement.proofs.Demand2.{demand2}

-- two trails that are the same as a third, but for sorts
both : {W T U : Trail} → SameButSorts W T → SameButSorts W U → SameButSorts T U
both {W} {T} {U} p q =
    let entities : W.counts.entities ≡ T.counts.entities = ap (λ (c : Counts). c.entities) p.counts in
    let versions : W.counts.versions ≡ T.counts.versions = ap (λ (c : Counts). c.versions) p.counts in
    let edges : W.counts.edges ≡ T.counts.edges = ap (λ (c : Counts). c.edges) p.counts in
    record {
      counts = sym p.counts ∙ q.counts;
      latest = λ x l. let i : x < W.counts.entities = omega arith in sym (p.latest x i) ∙ q.latest x i;
      version_rows = λ k l. let i : k < W.counts.versions = omega arith in sym (p.version_rows k i) ∙ q.version_rows k i;
      edge_rows = λ k l. let i : k < W.counts.edges = omega arith in sym (p.edge_rows k i) ∙ q.edge_rows k i;
    }

-- tables that hold a plain list, and the list without its signatures
held-unsigned : {rs : List Record} {c : Counts} {t : Tables} → Holds rs c t → SameButSorts (worked (unsigned rs)) (trail_of c t)
held-unsigned {rs} {c} {t} h =
    let u = h.untouched.trail in
    let entities : c.entities ≡ (worked (unsigned rs)).counts.entities = ap (λ (k : Counts). k.entities) (h.counts ∙ sym u.counts) in
    let versions : c.versions ≡ (worked (unsigned rs)).counts.versions = ap (λ (k : Counts). k.versions) (h.counts ∙ sym u.counts) in
    let edges : c.edges ≡ (worked (unsigned rs)).counts.edges = ap (λ (k : Counts). k.edges) (h.counts ∙ sym u.counts) in
    record {
      counts = u.counts ∙ sym h.counts;
      latest = λ x l. u.latest x l ∙ sym (ap (λ (r : EntityRow). r.latest.0) (h.entity_rows x (omega arith)));
      version_rows = λ k l. u.version_rows k l ∙ sym (h.version_rows k (omega arith));
      edge_rows = λ k l. u.edge_rows k l ∙ sym (h.edge_rows k (omega arith));
    }

sound : {cs : List Call} {c : Counts} {t : Tables} → LeftBy cs c t → is_sound (capacity_of t) (trail_of c t) ≡ true
sound {cs} {c} {t} l = left_by (λ k. is_sound (capacity_of t) (trail_of k t) ≡ true) l (left_sound cs t l.lent l.rows)

pub traces_untouched : TracesUntouched
traces_untouched cs cs' c c' t t' l l' q =
    no_sort_read c c' t t' (sound l) (sound l')
    (both (subst (λ (rs : List Record). SameButSorts (worked rs) (trail_of c t)) q (held-unsigned (demand2.holds cs c t l))) (held-unsigned (demand2.holds cs' c' t' l')))
