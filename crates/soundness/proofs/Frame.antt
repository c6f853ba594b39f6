-- What a batch leaves as it was lent: by induction on its records, each of which is taken in over sound tables.
use Prim.Native.Nat.{ℕ, ◌+◌, ◌≤◌, ◌<◌}
use native.Mathlib.Omega.{arith}
use mathlib.Core.Path.{◌≡◌, refl, sym, ◌∙◌, ap}
use mathlib.Core.Logic.{inl, inr}
use mathlib.Core.Bool.{true, Bool, false}
use mathlib.Core.List.{List, [], ◌∷◌}
use lib.Dec.{ltb}
use borrow.Author.Tests.{not-false, ltb-true, ltb-false}
use Rattle.refusals.specs.Refusals.{Checked}
use Rattle.refusals.specs.Refusals.{first_of}
use Rattle.rows.specs.declared.Counts.{Counts}
use Rattle.rows.specs.declared.EdgeRow.{EdgeRow}
use Rattle.rows.specs.Rows.{recounted}
use Rattle.rows.specs.declared.EntityRow.{EntityRow}
use Rattle.record.specs.declared.Record.{Record}
use Rattle.rules.specs.Trail.{Tables, capacity_of, Trail, trail_of, owner_of}
use Rattle.rules.specs.Sound.{is_sound, is_signed}
use Rattle.rules.specs.Record.{refusal_of}
use Rattle.rules.specs.Batch.{Results, results, answered, take_in, contents_of, batch_checks, results_of, batch_of}
use Rattle.soundness.specs.Taken.{SortFits, Each}
use Rattle.soundness.specs.Frame.{CountsGrow, SameOrMore, RowsStay, Framed, Frame, SignedStays}
use Rattle.soundness.proofs.Taken.{passed_at}
use Rattle.soundness.proofs.TableStep.{step_sound}
use Rattle.soundness.proofs.Decoded.{contents_fit}
use Rattle.soundness.proofs.BatchStep.{if_refused_passed}
use Rattle.soundness.proofs.Past.{past_refl, past_trans}
use Rattle.soundness.proofs.RowsStay.{LatestOrAdded}
use Rattle.soundness.proofs.FrameStep.{step_framed}
use Rattle.soundness.proofs.Sorts.{stays_trans}

-- Nothing taken in, and one batch after another

grow_trans : {c c1 c2 : Counts} → CountsGrow c c1 → CountsGrow c1 c2 → CountsGrow c c2
grow_trans p q = search arith

rows_refl : (T : Trail) → RowsStay T T
rows_refl T = record {
  sort_same_or_signed = λ x l. inl refl;
  latest_or_added = λ x l. inl refl;
  owner_same = λ k l. refl;
  start_same = λ k l. refl;
  end_le = λ k l. omega arith;
  previous_same = λ k l. refl;
  signed_stays = λ x l q. record { row = refl; versions = λ k h i. refl; edges = λ k h i o. refl; no_version = λ k h i o. omega arith; no_edge = λ k h i m o. omega arith };
  edge_same_or_more = λ k l. inl refl;
}

module _ {T T1 T2 : Trail} (g : CountsGrow T.counts T1.counts) (h : CountsGrow T1.counts T2.counts) (p : RowsStay T T1) (q : RowsStay T1 T2) where
  rows_trans : RowsStay T T2
  rows_trans = record {
    sort_same_or_signed = λ x l. stays_trans _ _ _ (p.sort_same_or_signed x l) (q.sort_same_or_signed x (omega arith));
    latest_or_added = λ x l. latest (p.latest_or_added x l) (q.latest_or_added x (omega arith));
    owner_same = λ k l. q.owner_same k (omega arith) ∙ p.owner_same k l;
    start_same = λ k l. q.start_same k (omega arith) ∙ p.start_same k l;
    end_le = λ k l. let a = p.end_le k l in let b = q.end_le k (omega arith) in omega arith;
    previous_same = λ k l. q.previous_same k (omega arith) ∙ p.previous_same k l;
    signed_stays = λ x l s. kept x l (p.signed_stays x l s) (λ h. q.signed_stays x (omega arith) h) s;
    edge_same_or_more = λ k l. counted (p.edge_same_or_more k l) (q.edge_same_or_more k (omega arith));
  }
    where
      latest : {x : ℕ} → LatestOrAdded T T1 x → LatestOrAdded T1 T2 x → LatestOrAdded T T2 x
      latest (inl a) (inl b) = inl (b ∙ a)
      latest (inr a) (inl b) = inr (omega arith, omega arith)
      latest a (inr b) = inr (omega arith, omega arith)

      -- a version that was added, first or then
      added : {x : ℕ} → SignedStays T T1 x → SignedStays T1 T2 x → (k : ℕ) → T.counts.versions ≤ k → k < T2.counts.versions → owner_of T2 k ≡ x
          → (b : Bool) → ltb k T1.counts.versions ≡ b → ⊥
      added a b k h i o true z = let j = ltb-true _ _ z in a.no_version k h j (sym (q.owner_same k j) ∙ o)
      added a b k h i o false z = b.no_version k (ltb-false _ _ z) i o

      -- an edge keeps the version that it enters
      to_same : (k : ℕ) → SameOrMore T1 T2 k → (T2.edge k).to.0 ≡ (T1.edge k).to.0
      to_same k (inl e) = ap (λ (r : EdgeRow). r.to.0) e
      to_same k (inr m) = ap (λ (r : EdgeRow). r.to.0) m.row

      entered : {x : ℕ} → SignedStays T T1 x → SignedStays T1 T2 x → (k : ℕ) → T.counts.edges ≤ k → k < T2.counts.edges → (T2.edge k).to.0 < T.counts.versions
          → owner_of T (T2.edge k).to.0 ≡ x → (b : Bool) → ltb k T1.counts.edges ≡ b → ⊥
      entered a b k h i m o true z =
          let j = ltb-true _ _ z in
          let e = to_same k (q.edge_same_or_more k j) in
          a.no_edge k h j (omega arith) (ap (owner_of T) (sym e) ∙ o)
      entered a b k h i m o false z = b.no_edge k (ltb-false _ _ z) i (omega arith) (p.owner_same (T2.edge k).to.0 m ∙ o)

      kept : (x : ℕ) → x < T.counts.entities → SignedStays T T1 x → (is_signed (T1.entity x).sort ≡ true → SignedStays T1 T2 x) → is_signed (T.entity x).sort ≡ true
          → SignedStays T T2 x
      kept x l a next s =
          let b = next (ap (λ (r : EntityRow). is_signed r.sort) a.row ∙ s) in
          record {
            row = b.row ∙ a.row;
            versions = λ k h o. b.versions k (omega arith) (p.owner_same k h ∙ o) ∙ a.versions k h o;
            edges = λ k h i o.
                let same = a.edges k h i o in
                let to = ap (λ (r : EdgeRow). r.to.0) same in
                b.edges k (omega arith) (omega arith) (ap (owner_of T1) to ∙ p.owner_same (T.edge k).to.0 i ∙ o) ∙ same;
            no_version = λ k h i o. added a b k h i o (ltb k T1.counts.versions) refl;
            no_edge = λ k h i m o. entered a b k h i m o (ltb k T1.counts.edges) refl;
          }

      counted : {k : ℕ} → SameOrMore T T1 k → SameOrMore T1 T2 k → SameOrMore T T2 k
      counted (inl a) (inl b) = inl (b ∙ a)
      counted {k} (inl a) (inr b) =
          let n = ap (λ (r : EdgeRow). r.count) a in
          inr (record {
            row = b.row ∙ ap (λ (r : EdgeRow). recounted r (T2.edge k).count (T2.edge k).last) a;
            count_less = omega (arith, b.count_less);
            last_not_earlier = omega (arith, b.last_not_earlier, g.last_le);
            last_within = b.last_within;
          })
      counted {k} (inr a) (inl b) =
          let n = ap (λ (r : EdgeRow). r.count) b in
          let l = ap (λ (r : EdgeRow). r.last) b in
          inr (record {
            row = b ∙ a.row ∙ (λ i. recounted (T.edge k) (sym n i) (sym l i));
            count_less = omega (arith, a.count_less);
            last_not_earlier = omega (arith, a.last_not_earlier);
            last_within = omega (arith, a.last_within, h.last_le);
          })
      counted {k} (inr a) (inr b) = inr (record {
        row = b.row ∙ ap (λ (r : EdgeRow). recounted r (T2.edge k).count (T2.edge k).last) a.row;
        count_less = omega (arith, a.count_less, b.count_less);
        last_not_earlier = omega (arith, b.last_not_earlier, g.last_le);
        last_within = b.last_within;
      })

framed_refl : (c : Counts) (t : Tables) (w : ℕ) (x : Checked) → Framed c t (answered (results x 0 c t) w)
framed_refl c t w x = record {
  counts = search arith;
  records_are = omega arith;
  entities = past_refl _ _;
  versions = past_refl _ _;
  edges = past_refl _ _;
  rows = rows_refl (trail_of c t);
  none_taken = λ e. (refl, refl);
}

framed_trans : (w : ℕ) (x : Checked) {c c1 c2 : Counts} {t t1 t2 : Tables} {m n : ℕ} → Framed c t (answered (results x m c1 t1) w)
    → Framed c1 t1 (answered (results x n c2 t2) w) → Framed c t (answered (results x (m + n) c2 t2) w)
framed_trans w x p q =
    let g = p.counts in
    let h = q.counts in
    record {
      counts = grow_trans g h;
      records_are = omega (arith, p.records_are, q.records_are);
      entities = past_trans (omega arith) p.entities q.entities;
      versions = past_trans (omega arith) p.versions q.versions;
      edges = past_trans (omega arith) p.edges q.edges;
      rows = rows_trans g h p.rows q.rows;
      none_taken = λ e.
          let a = p.none_taken (omega arith) in
          let b = q.none_taken (omega arith) in
          (b.0 ∙ a.0, b.1 ∙ a.1);
    }

-- The records of a file

module _ (c : Counts) (t : Tables) (w : ℕ) where
  -- c1 and t1 are what n records left
  take_in_framed : (rs : List Record) (c1 : Counts) (t1 : Tables) (n : ℕ) (ending : Checked) → Each SortFits rs → is_sound (capacity_of t1) (trail_of c1 t1) ≡ true
      → ((x : Checked) → Framed c t (answered (results x n c1 t1) w)) → Framed c t (answered (take_in c1 t1 n rs ending) w)
  unfolding take_in
  take_in_framed [] c1 t1 n ending f s p = p ending
  take_in_framed (r ∷ rs) c1 t1 n ending f s p =
      let x = refusal_of (capacity_of t1) (trail_of c1 t1) r in
      if_refused_passed (λ (b : Results). Framed c t (answered b w)) x _ _ (p x)
      (λ q. take_in_framed rs _ _ (n + 1) ending f.1 (step_sound c1 t1 r s q f.0) (λ y. framed_trans w y (p y) (step_framed c1 t1 s r f.0 q y w)))

pub frame : Frame
unfolding batch_of results_of batch_checks
frame c t file =
    let w = (batch_of c t file).answer.tried in
    if_refused_passed (λ (b : Results). Framed c t (answered b w)) (first_of (batch_checks c t file)) _ _ (framed_refl c t w (first_of (batch_checks c t file)))
    (λ q. take_in_framed c t w (contents_of file).records c t 0 (contents_of file).ending (contents_fit file) (not-false _ (passed_at _ q 0)) (framed_refl c t w))
