-- Demand 2: after any list of calls the counts and rows in use are those of the plain list, and a batch's answer says by how many
-- records that list grew.
use Rattle.std.specs.Prelude.{Ok, Err}
use Prim.Native.Nat.{ℕ, suc, ◌+◌, ◌≤◌, ◌<◌}
use native.Mathlib.Omega.{arith}
use mathlib.Core.Path.{◌≡◌, refl, sym, ◌∙◌, ap, subst}
use mathlib.Core.List.{List, [], ◌∷◌, ◌++◌, reverse, reverse_aux-eq}
use lib.ListN.{length, take}
use Rattle.refusals.specs.Refusals.{Checked}
use Rattle.refusals.specs.Refusals.{first_of, number_of}
use Rattle.rows.specs.declared.Counts.{Counts}
use Rattle.rows.specs.declared.EdgeRow.{EdgeRow}
use Rattle.rows.specs.Rows.{edge_at}
use Rattle.record.specs.declared.Record.{Record}
use Rattle.record.specs.declared.Record.TheVariants as records
use Rattle.record.specs.declared.Event.{Event}
use Rattle.record.specs.Header.{header_checks}
use Rattle.rules.specs.declared.Decision.{Decision}
use Rattle.rules.specs.declared.Decision.TheVariants.{Repeat, Widen, Renew}
use Rattle.rules.specs.Trail.{Tables, Capacity, capacity_of, Trail, trail_of}
use Rattle.rules.specs.Decide.{decision_of}
use Rattle.rules.specs.Record.{happened, change_of, written, refusal_of, tried_for}
use Rattle.rules.specs.Batch.{Results, results, if_refused, contents_of, take_in, tried_in, batch_checks, results_of, tried_of, batch_of}
use Rattle.rules.specs.History.{Item, item_of, accepted}
use Rattle.rules.specs.PlainList.{changed, worked, items_of, tried_over, added, added_by, refused_at, refused_by}
use Rattle.rules.specs.Calls.{Call, batch, held_after, Lent, AllLent, plain_after}
use Rattle.soundness.specs.Taken.{SortFits, Each}
use Rattle.soundness.proofs.Decoded.{contents_fit}
use Rattle.agreement.specs.Taken.{Within}
use Rattle.agreement.specs.Demand2.{Holds, Answered, Demand2}
use Rattle.agreement.proofs.Matching.{matches, lent_alike, lent_rows, lent_ready, Ready, checked-same, tried_as_worked, ready_next, capacity_within}
use Rattle.agreement.proofs.Held.{known}
use Rattle.agreement.proofs.Left.{left_by}
use Rattle.agreement.proofs.Counted.{worked_stands}
use Rattle.agreement.proofs.Signed.{taken_last, signed-held, no_more}
use Rattle.agreement.proofs.Unsigned.{untouched}

-- Each event of the plain list counts as accepted

accepted-event : (T : Trail) (e : Event) (hs : List Item) → T.counts.accepted ≡ length (accepted hs) → (d : Decision)
    → (changed T (happened T e d)).counts.accepted ≡ length (accepted (item_of d e ∷ hs))
accepted-event T e hs q (Repeat k) = omega (arith, q)
accepted-event T e hs q Widen = omega (arith, q)
accepted-event T e hs q Renew = omega (arith, q)

accepted_count : (rs : List Record) → (worked rs).counts.accepted ≡ length (accepted (items_of rs))
unfolding change_of
accepted_count [] = refl
accepted_count (records.Declaration d ∷ rs) = accepted_count rs
accepted_count (records.Event e ∷ rs) = accepted-event (worked rs) e (items_of rs) (accepted_count rs) (decision_of (worked rs) e)
accepted_count (records.Signature g ∷ rs) = accepted_count rs

held_holds : (cs : List Call) → AllLent cs → (t : Tables) → Lent (held_after cs) t → Holds (plain_after cs) (held_after cs).counts t
held_holds cs a t l =
    let m = matches cs a in
    let k = known _ _ m t l in
    let s = lent_alike _ _ m t l in
    let w = worked_stands (plain_after cs) in
    let inside : (k : ℕ) → k < (held_after cs).counts.edges → k < (worked (plain_after cs)).counts.edges = λ k i. omega (arith, s.rows.edges) in
    let row : (k : ℕ) → k < (held_after cs).counts.edges → edge_at t.edges k ≡ (worked (plain_after cs)).edge k
    = λ k i. sym (s.rows.edge_rows k (inside k i)) in
    record {
      counts = sym s.counts;
      entity_rows = λ x i. sym (s.rows.entity_rows x (omega (arith, s.rows.entities)));
      version_rows = λ x i. sym (s.rows.version_rows x (omega (arith, s.rows.versions)));
      edge_rows = row;
      accepted_are = ap (λ (c : Counts). c.accepted) (sym s.counts) ∙ accepted_count (plain_after cs);
      edges_are = k.faithful.edges;
      kept = k.faithful.log;
      counts_are = λ k i. ap (λ (r : EdgeRow). r.count) (row k i) ∙ w.count_is k (inside k i);
      lasts_are = λ k i. ap (λ (r : EdgeRow). r.last) (row k i) ∙ w.last_is k (inside k i);
      sum_is = (lent_rows _ _ m t l).sum ∙ ap (λ (c : Counts). c.accepted) (sym s.counts) ∙ accepted_count (plain_after cs);
      last_is = ap (λ (c : Counts). c.last) (sym s.counts) ∙ taken_last m.taken;
      signatures = λ x. signed-held m.taken s.rows x;
      no_more = no_more m.taken;
      untouched = untouched m.taken;
      versions = k.faithful.versions;
    }

-- By how many records the plain list grows

-- rs became rs' by the first n of the records more, in order
pub record GrownBy (n : ℕ) (more rs rs' : List Record) : Type 0 where
  pub among : n ≤ length more
  pub grown : rs' ≡ reverse (take n more) ++ rs

grown-none : (more rs : List Record) → GrownBy 0 more rs rs
grown-none more rs = record { among = omega arith; grown = refl }

grown_next : (k : ℕ) (r : Record) (more rs rs' : List Record) → GrownBy k more (r ∷ rs) rs' → GrownBy (suc k) (r ∷ more) rs rs'
grown_next k r more rs rs' g = record {
  among = omega (arith, g.among);
  grown = g.grown ∙ sym (reverse_aux-eq (take k more) (r ∷ rs)) ∙ reverse_aux-eq (r ∷ take k more) rs;
}

-- b took in n records and some of the records more, by which rs became rs', and was refused for x; w edges were tried for those
pub record Taking (n : ℕ) (more rs rs' : List Record) (x : Checked) (b : Results) (w : ℕ) : Type 0 where
  pub number : ℕ
  pub taken : b.taken ≡ n + number
  pub grown : GrownBy number more rs rs'
  pub checked : b.checked ≡ x
  pub tried : tried_over rs' ≡ tried_over rs + w

taking_none : (n : ℕ) (x : Checked) (c : Counts) (t : Tables) (more rs : List Record) → Taking n more rs rs x (results x n c t) 0
taking_none n x c t more rs = record { number = 0; taken = omega arith; grown = grown-none more rs; checked = refl; tried = omega arith }

taking_next : {n : ℕ} {more rs' : List Record} {x : Checked} {b : Results} {w : ℕ} (r : Record) (rs : List Record) (v : ℕ) → v ≡ tried_for (worked rs) r
    → Taking (n + 1) more (r ∷ rs) rs' x b w → Taking n (r ∷ more) rs rs' x b (v + w)
unfolding tried_over
taking_next {n} {more} r rs v q z = record {
  number = suc z.number;
  taken = omega (arith, z.taken);
  grown = grown_next z.number r more rs _ z.grown;
  checked = z.checked;
  tried = omega (arith, z.tried, q);
}

module _ (cap : Capacity) (w : Within cap) where
  take_in_taking : (c : Counts) (t : Tables) (rs : List Record) → Ready cap c t rs → (n : ℕ) (more : List Record) (ending : Checked) → Each SortFits more
      → Taking n more rs (added cap rs more) (refused_at cap rs more ending) (take_in c t n more ending) (tried_in c t more)
  unfolding take_in tried_in added refused_at
  take_in_taking c t rs y n [] ending a = taking_none n ending c t [] rs
  take_in_taking c t rs y n (r ∷ more) ending a =
      rw (checked-same cap w c t rs y r)
      (go (refusal_of cap (worked rs) r) refl (λ h. take_in_taking (change_of (trail_of c t) r).counts (written t (change_of (trail_of c t) r).writes) (r ∷ rs) (ready_next cap w c t rs y r a.0 h) (n + 1) more ending a.1))
    where
      rest : Results
      rest = take_in (change_of (trail_of c t) r).counts (written t (change_of (trail_of c t) r).writes) (n + 1) more ending

      rest_tried : ℕ
      rest_tried = tried_in (change_of (trail_of c t) r).counts (written t (change_of (trail_of c t) r).writes) more

      go : (x : Checked) → refusal_of cap (worked rs) r ≡ x
          → (refusal_of cap (worked rs) r ≡ Ok tt → Taking (n + 1) more (r ∷ rs) (added cap (r ∷ rs) more) (refused_at cap (r ∷ rs) more ending) rest rest_tried)
          → Taking n (r ∷ more) rs (if_refused x rs (added cap (r ∷ rs) more)) (if_refused x x (refused_at cap (r ∷ rs) more ending)) (if_refused x (results x n c t) rest)
          (if_refused x 0 (tried_for (trail_of c t) r + rest_tried))
      go (Ok tt) q ih = taking_next r rs (tried_for (trail_of c t) r) (tried_as_worked cap w c t rs y r q) (ih q)
      go (Err x) q ih = taking_none n (Err x) c t (r ∷ more) rs

  batch_taking : (c : Counts) (t : Tables) (rs : List Record) → Ready cap c t rs → (file : List ℕ)
      → Taking 0 (contents_of file).records rs (added_by cap rs file) (refused_by cap rs file) (results_of c t file) (tried_of c t file)
  unfolding results_of tried_of batch_checks added_by refused_by first_of
  batch_taking c t rs y file =
      rw y.sound
      (go (first_of (header_checks file)) (take_in_taking c t rs y 0 (contents_of file).records (contents_of file).ending (contents_fit file)))
    where
      rest : Results
      rest = take_in c t 0 (contents_of file).records (contents_of file).ending

      last : Checked
      last = refused_at cap rs (contents_of file).records (contents_of file).ending

      go : (x : Checked) → Taking 0 (contents_of file).records rs (added cap rs (contents_of file).records) last rest (tried_in c t (contents_of file).records)
          → Taking 0 (contents_of file).records rs (if_refused x rs (added cap rs (contents_of file).records)) (if_refused x x last) (if_refused x (results x 0 c t) rest)
          (if_refused x 0 (tried_in c t (contents_of file).records))
      go (Ok tt) z = z
      go (Err x) z = taking_none 0 (Err x) c t (contents_of file).records rs

held-answer : (cs : List Call) → AllLent cs → (t : Tables) → Lent (held_after cs) t → (file : List ℕ)
    → Answered (plain_after cs) t file (plain_after (batch t file ∷ cs)) (batch_of (held_after cs).counts t file).answer
unfolding batch_of
held-answer cs a t l file =
    let z = batch_taking (capacity_of t) (capacity_within t) (held_after cs).counts t (plain_after cs) (lent_ready _ _ (matches cs a) t l) file in
    let n : z.number ≡ (results_of (held_after cs).counts t file).taken = omega (arith, z.taken) in
    let g = subst (λ (k : ℕ). GrownBy k (contents_of file).records (plain_after cs) (plain_after (batch t file ∷ cs))) n z.grown in
    record { refusal = ap number_of z.checked; among = g.among; grown = g.grown; tried = z.tried }

pub demand2 : Demand2
demand2 = record {
  holds = λ cs c t l. left_by (λ k. Holds (plain_after cs) k t) l (held_holds cs l.lent t l.rows);
  answer = λ cs c t l file.
      left_by (λ k. Answered (plain_after cs) t file (plain_after (batch t file ∷ cs)) (batch_of k t file).answer) l (held-answer cs l.lent t l.rows file);
}
