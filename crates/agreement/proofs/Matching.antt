-- After any list of calls the counts and rows in use are those that the plain list gives when worked from none.
use Rattle.std.specs.Prelude.{Ok, Err}
use Prim.Native.Nat.{ℕ, ◌+◌}
use native.Mathlib.Omega.{arith}
use mathlib.Core.Path.{◌≡◌, refl, sym, ◌∙◌, ap, subst}
use mathlib.Core.Bool.{true}
use mathlib.Core.List.{List, [], ◌∷◌}
use Rattle.refusals.specs.Refusals.{Checked}
use Rattle.refusals.specs.Refusals.{first_of}
use Rattle.rows.specs.declared.Counts.{Counts}
use Rattle.rows.proofs.Capacity.{entities_most, versions_most, edges_most}
use Rattle.record.specs.declared.Record.{Record}
use Rattle.record.specs.Header.{header_checks}
use Rattle.rules.specs.Trail.{Tables, Capacity, capacity_of, trail_of}
use Rattle.rules.specs.Sound.{is_sound}
use Rattle.rules.specs.Record.{refusal_of, change_of, tried_for, written}
use Rattle.rules.specs.PlainList.{worked, items_of, added, added_by}
use Rattle.rules.specs.Batch.{Results, results, if_refused, contents_of, take_in, batch_checks, results_of, batch_of}
use Rattle.rules.specs.Calls.{Call, batch, backward, forward, Held, held_after, EnoughRows, Lent, AllLent, plain_after}
use Rattle.soundness.specs.Facts.{CountFacts, RowFacts}
use Rattle.soundness.specs.Taken.{SortFits, Each}
use Rattle.soundness.proofs.Passes.{facts_sound}
use Rattle.soundness.proofs.Written.{capacity_of-written}
use Rattle.soundness.proofs.TableStep.{step_trail, step_sound}
use Rattle.closure.proofs.SameFacts.{row_facts_same}
use Rattle.agreement.specs.Taken.{greatest, Within, Taken, begun, next}
use Rattle.agreement.proofs.Judged.{refusal-same, tried_same}
use Rattle.agreement.proofs.Changed.{Alike, changed_alike}
use Rattle.agreement.proofs.Plain.{Fine, taken_fine}
use Rattle.soundness.proofs.Decoded.{contents_fit}

pub record Matches (h : Held) (rs : List Record) : Type 0 where
  pub taken : Taken rs
  pub alike : Alike (worked rs) (trail_of h.counts h.tables)

-- Capacity

pub capacity_within : (t : Tables) → Within (capacity_of t)
capacity_within t = record { entities = entities_most t.entities; versions = versions_most t.versions; edges = edges_most t.edges }

room-counts : (c : Counts) (cap : Capacity) → CountFacts greatest c → EnoughRows cap c → CountFacts cap c
room-counts c cap f r = record {
  entities_in = r.entities;
  versions_in = r.versions;
  edges_in = r.edges;
  edges_accepted = f.edges_accepted;
  accepted_most = f.accepted_most;
}

-- A call lent what stands in h

module _ (h : Held) (rs : List Record) (m : Matches h rs) (t : Tables) (l : Lent h t) where
  fine : Fine (worked rs) (items_of rs)
  fine = taken_fine m.taken

  pub lent_alike : Alike (worked rs) (trail_of h.counts t)
  lent_alike = record {
    counts = m.alike.counts;
    rows = record {
      entities = m.alike.rows.entities;
      versions = m.alike.rows.versions;
      edges = m.alike.rows.edges;
      entity_rows = λ k i. m.alike.rows.entity_rows k i ∙ sym (l.entity_rows k (omega (arith, m.alike.rows.entities)));
      version_rows = λ k i. m.alike.rows.version_rows k i ∙ sym (l.version_rows k (omega (arith, m.alike.rows.versions)));
      edge_rows = λ k i. m.alike.rows.edge_rows k i ∙ sym (l.edge_rows k (omega (arith, m.alike.rows.edges)));
    };
  }

  pub lent_rows : RowFacts (trail_of h.counts t)
  lent_rows =
      row_facts_same lent_alike.rows (ap (λ (c : Counts). c.last) m.alike.counts) (ap (λ (c : Counts). c.accepted) m.alike.counts)
      fine.rows

  pub lent_sound : is_sound (capacity_of t) (trail_of h.counts t) ≡ true
  lent_sound =
      facts_sound (trail_of h.counts t) lent_rows (capacity_of t)
      (room-counts h.counts (capacity_of t) (subst (CountFacts greatest) m.alike.counts fine.counted) l.room)

-- Records taken in, in tables that keep their capacity

pub record Ready (cap : Capacity) (c : Counts) (t : Tables) (rs : List Record) : Type 0 where
  pub taken : Taken rs
  pub alike : Alike (worked rs) (trail_of c t)
  pub sound : is_sound (capacity_of t) (trail_of c t) ≡ true
  pub capacity : capacity_of t ≡ cap

pub lent_ready : (h : Held) (rs : List Record) → Matches h rs → (t : Tables) → Lent h t → Ready (capacity_of t) h.counts t rs
lent_ready h rs m t l = record { taken = m.taken; alike = lent_alike h rs m t l; sound = lent_sound h rs m t l; capacity = refl }

module _ (cap : Capacity) (w : Within cap) where
  module _ (c : Counts) (t : Tables) (rs : List Record) (y : Ready cap c t rs) (r : Record) where
    -- the record is refused alike over the tables and over the plain list
    pub checked-same : refusal_of (capacity_of t) (trail_of c t) r ≡ refusal_of cap (worked rs) r
    checked-same =
        ap (λ (k : Capacity). refusal_of k (trail_of c t) r) y.capacity
        ∙ sym (refusal-same y.alike.counts y.alike.rows (taken_fine y.taken).rows cap r)

    pub tried_as_worked : refusal_of cap (worked rs) r ≡ Ok tt → tried_for (trail_of c t) r ≡ tried_for (worked rs) r
    tried_as_worked h = sym (tried_same y.alike.counts y.alike.rows (taken_fine y.taken).rows cap r h)

    pub ready_next : SortFits r → refusal_of cap (worked rs) r ≡ Ok tt
        → Ready cap (change_of (trail_of c t) r).counts (written t (change_of (trail_of c t) r).writes) (r ∷ rs)
    ready_next s h =
        let p = checked-same ∙ h in
        record {
          taken = next y.taken cap w r s h;
          alike =
              subst (Alike (worked (r ∷ rs))) (sym (step_trail c t r y.sound p))
              (changed_alike (worked rs) (taken_fine y.taken).rows cap (trail_of c t) y.alike r h);
          sound = step_sound c t r y.sound p s;
          capacity = capacity_of-written t (change_of (trail_of c t) r).writes ∙ y.capacity;
        }

  take_in_ready : (c : Counts) (t : Tables) (rs : List Record) → Ready cap c t rs → (n : ℕ) (more : List Record) (ending : Checked) → Each SortFits more
      → Ready cap (take_in c t n more ending).counts (take_in c t n more ending).tables (added cap rs more)
  unfolding take_in added
  take_in_ready c t rs y n [] ending a = y
  take_in_ready c t rs y n (r ∷ more) ending a =
      rw (checked-same c t rs y r)
      (go (refusal_of cap (worked rs) r) refl (λ h. take_in_ready (change_of (trail_of c t) r).counts (written t (change_of (trail_of c t) r).writes) (r ∷ rs) (ready_next c t rs y r a.0 h) (n + 1) more ending a.1))
    where
      rest : Results
      rest = take_in (change_of (trail_of c t) r).counts (written t (change_of (trail_of c t) r).writes) (n + 1) more ending

      stop : Checked → Results
      stop x = results x n c t

      go : (x : Checked) → refusal_of cap (worked rs) r ≡ x → (refusal_of cap (worked rs) r ≡ Ok tt → Ready cap rest.counts rest.tables (added cap (r ∷ rs) more))
          → Ready cap (if_refused x (stop x) rest).counts (if_refused x (stop x) rest).tables (if_refused x rs (added cap (r ∷ rs) more))
      go (Ok tt) q ih = ih q
      go (Err x) q ih = y

  batch_ready : (c : Counts) (t : Tables) (rs : List Record) → Ready cap c t rs → (file : List ℕ)
      → Ready cap (batch_of c t file).counts (batch_of c t file).tables (added_by cap rs file)
  unfolding batch_of results_of batch_checks added_by first_of
  batch_ready c t rs y file =
      rw y.sound
      (go (first_of (header_checks file)) (take_in_ready c t rs y 0 (contents_of file).records (contents_of file).ending (contents_fit file)))
    where
      rest : Results
      rest = take_in c t 0 (contents_of file).records (contents_of file).ending

      go : (x : Checked) → Ready cap rest.counts rest.tables (added cap rs (contents_of file).records)
          → Ready cap (if_refused x (results x 0 c t) rest).counts (if_refused x (results x 0 c t) rest).tables (if_refused x rs (added cap rs (contents_of file).records))
      go (Ok tt) z = z
      go (Err x) z = y

pub matches : (cs : List Call) → AllLent cs → Matches (held_after cs) (plain_after cs)
matches [] a = record {
  taken = begun;
  alike = record {
    counts = refl;
    rows = record { entities = refl; versions = refl; edges = refl; entity_rows = λ k l. refl; version_rows = λ k l. refl; edge_rows = λ k l. refl };
  };
}
matches (batch t file ∷ cs) a =
    let z = batch_ready (capacity_of t) (capacity_within t) _ _ _ (lent_ready _ _ (matches cs a.1) t a.0) file in
    record { taken = z.taken; alike = z.alike }
matches (backward t v time work marks ∷ cs) a = let m = matches cs a.1 in record { taken = m.taken; alike = lent_alike _ _ m t a.0 }
matches (forward t us time work marks ∷ cs) a = let m = matches cs a.1 in record { taken = m.taken; alike = lent_alike _ _ m t a.0 }
