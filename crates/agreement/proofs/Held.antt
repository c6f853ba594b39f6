-- What is known of the tables that a call of a list is lent: they are grown as the trace theorem asks, sound, and few.
use Prim.Native.Nat.{ℕ, ◌≤◌}
use native.Mathlib.Omega.{arith}
use mathlib.Core.Path.{◌≡◌, sym, ap}
use mathlib.Core.Logic.{◌↔◌}
use mathlib.Core.List.{List}
use Rattle.rows.specs.declared.Counts.{Counts}
use Rattle.rows.specs.declared.EntityRow.{EntityRow}
use Rattle.record.specs.declared.Record.{Record}
use Rattle.rules.specs.Trail.{Tables, Trail, trail_of, none, owner_of}
use Rattle.rules.specs.PlainList.{worked, items_of}
use Rattle.rules.specs.History.{Item}
use Rattle.rules.specs.Calls.{Held, Lent}
use Rattle.soundness.specs.Facts.{RowFacts}
use Rattle.closure.specs.Same.{SameRows}
use Rattle.closure.proofs.SameFacts.{same_extends}
use Rattle.causality.specs.Working.{EntityMarked, Same, Grown}
use Rattle.causality.specs.Statements.{Faithful}
use Rattle.causality.proofs.Same.{grown-same}
use Rattle.causality.proofs.Theorem.{claims}
use Rattle.agreement.proofs.Growing.{keeps}
use Rattle.agreement.proofs.Plain.{taken_fine}
use Rattle.agreement.proofs.Matching.{Matches, lent_alike, lent_rows}

same : {T U : Trail} → SameRows T U → T.counts.last ≡ U.counts.last → Same T U
same s q = record {
  ne_is = sym s.entities;
  nv_is = sym s.versions;
  nd_is = sym s.edges;
  latest_old = λ y l. ap (λ (r : EntityRow). r.latest.0) (sym (s.entity_rows y l));
  old = keeps (same_extends s q);
}

-- a marked version of an entity, as the computed marks and as the trace theorem has it
pub marked_some : {T : Trail} {M : ℕ → Type 0} {x : ℕ} → ((w : ℕ) × M w × (owner_of T w ≡ x)) ↔ EntityMarked T M x
marked_some = (λ z. record { version = z.0; marked = z.1; owner = z.2 }, λ m. (m.version, m.marked, m.owner))

pub record Known (U : Trail) (n : ℕ) (hs : List Item) : Type 0 where
  pub rows : RowFacts U
  pub few : U.counts.versions ≤ none
  pub entities : n ≡ U.counts.entities
  pub grown : Grown U hs
  pub faithful : Faithful U hs

pub known : (h : Held) (rs : List Record) → Matches h rs → (t : Tables) → Lent h t → Known (trail_of h.counts t) (worked rs).counts.entities (items_of rs)
known h rs m t l =
    let f = taken_fine m.taken in
    let a = lent_alike h rs m t l in
    let g = grown-same f.grown (same a.rows (ap (λ (c : Counts). c.last) a.counts)) in
    record {
      rows = lent_rows h rs m t l;
      few = omega (arith, f.counted.versions_in, a.rows.versions);
      entities = a.rows.entities;
      grown = g;
      faithful = claims.any_working g;
    }
