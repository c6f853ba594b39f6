-- Events in one tick: what the trace theorem says of every list of calls, and the causal paths of four short lists of events.
use Prim.Native.Nat.{ℕ, ◌≤◌, ◌<◌}
use native.Mathlib.Omega.{arith}
use native.Mathlib.Decide.{dec_le}
use mathlib.Core.Path.{◌≡◌, refl, sym, ◌∙◌, ap, subst}
use mathlib.Core.Logic.{◌↔◌}
use mathlib.Core.List.{List, [], ◌∷◌, Memᴰ}
use lib.ListN.{get_or}
use Rattle.refusals.specs.Refusals.{number_of}
use Rattle.record.specs.declared.Kind.TheVariants.{Read, Write}
use Rattle.record.specs.declared.Event.{Event}
use Rattle.rules.specs.Paths.{Links, Part, done, skip, take, All, PathBy}
use Rattle.rules.specs.History.{Item, kept, accepted, into, since, Reached}
use Rattle.rules.specs.PlainList.{worked, items_of}
use Rattle.rules.specs.Backward.{BackwardTrace, buffer_checks}
use Rattle.rules.specs.Members.{OfAny}
use Rattle.rules.specs.Forward.{ForwardTrace}
use Rattle.rules.specs.Calls.{Call, AllLent, plain_after}
use Rattle.rules.specs.TickCases.{read_write, write_read, read_back, turns, plain_of}
use Rattle.rules.specs.PathCases.{read_then_write}
use Rattle.rules.proofs.PathCases.{path_cases}
use Rattle.closure.proofs.Checked.{undeclared_refused}
use Rattle.causality.specs.Working.{last_of, Grown}
use Rattle.causality.specs.Times.{Ordered, Strict, RisingFrom, ByTimes}
use Rattle.causality.proofs.Reach.{All-imp, All-part, reach_path}
use Rattle.causality.proofs.Parts.{since_part}
use Rattle.causality.proofs.Accepted.{Within, grown_within, grown_ordered, reach_within}
use Rattle.causality.proofs.Theorem.{claims}
use Rattle.agreement.specs.Demand3.{BackwardAgrees, ForwardAgrees}
use Rattle.agreement.specs.Ticks.{items_after, PathFrom, Ticks}
use Rattle.agreement.proofs.Plain.{taken_fine}
use Rattle.agreement.proofs.Matching.{matches}
use Rattle.agreement.proofs.OneEntity.{one_entity}
use Rattle.agreement.proofs.WorkedEvents.{event, computed}

-- Of every list of calls

ordered_part : {p es : List Event} → Part p es → Ordered es → Ordered p
ordered_part done o = tt
ordered_part (skip s) o = ordered_part s o.1
ordered_part (take {e = e} s) o = (All-part (λ d. d.time ≤ e.time) s o.0, ordered_part s o.1)

module _ (cs : List Call) (a : AllLent cs) where
  grown : Grown (worked (plain_after cs)) (items_after cs)
  grown = (taken_fine (matches cs a).taken).grown

  ordered : Ordered (accepted (items_after cs))
  ordered = grown_ordered grown

  special : Strict (accepted (items_after cs)) → ByTimes (items_after cs)
  special = claims.document01 grown

  module _ (us : List ℕ) (time : ℕ) (work marks : List ℕ) (f : ForwardTrace) (g : ForwardAgrees (plain_after cs) us time work marks f) (z : f.answer.refusal ≡ 0) where
    abbrev n : ℕ
    n = (worked (plain_after cs)).counts.entities

    declared : (u : ℕ) → Memᴰ u us → u < n
    declared u m = go (dec_le n u)
      where
        go : Dec (n ≤ u) → u < n
        go (no l) = omega arith
        go (yes l) =
            let q : ◌≡◌ {A = ℕ} 0 5 = sym z ∙ g.refusal ∙ ap number_of (undeclared_refused n (buffer_checks (worked (plain_after cs)).counts work marks) us u m l) in
            absurd (omega arith)

    reached_in : (u : ℕ) → u < n → (y : ℕ) → Reached u time (items_after cs) y → y < n
    reached_in u h y p =
        reach_within n (last_of (items_after cs)) (since u time (items_after cs))
        (All-part (Within n (last_of (items_after cs))) (since_part u time (items_after cs)) (grown_within grown)) u y h ((reach_path (since u time (items_after cs)) u y).1 p)

    special_marks : Strict (accepted (items_after cs)) → (y : ℕ) → OfAny us (RisingFrom (accepted (items_after cs)) time) y → (y < n) × (get_or f.marks y 0 ≡ 1)
    special_marks s y (u, m, p) =
        let r = (special s).never_less u time y p in
        let l = reached_in u (declared u m) y r in
        (l, ((g.marks_are z).marked y l).1 (u, m, r))

-- Of a file of the four entities and the events hs

module _ (bytes : List ℕ) (hs : List Item) (q : items_of (plain_of bytes) ≡ hs) (n : (worked (plain_of bytes)).counts.entities ≡ 4) where
  behind : (v t x : ℕ) {work marks : List ℕ} (b : BackwardTrace) → BackwardAgrees (plain_of bytes) v t work marks b → b.answer.refusal ≡ 0 → x < 4
      → (get_or b.marks x 0 ≡ 1) ↔ PathBy (accepted hs) t x v
  behind v t x b a z l = subst (λ (is : List Item). (get_or b.marks x 0 ≡ 1) ↔ PathBy (accepted is) t x v) q ((a.marks_are z).marked x (omega arith))

  ahead : (u t y : ℕ) {work marks : List ℕ} (f : ForwardTrace) → ForwardAgrees (plain_of bytes) (u ∷ []) t work marks f → f.answer.refusal ≡ 0 → y < 4
      → (get_or f.marks y 0 ≡ 1) ↔ Reached u t hs y
  ahead u t y f a z l =
      subst (λ (is : List Item). (get_or f.marks y 0 ≡ 1) ↔ Reached u t is y) q
      ((((one_entity.of_one (plain_of bytes) u t _ _ f).0 a).marks_are z).marked y (omega arith))

abbrev pair : List Item
pair = kept (event Write 1 2 1) ∷ kept (event Read 0 1 1) ∷ []

abbrev turned : List Item
turned = kept (event Read 0 1 1) ∷ kept (event Write 1 2 1) ∷ []

abbrev back : List Item
back = kept (event Write 1 0 1) ∷ kept (event Read 0 1 1) ∷ []

nothing : {x y : ℕ} → (x ≡ y → ⊥) → (p : List Event) → Part p [] → Links x y p → ⊥
nothing n p done l = n l

-- in the tick, by its order

pair_by : PathBy (accepted pair) 1 0 2
pair_by = (record { path = event Write 1 2 1 ∷ event Read 0 1 1 ∷ []; links = (refl, (refl, refl)); order = take (take done) }, (omega arith, (omega arith, tt)))

pair_reached : Reached 0 0 pair 2
unfolding since into
pair_reached = path_cases.in_order 1 1

turned_not_reached : Reached 0 0 turned 2 → ⊥
unfolding since into
turned_not_reached p = path_cases.turned 1 1 p

not_before : PathBy (accepted pair) 0 1 2 → ⊥
not_before (p, a) = go p.path p.order p.links a
  where
    go : (p : List Event) → Part p (read_then_write 1 1) → Links 1 2 p → All (λ e. e.time ≤ 0) p → ⊥
    go p (take s) l a = omega (arith, a.0)
    go p (skip (take s)) l a = omega (arith, a.0)
    go p (skip (skip done)) l a = omega arith

-- just after the last intake

after_intake : Reached 1 1 pair 2
unfolding since into
after_intake = record { path = event Write 1 2 1 ∷ []; links = (refl, refl); order = take done }

not_from_tick : Reached 0 1 back 1 → ⊥
unfolding since into
not_from_tick p = nothing (λ q. omega arith) p.path p.order p.links

not_after_first : Reached 0 1 (kept (event Write 1 0 1) ∷ kept (event Read 0 1 1) ∷ back) 1 → ⊥
unfolding since into
not_after_first p = nothing (λ q. omega arith) p.path p.order p.links

before_intake : Reached 0 0 back 1
unfolding since into
before_intake = record { path = event Read 0 1 1 ∷ []; links = (refl, refl); order = skip (take done) }

pub ticks : Ticks
ticks = record {
  positive = λ cs a. All-imp (λ e w. w.positive) (accepted (items_after cs)) (grown_within (grown cs a));
  ordered = ordered;
  along = λ cs a x y p. ordered_part p.order (ordered cs a);
  special = special;
  special_never_less = λ cs a s us time work marks f g z y p. special_marks cs a us time work marks f g z s y p;
  at_or_later =
      subst (λ (is : List Item). PathFrom (accepted is) 1 0 1 × (Reached 0 1 is 1 → ⊥)) (sym computed.read_back_lem)
      ((record { path = event Read 0 1 1 ∷ []; links = (refl, refl); order = skip (take done) }, (omega arith, tt)), not_from_tick);
  pair_missed = λ work marks b z w a. omega (arith, (behind read_write pair computed.read-write n 2 1 0 b a z (omega arith)).1 pair_by);
  pair_missed_forward = λ work marks f z w a. omega (arith, (ahead read_write pair computed.read-write n 0 0 2 f a z (omega arith)).1 pair_reached);
  follows_one_after = λ work marks b z w a. path_cases.turned 1 1 ((behind write_read turned computed.write_read_lem n₁ 2 1 0 b a z (omega arith)).0 w).0;
  follows_one_after_forward = λ work marks f z w a. turned_not_reached ((ahead write_read turned computed.write_read_lem n₁ 0 0 2 f a z (omega arith)).0 w);
  before_the_tick = λ work marks b z w a. not_before ((behind read_write pair computed.read-write n 2 0 1 b a z (omega arith)).0 w);
  from_the_tick = λ work marks f z w a. not_from_tick ((ahead read_back back computed.read_back_lem n₂ 0 1 1 f a z (omega arith)).0 w);
  after_the_tick = λ work marks f z w a. omega (arith, (ahead read_write pair computed.read-write n 1 1 2 f a z (omega arith)).1 after_intake);
  first_of_the_tick = λ work marks f z w a. not_after_first ((ahead turns _ computed.by_turns n₃ 0 1 1 f a z (omega arith)).0 w);
  before_the_intake = λ work marks f z w a. omega (arith, (ahead read_back back computed.read_back_lem n₂ 0 0 1 f a z (omega arith)).1 before_intake);
}
  where
    n : (worked (plain_of read_write)).counts.entities ≡ 4
    n = ap (λ (l : List ℕ). get_or l 0 0) computed.tick_entities

    n₁ : (worked (plain_of write_read)).counts.entities ≡ 4
    n₁ = ap (λ (l : List ℕ). get_or l 1 0) computed.tick_entities

    n₂ : (worked (plain_of read_back)).counts.entities ≡ 4
    n₂ = ap (λ (l : List ℕ). get_or l 2 0) computed.tick_entities

    n₃ : (worked (plain_of turns)).counts.entities ≡ 4
    n₃ = ap (λ (l : List ℕ). get_or l 3 0) computed.tick_entities
