-- What is claimed of every working, to be read beside document 01, "Traces", and document 02, 2.5. Lists hold the last accepted first.
use Rattle.std.specs.Prelude.{ℕ, ◌+◌, ◌≤◌, ◌<◌, ◌≡◌, ◌⊎◌, ◌↔◌, List, [], ◌∷◌, ◌++◌, length}
use Rattle.record.specs.declared.Event.{Event}
use Rattle.record.specs.declared.Record.TheVariants as records
use Rattle.record.specs.Layout.{kind_no}
use Rattle.rules.specs.Trail.{Trail}
use Rattle.rules.specs.Paths.{CausalPath, PathBy, PathAfter}
use Rattle.rules.specs.History.{Item, dropped, accepted, kept_events, intake_time, Reached}
use Rattle.rules.specs.Start.{StartVersion, intake_of}
use Rattle.rules.specs.Backward.{BackwardMarks}
use Rattle.rules.specs.Forward.{ForwardMarks}
use Rattle.rules.specs.KeptLog.{event_record}
use Rattle.causality.specs.Working.{ne, nv, nd, EntityMarked, last_of, Grown}
use Rattle.causality.specs.Times.{Strict, ByTimes}

-- where n events were kept before e: edge n, read as an event, is e, and its kind is the number of e's kind
abbrev pub Logged : Trail → List Event → Type 0
Logged T [] = Unit {0}
Logged T (e ∷ ks) = (event_record T (length ks) ≡ records.Event e) × ((T.edge (length ks)).kind ≡ kind_no e.kind) × Logged T ks

-- For any working; times do not fall, and may be equal
pub record Faithful (T : Trail) (hs : List Item) : Type 0 where
  -- a declared entity has a start version at each time, and one alone
  pub start : (x t : ℕ) → x < ne T → (s : ℕ) × StartVersion T x t s
  pub start_one : (x t s r : ℕ) → StartVersion T x t s → StartVersion T x t r → s ≡ r
  -- backward from v at t: the causal paths to v in by t
  pub backward : (v t s x : ℕ) → v < ne T → StartVersion T v t s → EntityMarked T (BackwardMarks T s t) x ↔ PathBy (accepted hs) t x v
  -- forward from u at t: the causal paths from u through events accepted after its latest kept intake at or before t
  pub forward : (u t s y : ℕ) → u < ne T → StartVersion T u t s → EntityMarked T (ForwardMarks T s) y ↔ Reached u t hs y
  -- the intake that forward gives is its time, 0 if there is none
  pub intake : (u t s : ℕ) → u < ne T → StartVersion T u t s → intake_of T s t ≡ intake_time u t hs
  -- "never less than the full answer over events later than t"
  pub never_less : (u t s y : ℕ) → u < ne T → StartVersion T u t s → PathAfter (accepted hs) t u y → EntityMarked T (ForwardMarks T s) y
  -- a dropped event gives its target no causal path that it had not
  pub gain : (later earlier : List Item) (e : Event) (x : ℕ) → hs ≡ later ++ (dropped e ∷ earlier)
      → CausalPath (e ∷ accepted earlier) x e.target.0 → CausalPath (accepted earlier) x e.target.0
  -- the edges are the kept events in order
  pub edges : nd T ≡ length (kept_events hs)
  pub log : Logged T (kept_events hs)
  -- "versions ≤ entities + edges"
  pub versions : nv T ≤ ne T + nd T

-- Backward marks stay as they are when more is taken in: at times below the last accepted, or where no event was added
abbrev pub Stable : Trail → List Item → Trail → List Item → Type 0
Stable T hs T' more =
    (v t s r x : ℕ) → v < ne T → v < ne T' → StartVersion T v t s → StartVersion T' v t r → (t < last_of hs) ⊎ (more ≡ [])
    → EntityMarked T' (BackwardMarks T' r t) x ↔ EntityMarked T (BackwardMarks T s t) x

pub record Claims : Type 0 where
  pub any_working : {T : Trail} {hs : List Item} → Grown T hs → Faithful T hs
  pub stable : {T T' : Trail} (hs more : List Item) → Grown T hs → Grown T' (more ++ hs) → Stable T hs T' more
  pub document01 : {T : Trail} {hs : List Item} → Grown T hs → Strict (accepted hs) → ByTimes hs
