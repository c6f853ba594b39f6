-- The times of accepted events. Document 01 is the special case of document 02, 2.5, in which they rise strictly: its causal paths are
-- chains by times, which are then the chains by the order of acceptance. Lists hold the last accepted first.
use Rattle.std.specs.Prelude.{ℕ, ◌≤◌, ◌<◌, ◌≡◌, ◌↔◌}
use mathlib.Core.List.{List, [], ◌∷◌, ◌++◌, Memᴰ}
use Rattle.record.specs.declared.Event.{Event}
use Rattle.rules.specs.Paths.{Links, CausalPath, All, PathBy}
use Rattle.rules.specs.History.{Item, accepted, since, Reached}

-- no event is earlier than one accepted before it
abbrev pub Ordered : List Event → Type 0
Ordered [] = Unit {0}
Ordered (e ∷ es) = All (λ d. d.time ≤ e.time) es × Ordered es

-- each event is later than all that were accepted before it
abbrev pub Strict : List Event → Type 0
Strict [] = Unit {0}
Strict (e ∷ es) = All (λ d. d.time < e.time) es × Strict es

-- "times rising"
abbrev pub Rising : List Event → Type 0
Rising [] = Unit {0}
Rising (e ∷ []) = Unit {0}
Rising (e ∷ (d ∷ p)) = (d.time < e.time) × Rising (d ∷ p)

-- "A causal path is a chain of accepted events, each starting where the one before ended, times rising."
pub record RisingPath (es : List Event) (x y : ℕ) : Type 0 where
  pub path : List Event
  pub links : Links x y path
  pub rising : Rising path
  pub members : (e : Event) → Memᴰ e path → Memᴰ e es

-- "A path is in by t if no event of it is later than t."
abbrev pub RisingBy : List Event → ℕ → ℕ → ℕ → Type 0
RisingBy es t x y = (p : RisingPath es x y) × All (λ e. e.time ≤ t) p.path

-- "the full log's answer at t", forward: through events at t or later (the paper, Definition 2)
abbrev pub RisingFrom : List Event → ℕ → ℕ → ℕ → Type 0
RisingFrom es t x y = (p : RisingPath es x y) × All (λ e. t ≤ e.time) p.path

-- Document 01's words, of the accepted events hs
pub record ByTimes (hs : List Item) : Type 0 where
  -- causal paths of the events accepted up to some event, and so ancestors and who gains one
  pub paths : (later earlier : List Item) → hs ≡ later ++ earlier → (x y : ℕ) → CausalPath (accepted earlier) x y ↔ RisingPath (accepted earlier) x y
  pub by : (t x y : ℕ) → PathBy (accepted hs) t x y ↔ RisingBy (accepted hs) t x y
  -- "a causal path .. through events accepted after the intake alone"
  pub reached : (u t y : ℕ) → Reached u t hs y ↔ RisingPath (since u t hs) u y
  -- "a forward answer may hold more than the full log's answer at t, never less"; false where times may be equal (agreement/specs/Ticks.antt)
  pub never_less : (u t y : ℕ) → RisingFrom (accepted hs) t u y → Reached u t hs y
