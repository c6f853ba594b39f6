-- Document 01, "Traces", and document 02, 2.5: causal paths in a list of events. Every list of events, a path too, holds the last accepted
-- first.
use Rattle.std.specs.Prelude.{ℕ, ◌≤◌, ◌<◌, ◌≡◌, List, [], ◌∷◌}
use Rattle.record.specs.declared.Event.{Event}

-- "each starting where the one before ended", from x to y: the last event ends at y, and those before it lead from x to where it starts; "An
-- entity reaches itself by the empty path."
abbrev pub Links : ℕ → ℕ → List Event → Type 0
Links x y [] = x ≡ y
Links x y (e ∷ p) = (y ≡ e.target.0) × Links x e.source.0 p

-- p is es with events left out: at each position of es, the event there is left out, or is the next one of p
pub data Part : List Event → List Event → Type 0 where
  done : Part [] []
  skip : {e : Event} {p es : List Event} → Part p es → Part p (e ∷ es)
  take : {e : Event} {p es : List Event} → Part p es → Part (e ∷ p) (e ∷ es)

-- "A causal path is a chain of accepted events, each starting where the one before ended"; document 02, 2.5: "The order of acceptance
-- decides what is causal, so an event never follows one accepted after it." Its events stand at positions of the full list, each one
-- accepted after the one before, whatever their times. (Where times rise strictly, that is document 01's "times rising":
-- causality/specs/Times.antt)
pub record CausalPath (es : List Event) (x y : ℕ) : Type 0 where
  pub path : List Event
  pub links : Links x y path
  pub order : Part path es

-- of each event of a list
abbrev pub All : (Event → Type 0) → List Event → Type 0
All p [] = Unit {0}
All p (e ∷ es) = p e × All p es

-- "A path is in by t if no event of it is later than t."
abbrev pub PathBy : List Event → ℕ → ℕ → ℕ → Type 0
PathBy es t x y = (p : CausalPath es x y) × All (λ e. e.time ≤ t) p.path

-- "the full answer over events later than t", forward (document 02, 2.5)
abbrev pub PathAfter : List Event → ℕ → ℕ → ℕ → Type 0
PathAfter es t x y = (p : CausalPath es x y) × All (λ e. t < e.time) p.path

-- "An ancestor of an entity is another one with a causal path to it": x is one of y
abbrev pub Ancestor : List Event → ℕ → ℕ → Type 0
Ancestor es x y = (x ≡ y → ⊥) × CausalPath es x y

-- "an entity gains an ancestor by an accepted event into it after which some other entity has a path to it that had
-- none before": it gains x by e, accepted after es
abbrev pub Gains : List Event → Event → ℕ → Type 0
Gains es e x = Ancestor (e ∷ es) x e.target.0 × (Ancestor es x e.target.0 → ⊥)
