-- What takes bytes: one text after another is taken as both in one, where there is room for both.
use Rattle.std.specs.Prelude.{ℕ, List, [], ◌++◌}

pub record SinkLaws {S : Type 0} (has_room : S → List ℕ → Type 0) (takes : S → List ℕ → S → Type 0) : Type 0 where
  pub none : {s : S} → takes s [] s
  pub join : {s t u : S} {p q : List ℕ} → takes s p t → takes t q u → takes s (p ++ q) u
  pub room_first : {s : S} {p : List ℕ} (q : List ℕ) → has_room s (p ++ q) → has_room s p
  pub room_rest : {s t : S} {p q : List ℕ} → takes s p t → has_room s (p ++ q) → has_room t q
