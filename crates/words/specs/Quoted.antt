-- Document 02, 2.6: "A name stands in double quotes, with `\` before a quote or backslash in it."
use Rattle.std.specs.Prelude.{ℕ, Bool, ◌||◌, cond, List, [], ◌∷◌, ◌++◌, eqb}

abbrev pub quote : ℕ
quote = 0x22

abbrev pub backslash : ℕ
backslash = 0x5C

unfoldable pub is_marked : ℕ → Bool
is_marked c = eqb c quote || eqb c backslash

unfoldable pub escaped : List ℕ → List ℕ
escaped [] = []
escaped (c ∷ cs) = cond (is_marked c) (backslash ∷ (c ∷ escaped cs)) (c ∷ escaped cs)

unfoldable pub quoted : List ℕ → List ℕ
quoted name = quote ∷ (escaped name ++ (quote ∷ []))
