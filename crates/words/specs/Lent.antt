-- The names of entities in a lent text with the places where its lines begin.
use Rattle.std.specs.Prelude.{ℕ, List}
use Rattle.words.specs.declared.names.Names.{Names}
use Rattle.words.specs.Names.{name_in}
use Rattle.words.specs.Index.{HasLine}

-- the name of entity i is there, and it is known where it stands
abbrev pub IsNamed : Names → ℕ → Type 0
IsNamed names i = HasLine names.text.now names.starts.now i

abbrev pub name_of : Names → ℕ → List ℕ
name_of names = name_in names.text.now
