-- Bytes written to a lent output from a place on.
use Rattle.std.specs.Prelude.{ℕ, ◌+◌, ◌≡◌, ◌≤◌, List, length}
use Rattle.std.proofs.lemmas.List.Edits.{sets}
use Rattle.words.specs.declared.put.Output.{Output}

-- r: the place after them
pub record Put (out : List ℕ) (at : ℕ) (bytes : List ℕ) (r : ℕ) (out' : List ℕ) : Type 0 where
  pub place : r ≡ at + length bytes
  pub bytes_are : out' ≡ sets out at bytes

abbrev pub Fits : Output → List ℕ → Type 0
Fits o p = o.at + length p ≤ length o.bytes.now

-- the same output with p written
abbrev pub Written : Output → List ℕ → Output → Type 0
Written o p o' = (o'.bytes.ghost_name ≡ o.bytes.ghost_name) × Put o.bytes.now o.at p o'.at o'.bytes.now
