-- Document 02, 2.4: "A signed report takes no more writes."
use Rattle.std.specs.Prelude.{ℕ, ◌<◌, ◌≡◌, true}
use mathlib.Core.List.{List, ◌∷◌, ◌++◌, Memᴰ}
use Rattle.rows.specs.declared.Counts.{Counts}
use Rattle.record.specs.declared.Record.{Record}
use Rattle.record.specs.declared.Record.TheVariants as records
use Rattle.rules.specs.KeptLog.{signature_record}
use Rattle.rules.specs.Trail.{Tables, Trail}
use Rattle.rules.specs.Sound.{is_signed}
use Rattle.rules.specs.PlainList.{worked, items_of, unsigned}
use Rattle.rules.specs.Calls.{Call, plain_after}
use Rattle.closure.specs.Same.{SameButSorts}
use Rattle.closure.specs.Sorts.{SameTraces}
use Rattle.agreement.specs.Taken.{Taken}
use Rattle.agreement.specs.Left.{LeftBy}

-- x is declared and signed
abbrev pub SignedAt : Trail → ℕ → Type 0
SignedAt T x = (x < T.counts.entities) × (is_signed (T.entity x).sort ≡ true)

-- a record goes into x, or signs it
abbrev pub Enters : ℕ → Record → Type 0
Enters x (records.Declaration d) = ⊥
Enters x (records.Event e) = e.target.0 ≡ x
Enters x (records.Signature s) = s.entity.0 ≡ x

-- of a plain list, its last record first: after the signature of x no event into x and no signature of it is taken in
abbrev pub NoMore : List Record → Type 0
NoMore rs = (later earlier : List Record) (x : ℕ) → rs ≡ later ++ (signature_record x ∷ earlier) → (r : Record) → Memᴰ r later → Enters x r → ⊥

-- A plain list without its signatures: its records are taken in too, with some capacity lent; it gives the same counts and rows but for sorts,
-- and the same events, kept or dropped alike
pub record Untouched (rs : List Record) : Type 0 where
  pub taken : Taken (unsigned rs)
  pub trail : SameButSorts (worked (unsigned rs)) (worked rs)
  pub items : items_of (unsigned rs) ≡ items_of rs

-- After two lists of calls whose plain lists differ in signatures alone, every trace returns and leaves the same
abbrev pub TracesUntouched : Type 0
TracesUntouched = (cs cs' : List Call) (c c' : Counts) (t t' : Tables) → LeftBy cs c t → LeftBy cs' c' t' → unsigned (plain_after cs) ≡ unsigned (plain_after cs')
    → SameTraces c t c' t'
