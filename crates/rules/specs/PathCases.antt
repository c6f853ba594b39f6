-- Document 01, "Traces", and document 02, 2.5: which chains are causal paths, in lists of few events, the last accepted first. The proof is
-- in proofs/PathCases.antt.
use Rattle.std.specs.Prelude.{ℕ, List, [], ◌∷◌}
use Rattle.rows.specs.Rows.{entity_no}
use Rattle.record.specs.declared.Kind.TheVariants.{Write}
use Rattle.record.specs.declared.Event.{Event}
use Rattle.rules.specs.Paths.{CausalPath, PathBy, PathAfter}
use Rattle.rules.specs.RecordCases.{read}

abbrev pub write : ℕ → ℕ → ℕ → Event
write u v t = record { kind = Write; source = entity_no u; target = entity_no v; time = t }

-- 1 reads 0 at s, and after it writes 2 at t; it writes 2 at t, and after it reads 0 at s
abbrev pub read_then_write : ℕ → ℕ → List Event
read_then_write s t = write 1 2 t ∷ read 0 1 s ∷ []

abbrev pub write_then_read : ℕ → ℕ → List Event
write_then_read s t = read 0 1 s ∷ write 1 2 t ∷ []

pub record PathCases : Type 0 where
  -- "An entity reaches itself by the empty path."
  pub itself : (es : List Event) (x : ℕ) → CausalPath es x x
  pub none : CausalPath [] 0 1 → ⊥
  -- "The order of acceptance decides what is causal", whatever the times are
  pub in_order : (s t : ℕ) → CausalPath (read_then_write s t) 0 2
  -- "an event never follows one accepted after it"
  pub turned : (s t : ℕ) → CausalPath (write_then_read s t) 0 2 → ⊥
  -- an event accepted twice stands at two positions, and each counts for itself: 1 writes 2, reads 0 and writes 2 again; in the second row 3
  -- reads 2 after the first write
  pub twice : (t : ℕ) → CausalPath (write 1 2 t ∷ read 0 1 t ∷ write 1 2 t ∷ []) 0 2
  pub by_position : (t : ℕ) → CausalPath (write 1 2 t ∷ read 0 1 t ∷ read 2 3 t ∷ write 1 2 t ∷ []) 0 3 → ⊥
  -- an event leads from its source to its target, and not back
  pub no_way_back : (t : ℕ) → CausalPath (read 0 1 t ∷ []) 1 0 → ⊥
  -- "A path is in by t if no event of it is later than t."
  pub by : PathBy (read_then_write 4 5) 5 0 2
  pub not_by : PathBy (read_then_write 4 5) 4 0 2 → ⊥
  pub every_by : PathBy (read_then_write 6 5) 5 0 2 → ⊥
  pub by_tie : PathBy (read_then_write 5 5) 5 0 2
  pub not_by_tie : PathBy (read_then_write 5 5) 4 0 2 → ⊥
  -- "over events later than t"
  pub after : PathAfter (read_then_write 4 5) 3 0 2
  pub not_after : PathAfter (read_then_write 4 5) 4 0 2 → ⊥
  pub after_tie : PathAfter (read_then_write 5 5) 4 0 2
  pub not_after_tie : PathAfter (read_then_write 5 5) 5 0 2 → ⊥
