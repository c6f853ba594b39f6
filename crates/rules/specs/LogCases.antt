-- Document 01, "Traces": the kept log, of an edge of each kind, of no record, and in outputs of just its length and one
-- byte less. The proof is in proofs/LogCases.antt.
use Rattle.std.specs.Prelude.{ℕ, ◌≡◌, List, [], ◌∷◌, ◌++◌, replicate}
use Rattle.rules.specs.Trail.{tables, counts, fresh_counts}
use Rattle.rules.specs.KeptLog.{KeptLog, kept_log_of}
use Rattle.rules.specs.Worked.{header}
use Rattle.rules.specs.Order.{no_rows, declare, event, used, full, unsound}
use Rattle.rules.specs.SoundCases.{sound_rows, versions_used}
use Rattle.rules.specs.FileCases.{read_at}

-- an output of n bytes is lent: a fresh trail, and the sound rows of SoundCases
abbrev pub fresh_log : ℕ → KeptLog
fresh_log n = kept_log_of fresh_counts no_rows (replicate n 9)

abbrev pub sound_log : ℕ → KeptLog
sound_log n = kept_log_of (versions_used 5) sound_rows (replicate n 9)

abbrev pub log_of : List ℕ → ℕ → KeptLog
log_of out n = record { answer = record { refusal = 0; length = n }; out = out }

abbrev pub log_refused : ℕ → ℕ → KeptLog
log_refused r n = record { answer = record { refusal = r; length = 0 }; out = replicate n 9 }

abbrev pub sound_declared : List ℕ
sound_declared = declare 0 0 ++ (declare 1 1 ++ (declare 2 1 ++ declare 3 0))

-- entities are written, and not versions: the target of the third and of the fifth is 1, whose version 3 they entered
abbrev pub sound_events : List ℕ
sound_events = event 1 0 1 2 ++ (event 2 1 0 4 ++ (event 3 0 1 5 ++ (event 4 1 2 8 ++ event 5 0 1 9)))

-- object 0 was read by subject 1 at a time of four bytes
abbrev pub late_log : KeptLog
late_log = kept_log_of (counts 2 2 1 1 67305985) (tables full.entities full.versions (0 ∷ 1 ∷ 1 ∷ 67305985 ∷ 1 ∷ 67305985 ∷ [])) (replicate 44 9)

pub record LogCases : Type 0 where
  pub fresh_exact : fresh_log 8 ≡ log_of header 8
  pub fresh_short : fresh_log 7 ≡ log_refused 15 7
  -- "the header, all declarations by number, then all edges in order as events"; where nothing is signed, that is all
  pub exact : sound_log 116 ≡ log_of (header ++ (sound_declared ++ sound_events)) 116
  -- "Bytes after it are untouched."
  pub longer : sound_log 118 ≡ log_of (header ++ (sound_declared ++ (sound_events ++ (9 ∷ 9 ∷ [])))) 116
  -- "15. Output shorter than the kept log."; "A refused trace or writer returns count, intake and length 0 and writes nothing."
  pub short : sound_log 115 ≡ log_refused 15 115
  pub unsound_log : kept_log_of (used 1) unsound (replicate 44 9) ≡ log_refused 16 44
  -- declarations alone
  pub no_edge : kept_log_of (counts 2 2 0 0 5) full (replicate 32 9) ≡ log_of (header ++ (declare 0 0 ++ declare 1 1)) 32
  -- a time past 24 bits
  pub four_bytes : late_log.out ≡ header ++ (declare 0 0 ++ (declare 1 1 ++ read_at 1 2 3 4))
