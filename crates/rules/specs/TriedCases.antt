-- Document 02, 2.3: how many edges are tried, for each kind, place of the hit and refusal. The proof is in proofs/TriedCases.antt.
use Rattle.std.specs.Prelude.{ℕ, zero, suc, ◌+◌, ◌≡◌, List, [], ◌∷◌, ◌++◌, map, take, set, replicate}
use Rattle.rules.specs.declared.BatchAnswer.{BatchAnswer}
use Rattle.rules.specs.Trail.{Tables, tables, counts, fresh_counts}
use Rattle.rules.specs.Batch.{batch_of}
use Rattle.rules.specs.Worked.{header, file, room, batch, answer}
use Rattle.rules.specs.Order.{declare, event, used, full, full_of, unsound}
use Rattle.rules.specs.SoundCases.{versions_used}
use Rattle.rules.specs.FileCases.{taken_in}
use Rattle.rules.specs.RefusalCases.{longer, longer_of}
use Rattle.rules.specs.RecordCases.{two_edge_rows, older_newer_rows, three_then, forks}

-- events among object 0 and subjects 1 and 2: how many edges are tried
abbrev pub tried_among : List ℕ → ℕ
tried_among es = (three_then es).answer.tried

-- 1 reads 0, 2 reads 0, 1 reads 0, 2 reads 0
abbrev pub reads : List ℕ
reads = event 1 0 1 1 ++ (event 1 0 2 2 ++ (event 1 0 1 3 ++ event 1 0 2 4))

-- 1 reads 0, 2 reads 0, then bytes
abbrev pub reads_then : List ℕ → BatchAnswer
reads_then bytes = (three_then (event 1 0 1 1 ++ (event 1 0 2 2 ++ bytes))).answer

-- n events of kind k from u to v, from time t on
unfoldable pub events_from : ℕ → ℕ → ℕ → ℕ → ℕ → List ℕ
events_from k u v t zero = []
events_from k u v t (suc n) = event k u v t ++ events_from k u v (t + 1) n

-- 30 forks, a read, 20 forks, and 12 reads that repeat the first
abbrev pub many_forks : List ℕ
many_forks = events_from 4 1 2 1 30 ++ (event 1 0 1 31 ++ (events_from 4 1 2 32 20 ++ events_from 1 0 1 52 12))

-- 1 reads 0 twice, then subject 2 is declared, in tables of e and v numbers
abbrev pub declared_in : ℕ → ℕ → BatchAnswer
declared_in e v =
    (batch_of fresh_counts (tables (replicate e 7) (replicate v 7) (replicate 48 7)) (header ++ (declare 0 0 ++ (declare 1 1 ++ (event 1 0 1 1 ++ (event 1 0 1 2 ++ declare 2 1)))))
    ).answer

-- a file of one record, a read that repeats the edge of `full`, with byte b at i, taken into tables t
abbrev pub repeat_with : Tables → ℕ → ℕ → BatchAnswer
repeat_with t i b = (batch_of (used 1) t (set (header ++ event 1 0 1 6) i b)).answer

pub record TriedCases : Type 0 where
  -- "those from the newest to the hit, or all if there is none", after 0 to 4 reads: no edge; one, and no hit; two, and the older is
  -- the hit; the newer is the hit
  pub summed : map (λ n. tried_among (take n reads)) (0 ∷ 12 ∷ 24 ∷ 36 ∷ 48 ∷ []) ≡ 0 ∷ 0 ∷ 1 ∷ 3 ∷ 4 ∷ []
  -- "for each of kinds 1 to 3": after a read of 0 by 1; an execve that no edge hits
  pub from_object : map (λ k. tried_among (event 1 0 1 1 ++ event k 0 1 2)) (1 ∷ 3 ∷ 5 ∷ []) ≡ 1 ∷ 1 ∷ 0 ∷ []
  pub from_subject : map (λ es. tried_among (event 1 0 1 1 ++ es)) (event 2 1 0 2 ∷ event 4 1 2 2 ∷ []) ≡ 1 ∷ 0 ∷ []
  pub execve_no_hit : tried_among (event 1 0 1 1 ++ event 5 0 2 2) ≡ 0
  -- the edges of forks and execves are tried: three forks, then a read that finds none; an execve, a fork, and a read that repeats the
  -- execve; two execves, and a read that repeats the newer; a hit that is the second of four edges
  pub past_forks : tried_among forks ≡ 3
  pub past_a_fork : tried_among (event 5 0 1 1 ++ (event 4 1 2 2 ++ event 1 0 1 3)) ≡ 2
  pub newest_execve : tried_among (event 5 0 1 1 ++ (event 5 0 1 2 ++ event 1 0 1 3)) ≡ 1
  pub second_of_four : tried_among (event 4 1 2 1 ++ (event 5 0 1 2 ++ (event 4 1 2 3 ++ (event 4 1 2 4 ++ event 1 0 1 5)))) ≡ 3
  -- one event more in the worked trail, of four edges: the oldest is the hit, into an older version; the newest, at 6; none leaves the
  -- latest version of 2; none enters 0; an execve
  pub of_worked : map (λ es. (batch_of fresh_counts (room 8) (file 1 ++ es)).answer.tried)
      (event 1 0 1 8 ∷ event 2 1 2 8 ∷ event 1 2 1 8 ∷ event 2 1 0 8 ∷ event 5 0 1 8 ∷ [])
      ≡ 15 ∷ 12 ∷ 15 ∷ 15 ∷ 11 ∷ []
  -- the stager's new version gave nothing to 2: all five edges
  pub from_new_version : (batch_of fresh_counts (room 8) (file 1 ++ (event 1 2 1 8 ++ event 2 1 2 9))).answer.tried ≡ 20
  -- a batch counts its own events alone
  pub next_batch : (batch_of (batch 8).counts (batch 8).tables (header ++ event 1 0 1 8)).answer ≡ answer 0 1 4
  -- a declaration and a fork between events
  pub declared_between : (taken_in (declare 0 0 ++ (declare 1 1 ++ (event 1 0 1 1 ++ (event 1 0 1 2 ++ (declare 2 1 ++ event 1 0 2 3)))))).answer ≡ answer 0 6 2
  pub forked_between : tried_among (event 1 0 1 1 ++ (event 1 0 1 2 ++ (event 4 1 2 3 ++ event 1 0 2 4))) ≡ 3
  -- 30 + 12 * 21
  pub many : (batch_of fresh_counts (tables (replicate 6 7) (replicate 400 7) (replicate 360 7)) (header ++ (declare 0 0 ++ (declare 1 1 ++ (declare 2 1 ++ many_forks))))).answer
      ≡ answer 0 66 282
  -- a refused batch returns what was tried before, and nothing for the record refused: 3, 4, 5, 7, 8, 9 (a repeat), 6
  pub refused : map reads_then ((1 ∷ []) ∷ (6 ∷ replicate 11 0) ∷ event 1 9 1 3 ∷ event 1 1 1 3 ∷ event 1 1 0 3 ∷ event 1 0 1 1 ∷ declare 4 1 ∷ [])
      ≡ answer 3 5 1 ∷ answer 4 5 1 ∷ answer 5 5 1 ∷ answer 7 5 1 ∷ answer 8 5 1 ∷ answer 9 5 1 ∷ answer 6 5 1 ∷ []
  -- what stands after the refused record is not read
  pub after_refused : reads_then (event 1 0 1 1 ++ event 1 0 1 3) ≡ answer 9 5 1
  -- 10 and 11 for a declaration, with room for two entities, and for two versions
  pub refused_10 : declared_in 4 32 ≡ answer 10 4 1
  pub refused_11 : declared_in 6 8 ≡ answer 11 4 1
  -- 13, 12, 11 after a repeat of the only edge, and after a read that tries five edges
  pub one_then_13 : (batch_of (used 999999) (full_of 999999) (header ++ (event 1 0 1 6 ++ event 1 0 1 7))).answer ≡ answer 13 1 1
  pub one_then_12 : (batch_of (used 1) full (header ++ (event 1 0 1 6 ++ event 2 1 0 7))).answer ≡ answer 12 1 1
  pub one_then_11 : (batch_of (used 1) (tables full.entities full.versions (full.edges ++ replicate 6 0)) (header ++ (event 1 0 1 6 ++ event 2 1 0 7))).answer ≡ answer 11 1 1
  pub five_then_13 : (batch_of (counts 4 5 5 999999 9) (longer_of 999999 2 4 6) (header ++ (event 1 3 1 10 ++ event 1 3 1 11))).answer ≡ answer 13 1 5
  pub five_then_12 : (batch_of (versions_used 5) (longer 2 4 6) (header ++ (event 1 3 1 10 ++ event 2 1 0 11))).answer ≡ answer 12 1 5
  pub five_then_11 : (batch_of (versions_used 5) (longer 2 4 12) (header ++ (event 1 3 1 10 ++ event 2 1 0 11))).answer ≡ answer 11 1 5
  -- 16, 1 and 2: no edge is tried, though the record would try one
  pub tried_if_sound : repeat_with full 4 0 ≡ answer 0 1 1
  pub refused_16 : repeat_with unsound 4 0 ≡ answer 16 0 0
  pub refused_1 : repeat_with full 0 0x52 ≡ answer 1 0 0
  pub refused_2 : repeat_with full 3 3 ≡ answer 2 0 0
  -- the edges in use, and no other row
  pub unused_row : (batch_of (counts 2 2 0 0 5) full (header ++ event 1 0 1 6)).answer ≡ answer 0 1 0
  -- on tables that no file grew: of two edges that are hits the newest; none of two; an edge to an older version, which is the newest
  pub two_hits : (batch_of (counts 2 2 2 2 5) (tables full.entities full.versions two_edge_rows) (header ++ event 1 0 1 6)).answer ≡ answer 0 1 1
  pub no_hit : (batch_of (counts 2 2 2 2 5) (tables full.entities (full.versions ++ replicate 4 7) (two_edge_rows ++ replicate 6 7)) (header ++ event 2 1 0 6)).answer
      ≡ answer 0 1 2
  pub into_older : (batch_of (versions_used 5) older_newer_rows (header ++ event 1 0 1 10)).answer ≡ answer 0 1 1
