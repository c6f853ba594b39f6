-- Document 01, "Tables", and document 02, 2.1, 2.4 and 2.5: sound tables, each clause just met and just missed. The proof is in proofs/SoundCases.antt.
use Rattle.std.specs.Prelude.{ℕ, ◌-◌, ◌≡◌, Bool, true, false, List, [], ◌∷◌, ◌++◌, map, replicate}
use Rattle.rows.specs.declared.Counts.{Counts}
use Rattle.rows.specs.Rows.{entity_row, version_row, edge_row, recounted, edge_at, put_entity, put_version, put_edge}
use Rattle.rules.specs.Trail.{Tables, tables, capacity_of, trail_of, counts, fresh_counts, none}
use Rattle.rules.specs.Sound.{is_sound}

-- object 0, subjects 1 and 2, object 3; version 3 is subject 1's second; an edge of each kind, the first of which stands for n events
abbrev pub entity_rows : List ℕ
entity_rows = 0 ∷ 0 ∷ 1 ∷ 3 ∷ 1 ∷ 2 ∷ 0 ∷ 4 ∷ []

abbrev pub version_rows : List ℕ
version_rows =
    0 ∷ 0 ∷ 4 ∷ none
    ∷ 1 ∷ 0 ∷ 2 ∷ none
    ∷ 2 ∷ 0 ∷ 8 ∷ none
    ∷ 1 ∷ 5 ∷ 9 ∷ 1
    ∷ 3 ∷ 0 ∷ 0 ∷ none
    ∷ []

abbrev pub edge_rows_of : ℕ → List ℕ
edge_rows_of n =
    0 ∷ 1 ∷ 1 ∷ 2 ∷ n ∷ 7
    ∷ 1 ∷ 0 ∷ 2 ∷ 4 ∷ 1 ∷ 4
    ∷ 0 ∷ 3 ∷ 3 ∷ 5 ∷ 1 ∷ 5
    ∷ 3 ∷ 2 ∷ 4 ∷ 8 ∷ 1 ∷ 8
    ∷ 0 ∷ 3 ∷ 5 ∷ 9 ∷ 1 ∷ 9
    ∷ []

abbrev pub edge_rows : List ℕ
edge_rows = edge_rows_of 3

abbrev pub sound_rows : Tables
sound_rows = tables entity_rows version_rows edge_rows

-- the counts with n versions
abbrev pub versions_used : ℕ → Counts
versions_used n = counts 4 n 5 7 9

-- whether the tables are sound: with given counts; in a capacity of e, v and d rows; with n events accepted
abbrev pub sound_with : Counts → Tables → Bool
sound_with c t = is_sound (capacity_of t) (trail_of c t)

abbrev pub sound_in : ℕ → ℕ → ℕ → Bool
sound_in e v d = is_sound (record { entities = e; versions = v; edges = d }) (trail_of (versions_used 5) sound_rows)

abbrev pub accepted_is : ℕ → Bool
accepted_is n = sound_with (counts 4 5 5 n 9) (tables entity_rows version_rows (edge_rows_of (n - 4)))

-- with another row k of the entities, of the versions, of the edges, whose last time is then 9
abbrev pub entity_is : ℕ → ℕ → ℕ → Bool
entity_is k s l = sound_with (versions_used 5) (tables (put_entity entity_rows k (entity_row s l)) version_rows edge_rows)

abbrev pub version_is : ℕ → ℕ → ℕ → ℕ → ℕ → Bool
version_is k x s t p = sound_with (versions_used 5) (tables entity_rows (put_version version_rows k (version_row x s t p)) edge_rows)

abbrev pub edge_is : ℕ → ℕ → ℕ → ℕ → ℕ → Bool
edge_is k f o n t = sound_with (versions_used 5) (tables entity_rows version_rows (put_edge edge_rows k (edge_row f o n t (edge_at edge_rows k).count 9)))

-- with another last time of edge k; with counts m and n of the first edge and of edge k
abbrev pub last_is : ℕ → ℕ → Bool
last_is k t = sound_with (versions_used 5) (tables entity_rows version_rows (put_edge edge_rows k (recounted (edge_at edge_rows k) (edge_at edge_rows k).count t)))

abbrev pub counts_are : ℕ → ℕ → ℕ → Bool
counts_are k m n = sound_with (versions_used 5) (tables entity_rows version_rows (put_edge (edge_rows_of m) k (recounted (edge_at edge_rows k) n 9)))

-- with no edge and n events accepted
abbrev pub no_edge : ℕ → Bool
no_edge n = sound_with (counts 4 5 0 n 9) sound_rows

-- with a sixth version row, in use when n is 6: named by no row, as the latest of entity 3, and by the first edge
abbrev pub six_versions : ℕ → ℕ → ℕ → ℕ → List ℕ
six_versions x s t p = version_rows ++ (x ∷ s ∷ t ∷ p ∷ [])

abbrev pub sixth_is : ℕ → ℕ → ℕ → ℕ → Bool
sixth_is x s t p = sound_with (versions_used 6) (tables entity_rows (six_versions x s t p) edge_rows)

abbrev pub sixth_is_latest : ℕ → Bool
sixth_is_latest n = sound_with (versions_used n) (tables (put_entity entity_rows 3 (entity_row 0 5)) (six_versions 3 0 0 none) edge_rows)

abbrev pub sixth_is_from : ℕ → Bool
sixth_is_from n = sound_with (versions_used n) (tables entity_rows (six_versions 0 0 0 none) (put_edge edge_rows 0 (edge_row 5 1 1 2 3 7)))

abbrev pub sixth_is_to : ℕ → Bool
sixth_is_to n = sound_with (versions_used n) (tables entity_rows (six_versions 2 0 0 none) (put_edge edge_rows 0 (edge_row 0 5 1 2 3 7)))

-- versions 1 and 5 are of entity 1 and start at 0; version 3 has one of them as its previous
abbrev pub previous_is : ℕ → Bool
previous_is p = sound_with (versions_used 6) (tables entity_rows (put_version (six_versions 1 0 0 none) 3 (version_row 1 5 9 p)) edge_rows)

pub record SoundCases : Type 0 where
  -- "each count is within capacity"
  pub full_tables : sound_in 4 5 5 ≡ true
  pub entities_within : sound_in 3 5 5 ≡ false
  pub versions_within : sound_in 4 4 5 ≡ false
  pub edges_within : sound_in 4 5 4 ≡ false
  pub whole_rows : sound_with (versions_used 5) sound_rows ≡ true
  -- "edges ≤ accepted ≤ 1,000,000"
  pub accepted : map accepted_is (4 ∷ 5 ∷ 1000000 ∷ 1000001 ∷ []) ≡ false ∷ true ∷ true ∷ false ∷ []
  -- "a sort is 0 or 1"; document 02, 2.4: or 2
  pub sort : map (λ s. entity_is 3 s 4) (0 ∷ 1 ∷ 2 ∷ 3 ∷ []) ≡ true ∷ true ∷ true ∷ false ∷ []
  -- "a latest version exists and is of that entity"
  pub latest_exists : map sixth_is_latest (5 ∷ 6 ∷ []) ≡ false ∷ true ∷ []
  pub latest_of_first : map (entity_is 0 0) (0 ∷ 4 ∷ []) ≡ true ∷ false ∷ []
  pub latest_of_second : map (entity_is 1 1) (0 ∷ 1 ∷ 2 ∷ 3 ∷ []) ≡ false ∷ true ∷ false ∷ true ∷ []
  -- "a version's entity exists and start ≤ end ≤ last time"
  pub entity_exists : map (λ x. sixth_is x 0 0 none) (3 ∷ 4 ∷ []) ≡ true ∷ false ∷ []
  pub start_end : map (λ t. version_is 3 1 5 t 1) (4 ∷ 5 ∷ []) ≡ false ∷ true ∷ []
  pub end_last_of_first : map (λ t. version_is 0 0 0 t none) (9 ∷ 10 ∷ []) ≡ true ∷ false ∷ []
  pub end_last_of_newest : map (λ t. version_is 4 3 0 t none) (9 ∷ 10 ∷ []) ≡ true ∷ false ∷ []
  -- "previous is none exactly when start is 0"
  pub none_at_zero : map (version_is 3 1 0 9) (none ∷ 1 ∷ []) ≡ true ∷ false ∷ []
  pub none_past_zero : map (λ s. version_is 0 0 s 4 none) (0 ∷ 1 ∷ []) ≡ true ∷ false ∷ []
  pub previous_past_zero : map (λ s. version_is 3 1 s 9 1) (0 ∷ 1 ∷ []) ≡ false ∷ true ∷ []
  -- "else a lower-numbered version of the same entity with a lower start"; document 02, 2.5: or an equal one
  pub previous_lower : map previous_is (1 ∷ 5 ∷ []) ≡ true ∷ false ∷ []
  pub previous_entity : map (version_is 3 1 5 9) (0 ∷ 1 ∷ 2 ∷ 3 ∷ []) ≡ false ∷ true ∷ false ∷ false ∷ []
  pub previous_start : map (λ s. sixth_is 1 s 9 3) (4 ∷ 5 ∷ 6 ∷ []) ≡ false ∷ true ∷ true ∷ []
  -- "an edge joins existing versions of two different entities"
  pub from_exists : map sixth_is_from (5 ∷ 6 ∷ []) ≡ false ∷ true ∷ []
  pub to_exists : map sixth_is_to (5 ∷ 6 ∷ []) ≡ false ∷ true ∷ []
  pub two_entities : map (λ o. edge_is 3 3 o 4 8) (1 ∷ 2 ∷ 3 ∷ []) ≡ false ∷ true ∷ false ∷ []
  pub two_entities_from_older : map (λ o. edge_is 3 1 o 4 8) (1 ∷ 2 ∷ 3 ∷ []) ≡ false ∷ true ∷ false ∷ []
  -- "of the sorts its kind asks for, has kind 1 to 5"
  pub object_to_subject : map (λ n. edge_is 4 0 3 n 9) (0 ∷ 1 ∷ 2 ∷ 3 ∷ 4 ∷ 5 ∷ 6 ∷ []) ≡ false ∷ true ∷ false ∷ true ∷ false ∷ true ∷ false ∷ []
  pub subject_to_object : map (λ n. edge_is 4 3 0 n 9) (0 ∷ 1 ∷ 2 ∷ 3 ∷ 4 ∷ 5 ∷ 6 ∷ []) ≡ false ∷ false ∷ true ∷ false ∷ false ∷ false ∷ false ∷ []
  pub subject_to_subject : map (λ n. edge_is 4 3 2 n 9) (0 ∷ 1 ∷ 2 ∷ 3 ∷ 4 ∷ 5 ∷ 6 ∷ []) ≡ false ∷ false ∷ false ∷ false ∷ true ∷ false ∷ false ∷ []
  pub object_to_object : map (λ n. edge_is 4 0 4 n 9) (0 ∷ 1 ∷ 2 ∷ 3 ∷ 4 ∷ 5 ∷ 6 ∷ []) ≡ replicate 7 false
  -- "and a time from 1 to last time"; document 02, 2.5: edge times "need only not fall": the first, a middle one, the last
  pub first_time : map (edge_is 0 0 1 1) (0 ∷ 1 ∷ 4 ∷ 5 ∷ []) ≡ false ∷ true ∷ true ∷ false ∷ []
  pub middle_time : map (edge_is 2 0 3 3) (3 ∷ 4 ∷ 8 ∷ 9 ∷ []) ≡ false ∷ true ∷ true ∷ false ∷ []
  pub last_time_lem : map (edge_is 4 0 3 5) (7 ∷ 8 ∷ 9 ∷ 10 ∷ []) ≡ false ∷ true ∷ true ∷ false ∷ []
  -- document 02, 2.1: "a count is at least 1"; the count of another edge makes up for it
  pub count_of_first : map (λ m. counts_are 1 m (4 - m)) (0 ∷ 1 ∷ 3 ∷ []) ≡ false ∷ true ∷ true ∷ []
  pub count_of_none : map (λ k. counts_are k 4 0) (1 ∷ 2 ∷ 3 ∷ 4 ∷ []) ≡ replicate 4 false
  pub count_of_three : map (λ k. counts_are k 1 3) (1 ∷ 2 ∷ 3 ∷ 4 ∷ []) ≡ replicate 4 true
  -- "the last time lies between the edge's time and the trail's", of an edge of each kind; no edge need have the trail's
  pub last_of_read : map (last_is 0) (1 ∷ 2 ∷ 9 ∷ 10 ∷ []) ≡ false ∷ true ∷ true ∷ false ∷ []
  pub last_of_write : map (last_is 1) (3 ∷ 4 ∷ 9 ∷ 10 ∷ []) ≡ false ∷ true ∷ true ∷ false ∷ []
  pub last_of_load : map (last_is 2) (4 ∷ 5 ∷ 9 ∷ 10 ∷ []) ≡ false ∷ true ∷ true ∷ false ∷ []
  pub last_of_fork : map (last_is 3) (7 ∷ 8 ∷ 9 ∷ 10 ∷ []) ≡ false ∷ true ∷ true ∷ false ∷ []
  pub last_of_execve : map (last_is 4) (8 ∷ 9 ∷ 10 ∷ []) ≡ false ∷ true ∷ false ∷ []
  pub last_of_none : sound_with (counts 4 5 5 7 10) sound_rows ≡ true
  -- "and the counts sum to accepted", and not only modulo 2^32 or 2^64
  pub sum_with_first : map (λ m. counts_are 1 m 1) (2 ∷ 3 ∷ 4 ∷ []) ≡ false ∷ true ∷ false ∷ []
  pub sum_with_last : map (counts_are 4 3) (1 ∷ 2 ∷ []) ≡ true ∷ false ∷ []
  pub sum_past_32_bits : map (counts_are 1 4294967295) (4 ∷ 5 ∷ 6 ∷ []) ≡ replicate 3 false
  pub sum_past_64_bits : counts_are 1 18446744073709551619 1 ≡ false
  pub sum_of_none : map no_edge (0 ∷ 1 ∷ []) ≡ true ∷ false ∷ []
  -- rows past the counts are not looked at; "All five zero is a fresh trail, whatever the tables hold."
  pub rows_past : sound_with (versions_used 5) (tables (entity_rows ++ (7 ∷ 7 ∷ [])) (six_versions 7 7 7 7) (edge_rows ++ replicate 6 7)) ≡ true
  pub fresh_trail : sound_with fresh_counts (tables (replicate 2 7) (replicate 4 7) (replicate 6 7)) ≡ true
