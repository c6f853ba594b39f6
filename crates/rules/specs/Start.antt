-- Document 01, "Traces": the start version (its term), and the intake that forward gives.
use Rattle.std.specs.Prelude.{ℕ, zero, suc, max, ◌≤◌, ◌<◌, ◌≡◌, ◌&&◌, cond, List, [], ◌∷◌, eqb, leb}
use Rattle.rows.specs.declared.VersionRow.{VersionRow}
use Rattle.rows.specs.declared.EdgeRow.{EdgeRow}
use Rattle.rules.specs.Trail.{Trail, none, latest_of}

-- "the chain from its latest through previous"
pub data OnChain (T : Trail) (x : ℕ) : ℕ → Type 0 where
  latest : {w : ℕ} → w ≡ latest_of T x → OnChain T x w
  previous : {v w : ℕ} → OnChain T x v → ((T.version v).previous.0 ≡ none → ⊥) → w ≡ (T.version v).previous.0 → OnChain T x w

-- "The start version of an entity at time t is its highest-numbered version on the chain from its latest through
-- previous with start ≤ t."
pub record StartVersion (T : Trail) (x t s : ℕ) : Type 0 where
  pub on_chain : OnChain T x s
  pub by : (T.version s).start ≤ t
  pub highest : (w : ℕ) → OnChain T x w → (T.version w).start ≤ t → w ≤ s

-- the same, computed: from version w, in at most n steps
unfoldable pub start_from : (ℕ → VersionRow) → ℕ → ℕ → ℕ → ℕ
start_from W t zero w = w
start_from W t (suc n) w = cond (leb (W w).start t) w (start_from W t n (W w).previous.0)

unfoldable pub start_of : Trail → ℕ → ℕ → ℕ
start_of T x t = start_from T.version t T.counts.versions (latest_of T x)

-- edge k enters version s at time t or before
abbrev pub Enters : Trail → ℕ → ℕ → ℕ → Type 0
Enters T s t k = (k < T.counts.edges) × ((T.edge k).to.0 ≡ s) × ((T.edge k).time ≤ t)

-- "the intake: the greatest time ≤ t of an edge entering the start version, else that version's start"
pub data IsIntake (T : Trail) (s t i : ℕ) : Type 0 where
  greatest : (k : ℕ) → Enters T s t k → i ≡ (T.edge k).time → ((j : ℕ) → Enters T s t j → (T.edge j).time ≤ i) → IsIntake T s t i
  start : ((k : ℕ) → Enters T s t k → ⊥) → i ≡ (T.version s).start → IsIntake T s t i

-- the same, computed: the times ≤ t of the first n edges that enter version s
unfoldable pub times_into : (ℕ → EdgeRow) → ℕ → ℕ → ℕ → List ℕ
times_into E s t zero = []
times_into E s t (suc k) = cond (eqb (E k).to.0 s && leb (E k).time t) ((E k).time ∷ times_into E s t k) (times_into E s t k)

-- the greatest of them, else d
abbrev pub greatest_or : ℕ → List ℕ → ℕ
greatest_or d [] = d
greatest_or d (t ∷ []) = t
greatest_or d (t ∷ (u ∷ ts)) = max t (greatest_or d (u ∷ ts))

unfoldable pub intake_of : Trail → ℕ → ℕ → ℕ
intake_of T s t = greatest_or (T.version s).start (times_into T.edge s t T.counts.edges)
