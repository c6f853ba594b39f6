-- A run of numbers stored in a list, of any length: what stands inside the run and outside it. A list of zeros.
use Prim.Native.Nat.{ℕ, zero, suc, ◌+◌, ◌≤◌, ◌<◌}
use native.Mathlib.Omega.{arith}
use native.Mathlib.Numerals.{add-one}
use mathlib.Core.Path.{◌≡◌, refl, ◌∙◌, ap}
use mathlib.Core.List.{List, [], ◌∷◌}
use lib.ListN.{length, get_or, set, length-set, replicate}
use lib.Seq.{sets, get_or-set_same, get_or-set_other}

pub get_or_sets_out : (vs xs : List ℕ) (i m : ℕ) → (i ≤ m → i + length vs ≤ m) → get_or (sets xs i vs) m 0 ≡ get_or xs m 0
get_or_sets_out [] xs i m h = refl
get_or_sets_out (v ∷ vs) xs i m h =
    get_or_sets_out vs (set xs i v) (suc i) m (λ l. let k = h (omega arith) in omega arith)
    ∙ get_or-set_other xs i m v 0 (λ e. let k = h (omega arith) in omega arith)

pub get_or_sets_in : (vs xs : List ℕ) (i j m : ℕ) → m ≡ i + j → j < length vs → i + length vs ≤ length xs → get_or (sets xs i vs) m 0 ≡ get_or vs j 0
get_or_sets_in [] xs i j m e l h = absurd (omega arith)
get_or_sets_in (v ∷ vs) xs i zero m e l h =
    get_or_sets_out vs (set xs i v) (suc i) m (λ k. omega arith)
    ∙ ap (λ (n : ℕ). get_or (set xs i v) n 0) (let q : m ≡ i = omega arith in q)
    ∙ get_or-set_same xs i v 0 (omega arith)
get_or_sets_in (v ∷ vs) xs i (suc j) m e l h =
    get_or_sets_in vs (set xs i v) (suc i) j m (omega arith) (omega arith) (simp length-set (omega arith))

pub get_or_zeros : (n i : ℕ) → get_or {A = ℕ} (replicate n 0) i 0 ≡ 0
get_or_zeros zero i = refl
get_or_zeros (suc n) zero = refl
get_or_zeros (suc n) (suc i) = get_or_zeros n i

-- Stores in code, one after another

pub two_pairs : (xs x1 x2 : List ℕ) (i a b c d : ℕ) → x1 ≡ sets xs i (a ∷ b ∷ []) → x2 ≡ sets x1 (i + 2) (c ∷ d ∷ [])
    → x2 ≡ sets xs i (a ∷ b ∷ c ∷ d ∷ [])
two_pairs xs x1 x2 i a b c d p q =
    let e : i + 2 ≡ suc (suc i) = omega arith in
    rw (q, p, e)

pub three_pairs : (xs x1 x2 x3 : List ℕ) (i a b c d e f : ℕ) → x1 ≡ sets xs i (a ∷ b ∷ []) → x2 ≡ sets x1 (i + 2) (c ∷ d ∷ [])
    → x3 ≡ sets x2 (i + 4) (e ∷ f ∷ []) → x3 ≡ sets xs i (a ∷ b ∷ c ∷ d ∷ e ∷ f ∷ [])
three_pairs xs x1 x2 x3 i a b c d e f p q r =
    let e2 : i + 2 ≡ suc (suc i) = omega arith in
    let e4 : i + 4 ≡ suc (suc (suc (suc i))) = omega arith in
    rw (r, q, p, e2, e4)

-- A number stored where it stands changes nothing
set_same : (xs : List ℕ) (i : ℕ) → set xs i (get_or xs i 0) ≡ xs
set_same [] i = refl
set_same (x ∷ xs) zero = refl
set_same (x ∷ xs) (suc i) = ap (λ (ys : List ℕ). x ∷ ys) (set_same xs i)

-- the last two of a run of six, of which the first four stand already
pub last_pair : (xs : List ℕ) (i e f : ℕ)
    → set (set xs (i + 4) e) (i + 5) f ≡ sets xs i (get_or xs i 0 ∷ get_or xs (i + 1) 0 ∷ get_or xs (i + 2) 0 ∷ get_or xs (i + 3) 0 ∷ e ∷ f ∷ [])
last_pair xs i e f =
    let e1 : i + 1 ≡ suc i = omega arith in
    let e2 : i + 2 ≡ suc (suc i) = omega arith in
    let e3 : i + 3 ≡ suc (suc (suc i)) = omega arith in
    let e4 : i + 4 ≡ suc (suc (suc (suc i))) = omega arith in
    let e5 : i + 5 ≡ suc (suc (suc (suc (suc i)))) = omega arith in
    rw (e1, e2, e3, e4, e5, set_same xs i, set_same xs (suc i), set_same xs (suc (suc i)), set_same xs (suc (suc (suc i))))

pub ruleset pairs = (two_pairs, three_pairs)
