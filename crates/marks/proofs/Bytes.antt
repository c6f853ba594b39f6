-- The part of a buffer that has a byte for each row.
use Rattle.std.proofs.Common.{ℕ, ◌≤◌, ◌≡◌, sym, List, ◌++◌, length, take, drop, arith}
use lib.Seq.{length-take-le, length_front}

-- the first n places as a part, and the whole with another part in its place
pub part_count : (m : List ℕ) (n : ℕ) → n ≤ length m → n ≡ length (take n m)
part_count m n l = sym (length-take-le n m l)

pub whole_fits : (m part : List ℕ) (n : ℕ) → n ≤ length m → length part ≡ length (take n m) → n ≤ length (part ++ drop n m)
whole_fits m part n l q = omega (arith, length_front m part n q)
