-- Document 01, "A worked trail": what the listing program prints for inputs of its greatest length and one byte more, for
-- each place of a refusal, and for numbers of one to ten digits. The proof is in proofs/ListingCases.antt.
use Rattle.std.specs.Prelude.{ℕ, ◌≡◌, List, [], ◌∷◌, ◌++◌, map, take, replicate}
use Prim.Native.String.{String, [] as []ˢ, ◌∷◌ as ◌∷ˢ◌}
use Prim.Native.Char.{code}
use Rattle.rules.specs.Trail.{capacity_of}
use Rattle.rules.specs.Listing.{decimal, record_no, listing_tables, listing_of}
use Rattle.rules.specs.Worked.{header, answer, file}
use Rattle.rules.specs.Order.{declare}
use Rattle.rules.specs.FileCases.{read_at}

-- the bytes of a text
abbrev pub text : String → List ℕ
text []ˢ = []
text (c ∷ˢ s) = code c ∷ text s

pub record ListingCases : Type 0 where
  -- "a file of at most 32,768 bytes on standard input (for a longer one it prints `too long` alone)"
  pub file_32767 : listing_of (header ++ replicate 32759 0) ≡ text "trail 1 1 0 0 0\nrefused 6 2\n"
  pub file_32768 : listing_of (header ++ replicate 32760 0) ≡ text "trail 1 1 0 0 0\nrefused 6 2\n"
  pub file_32769 : listing_of (header ++ replicate 32761 0) ≡ text "too long\n"
  -- "2,730 rows in each table"
  pub rows : capacity_of listing_tables ≡ record { entities = 2730; versions = 2730; edges = 2730 }
  -- "`refused` with the number and the record (from 1; 0 before any record)"
  pub header_alone : listing_of header ≡ text "trail 0 0 0 0 0\n"
  pub wrong_version : listing_of (0x53 ∷ 0x4C ∷ 0x54 ∷ 3 ∷ 0 ∷ 0 ∷ 0 ∷ 0 ∷ []) ≡ text "trail 0 0 0 0 0\nrefused 2 0\n"
  pub first_cut : listing_of (header ++ (0 ∷ [])) ≡ text "trail 0 0 0 0 0\nrefused 3 1\n"
  pub last_cut : listing_of (take 103 (file 1)) ≡ text "trail 4 4 2 3 3\nedge 0 1 1 1\nedge 1 2 2 2\nrefused 3 8\n"
  pub record_numbers : map record_no (answer 1 0 0 ∷ answer 2 0 0 ∷ answer 16 0 0 ∷ answer 3 0 0 ∷ answer 4 1 0 ∷ answer 15 7 0 ∷ []) ≡ 0 ∷ 0 ∷ 0 ∷ 1 ∷ 2 ∷ 8 ∷ []
  -- numbers in decimal
  pub digits : map decimal (0 ∷ 9 ∷ 10 ∷ 99 ∷ 100 ∷ 1000000 ∷ 4294967295 ∷ []) ≡ text "0" ∷ text "9" ∷ text "10" ∷ text "99" ∷ text "100" ∷ text "1000000" ∷ text "4294967295" ∷ []
  pub greatest_time : listing_of (header ++ (declare 0 0 ++ (declare 1 1 ++ read_at 255 255 255 255))) ≡ text "trail 2 2 1 1 4294967295\nedge 0 1 1 4294967295\n"
