-- How the fact table is cut into fragments, and which rows each has.
use Rattle.std.specs.Prelude.{ℕ, ◌/◌, ◌%◌, ◌≤◌, ◌==◌, nat_lt, if◌then◌else◌, Result, Ok, Err, List, [], ◌∷◌, ◌++◌, length, replicate, All, take, drop, sum, flat_map, slice_index}
use Rattle.std.specs.List.{list_any, enumerate_from}
use Rattle.meaning.specs.Limits.{max_fragments, max_rows}
use Rattle.meaning.specs.declared.cut.CutFault.{CutFault}
use Rattle.meaning.specs.declared.cut.CutFault.TheVariants.{Memory, NoFragment, TooManyFragments, FragmentTooLong}
use Rattle.meaning.specs.Order.{Row}

-- the lengths of 1 to 4,096 fragments, each of at most 1,048,576 rows
pub record IsCut (lengths : List ℕ) : Type 0 where
  pub some : 1 ≤ length lengths
  pub few : length lengths ≤ max_fragments
  pub short : All (λ n. n ≤ max_rows) lengths

-- the lengths where they are a cut, else the first refusal that fits
abbrev pub cut_of : List ℕ → Result (List ℕ) CutFault
cut_of lengths =
    if length lengths == 0 then Err NoFragment
    else if nat_lt max_fragments (length lengths) then Err TooManyFragments
    else if list_any (λ n. nat_lt max_rows n) lengths then Err FragmentTooLong
    else Ok lengths

-- fragments of `r` rows and, where rows are left over, one of the rest
abbrev pub even_lengths : ℕ → ℕ → List ℕ
even_lengths rows r =
    if rows == 0 then 0 ∷ []
    else replicate (rows / r) r ++ (if rows % r == 0 then [] else (rows % r) ∷ [])

-- the error code of a refusal
abbrev pub number_of : CutFault → ℕ
number_of Memory = 0
number_of NoFragment = 1
number_of TooManyFragments = 2
number_of FragmentTooLong = 3

-- ---- the rows of fragments

-- the rows of the fact table, or of some fragments, each with its number in the whole table
abbrev pub Numbered : Type 0
Numbered = List (ℕ × Row)

-- the rows of the whole table, numbered from 0
abbrev pub numbered : List Row → Numbered
numbered rows = enumerate_from 0 rows

-- how many rows each fragment has
abbrev pub Cut : Type 0
Cut = List ℕ

-- the number of a fragment's first row
abbrev pub first_row : Cut → ℕ → ℕ
first_row cut k = sum (take k cut)

-- the rows of a fragment, with their numbers in the whole table
abbrev pub fragment : Cut → ℕ → List Row → Numbered
fragment cut k rows = take (slice_index cut k) (drop (first_row cut k) (numbered rows))

-- the rows of some fragments
abbrev pub part : Cut → List ℕ → List Row → Numbered
part cut ks rows = flat_map (λ k. fragment cut k rows) ks
