-- Selections: ascending positions below a length.
use Rattle.std.specs.Prelude.{◌≡◌, ℕ, ◌<◌, ◌^◌, ◌==◌, Bool, false, not, get_or, List, map, filter, zip, length, take, All, if◌then◌else◌}
use Rattle.std.specs.List.{list_any, range_with_len, AllZip}
use Rattle.std.specs.List.Sorted.{IsStrictlyIncreasing}

-- the positions that are selected, and the length that they lie below
pub record Positions : Type 0 where
  pub below : ℕ
  pub list : List ℕ

-- strictly ascending positions, each below the length
pub record IsSelection (s : Positions) : Type 0 where
  pub ascending : IsStrictlyIncreasing s.list
  pub within : All (λ p. p < s.below) s.list

-- all positions below a length
abbrev pub all_below : ℕ → Positions
all_below n = record { below = n; list = range_with_len 0 n }

-- ---- what a question keeps

-- the positions whose answer is true
abbrev pub answered_true : List ℕ → List Bool → List ℕ
answered_true positions answers = map (λ p. p.0) (filter (λ p. p.1) (zip positions answers))

-- there is an answer for each of the old positions, and those stay whose answer is true
pub record Keeps (Answers : ℕ → Bool → Type 0) (old new : List ℕ) : Type 0 where
  pub answers : List Bool
  pub asked : AllZip Answers old answers
  pub kept : new ≡ answered_true old answers

-- ---- what is left

abbrev pub is_among : List ℕ → ℕ → Bool
is_among list p = list_any (λ q. q == p) list

-- the positions of the first that aren't in the second
abbrev pub without : List ℕ → List ℕ → List ℕ
without list other = filter (λ p. not (is_among other p)) list

-- ---- how a selection is held

-- the first `count` positions are selected, unless all are
abbrev pub positions_of : Bool → ℕ → List ℕ → Positions
positions_of is_all count positions = record { below = length positions; list = if is_all then range_with_len 0 (length positions) else take count positions }

pub record IsHeld (is_all : Bool) (count : ℕ) (positions : List ℕ) : Type 0 where
  pub counted : count ≡ length (positions_of is_all count positions).list
  pub few : length positions < 2 ^ 32
  pub selection : IsSelection (positions_of is_all count positions)

-- for each position below the length whether it is in the list
pub record IsMask (list : List ℕ) (below : ℕ) (mask : List Bool) : Type 0 where
  pub long : length mask ≡ below
  pub reports : (p : ℕ) → p < below → get_or mask p false ≡ is_among list p
