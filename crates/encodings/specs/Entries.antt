-- How a dictionary is made of cells: rows get numbers, the numbers are put in the order of their cells, and each gets
-- the code of its cell: which of the entries it is.
use Rattle.std.specs.Prelude.{◌≡◌, ℕ, ◌+◌, ◌-◌, ◌<◌, ◌≤◌, nat_lt, true, false, List, [], ◌∷◌, ◌++◌, length, take, get_or, All, Contains}
use Rattle.std.specs.List.{list_all}
use Rattle.std.specs.Ordering.{is_lt}
use Rattle.meaning.specs.declared.value.Value.{Value}
use Rattle.meaning.specs.declared.value.Value.TheVariants.{Null}
use Rattle.meaning.specs.Order.{value_cmp, is_ascending}
use Rattle.blocks.specs.Plain.{cells_at}

-- each of the first `rows` rows has a number, and each number a first row, in which the same cell stands
pub record AreNumbers (cells : List Value) (firsts of_rows : List ℕ) (rows : ℕ) : Type 0 where
  pub within : list_all (λ row. nat_lt row (length cells)) firsts ≡ true
  pub few : length firsts ≤ rows
  pub known : list_all (λ number. nat_lt number (length firsts)) of_rows ≡ true
  pub cells_are : cells_at (cells_at cells firsts) of_rows ≡ take rows cells

-- each of the first `count` cells stands beside its number, and no other
pub record AreNumbered {K : Type 0} (value : K → Value) (cells : List Value) (numbered : List (K × ℕ)) (count : ℕ) : Type 0 where
  pub beside : All (λ p. (p.1 < length cells) × (value p.0 ≡ get_or cells p.1 Null)) numbered
  pub each : (number : ℕ) → number < count → (p : K × ℕ) × Contains numbered p × (p.1 ≡ number)
  pub long : length numbered ≡ count

-- no cell is less than the one before it
abbrev pub DoNotFall : List Value → Type 0
DoNotFall cells = (k : ℕ) → k + 1 < length cells → is_lt (value_cmp (get_or cells (k + 1) Null) (get_or cells k Null)) ≡ false

-- the entries of the first `count` of cells that don't fall, by a row for each: each cell once
pub record AreFirstEntries (cells sorted : List Value) (count : ℕ) (entry_rows : List ℕ) : Type 0 where
  pub within : list_all (λ row. nat_lt row (length cells)) entry_rows ≡ true
  pub few : length entry_rows ≤ count
  pub ascending : is_ascending value_cmp (cells_at cells entry_rows) ≡ true
  pub last : 0 < count → (before : List Value) × (cells_at cells entry_rows ≡ before ++ get_or sorted (count - 1) Null ∷ [])

-- the code of each of the first `count` numbers says which of the entries its cell is
abbrev pub AreFirstCodes : List Value → List Value → List ℕ → List ℕ → ℕ → Type 0
AreFirstCodes entries sorted numbers codes count =
    (k : ℕ) → k < count → (get_or codes (get_or numbers k 0) 0 < length entries) × (get_or entries (get_or codes (get_or numbers k 0) 0) Null ≡ get_or sorted k Null)

-- a row for each entry in the order of the entries, and for each number the code of its entry
pub record AreNumberEntries (cells : List Value) (firsts entry_rows codes : List ℕ) : Type 0 where
  pub within : list_all (λ row. nat_lt row (length cells)) entry_rows ≡ true
  pub few : length entry_rows ≤ length firsts
  pub ascending : is_ascending value_cmp (cells_at cells entry_rows) ≡ true
  pub codes_within : list_all (λ code. nat_lt code (length entry_rows)) codes ≡ true
  pub cells_are : cells_at (cells_at cells entry_rows) codes ≡ cells_at cells firsts
