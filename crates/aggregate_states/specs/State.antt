-- What a state can hold.
use Rattle.std.specs.Prelude.{◌≡◌, ℕ, ℤ, pos, ◌≤◌, ◌*ℤ◌, ◌≤ℤ◌, Bool, true, not, ◌&&◌, Option, Some, None}
use Rattle.std.specs.List.{list_all}
use Rattle.meaning.specs.declared.value.Value.{Value}
use Rattle.meaning.specs.declared.answer.Statistics.{Statistics}
use Rattle.meaning.specs.Order.{is_null}
use Rattle.meaning.specs.Fitting.{least_integer, greatest_integer}
use Rattle.aggregate_states.specs.Values.{is_spelled}

-- how many entries a state knows of at most
abbrev pub most_entries : ℕ
most_entries = 4294967296

-- a least or a greatest entry is not NULL, and its text is UTF-8
abbrev pub is_extreme : Option Value → Bool
is_extreme None = true
is_extreme (Some v) = not (is_null v) && is_spelled v

-- the sum of so many integers of 64 bits
pub record IsSumOf (count : ℕ) (sum : ℤ) : Type 0 where
  pub low : (pos count *ℤ least_integer) ≤ℤ sum
  pub high : sum ≤ℤ (pos count *ℤ greatest_integer)

-- at most 2^32 entries, the sum of so many integers of 64 bits, extremes that are entries, and a set of values whose texts are UTF-8
pub record IsState (s : Statistics) : Type 0 where
  pub count : s.count ≤ most_entries
  pub sum : IsSumOf s.count s.sum
  pub least : is_extreme s.least ≡ true
  pub greatest : is_extreme s.greatest ≡ true
  pub entries : list_all is_spelled s.entries ≡ true
