-- What each kind's own accumulator holds.
use Rattle.std.specs.Prelude.{◌≡◌, ℕ, ℤ, Bool, true, false, ◌≤◌, List, Option}
use Rattle.std.specs.declared.cmp.Ordering.{Ordering}
use Rattle.meaning.specs.declared.value.Value.{Value}
use Rattle.meaning.specs.declared.plan.AggregateKind.{AggregateKind}
use Rattle.meaning.specs.declared.plan.AggregateKind.TheVariants as kind
use Rattle.meaning.specs.declared.answer.Statistics.{Statistics}
use Rattle.meaning.specs.Aggregate.{no_statistics, down_cmp}
use Rattle.meaning.specs.Order.{value_cmp}
use Rattle.aggregate_states.specs.State.{IsSumOf, most_entries}
use Rattle.aggregate_states.specs.Values.{entry, is_spelled}
use Rattle.aggregate_states.specs.declared.end.End.{End}
use Rattle.aggregate_states.specs.declared.end.End.TheVariants as end

-- ---- counts

abbrev pub count_state : ℕ → Statistics
count_state count = record no_statistics { count = count }

-- ---- sums

abbrev pub sum_state : ℕ → ℤ → Statistics
sum_state count sum = record no_statistics { count = count; sum = sum }

-- at most 2^32 entries, and the sum of so many integers
pub record IsSum (count : ℕ) (sum : ℤ) : Type 0 where
  pub few : count ≤ most_entries
  pub within : IsSumOf count sum

-- ---- extremes

-- the order from an end
abbrev pub cmp_from : End → Value → Value → Ordering
cmp_from end.Least = value_cmp
cmp_from end.Greatest = down_cmp

abbrev pub kind_from : End → AggregateKind
kind_from end.Least = kind.Min
kind_from end.Greatest = kind.Max

-- how many entries there are, and the first of them from an end, NULL where there is none
abbrev pub end_state : End → ℕ → Value → Statistics
end_state end.Least count best = record no_statistics { count = count; least = entry best }
end_state end.Greatest count best = record no_statistics { count = count; greatest = entry best }

-- the entry that is kept from an end, if one is
abbrev pub extreme_of : End → Statistics → Option Value
extreme_of end.Least s = s.least
extreme_of end.Greatest s = s.greatest

-- at most 2^32 entries, and an extreme that is a value
pub record IsExtreme (count : ℕ) (best : Value) : Type 0 where
  pub few : count ≤ most_entries
  pub spelled : is_spelled best ≡ true

-- ---- sets

abbrev pub set_state : List Value → Statistics
set_state entries = record no_statistics { entries = entries }

-- ---- kinds

-- what an aggregate of this kind keeps is a count and a sum
abbrev pub keeps_sums : AggregateKind → Bool
keeps_sums kind.CountRows = false
keeps_sums kind.Count = false
keeps_sums kind.Sum = true
keeps_sums kind.Avg = true
keeps_sums kind.Min = false
keeps_sums kind.Max = false
keeps_sums kind.CountDistinct = false
keeps_sums kind.SumDistinct = false

-- what an aggregate of this kind keeps has one size
abbrev pub has_one_size : AggregateKind → Bool
has_one_size kind.CountRows = true
has_one_size kind.Count = true
has_one_size kind.Sum = true
has_one_size kind.Avg = true
has_one_size kind.Min = false
has_one_size kind.Max = false
has_one_size kind.CountDistinct = false
has_one_size kind.SumDistinct = false

-- what an aggregate of this kind keeps is a set
abbrev pub keeps_set : AggregateKind → Bool
keeps_set kind.CountRows = false
keeps_set kind.Count = false
keeps_set kind.Sum = false
keeps_set kind.Avg = false
keeps_set kind.Min = false
keeps_set kind.Max = false
keeps_set kind.CountDistinct = true
keeps_set kind.SumDistinct = true
