-- Answers that fit a plan and a cut: what a fragment's rows can give.
use Rattle.std.specs.Prelude.{ℕ, ◌+◌, ◌==◌, nat_lt, nat_le, ℤ, pos, negsuc, ◌*ℤ◌, int_le, Bool, true, ◌&&◌, not, if◌then◌else◌, List, [], ◌∷◌, length, map, sum, slice_index, Option, Some, None, is_none, is_some, ◌||◌}
use Rattle.std.specs.List.{list_all}
use Rattle.std.specs.Cmp.Lexicographic.{pointwise}
use Rattle.meaning.specs.declared.value.Value.{Value}
use Rattle.meaning.specs.declared.value.ColType.{ColType}
use Rattle.meaning.specs.declared.plan.AggregateKind.{AggregateKind}
use Rattle.meaning.specs.declared.plan.AggregateKind.TheVariants.{CountRows, Count, Sum, Min, Max, Avg, CountDistinct, SumDistinct}
use Rattle.meaning.specs.declared.plan.Aggregate.{Aggregate}
use Rattle.meaning.specs.declared.plan.Plan.{Plan}
use Rattle.meaning.specs.declared.answer.RowFault.{RowFault}
use Rattle.meaning.specs.declared.answer.Statistics.{Statistics}
use Rattle.meaning.specs.declared.answer.Group.{Group}
use Rattle.meaning.specs.Said.{Body}
use Rattle.meaning.specs.declared.answer.Body.TheVariants.{Groups, Fault}
use Rattle.meaning.specs.Said.{Answer}
use Rattle.meaning.specs.Order.{Row, is_null, value_cmp, row_cmp, is_ascending}
use Rattle.meaning.specs.Typing.{is_of_type}
use Rattle.meaning.specs.Cut.{Cut, first_row}
use Rattle.meaning.specs.Group.{certain_keys}
use Rattle.meaning.specs.Aggregate.{kept_by}
use Rattle.meaning.specs.Gather.{same_statistics}

-- ---- types

-- a least or a greatest value is not NULL
abbrev pub is_extreme : ColType → Option Value → Bool
is_extreme kind None = true
is_extreme kind (Some v) = not (is_null v) && is_of_type kind v

-- an entry is not NULL
abbrev pub is_entry_of : ColType → Value → Bool
is_entry_of kind v = not (is_null v) && is_of_type kind v

-- a value of each key's type
abbrev pub is_key_of : Plan → Row → Bool
is_key_of plan key = pointwise (λ k v. is_of_type k.col_type v) plan.keys key

-- what the aggregate's kind does not keep is blank, and the rest is of its argument's type
abbrev pub is_state_of : Aggregate → Statistics → Bool
is_state_of a s = same_statistics (kept_by a.kind s) s &&
    (is_extreme a.col_type s.least &&
    (is_extreme a.col_type s.greatest && list_all (is_entry_of a.col_type) s.entries))

-- a key of the plan's keys, and a state of each of its aggregates
abbrev pub is_group_of : Plan → Group → Bool
is_group_of plan g = is_key_of plan g.key && pointwise is_state_of plan.aggs g.states

-- groups have the plan's shape; a fault has none
abbrev pub is_shaped : Plan → Body → Bool
is_shaped plan (Fault f) = true
is_shaped plan (Groups gs) = list_all (is_group_of plan) gs

-- ---- the order of groups and of entries

-- each entry of a set is less than the next
abbrev pub are_sets_ascending : Group → Bool
are_sets_ascending g = list_all (λ s. is_ascending value_cmp s.entries) g.states

-- each key is less than the next, and so is each entry of a set
abbrev pub is_in_order : Body → Bool
is_in_order (Fault f) = true
is_in_order (Groups gs) = is_ascending row_cmp (map (λ g. g.key) gs) && list_all are_sets_ascending gs

-- ---- numbers

abbrev pub least_integer : ℤ
least_integer = negsuc 9223372036854775807

abbrev pub greatest_integer : ℤ
greatest_integer = pos 9223372036854775807

-- the sum of n integers of 64 bits
abbrev pub is_sum_of : ℕ → ℤ → Bool
is_sum_of n z = int_le (pos n *ℤ least_integer) z && int_le z (pos n *ℤ greatest_integer)

-- there is a least or a greatest entry exactly where there is an entry
abbrev pub is_there : ℕ → Option Value → Bool
is_there n v = if n == 0 then is_none v else is_some v

-- what an aggregate can keep of this many rows
abbrev pub is_possible : AggregateKind → ℕ → Statistics → Bool
is_possible CountRows rows s = s.count == rows
is_possible Count rows s = nat_le s.count rows
is_possible Sum rows s = nat_le s.count rows && is_sum_of s.count s.sum
is_possible Avg rows s = nat_le s.count rows && is_sum_of s.count s.sum
is_possible Min rows s = nat_le s.count rows && is_there s.count s.least
is_possible Max rows s = nat_le s.count rows && is_there s.count s.greatest
is_possible CountDistinct rows s = nat_le (length s.entries) rows
is_possible SumDistinct rows s = nat_le (length s.entries) rows

abbrev pub is_group_possible : Plan → Group → Bool
is_group_possible plan g = pointwise (λ a s. is_possible a.kind g.rows s) plan.aggs g.states

-- a group has a row, but for the one group of a grouped query without GROUP BY
abbrev pub are_rows_possible : List Row → List Group → Bool
are_rows_possible [] gs = list_all (λ g. nat_le 1 g.rows) gs
are_rows_possible (k ∷ ks) gs = length gs == 1

-- a fault that a row has, in one of the fragment's rows by their numbers in the whole table
abbrev pub is_fault_possible : ℕ → ℕ → RowFault → Bool
is_fault_possible first rows f = ((f.code == 1) || (f.code == 2)) && (nat_le first f.row && nat_lt f.row (first + rows))

-- the numbers are such as this many rows, numbered from `first`, can give
abbrev pub are_numbers_possible : Plan → ℕ → ℕ → Body → Bool
are_numbers_possible plan first rows (Fault f) = is_fault_possible first rows f
are_numbers_possible plan first rows (Groups gs) =
    nat_le (sum (map (λ g. g.rows) gs)) rows &&
    (are_rows_possible (certain_keys plan.plain plan.keys) gs && list_all (is_group_possible plan) gs)

-- ---- answers

-- an answer for a fragment of the cut, of the plan's shape, with ascending keys and sets, and possible numbers
abbrev pub fits : Plan → Cut → Answer → Bool
fits plan cut a =
    nat_lt a.k (length cut) && (is_shaped plan a.body &&
    (is_in_order a.body && are_numbers_possible plan (first_row cut a.k) (slice_index cut a.k) a.body))
