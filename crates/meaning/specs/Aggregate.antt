-- Aggregates over a list of values, and the statistics that they are read off.
use Rattle.std.specs.Prelude.{ℕ, ◌+◌, ◌==◌, ℤ, pos, ◌+ℤ◌, int_div, not, if◌then◌else◌, List, [], ◌∷◌, length, filter, None, unwrap_or, Result, Ok, Err}
use Rattle.std.specs.declared.cmp.Ordering.{Ordering}
use Rattle.std.specs.Ordering.{flip_args}
use Rattle.meaning.specs.declared.value.Value.{Value}
use Rattle.meaning.specs.declared.value.Value.TheVariants.{Null, Int}
use Rattle.meaning.specs.declared.plan.AggregateKind.{AggregateKind}
use Rattle.meaning.specs.declared.plan.AggregateKind.TheVariants.{CountRows, Count, Sum, Min, Max, Avg, CountDistinct, SumDistinct}
use Rattle.meaning.specs.declared.answer.Statistics.{Statistics}
use Rattle.meaning.specs.Order.{is_null, number, lesser, least, value_cmp, ascending_set, union}
use Rattle.meaning.specs.Operators.{fits_i64, sum_out_of_range}

-- the entries that are not NULL
abbrev pub present : List Value → List Value
present xs = filter (λ x. not (is_null x)) xs

-- the entries that are not NULL, each once, in ascending order
abbrev pub different : List Value → List Value
different xs = ascending_set value_cmp (present xs)

-- the exact sum
abbrev pub total : List Value → ℤ
total [] = pos 0
total (x ∷ xs) = number x +ℤ total xs

-- the order from the greatest down
abbrev pub down_cmp : Value → Value → Ordering
down_cmp = flip_args value_cmp

-- an exact sum, which faults outside 64 bits
abbrev pub sum_value : ℤ → Result Value ℕ
sum_value z = if fits_i64 z then Ok (Int z) else Err sum_out_of_range

-- NULL, where there is no entry
abbrev pub unless_none : ℕ → Result Value ℕ → Result Value ℕ
unless_none count v = if count == 0 then Ok Null else v

-- an aggregate over a list
abbrev pub aggregate : AggregateKind → List Value → Result Value ℕ
aggregate CountRows xs = Ok (Int (pos (length (present xs))))
aggregate Count xs = Ok (Int (pos (length (present xs))))
aggregate Sum xs = unless_none (length (present xs)) (sum_value (total (present xs)))
aggregate Min xs = Ok (unwrap_or (least value_cmp (present xs)) Null)
aggregate Max xs = Ok (unwrap_or (least down_cmp (present xs)) Null)
aggregate Avg xs = unless_none (length (present xs))
    (Ok (Int (int_div (total (present xs)) (pos (length (present xs))))))
aggregate CountDistinct xs = Ok (Int (pos (length (different xs))))
aggregate SumDistinct xs = unless_none (length (different xs)) (sum_value (total (different xs)))

-- the statistics of no entry
abbrev pub no_statistics : Statistics
no_statistics = record { count = 0; sum = pos 0; least = None; greatest = None; entries = [] }

-- how many entries are not NULL, their sum, their least, their greatest, and the set of them
abbrev pub statistics : List Value → Statistics
statistics xs = record {
  count = length (present xs);
  sum = total (present xs);
  least = least value_cmp (present xs);
  greatest = least down_cmp (present xs);
  entries = different xs;
}

-- what an aggregate keeps of them
abbrev pub kept_by : AggregateKind → Statistics → Statistics
kept_by CountRows s = record no_statistics { count = s.count }
kept_by Count s = record no_statistics { count = s.count }
kept_by Sum s = record no_statistics { count = s.count; sum = s.sum }
kept_by Avg s = record no_statistics { count = s.count; sum = s.sum }
kept_by Min s = record no_statistics { count = s.count; least = s.least }
kept_by Max s = record no_statistics { count = s.count; greatest = s.greatest }
kept_by CountDistinct s = record no_statistics { entries = s.entries }
kept_by SumDistinct s = record no_statistics { entries = s.entries }

-- the statistics of two lists joined, from those of each
abbrev pub merge : Statistics → Statistics → Statistics
merge a b = record {
  count = a.count + b.count;
  sum = a.sum +ℤ b.sum;
  least = lesser value_cmp a.least b.least;
  greatest = lesser down_cmp a.greatest b.greatest;
  entries = union value_cmp a.entries b.entries;
}

-- an aggregate, read off its statistics
abbrev pub value : AggregateKind → Statistics → Result Value ℕ
value CountRows s = Ok (Int (pos s.count))
value Count s = Ok (Int (pos s.count))
value Sum s = unless_none s.count (sum_value s.sum)
value Min s = Ok (unwrap_or s.least Null)
value Max s = Ok (unwrap_or s.greatest Null)
value Avg s = unless_none s.count (Ok (Int (int_div s.sum (pos s.count))))
value CountDistinct s = Ok (Int (pos (length s.entries)))
value SumDistinct s = unless_none (length s.entries) (sum_value (total s.entries))
