-- The rows that an answer shows of many, and positions with what they are sorted by.
use Rattle.std.specs.Prelude.{ℕ, if◌then◌else◌, Bool, true, false, List, [], ◌∷◌, Result, Ok, ◌≡◌}
use Rattle.std.specs.declared.cmp.Ordering.{Ordering}
use Rattle.std.specs.Ordering.{nat_cmp, int_cmp, on, then_cmp, flip_args}
use Rattle.meaning.specs.declared.plan.OrderKey.{OrderKey}
use Rattle.meaning.specs.declared.plan.Plan.{Plan}
use Rattle.meaning.specs.declared.value.Value.{Value}
use Rattle.meaning.specs.declared.value.Value.TheVariants.{Null}
use Rattle.meaning.specs.Order.{Row, column, number, rank, sorted, ascending_set}
use Rattle.meaning.specs.Finish.{limited, order_cmp}
use Rattle.meaning.specs.Results.{and_then}
use Rattle.vectors.specs.declared.vector.Vector.{Vector}
use Rattle.last_step.specs.declared.keyed.Keyed.{Keyed}
use Rattle.last_step.specs.Batches.{lane_row}

-- rows in order, equal ones once where DISTINCT asks so
abbrev pub arranged : Bool → (Row → Row → Ordering) → List Row → List Row
arranged true cmp rows = ascending_set cmp rows
arranged false cmp rows = sorted cmp rows

-- the rows in the order of the answer, cut by LIMIT
abbrev pub best : Plan → List Row → List Row
best plan rows = limited plan.limit (arranged plan.distinct (order_cmp plan.order) rows)

-- the same of rows that may be a fault instead
abbrev pub best_of : Plan → Result (List Row) ℕ → Result (List Row) ℕ
best_of plan rows = and_then rows (λ all. Ok (best plan all))

-- ---- positions with a key

-- the value of a row by which ORDER BY sorts first
abbrev pub first_value : List OrderKey → Row → Value
first_value [] row = Null
first_value (k ∷ ks) row = column row k.item

-- whether ORDER BY sorts first by DESC
abbrev pub is_descending : List OrderKey → Bool
is_descending [] = false
is_descending (k ∷ ks) = k.descending

-- the key is of the row at the position
pub record IsKeyed (order : List OrderKey) (items : List Vector) (k : Keyed) : Type 0 where
  pub rank : k.rank ≡ rank (first_value order (lane_row items k.position))
  pub number : k.number ≡ number (first_value order (lane_row items k.position))

abbrev pub head_cmp : Keyed → Keyed → Ordering
head_cmp = then_cmp (on (λ k. k.rank) nat_cmp) (on (λ k. k.number) int_cmp)

-- by the key, and under DESC the other way round
abbrev pub by_head : List OrderKey → Keyed → Keyed → Ordering
by_head order = if is_descending order then flip_args head_cmp else head_cmp

-- by the key, and then by the row at the position
abbrev pub keyed_cmp : List OrderKey → List Vector → Keyed → Keyed → Ordering
keyed_cmp order items = then_cmp (by_head order) (on (λ k. lane_row items k.position) (order_cmp order))
