-- A column of states: one kind, and a state for each group by its group index.
use Rattle.std.specs.Prelude.{Bool, ◌||◌, List, []}
use Rattle.meaning.specs.declared.plan.AggregateKind.{AggregateKind}
use Rattle.meaning.specs.declared.plan.AggregateKind.TheVariants as kind
use Rattle.meaning.specs.declared.answer.Statistics.{Statistics}
use Rattle.aggregate_states.specs.Kinds.{keeps_set, keeps_sums}
use Rattle.accumulators.specs.declared.cells.Cells.{Cells}
use Rattle.accumulators.specs.declared.cells.Cells.TheVariants as held
pub use Rattle.distinct_sets.specs.Sets.{merged_at}

-- its kind, and the states in the order of their group indexes
pub record ColumnSpec : Type 0 where
  pub kind : AggregateKind
  pub states : List Statistics

-- the column that is read where there is none
abbrev pub no_column : ColumnSpec
no_column = record { kind = kind.CountRows; states = [] }

abbrev pub kind_of_cells : Cells → AggregateKind
kind_of_cells (held.CountRows s) = kind.CountRows
kind_of_cells (held.Count s) = kind.Count
kind_of_cells (held.Sum s) = kind.Sum
kind_of_cells (held.Min s) = kind.Min
kind_of_cells (held.Max s) = kind.Max
kind_of_cells (held.Avg s) = kind.Avg
kind_of_cells (held.CountDistinct s) = kind.CountDistinct
kind_of_cells (held.SumDistinct s) = kind.SumDistinct

abbrev pub states_in : Cells → List Statistics
states_in (held.CountRows s) = s.items
states_in (held.Count s) = s.items
states_in (held.Sum s) = s.items
states_in (held.Min s) = s.items
states_in (held.Max s) = s.items
states_in (held.Avg s) = s.items
states_in (held.CountDistinct s) = s
states_in (held.SumDistinct s) = s

-- the column with these states
abbrev pub of_states : ColumnSpec → List Statistics → ColumnSpec
of_states c states = record { kind = c.kind; states = states }

-- integers go to states of this kind in a loop of their own: sums and sets
abbrev pub takes_ints : AggregateKind → Bool
takes_ints k = keeps_sums k || keeps_set k
