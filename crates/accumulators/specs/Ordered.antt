-- A column whose states are handed out.
use Rattle.meaning.specs.declared.plan.AggregateKind.TheVariants as kind
use Rattle.accumulators.specs.declared.ordered_states.Ordered.{Ordered}
use Rattle.accumulators.specs.declared.ordered_states.Ordered.TheVariants as ordered
use Rattle.accumulators.specs.Columns.{kind_of_cells, states_in, ColumnSpec}

abbrev pub column_of : Ordered → ColumnSpec
column_of (ordered.Each cells) = record { kind = kind_of_cells cells.now; states = states_in cells.now }
column_of (ordered.CountDistinct sets) = record { kind = kind.CountDistinct; states = sets }
column_of (ordered.SumDistinct sets) = record { kind = kind.SumDistinct; states = sets }
