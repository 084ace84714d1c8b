-- Proofs of the goals of `ints_of` (`group_columns`).
use Rattle.meaning.specs.Order.{value_in}
use Rattle.last_step.proofs.GroupColumns.{int_vector}
use Rattle.last_step.proofs.group_columns.ints_of.Goals as goal

pub returns : goal.returns
returns c = int_vector value_in c.args.values.now c.in_ok-nulls.nulls.items c.in_ok-cells.cells.items c.new.result c.in_ok-nulls.ensures c.in_ok-cells.ensures c.requires c.new.ensures
