-- Proofs of the goals of `texts_of` (`group_columns`).
use Rattle.std.proofs.Common.{map}
use Rattle.meaning.specs.Order.{value_in}
use Rattle.last_step.proofs.GroupColumns.{text_vector}
use Rattle.last_step.proofs.group_columns.texts_of.Goals as goal

pub returns : goal.returns
returns c = text_vector value_in c.args.values.now c.in_ok-nulls.nulls.items (map (λ t. t.now) c.in_ok-cells.cells.items) c.new.result c.in_ok-nulls.ensures c.in_ok-cells.ensures c.requires c.new.ensures
