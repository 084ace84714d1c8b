-- Proofs of the goals of `is_shape_of` (`shape`).
use Rattle.std.proofs.Common.{rules}
use Rattle.answer_fields.specs.Fields.{shape_in}
use Rattle.answer_fields.proofs.Shapes.{compared, not_same}
use Rattle.answer_fields.proofs.shape.is_shape_of.Goals as goal

pub returns-then-are_types_of : goal.returns-then-are_types_of
returns-then-are_types_of c = compared (shape_in c.args.shape.now) c.args.plan.now c.are_types_of.result c.are_shapes_of.result c.if-are_types_of.true (search rules) (search rules)

pub returns-else-are_types_of : goal.returns-else-are_types_of
returns-else-are_types_of c = not_same (shape_in c.args.shape.now) c.args.plan.now c.are_types_of.result c.if-are_types_of.false (search rules)
