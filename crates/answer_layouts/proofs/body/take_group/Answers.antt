-- Proofs of the goals of `take_group` (`body`).
use Rattle.std.proofs.Common.{rules}
use Rattle.answer_fields.specs.Fields.{shape_in}
use Rattle.answer_layouts.proofs.ReadGroups.{group_kept}
use Rattle.answer_layouts.proofs.body.take_group.Goals as goal

pub returns : goal.returns
returns c =
    rw (c.new-group.ensures, c.from.ensures)
    (group_kept (shape_in c.args.shape.now) c.args.bytes.now c.in_ok-key.rest.now c.in_ok-rows.rest.now c.in_ok-states.rest.now c.in_ok-key.key c.in_ok-rows.rows c.in_ok-states.states c.in_ok-states.are_possible
    (search rules) (search rules) (search rules))
