-- Proofs of the goals of `take_cell` (`state_layout`).
use Rattle.std.proofs.Common.{rules}
use Rattle.answer_fields.specs.Fields.{shape_in}
use Rattle.answer_layouts.proofs.ReadGroups.{nothing_kept, conflict_kept, answer_kept}
use Rattle.answer_layouts.proofs.state_layout.take_cell.Goals as goal

pub returns-in-0-clause-read : goal.returns-in-0-clause-read
returns-in-0-clause-read c = rw c.findings.ensures.sums (nothing_kept (shape_in c.args.shape.now) c.args.bytes.now c.in_ok-tag.rest.now c.in_ok-tag.tag (search rules) c.in-0.is)

pub returns-in-2-clause-read : goal.returns-in-2-clause-read
returns-in-2-clause-read c = rw c.findings-in-2.ensures.sums (conflict_kept (shape_in c.args.shape.now) c.args.bytes.now c.in_ok-tag.rest.now c.in_ok-tag.tag (search rules) c.in-2.is)

pub returns-in_ok-body-in-1-clause-read : goal.returns-in_ok-body-in-1-clause-read
returns-in_ok-body-in-1-clause-read c =
    answer_kept (shape_in c.args.shape.now) c.args.bytes.now c.in_ok-tag.rest.now c.in_ok-body-in-1.rest.now c.in_ok-tag.tag c.in_ok-body-in-1.body c.in_ok-body-in-1.findings.are_sums_possible (search rules) c.in-1.is (search rules)
