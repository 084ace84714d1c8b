-- Proofs of the goals of `take_state_layout` (`state_layout`).
use Rattle.std.proofs.Common.{rules}
use Rattle.answer_layouts.proofs.ReadLayouts.{state_kept}
use Rattle.answer_layouts.proofs.state_layout.take_state_layout.Goals as goal

pub returns-clause-read : goal.returns-clause-read
returns-clause-read c =
    state_kept c.args.bytes.now c.in_ok-format.rest.now c.in_ok-job.rest.now c.in_ok-shape.rest.now c.in_ok-cells.rest.now c.in_ok-format.format
    (record { job = c.in_ok-job.job; shape = c.in_ok-shape.shape; cells = c.in_ok-cells.cells; findings = c.in_ok-cells.findings }) (search rules) (search rules) (search rules) (search rules)
