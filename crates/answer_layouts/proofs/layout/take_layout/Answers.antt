-- Proofs of the goals of `take_layout` (`layout`).
use Rattle.std.proofs.Common.{rules}
use Rattle.answer_layouts.proofs.ReadLayouts.{layout_kept}
use Rattle.answer_layouts.proofs.layout.take_layout.Goals as goal

pub returns-clause-read : goal.returns-clause-read
returns-clause-read c =
    layout_kept c.args.bytes.now c.in_ok-format.rest.now c.in_ok-job.rest.now c.in_ok-k.rest.now c.in_ok-shape.rest.now c.in_ok-body.rest.now c.in_ok-format.format
    (record { job = c.in_ok-job.job; k = c.in_ok-k.k; shape = c.in_ok-shape.shape; body = c.in_ok-body.body; findings = c.in_ok-body.findings }) (search rules) (search rules) (search rules) (search rules) (search rules)
