-- Proofs of the goals of `rows_in_order` (`finishing`).
use Rattle.last_step.specs.Runs.{expanded}
use Rattle.last_step.proofs.Offered.{once_best}
use Rattle.last_step.proofs.finishing.rows_in_order.Goals as goal

pub returns-then-plan : goal.returns-then-plan
returns-then-plan c = once_best c.args.plan.now c.as_slice-order.result.now (expanded c.args.runs.items) c.in_ok-rows.rows c.cut_once.result c.if-plan.true c.as_slice-order.ensures c.in_ok-rows.ensures c.cut_once.ensures
