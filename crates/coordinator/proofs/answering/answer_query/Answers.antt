-- Proofs of the goals of `answer_query` (`answering`).
use Rattle.planner.proofs.DeclaredColumns.{plans_are_declared}
use Rattle.coordinator.proofs.answering.answer_query.Goals as goal

pub answer_plan-requires-clause-declared : goal.answer_plan-requires-clause-declared
answer_plan-requires-clause-declared g c =
    let planned = c.in_ok-plan.ensures.planned in
    plans_are_declared c.args.catalog.now planned.tree c.in_ok-plan.plan planned.gives
