-- Proofs of the goals of `push_all` (`runs`).
use Rattle.std.proofs.Common.{List, Ok, ap, sym, ◌∙◌}
use Rattle.meaning.specs.Order.{Row}
use Rattle.last_step.specs.Best.{best}
use Rattle.last_step.specs.Runs.{expanded}
use Rattle.last_step.proofs.Rest.{plain_after}
use Rattle.last_step.proofs.runs.push_all.Goals as goal

pub returns-then-plan : goal.returns-then-plan
returns-then-plan c =
    plain_after c.args.plan.now (expanded c.args.runs.now.items) c.args.groups c.if-plan.true
    ∙ ap (λ (rows : List Row). Ok (best c.args.plan.now rows)) (sym c.in_ok-push_plain.ensures)
