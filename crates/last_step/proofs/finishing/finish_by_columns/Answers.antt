-- Proofs of the goals of `finish_by_columns` (`finishing`).
use Rattle.std.proofs.Common.{sym, ◌∙◌}
use Rattle.last_step.proofs.Outcomes.{text_given}
use Rattle.last_step.proofs.finishing.finish_by_columns.Goals as goal

pub returns-in-Ok : goal.returns-in-Ok
returns-in-Ok c = sym c.in-Ok.ensures ∙ text_given c.args.plan.now c.args.groups.now
