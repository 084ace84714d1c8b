-- Proofs of the goals of `plan_of` (`planning`).
use Rattle.std.proofs.Common.{subst, sym}
use Rattle.coordinator.specs.Whole.{IsPlanRefused}
use Rattle.coordinator.proofs.Planned.{refused_as}
use Rattle.coordinator.proofs.planning.plan_of.Goals as goal

pub returns-in-Err-clause-refused : goal.returns-in-Err-clause-refused
returns-in-Err-clause-refused c =
    subst (IsPlanRefused c.args.catalog.now c.args.query.now) (sym c.from.ensures)
    (refused_as c.args.catalog.now c.args.query.now c.in-Err.fault c.in-Err.ensures.refused)
