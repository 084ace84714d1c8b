-- Proofs of the goals of `groups_given` (`groups`).
use Rattle.std.proofs.Common.{refl}
use Rattle.planner.proofs.Parting.{groups_given}
use Rattle.planner.proofs.groups.groups_given.Goals as goal

pub returns-in-Ok : goal.returns-in-Ok
returns-in-Ok c =
    groups_given c.args.scope.now c.args.query.now c.args.aggregates c.is_grouped-grouped.result _ c.in-Ok.found c.groups_from.result
    c.requires c.is_grouped-grouped.ensures c.in-Ok.ensures refl c.groups_from.ensures
