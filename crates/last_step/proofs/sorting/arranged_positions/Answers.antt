-- Proofs of the goals of `arranged_positions` (`sorting`).
use Rattle.std.proofs.Common.{map}
use Rattle.last_step.specs.Batches.{lane_row}
use Rattle.last_step.proofs.Offered.{once_arranged}
use Rattle.last_step.proofs.sorting.arranged_positions.Goals as goal

pub returns-then-plan : goal.returns-then-plan
returns-then-plan c =
    let row = lane_row c.args.items.now in
    once_arranged c.args.plan.now.distinct c.as_slice-order.result.now c.args.plan.now.order (map row c.args.kept.now.list) (map row c.in_ok-positions.positions.items) (map row c.different_lanes.result.items) c.if-plan.true c.as_slice-order.ensures c.in_ok-positions.ensures
    c.different_lanes.ensures
