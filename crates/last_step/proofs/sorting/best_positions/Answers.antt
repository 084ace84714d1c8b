-- Proofs of the goals of `best_positions` (`sorting`).
use Rattle.std.proofs.Common.{map}
use Rattle.last_step.specs.Batches.{lane_row}
use Rattle.last_step.proofs.Offered.{cut_best}
use Rattle.last_step.proofs.sorting.best_positions.Goals as goal

pub returns : goal.returns
returns c =
    let row = lane_row c.args.items.now in
    cut_best c.args.plan.now row c.in-Some.most c.in_ok-positions.positions.items c.truncate.new.self.items (map row c.args.kept.now.list) c.in-Some.is c.in_ok-positions.ensures c.truncate.ensures.items
