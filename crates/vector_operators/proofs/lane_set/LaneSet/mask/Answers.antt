-- Proofs of the goals of `LaneSet::mask` (`lane_set`).
use Rattle.std.proofs.Common.{sym}
use Rattle.vector_operators.specs.LaneSets.{mask_in}
use Rattle.vector_operators.specs.Broadcast.{broadcast_cells}
use Rattle.vector_operators.proofs.MarkedLanes.{is_mask_if}
use Rattle.vector_operators.proofs.lane_set.LaneSet.mask.Goals as goal

pub returns : goal.returns
returns c = is_mask_if (λ m. broadcast_cells m) c.self.inside.lanes (mask_in c.self.inside.marks) c.args.self.now c.broadcast.result (sym c.self.view_is) c.broadcast.ensures
