-- Proofs of the goals of `lanes_are_returned` (`laws`).
use Rattle.lane_loops.proofs.Returned.{lanes_returned}
use Rattle.lane_loops.proofs.laws.lanes_are_returned.Goals as goal

pub returns : goal.returns
returns c = lanes_returned
