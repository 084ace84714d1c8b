-- Invariants of `compare_lanes` (`lanes`).
use Rattle.std.proofs.Common.{◌≡◌, drop}
use Rattle.meaning.specs.Finish.{order_cmp}
use Rattle.last_step.specs.Batches.{lane_row}
use Rattle.last_step.proofs.lanes.compare_lanes.Given as goal

abbrev pub invariant-loop-key : goal.invariant-loop-key
invariant-loop-key l = order_cmp (drop l.key-index l.order) (lane_row l.items l.one) (lane_row l.items l.other) ≡ order_cmp l.order (lane_row l.items l.one) (lane_row l.items l.other)
