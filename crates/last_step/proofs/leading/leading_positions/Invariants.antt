-- Invariants of `leading_positions` (`leading`).
use Rattle.std.proofs.Common.{◌≡◌, map, take}
use Rattle.meaning.specs.Finish.{order_cmp}
use Rattle.meaning.specs.Order.{sorted}
use Rattle.last_step.specs.Batches.{lane_row}
use Rattle.last_step.proofs.leading.leading_positions.Given as goal

abbrev pub invariant-loop-k : goal.invariant-loop-k
invariant-loop-k l = map (lane_row l.items) l.leading.items ≡ take l.most (sorted (order_cmp l.order) (map (lane_row l.items) (take l.k l.kept.list)))
