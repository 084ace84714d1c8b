-- Invariants of `compare_whole` (`lanes`).
use Rattle.std.proofs.Common.{◌≡◌, drop}
use Rattle.meaning.specs.Order.{row_cmp}
use Rattle.last_step.specs.Batches.{lane_row}
use Rattle.last_step.proofs.lanes.compare_whole.Given as goal

abbrev pub invariant-loop-item : goal.invariant-loop-item
invariant-loop-item l = row_cmp (lane_row (drop l.item-index l.items) l.one) (lane_row (drop l.item-index l.items) l.other) ≡ row_cmp (lane_row l.items l.one) (lane_row l.items l.other)
