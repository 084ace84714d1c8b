-- Invariants of `row_at` (`showing`).
use Rattle.std.proofs.Common.{◌≡◌, take}
use Rattle.last_step.specs.Batches.{lane_row}
use Rattle.last_step.proofs.showing.row_at.Given as goal

abbrev pub invariant-loop-item : goal.invariant-loop-item
invariant-loop-item l = l.row.items ≡ lane_row (take l.item-index l.items) l.lane
