-- Invariants of `push_at` (`showing`).
use Rattle.std.proofs.Common.{◌≡◌, ◌++◌, map, take}
use Rattle.last_step.specs.Batches.{lane_row}
use Rattle.last_step.specs.Runs.{expanded}
use Rattle.last_step.proofs.showing.push_at.Given as goal

abbrev pub invariant-loop-position : goal.invariant-loop-position
invariant-loop-position l = expanded l.runs.items ≡ expanded l.fn.runs.items ++ map (lane_row l.items) (take l.position-index l.positions)
