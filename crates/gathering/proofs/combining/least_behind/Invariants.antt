-- Loop invariants of `least_behind` (`combining`).
use Rattle.std.proofs.Common.{◌≡◌, ◌≤◌, drop, length}
use Rattle.gathering.specs.Faults.{least_fault}
use Rattle.gathering.specs.Totals.{all_behind}
use Rattle.gathering.proofs.combining.least_behind.Given as goal

abbrev pub decreases-loop-k : goal.decreases-loop-k
decreases-loop-k l = l.k

abbrev pub invariant-loop-k : goal.invariant-loop-k
invariant-loop-k l = record { within : l.k ≤ length l.cells; so_far : l.least ≡ least_fault (drop l.k (all_behind l.cells l.deltas)) }
