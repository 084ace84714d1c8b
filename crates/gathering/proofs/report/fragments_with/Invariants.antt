-- Loop invariants of `fragments_with` (`report`).
use Rattle.std.proofs.Common.{◌≡◌, take}
use Rattle.meaning.specs.Gather.{fragments_where}
use Rattle.gathering.specs.Report.{has_obstacle}
use Rattle.gathering.proofs.report.fragments_with.Given as goal

abbrev pub invariant-loop-k : goal.invariant-loop-k
invariant-loop-k l = l.fragments ≡ fragments_where (has_obstacle l.obstacle) (take l.k l.cells)
