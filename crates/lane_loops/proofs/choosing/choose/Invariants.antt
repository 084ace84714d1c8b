-- Loop invariants of `choose` (`choosing`).
use Rattle.std.proofs.Common.{length}
use Rattle.lane_loops.proofs.Chosen.{AreChosenBefore}
use Rattle.lane_loops.proofs.choosing.choose.Given as goal

abbrev pub invariant-loop-i : goal.invariant-loop-i
invariant-loop-i g l = AreChosenBefore (length l.fn.out) l.i l.mask l.yes l.no l.out
