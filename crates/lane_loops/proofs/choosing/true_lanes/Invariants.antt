-- Loop invariants of `true_lanes` (`choosing`).
use Rattle.std.proofs.Common.{length}
use Rattle.std.specs.Prelude.{false}
use Rattle.meaning.specs.Truth.{is_true}
use Rattle.lane_loops.specs.Lanes.{truth_at}
use Rattle.lane_loops.specs.Lanes.{AreFilled}
use Rattle.lane_loops.proofs.choosing.true_lanes.Given as goal

abbrev pub invariant-loop-i : goal.invariant-loop-i
invariant-loop-i l = AreFilled false (length l.fn.out) l.i (λ i. is_true (truth_at l.truths i)) l.out
