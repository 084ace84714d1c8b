-- Loop invariants of `truths_of_bits` (`choosing`).
use Rattle.std.proofs.Common.{length}
use Rattle.meaning.specs.declared.outcome.Truth.TheVariants.{Unknown}
use Rattle.lane_loops.specs.Lanes.{truth_of_bit}
use Rattle.lane_loops.specs.Lanes.{AreFilled}
use Rattle.lane_loops.proofs.choosing.truths_of_bits.Given as goal

abbrev pub invariant-loop-i : goal.invariant-loop-i
invariant-loop-i l = AreFilled Unknown (length l.fn.out) l.i (truth_of_bit l.bits) l.out
