-- Loop invariants of `truths_unless_null` (`choosing`).
use Rattle.std.proofs.Common.{length}
use Rattle.meaning.specs.declared.outcome.Truth.TheVariants.{Unknown}
use Rattle.lane_loops.specs.Lanes.{truth_or_unknown}
use Rattle.lane_loops.specs.Lanes.{AreFilled}
use Rattle.lane_loops.proofs.choosing.truths_unless_null.Given as goal

abbrev pub invariant-loop-i : goal.invariant-loop-i
invariant-loop-i l = AreFilled Unknown (length l.fn.out) l.i (truth_or_unknown l.nulls l.bits) l.out
