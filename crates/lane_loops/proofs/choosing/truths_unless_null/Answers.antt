-- Proofs of the goals of `truths_unless_null` (`choosing`).
use Rattle.std.proofs.Common.{length}
use Rattle.meaning.specs.declared.outcome.Truth.TheVariants.{Unknown}
use Rattle.lane_loops.specs.Lanes.{truth_or_unknown}
use Rattle.lane_loops.proofs.Filling.{filled_more}
use Rattle.lane_loops.proofs.choosing.truths_unless_null.Goals as goal

pub loop-i-preserved : goal.loop-i-preserved
loop-i-preserved c =
    filled_more Unknown (length c.args.out.now) (truth_or_unknown c.args.nulls.now c.args.bits.now) c.loop-i.out c.loop-i.i c.known_unless_null.result
    c.loop-i.invariant c.loop-i-test.true c.known_unless_null.ensures
