-- Proofs of the goals of `truths_of_bits` (`choosing`).
use Rattle.std.proofs.Common.{length}
use Rattle.meaning.specs.declared.outcome.Truth.TheVariants.{Unknown}
use Rattle.lane_loops.specs.Lanes.{truth_of_bit}
use Rattle.lane_loops.proofs.Filling.{filled_more}
use Rattle.lane_loops.proofs.choosing.truths_of_bits.Goals as goal

pub loop-i-preserved : goal.loop-i-preserved
loop-i-preserved c =
    filled_more Unknown (length c.args.out.now) (truth_of_bit c.args.bits.now) c.loop-i.out c.loop-i.i c.known_at.result
    c.loop-i.invariant c.loop-i-test.true c.known_at.ensures
