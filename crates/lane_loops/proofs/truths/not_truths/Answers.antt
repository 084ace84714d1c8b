-- Proofs of the goals of `not_truths` (`truths`).
use Rattle.std.proofs.Common.{length}
use Rattle.meaning.specs.declared.outcome.Truth.TheVariants.{Unknown}
use Rattle.meaning.specs.Truth.{not3}
use Rattle.lane_loops.specs.Lanes.{truth_at}
use Rattle.lane_loops.proofs.Filling.{filled_more}
use Rattle.lane_loops.proofs.truths.not_truths.Goals as goal

pub loop-i-preserved : goal.loop-i-preserved
loop-i-preserved c =
    filled_more Unknown (length c.args.out.now) (λ i. not3 (truth_at c.args.truths.now i)) c.loop-i.out c.loop-i.i c.not_at.result
    c.loop-i.invariant c.loop-i-test.true c.not_at.ensures
