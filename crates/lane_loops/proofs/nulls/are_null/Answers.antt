-- Proofs of the goals of `are_null` (`nulls`).
use Rattle.std.proofs.Common.{length}
use Rattle.meaning.specs.declared.outcome.Truth.TheVariants.{Unknown}
use Rattle.meaning.specs.Truth.{known}
use Rattle.lane_loops.specs.Lanes.{null_at}
use Rattle.lane_loops.proofs.Filling.{filled_more}
use Rattle.lane_loops.proofs.nulls.are_null.Goals as goal

pub loop-i-preserved : goal.loop-i-preserved
loop-i-preserved c =
    filled_more Unknown (length c.args.out.now) (λ i. known (null_at c.args.nulls.now i)) c.loop-i.out c.loop-i.i c.null_test.result
    c.loop-i.invariant c.loop-i-test.true c.null_test.ensures
