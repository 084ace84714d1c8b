-- Proofs of the goals of `operate_to_by` (`small`).
use Rattle.std.proofs.Common.{refl, length, ◌∙◌}
use Rattle.lane_loops.specs.Lanes.{int_at}
use Rattle.lane_loops.proofs.SmallResults.{goes_on, none_yet}
use Rattle.lane_loops.proofs.small.operate_to_by.Goals as goal

pub loop-i-init : goal.loop-i-init
loop-i-init c = (refl, λ _. none_yet c.args.op (length c.args.out.now) (int_at c.args.left.now) (λ _. c.args.right.now) c.args.out.now refl)

pub loop-i-preserved : goal.loop-i-preserved
loop-i-preserved c = (
  c.put_beside-bits.ensures.long ∙ c.loop-i.invariant.0,
  goes_on c.args.op (length c.args.out.now) (int_at c.args.left.now) (λ _. c.args.right.now) c.loop-i.out c.put_beside-bits.new.out c.loop-i.i c.loop-i.bits c.put_beside-bits.result
      c.loop-i-test.true c.loop-i.invariant.1 c.put_beside-bits.ensures.small c.put_beside-bits.ensures.put,
)
