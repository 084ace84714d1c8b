-- Proofs of the goals of `leading_positions` (`leading`).
use Rattle.std.proofs.Common.{map, take, arith}
use Rattle.last_step.specs.Batches.{lane_row}
use Rattle.last_step.proofs.Offered.{next_offered, still_sorted}
use Rattle.last_step.proofs.leading.leading_positions.Goals as goal

pub offer-requires-clause-ascending : goal.offer-requires-clause-ascending
offer-requires-clause-ascending c =
    let row = lane_row c.args.items.now in
    still_sorted c.args.order.now row c.args.most (map row (take c.loop-k.k c.args.kept.now.list)) c.loop-k.leading.items c.loop-k.invariant

pub loop-k-preserved : goal.loop-k-preserved
loop-k-preserved c =
    next_offered c.args.order.now (lane_row c.args.items.now) c.args.most c.args.kept.now.list c.loop-k.k c.position.result c.loop-k.leading.items c.offer.new.leading.items
    (let below = c.loop-k-test.true in let long = c.len-k-end.ensures.value in omega (arith, below, long)) c.position.ensures.value c.loop-k.invariant c.in_ok-offer.ensures
