-- Proofs of the goals of `least_of` (`extreme`).
use Rattle.std.proofs.Common.{rules, FitsSigned, w64}
use Rattle.meaning.proofs.Orders.{value_total}
use Rattle.aggregate_states.proofs.PlainInts.{best_end, better_read}
use Rattle.aggregate_states.proofs.extreme.least_of.Goals as goal

pub loop-k-preserved : goal.loop-k-preserved
loop-k-preserved c =
    let fits : FitsSigned w64 c.lesser_of-best.result = search rules in
    better_read value_total c.args.ints.now c.loop-k.k _ c.lesser_of-best.result _ fits c.loop-k-test.true c.lesser_of-best.ensures c.loop-k.invariant

pub returns : goal.returns
returns c = best_end value_total c.args.ints.now c.loop-k.k _ _ c.loop-k-test.false c.loop-k.invariant
