-- Proofs of the goals of `Tally::of_ints` (`tally`).
use Rattle.std.proofs.Common.{ℤ, List, ap, arith, map}
use Rattle.std.proofs.lemmas.Int.{ints}
use Rattle.std.proofs.Math.ListN.{drop_of_length-le}
use Rattle.meaning.specs.declared.value.Value.TheVariants.{Int}
use Rattle.meaning.specs.Aggregate.{total}
use Rattle.aggregate_states.proofs.PlainInts.{sum_of_ints, total_left}
use Rattle.aggregate_states.proofs.tally.Tally.of_ints.Goals as goal

pub loop-k-preserved : goal.loop-k-preserved
loop-k-preserved c =
    let left = total_left c.args.ints.now c.loop-k.k c.loop-k-test.true in
    record {
      whole = omega (arith, ints, left, c.plus-halves.ensures.whole, c.raised.ensures, c.loop-k.invariant.whole);
      high = omega (arith, c.plus-halves.ensures.high, c.loop-k.invariant.high);
      low = omega (arith, c.plus-halves.ensures.low, c.loop-k.invariant.low);
    }

pub returns-clause-value : goal.returns-clause-value
returns-clause-value c =
    let zs = c.args.ints.now in
    let none = ap (λ (ys : List ℤ). total (map Int ys)) (drop_of_length-le zs c.loop-k-test.false) in
    sum_of_ints zs c.to_tally.result.count c.to_tally.result.sum c.to_tally.ensures.count (omega (arith, ints, none, c.to_tally.ensures.sum, c.loop-k.invariant.whole))
