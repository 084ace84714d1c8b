-- Proofs of the goals of `count_leading` (`placing`).
use Rattle.std.proofs.Common.{◌<◌, ◌≤◌, length, arith}
use Rattle.explain.proofs.Ahead.{all_ahead, next_ahead, stops}
use Rattle.explain.proofs.placing.count_leading.Goals as goal

pub loop-at-preserved : goal.loop-at-preserved
loop-at-preserved c =
    let below : c.loop-at.at < length c.args.conditions.now = omega (arith, c.loop-at-test.true) in
    next_ahead c.args.joins c.args.conditions.now c.loop-at.at c.index-conditions-at.result below c.index-conditions-at.is c.loop-at.invariant (c.is_elsewhere.ensures.ahead c.if-is_elsewhere.false)

pub returns-then-is_elsewhere : goal.returns-then-is_elsewhere
returns-then-is_elsewhere c =
    let below : c.loop-at.at < length c.args.conditions.now = omega (arith, c.loop-at-test.true) in
    stops c.args.joins c.args.conditions.now c.loop-at.at c.index-conditions-at.result below c.index-conditions-at.is c.loop-at.invariant (c.is_elsewhere.ensures.other c.if-is_elsewhere.true)

pub returns : goal.returns
returns c =
    let past : length c.args.conditions.now ≤ c.loop-at.at = omega (arith, c.loop-at-test.false) in
    all_ahead c.args.joins c.args.conditions.now c.loop-at.at past c.loop-at.invariant
