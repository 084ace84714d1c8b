-- Proofs of the goals of `take_groups` (`group`).
use Rattle.std.proofs.lemmas.Result.{err_from_is_err_and}
use Rattle.packed_groups.specs.Reading.{group_at}
use Rattle.wire.specs.Reading.{repeat_at}
use Rattle.wire.proofs.Loops.{goes_on, fails, finishes}
use Rattle.packed_groups.proofs.group.take_groups.Goals as goal

pub returns-in_err-group : goal.returns-in_err-group
returns-in_err-group c =
    let p = err_from_is_err_and c.from_residual-in_err-group.result c.from_residual-in_err-group.ensures.1 in
    rw (p.1, p.2) (λ not_memory. fails group_at c.loop.groups.items c.args.count c.loop.counter c.loop.rest.now c.in_err-group.field-0.0 (repeat_at group_at c.args.count c.args.bytes.now) c.loop-test.true (c.in_err-group.ensures not_memory) c.loop.invariant)

pub loop-preserved : goal.loop-preserved
loop-preserved c =
    rw c.in_ok-push.ensures.items
    (goes_on group_at c.loop.groups.items c.args.count c.loop.counter c.loop.rest.now c.in_ok-group.group c.in_ok-group.behind.now (repeat_at group_at c.args.count c.args.bytes.now) c.loop-test.true c.in_ok-group.ensures c.loop.invariant)

pub returns : goal.returns
returns c = (finishes group_at c.loop.groups.items c.args.count c.loop.counter c.loop.rest.now (repeat_at group_at c.args.count c.args.bytes.now) c.loop-test.false c.loop.invariant)
