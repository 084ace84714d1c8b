-- Proofs of the goals of `take_aggregates` (`fields`).
use Rattle.std.proofs.lemmas.Result.{err_from_is_err_and}
use Rattle.answer_fields.specs.LayoutReading.{aggregate_at}
use Rattle.wire.specs.Reading.{repeat_at}
use Rattle.wire.proofs.Loops.{goes_on, fails, finishes}
use Rattle.answer_fields.proofs.fields.take_aggregates.Goals as goal

pub returns-in_err-aggregate : goal.returns-in_err-aggregate
returns-in_err-aggregate c =
    let p = err_from_is_err_and c.from_residual.result c.from_residual.ensures.1 in
    rw (p.1, p.2) (λ not_memory. fails (aggregate_at c.args.format) c.loop.aggregates.items c.args.count c.loop.counter c.loop.rest.now c.in_err-aggregate.field-0.0 (repeat_at (aggregate_at c.args.format) c.args.count c.args.bytes.now) c.loop-test.true c.in_err-aggregate.ensures c.loop.invariant)

pub loop-preserved : goal.loop-preserved
loop-preserved c =
    rw c.in_ok-push.ensures.items
    (goes_on (aggregate_at c.args.format) c.loop.aggregates.items c.args.count c.loop.counter c.loop.rest.now c.in_ok-aggregate.aggregate c.in_ok-aggregate.behind.now (repeat_at (aggregate_at c.args.format) c.args.count c.args.bytes.now) c.loop-test.true c.in_ok-aggregate.ensures c.loop.invariant)

pub returns : goal.returns
returns c = finishes (aggregate_at c.args.format) c.loop.aggregates.items c.args.count c.loop.counter c.loop.rest.now (repeat_at (aggregate_at c.args.format) c.args.count c.args.bytes.now) c.loop-test.false c.loop.invariant
