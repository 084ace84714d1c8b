-- Proofs of the goals of `take_aggregates` (`job_head`).
use Rattle.std.proofs.lemmas.Result.{err_from_is_err_and}
use Rattle.answer_fields.specs.LayoutReading.{aggregate_at}
use Rattle.wire.specs.Reading.{repeat_at}
use Rattle.wire.proofs.Loops.{fails, finishes, goes_on}
use Rattle.answer_text.specs.Reading.{fault_in}
use Rattle.answer_text.proofs.Took.{still}
use Rattle.answer_text.proofs.job_head.take_aggregates.Goals as goal

pub returns-in_err-aggregate-clause-read : goal.returns-in_err-aggregate-clause-read
returns-in_err-aggregate-clause-read c =
    let p = err_from_is_err_and c.from_residual.result c.from_residual.ensures.1 in
    rw (p.1, p.2) (λ not_memory. fails (aggregate_at c.args.format) c.loop.aggregates.items c.args.count c.loop.counter c.loop.cursor.rest.now (fault_in c.in_err-aggregate.field-0.0) (repeat_at (aggregate_at c.args.format) c.args.count c.args.cursor.now.rest.now) c.loop-test.true c.in_err-aggregate.ensures.read c.loop.invariant.read)

pub returns-in_err-aggregate-clause-part : goal.returns-in_err-aggregate-clause-part
returns-in_err-aggregate-clause-part c = still c.args.cursor.now c.loop.cursor c.take_aggregate.new.cursor c.loop.invariant.part c.in_err-aggregate.ensures.part

pub loop-preserved : goal.loop-preserved
loop-preserved c =
    rw c.in_ok-push.ensures.items (record {
      read = goes_on (aggregate_at c.args.format) c.loop.aggregates.items c.args.count c.loop.counter c.loop.cursor.rest.now c.in_ok-aggregate.aggregate c.take_aggregate.new.cursor.rest.now (repeat_at (aggregate_at c.args.format) c.args.count c.args.cursor.now.rest.now) c.loop-test.true c.in_ok-aggregate.ensures.read c.loop.invariant.read;
      part = still c.args.cursor.now c.loop.cursor c.take_aggregate.new.cursor c.loop.invariant.part c.in_ok-aggregate.ensures.part;
    })

pub returns-clause-read : goal.returns-clause-read
returns-clause-read c = finishes (aggregate_at c.args.format) c.loop.aggregates.items c.args.count c.loop.counter c.loop.cursor.rest.now (repeat_at (aggregate_at c.args.format) c.args.count c.args.cursor.now.rest.now) c.loop-test.false c.loop.invariant.read
