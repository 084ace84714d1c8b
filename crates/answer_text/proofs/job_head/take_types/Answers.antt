-- Proofs of the goals of `take_types` (`job_head`).
use Rattle.std.proofs.lemmas.Result.{err_from_is_err_and}
use Rattle.answer_fields.specs.LayoutReading.{type_at}
use Rattle.wire.specs.Reading.{repeat_at}
use Rattle.wire.proofs.Loops.{fails, finishes, goes_on}
use Rattle.answer_text.specs.Reading.{fault_in}
use Rattle.answer_text.proofs.Took.{still}
use Rattle.answer_text.proofs.job_head.take_types.Goals as goal

pub returns-in_err-col_type-clause-read : goal.returns-in_err-col_type-clause-read
returns-in_err-col_type-clause-read c =
    let p = err_from_is_err_and c.from_residual.result c.from_residual.ensures.1 in
    rw (p.1, p.2) (λ not_memory. fails type_at c.loop.types.items c.args.count c.loop.counter c.loop.cursor.rest.now (fault_in c.in_err-col_type.field-0.0) (repeat_at type_at c.args.count c.args.cursor.now.rest.now) c.loop-test.true c.in_err-col_type.ensures.read c.loop.invariant.read)

pub returns-in_err-col_type-clause-part : goal.returns-in_err-col_type-clause-part
returns-in_err-col_type-clause-part c = still c.args.cursor.now c.loop.cursor c.take_type.new.cursor c.loop.invariant.part c.in_err-col_type.ensures.part

pub loop-preserved : goal.loop-preserved
loop-preserved c =
    rw c.in_ok-push.ensures.items (record {
      read = goes_on type_at c.loop.types.items c.args.count c.loop.counter c.loop.cursor.rest.now c.in_ok-col_type.col_type c.take_type.new.cursor.rest.now (repeat_at type_at c.args.count c.args.cursor.now.rest.now) c.loop-test.true c.in_ok-col_type.ensures.read c.loop.invariant.read;
      part = still c.args.cursor.now c.loop.cursor c.take_type.new.cursor c.loop.invariant.part c.in_ok-col_type.ensures.part;
    })

pub returns-clause-read : goal.returns-clause-read
returns-clause-read c = finishes type_at c.loop.types.items c.args.count c.loop.counter c.loop.cursor.rest.now (repeat_at type_at c.args.count c.args.cursor.now.rest.now) c.loop-test.false c.loop.invariant.read
