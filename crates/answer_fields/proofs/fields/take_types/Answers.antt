-- Proofs of the goals of `take_types` (`fields`).
use Rattle.std.proofs.lemmas.Result.{err_from_is_err_and}
use Rattle.answer_fields.specs.LayoutReading.{type_at}
use Rattle.wire.specs.Reading.{repeat_at}
use Rattle.wire.proofs.Loops.{goes_on, fails, finishes}
use Rattle.answer_fields.proofs.fields.take_types.Goals as goal

pub returns-in_err-col_type : goal.returns-in_err-col_type
returns-in_err-col_type c =
    let p = err_from_is_err_and c.from_residual.result c.from_residual.ensures.1 in
    rw (p.1, p.2) (λ not_memory. fails type_at c.loop.types.items c.args.count c.loop.counter c.loop.rest.now c.in_err-col_type.field-0.0 (repeat_at type_at c.args.count c.args.bytes.now) c.loop-test.true c.in_err-col_type.ensures c.loop.invariant)

pub loop-preserved : goal.loop-preserved
loop-preserved c =
    rw c.in_ok-push.ensures.items
    (goes_on type_at c.loop.types.items c.args.count c.loop.counter c.loop.rest.now c.in_ok-col_type.col_type c.in_ok-col_type.behind.now (repeat_at type_at c.args.count c.args.bytes.now) c.loop-test.true c.in_ok-col_type.ensures c.loop.invariant)

pub returns : goal.returns
returns c = finishes type_at c.loop.types.items c.args.count c.loop.counter c.loop.rest.now (repeat_at type_at c.args.count c.args.bytes.now) c.loop-test.false c.loop.invariant
