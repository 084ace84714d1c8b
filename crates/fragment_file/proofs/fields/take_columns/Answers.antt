-- Proofs of the goals of `take_columns` (`fields`).
use Rattle.std.proofs.Common.{[]}
use Rattle.std.proofs.lemmas.Result.{err_from_is_err_and}
use Rattle.fragment_file.specs.FragmentReading.{columns_at}
use Rattle.fragment_file.proofs.Loops.{columns_go_on, columns_fail, columns_finish}
use Rattle.fragment_file.proofs.fields.take_columns.Goals as goal

pub returns-in_err-column : goal.returns-in_err-column
returns-in_err-column c =
    let p = err_from_is_err_and c.from_residual.result c.from_residual.ensures.1 in
    rw (p.1, p.2) (λ not_memory. columns_fail c.loop.columns.items c.args.count c.loop.counter c.loop.rest.now c.in_err-column.field-0.0 (columns_at c.args.count [] c.args.bytes.now) c.loop-test.true (rw c.as_slice.ensures.value at c.in_err-column.ensures not_memory) c.loop.invariant)

pub loop-preserved : goal.loop-preserved
loop-preserved c =
    rw c.in_ok-push.ensures.items
    (columns_go_on c.loop.columns.items c.args.count c.loop.counter c.loop.rest.now c.in_ok-column.column c.in_ok-column.after.now (columns_at c.args.count [] c.args.bytes.now) c.loop-test.true (rw c.as_slice.ensures.value at c.in_ok-column.ensures) c.loop.invariant)

pub returns : goal.returns
returns c = columns_finish c.loop.columns.items c.args.count c.loop.counter c.loop.rest.now (columns_at c.args.count [] c.args.bytes.now) c.loop-test.false c.loop.invariant
