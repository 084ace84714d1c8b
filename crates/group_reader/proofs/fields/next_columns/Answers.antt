-- Proofs of the goals of `next_columns` (`fields`).
use Rattle.std.proofs.Common.{◌-◌, ◌+◌, ◌++◌, ◌∷◌, [], rules, refl}
use Rattle.std.proofs.lemmas.Result.{err_from_is_err_and}
use Rattle.fragment_file.specs.FragmentReading.{column_at, columns_at}
use Rattle.fragment_file.proofs.Loops.{columns_go_on, columns_fail, columns_finish}
use Rattle.group_reader.proofs.HeaderSteps.{new_columns, new_more}
use Rattle.group_reader.proofs.Telling.{finishes, goes_on, stops_at}
use Rattle.group_reader.proofs.fields.next_columns.Goals as goal

pub returns-in_err-column-clause-read : goal.returns-in_err-column-clause-read
returns-in_err-column-clause-read g c =
    let i = c.loop.counter in
    let before = c.loop.columns.items in
    let p = err_from_is_err_and c.from_residual.result c.from_residual.ensures.1 in
    rw (p.1, p.2) (stops_at (column_at before) _ c.loop.invariant.2 (λ bytes err. columns_fail before c.args.count i bytes _ (columns_at (c.args.count - i) before bytes) c.loop-test.true err refl)
    (rw c.as_slice.ensures.value at c.in_err-column.ensures.read))

pub loop-preserved : goal.loop-preserved
loop-preserved g c =
    let i = c.loop.counter in
    let before = c.loop.columns.items in
    let column = c.in_ok-column.column in
    let inv = c.loop.invariant in
    rw c.in_ok-push.ensures.items (
      new_more before column inv.0 (rw c.as_slice.ensures.value at c.in_ok-column.ensures.new),
      search rules,
      goes_on (column_at before) column (columns_at (c.args.count - (i + 1)) (before ++ column ∷ [])) inv.2
          (λ bytes rest read. columns_go_on before c.args.count i bytes column rest (columns_at (c.args.count - i) before bytes) c.loop-test.true read refl)
          (rw c.as_slice.ensures.value at c.in_ok-column.ensures.read),
    )

pub returns-clause-columns : goal.returns-clause-columns
returns-clause-columns g c =
    new_columns c.args.count c.loop.columns.items (search rules) c.loop.invariant.0

pub returns-clause-read : goal.returns-clause-read
returns-clause-read g c =
    let i = c.loop.counter in
    let before = c.loop.columns.items in
    finishes before c.loop.invariant.2 (λ rest. columns_finish before c.args.count i rest (columns_at (c.args.count - i) before rest) c.loop-test.false refl)
