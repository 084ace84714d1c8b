-- Proofs of the goals of `show_each` (`header`).
use Rattle.std.proofs.Common.{◌≡◌, ◌-◌, ◌++◌, ◌∙◌, [], ap, arith, refl, string_bytes, sym}
use Rattle.std.proofs.lemmas.Result.{err_from_is_err_and}
use Rattle.answer_text.specs.Reading.{fault_in}
use Rattle.answer_text.proofs.Took.{still}
use Rattle.table_text.specs.HeaderText.{columns_at, columns_text}
use Rattle.table_text.proofs.ColumnsShown.{fails, finishes, goes_on, none_shown, one_shown}
use Rattle.table_text.proofs.header.show_each.Goals as goal

pub loop-init : goal.loop-init
loop-init c =
    let all : c.args.count - 0 ≡ c.args.count = omega arith in
    let none = c.new-columns.ensures.items in (
      ap (λ cs. columns_at (c.args.count - 0) cs c.args.cursor.now.rest.now) none ∙ ap (λ n. columns_at n [] c.args.cursor.now.rest.now) all,
      none_shown (string_bytes c.args.out.now) ∙ ap (λ cs. string_bytes c.args.out.now ++ columns_text cs) (sym none),
      (refl, refl),
    )

pub loop-preserved : goal.loop-preserved
loop-preserved c =
    let (read, text, part) = c.loop.invariant in
    let (column, one, line, more) = c.in_ok-show_column.ensures.shown in
    let all = columns_at c.args.count [] c.args.cursor.now.rest.now in (
      rw more (goes_on c.loop.columns.items c.args.count c.loop.counter c.loop.cursor.rest.now column c.show_column.new.cursor.rest.now all c.loop-test.true one read),
      rw more (one_shown c.loop.columns.items column (string_bytes c.args.out.now) (string_bytes c.loop.out) (string_bytes c.show_column.new.out) text line),
      still c.args.cursor.now c.loop.cursor c.show_column.new.cursor part c.in_ok-show_column.ensures.part,
    )

pub returns-clause-shown : goal.returns-clause-shown
returns-clause-shown c =
    let (read, text, part) = c.loop.invariant in
    (c.loop.columns.items, finishes c.loop.columns.items c.args.count c.loop.counter c.loop.cursor.rest.now (columns_at c.args.count [] c.args.cursor.now.rest.now) c.loop-test.false read, text, refl)

pub returns-in_err-show_column-clause-shown : goal.returns-in_err-show_column-clause-shown
returns-in_err-show_column-clause-shown c =
    let (read, text, part) = c.loop.invariant in
    let p = err_from_is_err_and c.from_residual.result c.from_residual.ensures.1 in
    rw (p.1, p.2) (λ other. fails c.loop.columns.items c.args.count c.loop.counter c.loop.cursor.rest.now (fault_in c.in_err-show_column.field-0.0) (columns_at c.args.count [] c.args.cursor.now.rest.now) c.loop-test.true (c.in_err-show_column.ensures.shown other) read)
