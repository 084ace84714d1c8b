-- Proofs of the goals of `show_cells` (`states`).
use Rattle.std.proofs.Common.{◌≡◌, ◌+◌, ◌-◌, ◌++◌, ◌∷◌, [], arith, refl, string_bytes}
use Rattle.std.proofs.lemmas.Result.{err_from_is_err_and}
use Rattle.wire.specs.Reading.{repeat_at}
use Rattle.wire.proofs.Loops.{begins, fails, finishes, goes_on}
use Rattle.answer_fields.specs.Fields.{shape_in}
use Rattle.answer_fields.specs.StateSpelling.{cell_at}
use Rattle.answer_text.specs.Reading.{fault_in}
use Rattle.answer_text.proofs.Cells.{held_more, none_listed, one_longer}
use Rattle.answer_text.proofs.Took.{still}
use Rattle.answer_text.proofs.states.show_cells.Goals as goal

pub loop-fragment-init : goal.loop-fragment-init
loop-fragment-init c =
    let shape = shape_in c.args.shape.now in
    let part = cell_at shape in
    let all : c.args.count - 0 ≡ c.args.count = omega arith in (
      λ listed. ([], rw all (begins part c.args.count c.args.cursor.now.rest.now (repeat_at part c.args.count c.args.cursor.now.rest.now) refl), none_listed shape c.args.detail (string_bytes c.args.out.now), listed, refl),
      (refl, refl),
    )

pub loop-fragment-preserved : goal.loop-fragment-preserved
loop-fragment-preserved c =
    let shape = shape_in c.args.shape.now in
    let part = cell_at shape in
    let (so_far, same) = c.loop-fragment.invariant in
    let (cell, one, shown) = c.in_ok-show_cell.ensures.shown in (
      λ listed.
          let (cells, read, text, are, long) = so_far listed in (
            cells ++ cell ∷ [],
            goes_on part cells c.args.count c.loop-fragment.fragment c.loop-fragment.cursor.rest.now cell c.show_cell.new.cursor.rest.now (repeat_at part c.args.count c.args.cursor.now.rest.now) c.loop-fragment-test.true one read,
            held_more cells cell c.loop-fragment.fragment long c.args.detail shape (string_bytes c.args.out.now) (string_bytes c.loop-fragment.out) (string_bytes c.show_cell.new.out) text shown.text,
            shown.listed cells long are,
            one_longer cells cell c.loop-fragment.fragment long,
          ),
      still c.args.cursor.now c.loop-fragment.cursor c.show_cell.new.cursor same c.in_ok-show_cell.ensures.part,
    )

pub returns-clause-shown : goal.returns-clause-shown
returns-clause-shown c = λ listed.
    let part = cell_at (shape_in c.args.shape.now) in
    let (cells, read, text, are, long) = c.loop-fragment.invariant.0 listed in
    (cells, finishes part cells c.args.count c.loop-fragment.fragment c.loop-fragment.cursor.rest.now (repeat_at part c.args.count c.args.cursor.now.rest.now) c.loop-fragment-test.false read, text, are)

pub returns-in_err-show_cell-clause-shown : goal.returns-in_err-show_cell-clause-shown
returns-in_err-show_cell-clause-shown c = λ listed.
    let part = cell_at (shape_in c.args.shape.now) in
    let (cells, read, text, are, long) = c.loop-fragment.invariant.0 listed in
    let p = err_from_is_err_and c.from_residual.result c.from_residual.ensures.1 in
    rw (p.1, p.2) (λ other. fails part cells c.args.count c.loop-fragment.fragment c.loop-fragment.cursor.rest.now (fault_in c.in_err-show_cell.field-0.0) (repeat_at part c.args.count c.args.cursor.now.rest.now) c.loop-fragment-test.true (c.in_err-show_cell.ensures.shown other) read)

pub returns-in_err-show_cell-clause-part : goal.returns-in_err-show_cell-clause-part
returns-in_err-show_cell-clause-part c = still c.args.cursor.now c.loop-fragment.cursor c.show_cell.new.cursor c.loop-fragment.invariant.1 c.in_err-show_cell.ensures.part
