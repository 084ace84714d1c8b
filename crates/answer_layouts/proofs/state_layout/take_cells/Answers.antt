-- Proofs of the goals of `take_cells` (`state_layout`).
use Rattle.std.proofs.lemmas.Result.{err_from_is_err_and}
use Rattle.answer_fields.specs.Fields.{shape_in}
use Rattle.answer_fields.specs.StateSpelling.{cell_at}
use Rattle.wire.specs.Reading.{repeat_at}
use Rattle.answer_layouts.specs.Layouts.{sums_in}
use Rattle.answer_layouts.proofs.KeptCells.{cells_go_on, cells_fail, cells_finish, found_and_one, sums_and_one}
use Rattle.answer_layouts.proofs.state_layout.take_cells.Goals as goal

pub returns-in_err-cell-clause-read : goal.returns-in_err-cell-clause-read
returns-in_err-cell-clause-read c =
    let shape = shape_in c.args.shape.now in
    let p = err_from_is_err_and c.from_residual.result c.from_residual.ensures.1 in
    rw (p.1, p.2) (λ not_memory. cells_fail shape c.loop.cells.items (sums_in c.loop.findings.items) c.args.count c.loop.counter c.loop.rest.now c.in_err-cell.field-0.0 (repeat_at (cell_at shape) c.args.count c.args.bytes.now)
    c.loop-test.true (c.in_err-cell.ensures.read not_memory) c.loop.invariant.read)

pub loop-preserved : goal.loop-preserved
loop-preserved c =
    let shape = shape_in c.args.shape.now in
    record {
      read = rw (c.in_ok-push.ensures.items, c.in_ok-push-2.ensures.items, sums_and_one c.loop.findings.items c.in_ok-cell.found)
          (cells_go_on shape c.loop.cells.items (sums_in c.loop.findings.items) c.args.count c.loop.counter c.loop.rest.now c.in_ok-cell.cell c.in_ok-cell.found.are_sums_possible c.in_ok-cell.behind.now (repeat_at (cell_at shape) c.args.count c.args.bytes.now)
          c.loop-test.true c.in_ok-cell.ensures.read c.loop.invariant.read);
      found = rw (c.in_ok-push.ensures.items, c.in_ok-push-2.ensures.items) (found_and_one c.args.plan.now c.loop.cells.items c.loop.findings.items c.in_ok-cell.cell c.in_ok-cell.found c.loop.invariant.found c.in_ok-cell.ensures.found);
    }

pub returns-clause-read : goal.returns-clause-read
returns-clause-read c =
    let shape = shape_in c.args.shape.now in
    cells_finish shape c.loop.cells.items (sums_in c.loop.findings.items) c.args.count c.loop.counter c.loop.rest.now (repeat_at (cell_at shape) c.args.count c.args.bytes.now) c.loop-test.false c.loop.invariant.read
