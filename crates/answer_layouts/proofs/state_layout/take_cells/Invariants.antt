-- Loop invariants of `take_cells` (`state_layout`).
use Rattle.std.proofs.Common.{◌-◌}
use Rattle.answer_fields.specs.Fields.{shape_in}
use Rattle.answer_fields.specs.StateSpelling.{cell_at}
use Rattle.wire.specs.Reading.{repeat_at}
use Rattle.answer_layouts.specs.Found.{AreFoundInCells}
use Rattle.answer_layouts.specs.Layouts.{sums_in}
use Rattle.answer_layouts.proofs.KeptCells.{CellsSoFar}
use Rattle.answer_layouts.proofs.state_layout.take_cells.Given as goal

abbrev pub invariant-loop : goal.invariant-loop
invariant-loop l = record {
  read : CellsSoFar (shape_in l.shape) l.cells.items (sums_in l.findings.items) (l.count - l.counter) l.rest (repeat_at (cell_at (shape_in l.shape)) l.count l.bytes);
  found : AreFoundInCells l.plan l.cells.items l.findings.items;
}
