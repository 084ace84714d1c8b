-- Loop invariants of `put_cells` (`state`).
use Rattle.std.proofs.Common.{◌≡◌, ◌++◌, take}
use Rattle.std.specs.List.{flat_map}
use Rattle.answer_fields.specs.Shape.{shape_of}
use Rattle.partial_codec.specs.State.{cell_bytes}
use Rattle.partial_codec.proofs.state.put_cells.Given as goal

abbrev pub invariant-loop-cell : goal.invariant-loop-cell
invariant-loop-cell l =
    l.out.items ≡ l.fn.out.items ++ flat_map (cell_bytes (shape_of l.plan)) (take l.cell-index l.cells)
