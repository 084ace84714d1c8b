-- Loop invariants of `are_cells_typed` (`state_check`).
use Rattle.std.proofs.Common.{◌≡◌, drop}
use Rattle.std.specs.List.{list_all}
use Rattle.meaning.specs.declared.plan.Plan.{Plan}
use Rattle.answer_fields.specs.Keeping.{is_cell_typed}
use Rattle.answer_layouts.specs.Found.{AreFoundInCells}
use Rattle.partial_codec.proofs.state_check.are_cells_typed.Given as goal

abbrev pub invariant-loop-k : goal.invariant-loop-k
invariant-loop-k l = (plan : Plan) → AreFoundInCells plan l.cells l.findings → list_all (is_cell_typed plan) l.cells ≡ list_all (is_cell_typed plan) (drop l.k l.cells)
