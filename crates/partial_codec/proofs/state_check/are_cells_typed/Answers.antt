-- Proofs of the goals of `are_cells_typed` (`state_check`).
use Rattle.std.proofs.Common.{◌&&◌, ◌+◌, Bool, ap, drop, sym, ◌∙◌}
use Rattle.std.specs.List.{list_all}
use Rattle.answer_fields.specs.Keeping.{is_cell_typed}
use Rattle.partial_codec.proofs.Steps.{typed_after, typed_end}
use Rattle.partial_codec.proofs.state_check.are_cells_typed.Goals as goal

pub returns-then-not-is_cell_typed : goal.returns-then-not-is_cell_typed
returns-then-not-is_cell_typed c = λ plan are.
    let after = typed_after plan c.args.cells.now c.args.findings.now c.loop-k.k c.index-cells-k.result c.is_cell_typed.result c.loop-k-test.true c.index-cells-k.is (c.is_cell_typed.ensures plan) are (c.loop-k.invariant plan are) in
    sym (after ∙ ap (λ (b : Bool). b && list_all (is_cell_typed plan) (drop (c.loop-k.k + 1) c.args.cells.now)) c.if-not-is_cell_typed.true)

pub loop-k-preserved : goal.loop-k-preserved
loop-k-preserved c = λ plan are.
    let after = typed_after plan c.args.cells.now c.args.findings.now c.loop-k.k c.index-cells-k.result c.is_cell_typed.result c.loop-k-test.true c.index-cells-k.is (c.is_cell_typed.ensures plan) are (c.loop-k.invariant plan are) in
    after ∙ ap (λ (b : Bool). b && list_all (is_cell_typed plan) (drop (c.loop-k.k + 1) c.args.cells.now)) c.if-not-is_cell_typed.false

pub returns : goal.returns
returns c = λ plan are. sym (c.loop-k.invariant plan are ∙ typed_end plan c.args.cells.now c.loop-k.k c.loop-k-test.false)
