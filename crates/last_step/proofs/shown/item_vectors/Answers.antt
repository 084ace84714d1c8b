-- Proofs of the goals of `item_vectors` (`shown`).
use Rattle.std.proofs.Common.{◌≡◌, ◌<◌, true, List, length, get_or, ap, subst, ◌∙◌}
use Rattle.meaning.specs.declared.joined_row.JoinedRow.{JoinedRow}
use Rattle.meaning.specs.declared.plan.Item.{Item}
use Rattle.meaning.specs.Typing.{ExprType, RowTypes}
use Rattle.vectors.specs.Selection.{Positions, is_among}
use Rattle.vector_operators.specs.Evaluated.{Evaluates, lane_of}
use Rattle.primitives.specs.Fitting.{AreTypedRows, Fits}
use Rattle.primitives.specs.Meant.{meant_at}
use Rattle.primitives.proofs.Composed.{composed}
use Rattle.last_step.proofs.KeptGroups.{next_vector}
use Rattle.last_step.proofs.shown.item_vectors.Goals as goal

pub loop-item-preserved : goal.loop-item-preserved
loop-item-preserved c =
    let k = c.loop-item.item-index in
    let item = c.item-item.result in
    let at = c.item-item.is ∙ ap (λ (xs : List Item). get_or xs k item) c.as_slice-items.ensures in
    let below = subst (λ (xs : List Item). k < length xs) c.as_slice-items.ensures c.loop-item-test.true in
    let composes = subst (λ (s : Positions). (types : RowTypes) (type : ExprType) (rows : List JoinedRow) → AreTypedRows types c.args.batch.now rows → Fits types c.args.batch.now.columns item.expr type
    → Evaluates (meant_at item.expr rows) (λ i. is_among s.list i ≡ true) c.loop-item.fault.held c.eval_lanes.new.fault.held (lane_of c.in_ok-eval_lanes.field-0)) c.in_ok-lanes.ensures
    (λ types type rows typed fits. composed (meant_at item.expr rows) c.in_ok-lanes.lanes.list c.loop-item.fault.held c.eval_lanes.new.fault.held (lane_of c.in_ok-eval_lanes.field-0) (c.in_ok-eval_lanes.ensures.evaluated types type rows typed fits)) in
    next_vector c.args.plan.now c.args.batch.now c.args.kept.now k item c.args.fault.now.held c.loop-item.fault.held c.eval_lanes.new.fault.held c.loop-item.vectors.items c.push.new.self.items c.in_ok-eval_lanes.field-0
    c.len-positions.ensures.sound c.requires below at composes c.in_ok-push.ensures.items c.loop-item.invariant
