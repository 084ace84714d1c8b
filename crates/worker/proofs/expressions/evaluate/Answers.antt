-- Proofs of the goals of `evaluate` (`expressions`).
use Rattle.std.proofs.Common.{◌≡◌, true, subst, Result, Ok, Err}
use Rattle.std.specs.Prelude.{IfOk}
use Rattle.meaning.specs.Typing.{Valued}
use Rattle.vectors.specs.Vector.{values_of}
use Rattle.vectors.specs.declared.vector.Vector.{Vector}
use Rattle.vectors.specs.Selection.{Positions, is_among}
use Rattle.vector_operators.specs.Evaluated.{Evaluates, lane_of}
use Rattle.primitives.specs.Meant.{meant_at}
use Rattle.primitives.proofs.Composed.{composed}
use Rattle.worker.specs.Evaluated.{IsOnly}
use Rattle.worker.proofs.Evaluating.{vector_of}
use Rattle.worker.proofs.expressions.evaluate.Goals as goal

lift : {E : Type 0} (r : Result Vector E) (P Q : Vector → Type 0) → ((v : Vector) → P v → Q v) → IfOk r P → IfOk r Q
lift (Ok v) P Q to is = to v is
lift (Err e) P Q to is = tt

pub returns : goal.returns
returns c =
    lift c.only_selected.result (λ v. IsOnly c.args.selection.now.list (values_of c.in_ok-given.given) (values_of v)) _
    (λ v only types kind rows typed fits.
    vector_of types kind c.args.expr.now c.args.batch.now rows c.args.selection.now c.args.fault.now.held c.eval_lanes.new.fault.held c.in_ok-given.given v
    c.len-positions.ensures.sound c.requires.below typed fits
    (subst (λ (s : Positions). Evaluates (meant_at c.args.expr.now rows) (λ i. is_among s.list i ≡ true) c.args.fault.now.held c.eval_lanes.new.fault.held (lane_of c.in_ok-given.given)) c.requires.same
    (composed (meant_at c.args.expr.now rows) c.args.lanes.now.list c.args.fault.now.held c.eval_lanes.new.fault.held (lane_of c.in_ok-given.given) (c.in_ok-given.ensures.evaluated types (Valued kind) rows typed fits))) (c.in_ok-given.ensures.typed types (Valued kind) rows typed fits) c.in_ok-given.ensures.long only)
    c.only_selected.ensures
