-- Proofs of the goals of `eval_vec` (`evaluation`).
use Rattle.std.proofs.Common.{List, subst}
use Rattle.std.specs.Prelude.{IfOk}
use Rattle.meaning.specs.declared.joined_row.JoinedRow.{JoinedRow}
use Rattle.meaning.specs.Typing.{ExprType, RowTypes}
use Rattle.vectors.specs.Selection.{Positions}
use Rattle.vector_operators.specs.Evaluated.{IsEvaluated, lane_of}
use Rattle.primitives.specs.Fitting.{AreTypedRows, Fits}
use Rattle.primitives.specs.Meant.{meant_at}
use Rattle.primitives.proofs.evaluation.eval_vec.Goals as goal

pub returns-clause-evaluated : goal.returns-clause-evaluated
returns-clause-evaluated c =
    subst (λ (s : Positions). IfOk c.eval_lanes.result (λ v. (types : RowTypes) (type : ExprType) (rows : List JoinedRow) → AreTypedRows types c.args.batch.now rows → Fits types c.args.batch.now.columns c.args.expr.now type
    → IsEvaluated (meant_at c.args.expr.now rows) s.list c.args.fault.now.held c.eval_lanes.new.fault.held (lane_of v))) c.in_ok-lanes.ensures c.eval_lanes.ensures.evaluated
