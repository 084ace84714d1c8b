-- Proofs of the goals of `keep_where` (`narrowing`).
use Rattle.std.proofs.Common.{ap}
use Rattle.meaning.specs.Typing.{Boolean}
use Rattle.vectors.specs.Selection.{Positions}
use Rattle.primitives.specs.Meant.{meant_at}
use Rattle.vector_operators.specs.Evaluated.{lane_of}
use Rattle.primitives.proofs.Composed.{composed}
use Rattle.primitives.proofs.Keeping.{one_condition}
use Rattle.primitives.proofs.narrowing.keep_where.Goals as goal

pub returns-clause-kept : goal.returns-clause-kept
returns-clause-kept c = λ types rows typed fits.
    one_condition (meant_at c.args.condition.now rows) c.args.selection.now.list c.keep_true.new.selection.list c.args.fault.now.held c.eval_vec.new.fault.held c.in_ok-lanes.lanes
    (composed (meant_at c.args.condition.now rows) c.args.selection.now.list c.args.fault.now.held c.eval_vec.new.fault.held (lane_of c.in_ok-lanes.lanes) (c.in_ok-lanes.ensures.evaluated types Boolean rows typed fits)) (ap (λ (s : Positions). s.list) c.keep_true.ensures)
