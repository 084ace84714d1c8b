-- Proofs of the goals of `marks_of` (`lane_set`).
use Rattle.std.proofs.Common.{refl}
use Rattle.vector_operators.proofs.MarkedLanes.{all_where}
use Rattle.vector_operators.proofs.lane_set.marks_of.Goals as goal

pub returns-in-None : goal.returns-in-None
returns-in-None c = all_where c.args.selection.now (c.in-None.ensures.all refl)
