-- Proofs of the goals of `LaneSet::below` (`lane_set`).
use Rattle.std.proofs.Common.{subst}
use Rattle.vectors.specs.Selection.{IsSelection}
use Rattle.vector_operators.specs.LaneSets.{mask_in}
use Rattle.vector_operators.proofs.MarkedLanes.{are_selection}
use Rattle.vector_operators.proofs.lane_set.LaneSet.below.Goals as goal

pub returns-clause-sound : goal.returns-clause-sound
returns-clause-sound c = subst IsSelection c.self.view_is (are_selection c.self.inside.lanes (mask_in c.self.inside.marks))
