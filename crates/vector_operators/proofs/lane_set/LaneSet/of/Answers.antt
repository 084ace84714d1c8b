-- Proofs of the goals of `LaneSet::of` (`lane_set`).
use Rattle.std.proofs.Common.{ap, ◌∙◌, ℕ}
use Rattle.vector_operators.specs.LaneSets.{lanes_in, mask_in}
use Rattle.vector_operators.proofs.MarkedLanes.{of_selection}
use Rattle.vector_operators.proofs.lane_set.LaneSet.of.Goals as goal

pub returns : goal.returns
returns c =
    ap (λ (n : ℕ). lanes_in n (mask_in c.in_ok-marks.marks)) c.below.ensures
    ∙ of_selection c.args.selection.now (mask_in c.in_ok-marks.marks) c.len.ensures.sound c.in_ok-marks.ensures
