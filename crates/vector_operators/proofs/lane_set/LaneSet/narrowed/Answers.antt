-- Proofs of the goals of `LaneSet::narrowed` (`lane_set`).
use Rattle.std.proofs.Common.{sym, ap, subst, ◌∙◌, ◌≡◌, length, ℕ, false, ◌&&◌}
use Rattle.vectors.specs.Selection.{Positions}
use Rattle.lane_loops.specs.Lanes.{AreLanes, null_at}
use Rattle.vector_operators.specs.Given.{AreNarrowed}
use Rattle.vector_operators.specs.LaneSets.{lanes_in, marked, mask_in}
use Rattle.std.specs.Prelude.{Some}
use Rattle.vector_operators.proofs.MarkedLanes.{narrowed_lanes}
use Rattle.vector_operators.proofs.lane_set.LaneSet.narrowed.Goals as goal

pub returns : goal.returns
returns c =
    let n = c.self.inside.lanes in
    let old = mask_in c.self.inside.marks in
    let mask = c.args.mask.items in
    let out = c.in_ok-mask.mask.items in
    let long : length mask ≡ n = c.requires ∙ sym (ap (λ (s : Positions). s.below) c.self.view_is) in
    let are = subst (λ (k : ℕ). AreLanes false k (λ i. marked old i && null_at mask i) out) long c.in_ok-mask.ensures in
    subst (λ (s : Positions). AreNarrowed (λ i. null_at mask i) s (lanes_in n (Some out))) c.self.view_is (narrowed_lanes n old mask out are)
