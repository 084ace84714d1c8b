-- Proofs of the goals of `LaneSet::minus` (`lane_set`).
use Rattle.std.proofs.Common.{sym, ap, subst, ◌∙◌, ◌≡◌, ℕ, false, not, ◌&&◌, List, Bool}
use Rattle.vectors.specs.Selection.{IsMask, IsSelection, Positions}
use Rattle.lane_loops.specs.Lanes.{AreLanes, null_at}
use Rattle.vector_operators.specs.LaneSets.{mask_in}
use Rattle.vector_operators.specs.Broadcast.{broadcast_cells}
use Rattle.vector_operators.proofs.MarkedLanes.{are_selection, lanes_without}
use Rattle.vector_operators.proofs.lane_set.LaneSet.minus.Goals as goal

pub returns : goal.returns
returns c =
    let n = c.self.inside.lanes in
    let s = c.args.self.now in
    let t = c.args.other.now in
    let these = c.as_slice.result.now in
    let those = c.as_slice-2.result.now in
    let out = c.in_ok-mask.mask.items in
    let below : s.below ≡ n = sym (ap (λ (p : Positions). p.below) c.self.view_is) in
    let sound : IsSelection s = subst IsSelection c.self.view_is (are_selection n (mask_in c.self.inside.marks)) in
    let of_these : IsMask s.list n these = subst (λ (cells : List Bool). IsMask s.list n cells) (sym c.as_slice.ensures) (subst (λ (k : ℕ). IsMask s.list k (broadcast_cells c.in_ok-these.these)) below c.in_ok-these.ensures) in
    let of_those : IsMask t.list n those = subst (λ (cells : List Bool). IsMask t.list n cells) (sym c.as_slice-2.ensures) (subst (λ (k : ℕ). IsMask t.list k (broadcast_cells c.in_ok-those.those)) (c.requires ∙ below) c.in_ok-those.ensures) in
    let are = subst (λ (k : ℕ). AreLanes false k (λ i. null_at these i && not (null_at those i)) out) of_these.long c.in_ok-mask.ensures in
    lanes_without n s t these those out sound below of_these of_those are
