-- Proofs of the goals of `raised_group` (`groups`).
use Rattle.std.proofs.Common.{◌≡◌, ℕ, pos, ◌+ℤ◌, refl, ap, ◌∙◌, w64, to_z, of_z}
use Rattle.std.proofs.lemmas.Int.{to_z-of_z}
use Rattle.bit_packing.specs.Offsets.{offset_at}
use Rattle.bit_packing.proofs.LaneGroups.{cons_same}
use Rattle.bit_packing.proofs.Ranges.{stored}
use Rattle.bit_packing.proofs.groups.raised_group.Goals as goal

pub returns : goal.returns
returns c =
    let base : to_z w64 (of_z w64 c.args.base) ≡ c.args.base = to_z-of_z w64 c.args.base c.ranges.base in
    let known : (i : ℕ) → (to_z w64 (of_z w64 c.args.base) +ℤ pos (offset_at c.args.width c.args.group.now i)) ≡ (c.args.base +ℤ pos (offset_at c.args.width c.args.group.now i))
    = λ i. ap (λ z. z +ℤ pos (offset_at c.args.width c.args.group.now i)) base in
    cons_same _ _ _ _ (stored c.raised_lane.result c.raised_lane.type_inv ∙ c.raised_lane.ensures ∙ known 0)
    (cons_same _ _ _ _ (stored c.raised_lane-2.result c.raised_lane-2.type_inv ∙ c.raised_lane-2.ensures ∙ known 1)
    (cons_same _ _ _ _ (stored c.raised_lane-3.result c.raised_lane-3.type_inv ∙ c.raised_lane-3.ensures ∙ known 2)
    (cons_same _ _ _ _ (stored c.raised_lane-4.result c.raised_lane-4.type_inv ∙ c.raised_lane-4.ensures ∙ known 3)
    (cons_same _ _ _ _ (stored c.raised_lane-5.result c.raised_lane-5.type_inv ∙ c.raised_lane-5.ensures ∙ known 4)
    (cons_same _ _ _ _ (stored c.raised_lane-6.result c.raised_lane-6.type_inv ∙ c.raised_lane-6.ensures ∙ known 5)
    (cons_same _ _ _ _ (stored c.raised_lane-7.result c.raised_lane-7.type_inv ∙ c.raised_lane-7.ensures ∙ known 6)
    (cons_same _ _ _ _ (stored c.raised_lane-8.result c.raised_lane-8.type_inv ∙ c.raised_lane-8.ensures ∙ known 7) refl)))))))
