-- Proofs of the goals of `copy_cut` (`copying`).
use Rattle.std.proofs.Common.{sym, subst, ◌∙◌}
use Rattle.meaning.specs.Cut.{IsCut}
use Rattle.schedules.proofs.Cuts.{cut_again, no_fault}
use Rattle.schedules.proofs.copying.copy_cut.Goals as goal

pub unreachable-requires : goal.unreachable-requires
unreachable-requires c =
    let same = c.in_ok-to_vec.ensures.items_if_clones_equal (λ x y same. same) in
    no_fault c.new.result _ _ c.in-Err.is (c.new.ensures ∙ cut_again _ (subst IsCut (sym c.lengths.ensures.value ∙ sym same) c.lengths.ensures.within_limits))
