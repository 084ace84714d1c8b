-- Proofs of the goals of `holding` (`gather`).
use Rattle.std.proofs.Common.{List, length, sym, ap, ◌∙◌, subst}
use Rattle.meaning.specs.Cut.{IsCut}
use Rattle.meaning.specs.Said.{Cell}
use Rattle.gathering.specs.Merging.{AreMergeable, all_groups}
use Rattle.gathering.specs.Totals.{AreTotalsOf}
use Rattle.gathering.proofs.LiveTotals.{held_first, turned}
use Rattle.gathering.proofs.Merging.{cells_mergeable}
use Rattle.gathering.proofs.gather.holding.Goals as goal

pub totals_of-requires : goal.totals_of-requires
totals_of-requires c =
    turned (λ plan cells others. AreMergeable plan (all_groups cells)) _ _ _ _ _ _ (sym c.plan.ensures.value) (sym c.as_slice.ensures.value) (sym c.as_slice.ensures.value)
    (cells_mergeable c.args.job.plan c.args.job.cut c.args.cells.items (subst IsCut c.cut.ensures c.lengths-lengths.ensures.within_limits) c.requires.each c.requires.fitting)

pub invariant_of-result : goal.invariant_of-result
invariant_of-result c =
    held_first c.args.job c.args.cells.items c.in-Ok.totals (subst IsCut c.cut.ensures c.lengths-lengths.ensures.within_limits) c.requires.sound c.requires.each c.requires.fitting
    (turned (λ plan cells others. AreTotalsOf plan cells c.in-Ok.totals) _ _ _ _ _ _ c.plan.ensures.value c.as_slice.ensures.value c.as_slice.ensures.value c.in-Ok.ensures.totals)
    (c.in-Ok.ensures.merges ∙ ap (λ (cells : List Cell). length (all_groups cells)) c.as_slice.ensures.value)
