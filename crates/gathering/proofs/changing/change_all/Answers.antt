-- Proofs of the goals of `change_all` (`changing`).
use Rattle.std.proofs.Common.{◌+◌, ◌<◌, List, length, sym, ◌∙◌, subst}
use Rattle.meaning.specs.Cut.{IsCut}
use Rattle.meaning.specs.Said.{Cell}
use Rattle.gathering.specs.Gathering.{IsHeld}
use Rattle.gathering.specs.Merging.{AreMergeable, all_groups}
use Rattle.gathering.specs.Totals.{AreTotalsOf, all_behind, handed_at_join, merges_of}
use Rattle.gathering.proofs.LiveTotals.{handed_behind, held_behind, mergeable_behind, turned}
use Rattle.gathering.proofs.changing.change_all.Goals as goal

pub with_deltas-requires-clause-mergeable : goal.with_deltas-requires-clause-mergeable
with_deltas-requires-clause-mergeable c =
    turned (λ plan cells deltas. AreMergeable plan (all_groups (all_behind cells deltas))) _ _ _ _ _ _
    (sym c.plan.ensures.value) (sym c.as_slice.ensures.value) (sym c.as_slice-2.ensures.value)
    (mergeable_behind c.args.job.now c.args.cells.now.items c.args.deltas.items (subst IsCut c.cut.ensures c.lengths-lengths.ensures.within_limits)
    c.requires.deltas.each c.requires.fitting c.requires.held.gather.each)

pub with_deltas-requires-clause-handed : goal.with_deltas-requires-clause-handed
with_deltas-requires-clause-handed c =
    turned (λ plan cells deltas. merges_of c.args.totals.now + length (all_groups (all_behind cells deltas)) < 9223372036854775808) _ _ _ _ _ _
    (sym c.plan.ensures.value) (sym c.as_slice.ensures.value) (sym c.as_slice-2.ensures.value)
    (handed_behind c.args.job.now c.args.cells.now.items c.args.deltas.items (subst IsCut c.cut.ensures c.lengths-lengths.ensures.within_limits)
    c.requires.deltas.each c.requires.fitting c.args.totals.now c.requires.held)

pub returns-in-Ok-clause-held : goal.returns-in-Ok-clause-held
returns-in-Ok-clause-held c =
    subst (λ (cells : List Cell). IsHeld c.args.job.now cells c.in-Ok.changed) (sym c.join_all.ensures)
    (held_behind c.args.job.now c.args.cells.now.items c.args.deltas.items (subst IsCut c.cut.ensures c.lengths-lengths.ensures.within_limits)
    c.requires.deltas.each c.requires.fitting c.args.totals.now c.in-Ok.changed c.requires.held
    (turned (λ plan cells deltas. AreTotalsOf plan (all_behind cells deltas) c.in-Ok.changed) _ _ _ _ _ _
    c.plan.ensures.value c.as_slice.ensures.value c.as_slice-2.ensures.value c.in-Ok.ensures.totals)
    (c.in-Ok.ensures.merges ∙ (λ i. merges_of c.args.totals.now + handed_at_join (c.as_slice.ensures.value i) (c.as_slice-2.ensures.value i))))
