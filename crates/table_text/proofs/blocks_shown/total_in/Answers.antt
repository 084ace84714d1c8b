-- Proofs of the goals of `total_in` (`blocks_shown`).
use Rattle.std.proofs.Common.{◌∙◌, ◌++◌, ap, take}
use Rattle.std.specs.Prelude.{map, slice_get}
use Rattle.std.proofs.lemmas.List.{take_all}
use Rattle.table_text.specs.BlockText.{column_blocks, if_any, total_of}
use Rattle.table_text.proofs.Totals.{group_at}
use Rattle.table_text.proofs.blocks_shown.total_in.Goals as goal

pub loop-group-init : goal.loop-group-init
loop-group-init c = c.none-total.ensures

pub loop-group-preserved : goal.loop-group-preserved
loop-group-preserved c =
    let before = column_blocks c.args.number (map (λ g. g.items) (take c.loop-group.group-index c.args.groups.now)) in
    group_at c.args.number (λ g. g.items) c.args.groups.now c.loop-group.group-index c.group-item.result c.with_column-total.result c.loop-group-test.true c.group-item.is
    (c.with_column-total.ensures before c.loop-group.invariant ∙ ap (λ g. total_of (before ++ if_any (slice_get g c.args.number))) c.as_slice.ensures.value)

pub returns : goal.returns
returns c = c.loop-group.invariant ∙ ap (λ gs. total_of (column_blocks c.args.number (map (λ g. g.items) gs))) (take_all c.loop-group.group-index c.args.groups.now c.loop-group-test.false)
