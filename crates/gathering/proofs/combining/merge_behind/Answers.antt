-- Proofs of the goals of `merge_behind` (`combining`).
use Rattle.std.proofs.Common.{List, refl, ap, ◌∙◌, take_all, arith}
use Rattle.meaning.specs.Said.{Cell}
use Rattle.group_by.specs.Groups.{with_groups}
use Rattle.group_by.proofs.Growing.{grow}
use Rattle.gathering.specs.Merging.{all_groups, groups_in, table_with}
use Rattle.gathering.specs.Totals.{all_behind}
use Rattle.gathering.proofs.Deltas.{below_behind, behind_is, length-behind}
use Rattle.gathering.proofs.Merging.{table_takes, table_more}
use Rattle.gathering.proofs.combining.merge_behind.Goals as goal

pub merge_cell-requires : goal.merge_cell-requires
merge_cell-requires c =
    let cells = c.args.cells.now in
    let deltas = c.args.deltas.now in
    table_takes c.args.plan.now c.loop-k.table (all_behind cells deltas) c.loop-k.k c.behind.result.now (groups_in c.behind.result.now)
    (below_behind cells deltas c.loop-k.k c.loop-k-test.true c.requires.lengths) c.requires.mergeable c.loop-k.invariant
    (behind_is cells deltas c.loop-k.k c.index-cells-k.result c.index-deltas-k.result c.behind.result.now c.loop-k-test.true c.requires.lengths c.index-cells-k.is c.index-deltas-k.is c.behind.ensures)
    refl

pub loop-k-preserved : goal.loop-k-preserved
loop-k-preserved c =
    let cells = c.args.cells.now in
    let deltas = c.args.deltas.now in
    let item = behind_is cells deltas c.loop-k.k c.index-cells-k.result c.index-deltas-k.result c.behind.result.now c.loop-k-test.true c.requires.lengths c.index-cells-k.is c.index-deltas-k.is c.behind.ensures in
    table_more c.args.plan.now (all_behind cells deltas) c.loop-k.k c.behind.result.now c.loop-k.table _ (grow c.args.plan.now)
    (below_behind cells deltas c.loop-k.k c.loop-k-test.true c.requires.lengths) c.loop-k.invariant
    (c.in_ok-table-2.ensures ∙ ap (with_groups c.loop-k.table) (ap groups_in item))

pub returns : goal.returns
returns c =
    let same = length-behind c.args.cells.now c.args.deltas.now c.requires.lengths in
    let end = c.loop-k-test.false in
    c.loop-k.invariant ∙ ap (λ (cells : List Cell). table_with c.args.plan.now (all_groups cells)) (take_all c.loop-k.k (all_behind c.args.cells.now c.args.deltas.now) (omega (arith, same, end)))
