-- Proofs of the goals of `place_of` (`leading`).
use Rattle.std.proofs.Common.{◌≡◌, ◌-◌, ◌<◌, length, get_or, rules, sym, ◌∙◌}
use Rattle.std.proofs.lemmas.List.Sorted.{IsPartitionPoint-from_clause}
use Rattle.last_step.specs.Batches.{lane_row}
use Rattle.last_step.proofs.Offered.{comes_before, found, found_last, parted}
use Rattle.last_step.proofs.leading.place_of.Goals as goal

pub returns-then-is_before-clause-place : goal.returns-then-is_before-clause-place
returns-then-is_before-clause-place c =
    let leading = c.args.leading.now in
    let some : 0 < length leading = search rules in
    let at : c.in-Some.last.now ≡ get_or leading (length leading - 1) c.args.position = search rules in
    found_last c.args.order.now (lane_row c.args.items.now) leading c.args.position c.in-Some.last.now c.requires some at (sym c.is_before.ensures ∙ c.if-is_before.true)

pub returns-clause-place : goal.returns-clause-place
returns-clause-place c =
    let row = lane_row c.args.items.now in
    let order = c.args.order.now in
    let before = comes_before order row c.args.position in
    found order row c.args.leading.now c.args.position c.partition_point.result c.partition_point.ensures.bound
    (IsPartitionPoint-from_clause before c.args.leading.now c.partition_point.result c.partition_point.ensures.partitioned (parted order row c.args.leading.now c.args.position c.requires) (λ a r q called. search rules))
