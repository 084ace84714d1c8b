-- Proofs of the goals of `row_order` (`key_order`).
use Rattle.std.proofs.Common.{ap, ◌∙◌}
use Rattle.std.specs.List.{range_with_len}
use Rattle.group_by.proofs.Sorting.{rows_sorted}
use Rattle.group_by.proofs.key_order.row_order.Goals as goal

pub returns : goal.returns
returns c =
    rows_sorted c.args.keys.now c.in_ok-order.order.items c.reverse.new.self.items c.sort.new.order.items (c.in_ok-order.ensures ∙ ap (range_with_len 0) c.len.ensures) c.reverse.ensures.items
    c.in_ok-sort.ensures.stable c.in_ok-sort.ensures.permutation
