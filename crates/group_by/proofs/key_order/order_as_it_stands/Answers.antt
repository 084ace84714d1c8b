-- Proofs of the goals of `order_as_it_stands` (`key_order`).
use Rattle.std.proofs.Common.{◌≡◌, ◌∙◌, ◌<◌, ℕ, List, All, length, ap, sym, subst, rules}
use Rattle.std.specs.List.{range_with_len}
use Rattle.group_keys.specs.Keys.{DoAscend}
use Rattle.group_by.specs.KeyOrder.{AreApart}
use Rattle.group_by.proofs.Sorting.{ascend_apart, range_within}
use Rattle.group_by.proofs.Ascending.{ordered_already}
use Rattle.group_by.proofs.key_order.order_as_it_stands.Goals as goal

pub are_apart-requires : goal.are_apart-requires
are_apart-requires c =
    let is = c.as_slice.ensures.value ∙ c.in_ok-order.ensures ∙ ap (range_with_len 0) c.len.ensures in
    subst (λ (is : List ℕ). All (λ (i : ℕ). i < length c.args.keys.now) is) (sym is) (range_within (length c.args.keys.now))

pub returns-then-do_ascend : goal.returns-then-do_ascend
returns-then-do_ascend c =
    let keys = c.args.keys.now in
    let order = c.in_ok-order.order.items in
    let is : order ≡ range_with_len 0 (length keys) = c.in_ok-order.ensures ∙ ap (range_with_len 0) c.len.ensures in
    let ascend : DoAscend keys = search rules in
    ordered_already keys order is (subst (λ (is : List ℕ). AreApart keys is) (sym is) (ascend_apart keys ascend))

pub returns : goal.returns
returns c =
    let keys = c.args.keys.now in
    let order = c.in_ok-order.order.items in
    let is : order ≡ range_with_len 0 (length keys) = c.in_ok-order.ensures ∙ ap (range_with_len 0) c.len.ensures in
    let apart : AreApart keys order = search rules in
    ordered_already keys order is apart
