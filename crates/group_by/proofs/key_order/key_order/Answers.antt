-- Proofs of the goals of `key_order` (`key_order`).
use Rattle.std.proofs.Common.{ℕ, List, length, All, ◌<◌, ap, sym, subst, rules}
use Rattle.group_by.specs.KeyOrder.{AreApart}
use Rattle.group_by.proofs.Sorting.{sorted_ordered, sorted_within}
use Rattle.group_by.proofs.key_order.key_order.Goals as goal

pub are_apart-requires : goal.are_apart-requires
are_apart-requires c =
    subst (λ (is : List ℕ). All (λ (i : ℕ). i < length c.args.keys.now) is) (sym c.as_slice.ensures.value)
    (sorted_within c.args.keys.now c.in_ok-order-2.order.items c.in_ok-order-2.ensures)

pub returns : goal.returns
returns c =
    let apart : AreApart c.args.keys.now c.in_ok-order-2.order.items = search rules in
    sorted_ordered c.args.keys.now c.in_ok-order-2.order.items c.in_ok-order-2.ensures apart
