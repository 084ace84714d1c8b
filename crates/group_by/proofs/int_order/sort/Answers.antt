-- Proofs of the goals of `sort` (`int_order`).
use Rattle.std.proofs.Common.{rules}
use Rattle.std.specs.Ordering.{is_lt}
use Rattle.std.proofs.lemmas.List.Sorted.{answers_always, ranks_by}
use Rattle.meaning.specs.Order.{row_cmp}
use Rattle.meaning.proofs.Orders.{row_total}
use Rattle.group_by.specs.declared.int_order.IntKey.{IntKey}
use Rattle.group_by.specs.KeyOrder.{key_in}
use Rattle.group_by.proofs.int_order.sort.Goals as goal

pub returns-clause-stable : goal.returns-clause-stable
returns-clause-stable c =
    c.in_ok-sort_by.ensures.stable (λ (p q : IntKey). is_lt (row_cmp (key_in p) (key_in q))) (ranks_by row_total key_in) (answers_always _ _ _ (λ f a r g h. search rules))
