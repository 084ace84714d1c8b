-- Proofs of the goals of `sort` (`key_order`).
use Rattle.std.proofs.Common.{ℕ, rules}
use Rattle.std.specs.Ordering.{is_lt}
use Rattle.std.proofs.lemmas.Fn.{always_returns_same}
use Rattle.std.proofs.lemmas.List.Sorted.{ranks_by}
use Rattle.meaning.specs.Order.{row_cmp}
use Rattle.meaning.proofs.Orders.{row_total}
use Rattle.group_by.specs.KeyOrder.{key_near}
use Rattle.group_by.proofs.key_order.sort.Goals as goal

pub returns-clause-stable : goal.returns-clause-stable
returns-clause-stable c =
    let key = key_near c.args.keys.now in
    c.in_ok-sort_by.ensures.stable (λ (i j : ℕ). is_lt (row_cmp (key i) (key j))) (ranks_by row_total key) (always_returns_same _ _ _ (λ a r f called. search rules))
