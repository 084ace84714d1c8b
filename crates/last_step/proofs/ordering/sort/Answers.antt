-- Proofs of the goals of `sort` (`ordering`).
use Rattle.std.proofs.Common.{rules}
use Rattle.std.specs.Ordering.{is_lt}
use Rattle.std.proofs.lemmas.Fn.{always_returns_same}
use Rattle.std.proofs.lemmas.List.Sorted.{ranks_by}
use Rattle.meaning.specs.Finish.{order_cmp}
use Rattle.meaning.proofs.Orders.{order_total}
use Rattle.last_step.specs.declared.run.Run.{Run}
use Rattle.last_step.proofs.Arranging.{arranged}
use Rattle.last_step.proofs.ordering.sort.Goals as goal

pub returns : goal.returns
returns c =
    arranged c.args.order.now c.args.runs.now.items c.sort_by.new.self.items c.in_ok-sort_by.ensures.permutation
    (c.in_ok-sort_by.ensures.sorted (λ (a b : Run). is_lt (order_cmp c.args.order.now a.row b.row)) (ranks_by (order_total c.args.order.now) (λ (r : Run). r.row)) (always_returns_same _ _ _ (λ a r f called. search rules)))
