-- Proofs of the goals of `sorts_are_equal` (`laws`).
use Rattle.meaning.proofs.Orders.{order_total, order_exact}
use Rattle.meaning.proofs.Sorting.{sorted_is}
use Rattle.meaning_laws.proofs.laws.sorts_are_equal.Goals as goal

pub returns : goal.returns
returns c = λ order. sorted_is (order_total order) (order_exact order)
