-- Proofs of the goals of `sorts` (`laws`).
use Rattle.meaning.specs.Finish.{order_cmp}
use Rattle.meaning.specs.Order.{row_cmp}
use Rattle.meaning.proofs.Orders.{row_total, order_total}
use Rattle.meaning.proofs.Sorting.{sorted-moved, sorted-in_order}
use Rattle.meaning_laws.proofs.laws.sorts.Goals as goal

pub returns-clause-rows : goal.returns-clause-rows
returns-clause-rows c = record { moved = sorted-moved row_cmp; in_order = sorted-in_order row_cmp row_total }

pub returns-clause-answers : goal.returns-clause-answers
returns-clause-answers c = λ order. record {
  moved = sorted-moved (order_cmp order);
  in_order =
      sorted-in_order (order_cmp order) (order_total order);
}
