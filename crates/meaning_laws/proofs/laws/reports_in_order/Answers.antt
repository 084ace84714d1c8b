-- Proofs of the goals of `reports_in_order` (`laws`).
use Rattle.std.proofs.Common.{◌≡◌, ℕ, ◌+◌, arith}
use Rattle.meaning_laws.proofs.Reports.{ascending, named, conflicts_first, missing_next, complete_last}
use Rattle.meaning_laws.proofs.laws.reports_in_order.Goals as goal

pub returns-clause-order : goal.returns-clause-order
returns-clause-order c = λ plan cells. record {
  conflicts = conflicts_first plan cells;
  absent =
      missing_next plan cells;
  complete = complete_last plan cells;
}

zero_first : (k : ℕ) → k ≡ 0 + k
zero_first k = omega arith

pub returns-clause-fragments : goal.returns-clause-fragments
returns-clause-fragments c = λ test cells. record {
  ascends = ascending test cells 0;
  just =
      λ k. named test cells 0 k k (zero_first k);
}
