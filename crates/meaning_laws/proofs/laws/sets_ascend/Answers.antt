-- Proofs of the goals of `sets_ascend` (`laws`).
use Rattle.meaning.proofs.Orders.{value_total, value_exact, row_total, row_exact}
use Rattle.meaning.proofs.Sets.{is_ascending-ascending_set, ascending_set_itself, same_ascending_set}
use Rattle.meaning_laws.proofs.laws.sets_ascend.Goals as goal

pub returns-clause-rows : goal.returns-clause-rows
returns-clause-rows c = record {
  ascends = is_ascending-ascending_set row_total;
  itself =
      ascending_set_itself row_total;
  same = same_ascending_set row_total row_exact;
}

pub returns-clause-values : goal.returns-clause-values
returns-clause-values c = record {
  ascends = is_ascending-ascending_set value_total;
  itself =
      ascending_set_itself value_total;
  same = same_ascending_set value_total value_exact;
}
