-- Proofs of the goals of `sets_contain` (`laws`).
use Rattle.meaning.proofs.Orders.{value_total, row_total}
use Rattle.meaning.proofs.Sets.{any-ascending_set}
use Rattle.meaning_laws.proofs.laws.sets_contain.Goals as goal

pub returns-clause-rows : goal.returns-clause-rows
returns-clause-rows c = any-ascending_set row_total

pub returns-clause-values : goal.returns-clause-values
returns-clause-values c = any-ascending_set value_total
