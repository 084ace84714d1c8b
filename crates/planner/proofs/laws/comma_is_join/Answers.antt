-- Proofs of the goals of `comma_is_join` (`laws`).
use Rattle.planner.proofs.FormsAgree.{comma_is_join}
use Rattle.planner.proofs.laws.comma_is_join.Goals as goal

pub returns : goal.returns
returns c = comma_is_join
