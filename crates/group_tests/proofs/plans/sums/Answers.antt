-- Proofs of the goals of `sums` (`plans`).
use Rattle.std.proofs.Common.{refl}
use Rattle.group_tests.proofs.SumPlans.{one_sum}
use Rattle.group_tests.proofs.plans.sums.Goals as goal

pub returns-clause-sums : goal.returns-clause-sums
returns-clause-sums c = one_sum c.new-aggregates.result c.push.new.self _ c.new-aggregates.ensures c.in_ok-push.ensures.ok refl refl
