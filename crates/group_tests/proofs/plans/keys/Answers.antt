-- Proofs of the goals of `keys` (`plans`).
use Rattle.group_tests.proofs.SumPlans.{one_key}
use Rattle.group_tests.proofs.plans.keys.Goals as goal

pub returns : goal.returns
returns c = one_key c.new-keys.result c.push.new.self _ c.new-keys.ensures c.in_ok-push.ensures.ok c.int_key.ensures
