-- Proofs of the goals of `DistinctAcc::merge_batch` (`distinct_acc`).
use Rattle.std.proofs.Common.{refl}
use Rattle.distinct_sets.proofs.Entering.{one_came}
use Rattle.accumulators.proofs.distinct_acc.DistinctAccAccumulator.merge_batch.Goals as goal

pub returns-clause-ok : goal.returns-clause-ok
returns-clause-ok c =
    one_came c.self.inside.sets c.add_states.new.self c.args.self.now c.self.invariant c.self.view_is _ _ refl c.add_states.result c.add_states.ensures.ok
