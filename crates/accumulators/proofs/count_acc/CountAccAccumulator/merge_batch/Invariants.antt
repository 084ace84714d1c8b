-- Invariants of `CountAcc::merge_batch` (`count_acc`).
use Rattle.std.proofs.Common.{◌+◌, ◌≤◌, drop, map}
use Rattle.std.specs.Prelude.{sum}
use Rattle.meaning.specs.declared.plan.AggregateKind.TheVariants.{Count}
use Rattle.aggregate_states.specs.State.{most_entries}
use Rattle.aggregate_states.proofs.Growing.{MergesUp}
use Rattle.accumulators.proofs.count_acc.CountAccAccumulator.merge_batch.Given as goal

-- the states that are left make it whole, and there is room for their entries
abbrev pub invariant-loop-k : goal.invariant-loop-k
invariant-loop-k l = record {
  whole : MergesUp Count l.states l.fn.self l.k l.self;
  few : l.self.count + sum (map (λ s. s.count) (drop l.k l.states)) ≤ most_entries;
}
