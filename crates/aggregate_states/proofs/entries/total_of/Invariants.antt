-- Invariants of `total_of` (`entries`).
use Rattle.std.proofs.Common.{◌≡◌, drop, ◌+ℤ◌}
use Rattle.meaning.specs.Aggregate.{total}
use Rattle.aggregate_states.specs.State.{IsSumOf}
use Rattle.aggregate_states.proofs.entries.total_of.Given as goal

-- the entries that are left make it whole
abbrev pub invariant-loop-k : goal.invariant-loop-k
invariant-loop-k l = record {
  whole : l.sum +ℤ total (drop l.k l.entries) ≡ total l.entries;
  within : IsSumOf l.k l.sum;
}
