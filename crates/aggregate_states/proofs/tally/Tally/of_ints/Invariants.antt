-- Invariants of `Tally::of_ints` (`tally`).
use Rattle.std.proofs.Common.{◌≡◌, ◌+◌, ◌*◌, ◌≤◌, ◌+ℤ◌, pos, drop, map}
use Rattle.meaning.specs.declared.value.Value.TheVariants.{Int}
use Rattle.meaning.specs.Aggregate.{total}
use Rattle.aggregate_states.proofs.tally.Tally.of_ints.Given as goal

-- the integers that are left make it whole, and the halves are small enough
abbrev pub invariant-loop-k : goal.invariant-loop-k
invariant-loop-k l = record {
  whole : (pos (l.halves.high * 4294967296 + l.halves.low) +ℤ total (map Int (drop l.k l.ints))) ≡ (total (map Int l.ints) +ℤ pos (l.k * 9223372036854775808));
  high : l.halves.high ≤ l.k * 4294967295;
  low : l.halves.low ≤ l.k * 4294967295;
}
