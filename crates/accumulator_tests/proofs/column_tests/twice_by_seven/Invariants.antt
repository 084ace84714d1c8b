-- Invariants of `twice_by_seven` (`column_tests`).
use Rattle.std.proofs.Common.{◌≡◌, ◌<◌, length, All}
use Rattle.accumulator_tests.proofs.column_tests.twice_by_seven.Given as goal

-- as many integers and group indexes as turns
abbrev pub invariant-loop-k : goal.invariant-loop-k
invariant-loop-k l = record {
  ints : length l.ints.items ≡ l.k;
  group_indexes : length l.group_indexes.items ≡ l.k;
  within : All (λ group_index. group_index < 7) l.group_indexes.items;
}
