-- Invariants of `seven_groups` (`column_tests`).
use Rattle.std.proofs.Common.{◌≡◌, length, All}
use Rattle.accumulator_tests.proofs.column_tests.seven_groups.Given as goal

-- as many groups as turns, of no entry
abbrev pub invariant-loop : goal.invariant-loop
invariant-loop l = record {
  many : length l.column.states ≡ l.counter;
  fresh : All (λ s. s.count ≡ 0) l.column.states;
}
