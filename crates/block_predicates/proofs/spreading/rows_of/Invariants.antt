-- Loop invariants of `rows_of` (`spreading`).
use Rattle.std.proofs.Common.{◌≡◌, ◌+◌, drop, sum}
use Rattle.block_predicates.proofs.spreading.rows_of.Given as goal

abbrev pub invariant-loop-run : goal.invariant-loop-run
invariant-loop-run l = l.rows + sum (drop l.run l.runs.lengths) ≡ sum l.runs.lengths
