-- Invariants of `push_times` (`expanding`).
use Rattle.std.proofs.Common.{◌≡◌, ◌++◌}
use Rattle.std.specs.Prelude.{replicate}
use Rattle.last_step.proofs.expanding.push_times.Given as goal

abbrev pub invariant-loop : goal.invariant-loop
invariant-loop l = l.rows ≡ l.fn.rows ++ replicate l.counter l.row
