-- Invariants of `push_plain` (`showing`).
use Rattle.std.proofs.Common.{◌≡◌, ◌++◌, drop}
use Rattle.last_step.specs.Runs.{expanded, plain_rows}
use Rattle.last_step.proofs.showing.push_plain.Given as goal

abbrev pub invariant-loop-k : goal.invariant-loop-k
invariant-loop-k l = expanded l.runs.items ++ plain_rows l.distinct (drop l.k l.groups) ≡ expanded l.fn.runs.items ++ plain_rows l.distinct l.groups
