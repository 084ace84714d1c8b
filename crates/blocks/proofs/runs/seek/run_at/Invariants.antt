-- Loop invariants of `run_at` (`runs::seek`).
use Rattle.std.proofs.Common.{◌≡◌, ◌+◌, take, sum}
use Rattle.blocks.specs.Dictionary.{codes_in}
use Rattle.blocks.proofs.runs.seek.run_at.Given as goal

abbrev pub invariant-loop-run : goal.invariant-loop-run
invariant-loop-run l = l.skip + sum (take l.run (codes_in l.lengths)) ≡ l.from
