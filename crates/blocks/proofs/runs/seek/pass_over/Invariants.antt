-- Loop invariants of `pass_over` (`runs::seek`).
use Rattle.std.proofs.Common.{◌≡◌, ◌+◌, ◌*◌, take, sum}
use Rattle.blocks.specs.Dictionary.{codes_in}
use Rattle.blocks.proofs.runs.seek.pass_over.Given as goal

abbrev pub invariant-loop-k : goal.invariant-loop-k
invariant-loop-k l = l.skip + sum (take (32 * l.k) (codes_in l.lengths)) ≡ l.from
