-- Loop invariants of `rows_of` (`runs::seek`).
use Rattle.std.proofs.Common.{◌≡◌, ◌*◌, ◌≤◌, take, sum}
use Rattle.blocks.specs.Dictionary.{codes_in}
use Rattle.blocks.proofs.runs.seek.rows_of.Given as goal

abbrev pub invariant-loop-length : goal.invariant-loop-length
invariant-loop-length l = (l.rows ≡ sum (take l.length-index (codes_in l.lengths))) × (l.rows ≤ 65535 * l.length-index)
