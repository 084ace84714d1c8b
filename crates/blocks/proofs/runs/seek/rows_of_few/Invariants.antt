-- Loop invariants of `rows_of_few` (`runs::seek`).
use Rattle.std.proofs.Common.{◌≡◌, ◌%◌, ◌*◌, ◌<◌, ◌≤◌, take, sum}
use Rattle.blocks.specs.Dictionary.{codes_in}
use Rattle.blocks.proofs.runs.seek.rows_of_few.Given as goal

abbrev pub invariant-loop-length : goal.invariant-loop-length
invariant-loop-length l = record {
  low : l.rows ≡ sum (take l.length-index (codes_in l.lengths)) % 65536;
  short : l.greatest < 2048 → sum (take l.length-index (codes_in l.lengths)) ≤ 2047 * l.length-index;
}
