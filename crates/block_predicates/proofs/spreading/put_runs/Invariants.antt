-- Loop invariants of `put_runs` (`spreading`).
use Rattle.std.proofs.Common.{◌≡◌, ◌+◌, ◌-◌, ◌++◌, false, length, drop, replicate, sum, take}
use Rattle.blocks.specs.Runs.{repeats}
use Rattle.block_predicates.proofs.spreading.put_runs.Given as goal

abbrev pub invariant-loop-run : goal.invariant-loop-run
invariant-loop-run l =
    (take l.done l.rows ++ repeats (drop l.run l.marks) (drop l.run l.runs.lengths) ≡ repeats l.marks l.runs.lengths)
    × (l.done + sum (drop l.run l.runs.lengths) ≡ sum l.runs.lengths)
    × (length l.rows ≡ sum l.runs.lengths)
    × (drop l.done l.rows ≡ replicate (length l.rows - l.done) false)
