-- Loop invariants of `count_plain` (`blocks`).
use Rattle.std.proofs.Common.{length}
use Rattle.loader.specs.Counting.{state_at}
use Rattle.loader.proofs.Lines.{IsCounted}
use Rattle.loader.proofs.blocks.count_plain.Given as goal

abbrev pub invariant-loop-has_bytes : goal.invariant-loop-has_bytes
invariant-loop-has_bytes l = IsCounted (state_at l.fn.state) l.fn.block l.within l.records l.rest

abbrev pub decreases-loop-has_bytes : goal.decreases-loop-has_bytes
decreases-loop-has_bytes l = length l.rest
