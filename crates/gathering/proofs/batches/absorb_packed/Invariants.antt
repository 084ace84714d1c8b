-- Invariants of `absorb_packed` (`batches`).
use Rattle.std.proofs.Common.{length}
use Rattle.gathering.proofs.InBatches.{HasTaken}
use Rattle.gathering.proofs.batches.absorb_packed.Given as goal

abbrev pub invariant-loop-rest : goal.invariant-loop-rest
invariant-loop-rest l = HasTaken l.fn.table l.groups l.taken l.rest

abbrev pub decreases-loop-rest : goal.decreases-loop-rest
decreases-loop-rest l = length l.rest
