-- Loop invariants of `look_at_eight` (`looking`).
use Rattle.std.proofs.Common.{ℕ, ◌+◌, ◌<◌, SFits, w64}
use Rattle.lane_kernels.specs.Lanes.{int_at}
use Rattle.lane_kernels.proofs.looking.look_at_eight.Given as goal

abbrev pub invariant-loop-k : goal.invariant-loop-k
invariant-loop-k l = (j : ℕ) → j < l.k → SFits w64 (int_at l.ints (l.start + j))
