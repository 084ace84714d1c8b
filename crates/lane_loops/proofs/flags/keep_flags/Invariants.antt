-- Loop invariants of `keep_flags` (`flags`).
use Rattle.std.proofs.Common.{◌≡◌, ◌≤◌, ℕ, length, get_or}
use Rattle.lane_loops.specs.Lanes.{AreFilled, kept_flag}
use Rattle.lane_loops.proofs.flags.keep_flags.Given as goal

-- the flags behind are as they were
abbrev pub invariant-loop-i : goal.invariant-loop-i
invariant-loop-i l =
    AreFilled 0 (length l.fn.flags) l.i (kept_flag l.mask l.fn.flags) l.flags
    × ((j : ℕ) → l.i ≤ j → get_or l.flags j 0 ≡ get_or l.fn.flags j 0)
