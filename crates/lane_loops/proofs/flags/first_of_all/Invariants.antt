-- Loop invariants of `first_of_all` (`flags`).
use Rattle.std.proofs.Common.{◌≡◌, ◌-◌, length}
use Rattle.std.specs.Prelude.{find}
use Rattle.std.specs.List.{range_with_len}
use Rattle.lane_loops.specs.Lanes.{is_flagged}
use Rattle.lane_loops.proofs.flags.first_of_all.Given as goal

-- none was found so far
abbrev pub invariant-loop-i : goal.invariant-loop-i
invariant-loop-i l =
    find (is_flagged l.flags) (range_with_len l.i (length l.flags - l.i)) ≡ find (is_flagged l.flags) (range_with_len 0 (length l.flags))
