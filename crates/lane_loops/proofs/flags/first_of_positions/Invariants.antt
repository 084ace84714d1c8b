-- Loop invariants of `first_of_positions` (`flags`).
use Rattle.std.proofs.Common.{◌≡◌, drop}
use Rattle.std.specs.Prelude.{find}
use Rattle.lane_loops.specs.Lanes.{is_flagged}
use Rattle.lane_loops.proofs.flags.first_of_positions.Given as goal

-- none was found so far
abbrev pub invariant-loop-i : goal.invariant-loop-i
invariant-loop-i l = find (is_flagged l.flags) (drop l.i l.positions) ≡ find (is_flagged l.flags) l.positions
