-- Loop invariants of `has_flag` (`flags`).
use Rattle.std.proofs.Common.{◌≡◌, take}
use Rattle.std.specs.List.{list_any}
use Rattle.lane_loops.specs.Lanes.{is_flag}
use Rattle.lane_loops.proofs.flags.has_flag.Given as goal

abbrev pub invariant-loop-flag : goal.invariant-loop-flag
invariant-loop-flag l = l.is_any ≡ list_any is_flag (take l.flag-index l.flags)
