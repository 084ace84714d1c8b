-- Invariants of `pack_all` (`packing`).
use Rattle.std.proofs.Common.{◌≡◌, ◌-◌, ◌≤◌, length, take}
use Rattle.worker.proofs.packing.pack_all.Given as goal

-- the groups before the place are packed
abbrev pub invariant-loop-from : goal.invariant-loop-from
invariant-loop-from l = record {
  packed : l.packed ≡ take l.from l.groups;
  within : l.from ≤ length l.groups;
}

abbrev pub decreases-loop-from : goal.decreases-loop-from
decreases-loop-from l = length l.groups - l.from
