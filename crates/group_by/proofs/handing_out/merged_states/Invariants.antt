-- Invariants of `merged_states` (`handing_out`).
use Rattle.std.proofs.Common.{◌≡◌, take}
use Rattle.group_by.specs.Combined.{zipped}
use Rattle.group_by.proofs.handing_out.merged_states.Given as goal

abbrev pub invariant-loop-k : goal.invariant-loop-k
invariant-loop-k l = l.merged ≡ take l.k (zipped l.states l.others)
