-- Loop invariants of `put_all_states` (`group`).
use Rattle.std.proofs.Common.{◌≡◌, ◌++◌, take}
use Rattle.std.specs.List.{flat_map, AllByRecursion}
use Rattle.packed_groups.specs.Packable.{IsPackableState}
use Rattle.packed_groups.specs.Packing.{state_bytes}
use Rattle.packed_groups.proofs.group.put_all_states.Given as goal

abbrev pub invariant-loop-state : goal.invariant-loop-state
invariant-loop-state l = record {
  packed : l.out.items ≡ l.fn.out.items ++ flat_map state_bytes (take l.state-index l.states);
  packable : AllByRecursion IsPackableState (take l.state-index l.states);
}
