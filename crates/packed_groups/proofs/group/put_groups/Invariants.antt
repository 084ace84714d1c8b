-- Loop invariants of `put_groups` (`group`).
use Rattle.std.proofs.Common.{◌≡◌, ◌++◌, take}
use Rattle.std.specs.List.{flat_map, AllByRecursion}
use Rattle.packed_groups.specs.Packable.{IsPackableGroup}
use Rattle.packed_groups.specs.Packing.{group_bytes}
use Rattle.packed_groups.proofs.group.put_groups.Given as goal

abbrev pub invariant-loop-group : goal.invariant-loop-group
invariant-loop-group l = record {
  packed : l.out.items ≡ l.fn.out.items ++ flat_map group_bytes (take l.group-index l.groups);
  packable : AllByRecursion IsPackableGroup (take l.group-index l.groups);
}
