-- Loop invariants of `put_all_values` (`value`).
use Rattle.std.proofs.Common.{◌≡◌, ◌++◌, take}
use Rattle.std.specs.List.{flat_map, AllByRecursion}
use Rattle.packed_groups.specs.Packable.{IsPackableValue}
use Rattle.packed_groups.specs.Packing.{value_bytes}
use Rattle.packed_groups.proofs.value.put_all_values.Given as goal

abbrev pub invariant-loop-value : goal.invariant-loop-value
invariant-loop-value l = record {
  packed : l.out.items ≡ l.fn.out.items ++ flat_map value_bytes (take l.value-index l.values);
  packable : AllByRecursion IsPackableValue (take l.value-index l.values);
}
