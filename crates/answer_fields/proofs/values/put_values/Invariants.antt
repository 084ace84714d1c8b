-- Loop invariants of `put_values` (`values`).
use Rattle.std.proofs.Common.{◌≡◌, ◌++◌, take}
use Rattle.std.specs.List.{flat_map}
use Rattle.answer_fields.specs.Spelling.{value_bytes}
use Rattle.answer_fields.proofs.values.put_values.Given as goal

abbrev pub invariant-loop-value : goal.invariant-loop-value
invariant-loop-value l =
    l.out.items ≡ l.fn.out.items ++ flat_map value_bytes (take l.value-index l.values)
