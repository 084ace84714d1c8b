-- Loop invariants of `put_packed_groups` (`encoding`).
use Rattle.std.proofs.Common.{◌≡◌, ◌++◌, length}
use Rattle.std.specs.List.{flat_map, AllByRecursion}
use Rattle.answer_fields.specs.Ranges.{IsGroup}
use Rattle.answer_fields.specs.Shape.{shape_of}
use Rattle.answer_fields.specs.Spelling.{group_bytes}
use Rattle.partial_codec.proofs.encoding.put_packed_groups.Given as goal

abbrev pub invariant-loop-left : goal.invariant-loop-left
invariant-loop-left l = record {
  put : l.out.items ++ flat_map (group_bytes (shape_of l.plan)) l.left ≡ l.fn.out.items ++ flat_map (group_bytes (shape_of l.plan)) l.groups;
  each : AllByRecursion (IsGroup (shape_of l.plan)) l.left;
}

abbrev pub decreases-loop-left : goal.decreases-loop-left
decreases-loop-left l = length l.left
