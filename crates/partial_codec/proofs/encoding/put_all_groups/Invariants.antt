-- Loop invariants of `put_all_groups` (`encoding`).
use Rattle.std.proofs.Common.{◌≡◌, ◌++◌, take}
use Rattle.std.specs.List.{flat_map}
use Rattle.answer_fields.specs.Shape.{shape_of}
use Rattle.partial_codec.specs.Spelling.{group_bytes}
use Rattle.partial_codec.proofs.encoding.put_all_groups.Given as goal

abbrev pub invariant-loop-group : goal.invariant-loop-group
invariant-loop-group l =
    l.out.items ≡ l.fn.out.items ++ flat_map (group_bytes (shape_of l.plan)) (take l.group-index l.groups)
