-- Loop invariants of `append_groups` (`copying`).
use Rattle.std.proofs.Common.{◌≡◌, take, get_or}
use Rattle.std.specs.List.{flat_map}
use Rattle.blocks.specs.Block.{values_of}
use Rattle.fragment_file.specs.Copying.{with_values}
use Rattle.fragment_file.specs.Fragment.{no_block}
use Rattle.fragment_file.proofs.copying.append_groups.Given as goal

abbrev pub invariant-loop-group : goal.invariant-loop-group
invariant-loop-group l =
    (l.column ≡ with_values l.fn.column (flat_map (λ g. values_of (get_or g l.index no_block)) (take l.group l.view.groups)))
    × (l.buffer.room ≡ l.fn.buffer.room)
