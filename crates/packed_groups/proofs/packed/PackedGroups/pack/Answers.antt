-- Proofs of the goals of `pack` (`packed`).
use Rattle.std.proofs.Common.{rules, ◌≡◌}
use Rattle.std.specs.List.{flat_map}
use Rattle.packed_groups.specs.Packing.{group_bytes}
use Rattle.packed_groups.proofs.PackedBytes.{groups_of}
use Rattle.packed_groups.proofs.packed.PackedGroups.pack.Goals as goal

pub returns : goal.returns
returns c =
    let is : c.in_ok-bytes.bytes.items ≡ flat_map group_bytes c.args.groups.now = search rules in
    groups_of c.args.groups.now c.in_ok-bytes.bytes.items is c.in_ok-put_groups.ensures.packable
