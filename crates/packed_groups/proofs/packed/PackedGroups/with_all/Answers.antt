-- Proofs of the goals of `with_all` (`packed`).
use Rattle.std.proofs.Common.{rules, ◌≡◌, ◌++◌, ap, ◌∙◌, arith}
use Rattle.std.specs.List.{flat_map}
use Rattle.packed_groups.specs.Packing.{group_bytes}
use Rattle.packed_groups.proofs.PackedBytes.{groups_behind, packed_behind, room_for}
use Rattle.packed_groups.proofs.packed.PackedGroups.with_all.Goals as goal

pub overflow_add-result : goal.overflow_add-result
overflow_add-result c =
    let is : c.put_groups.new.out.items ≡ c.self.inside.bytes.items ++ flat_map group_bytes c.args.groups.now = search rules in
    let small = c.put_groups.new.out.small in
    omega (arith, room_for c.self.inside.many c.self.inside.bytes.items c.put_groups.new.out.items c.args.groups.now is c.self.invariant, small)

pub invariant_of-result : goal.invariant_of-result
invariant_of-result c =
    let is : c.put_groups.new.out.items ≡ c.self.inside.bytes.items ++ flat_map group_bytes c.args.groups.now = search rules in
    packed_behind c.self.inside.many c.self.inside.bytes.items c.put_groups.new.out.items c.args.groups.now is c.in_ok-put_groups.ensures.packable c.self.invariant

pub returns : goal.returns
returns c =
    let is : c.put_groups.new.out.items ≡ c.self.inside.bytes.items ++ flat_map group_bytes c.args.groups.now = search rules in
    groups_behind c.self.inside.many c.self.inside.bytes.items c.put_groups.new.out.items c.args.groups.now is c.in_ok-put_groups.ensures.packable c.self.invariant
    ∙ ap (λ gs. gs ++ c.args.groups.now) c.self.view_is
