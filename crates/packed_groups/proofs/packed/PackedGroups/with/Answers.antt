-- Proofs of the goals of `with` (`packed`).
use Rattle.std.proofs.Common.{rules, ◌≡◌, ◌++◌, ◌∷◌, [], ap, ◌∙◌, arith}
use Rattle.packed_groups.specs.Packing.{group_bytes}
use Rattle.packed_groups.proofs.PackedBytes.{groups_with, packed_with, room_to_count}
use Rattle.packed_groups.proofs.packed.PackedGroups.with.Goals as goal

pub overflow_add-result : goal.overflow_add-result
overflow_add-result c =
    let is : c.put_group.new.out.items ≡ c.self.inside.bytes.items ++ group_bytes c.args.group.now = search rules in
    let small = c.put_group.new.out.small in
    omega (arith, room_to_count c.self.inside.many c.self.inside.bytes.items c.put_group.new.out.items c.args.group.now is c.self.invariant, small)

pub invariant_of-result : goal.invariant_of-result
invariant_of-result c =
    let is : c.put_group.new.out.items ≡ c.self.inside.bytes.items ++ group_bytes c.args.group.now = search rules in
    packed_with c.self.inside.many c.self.inside.bytes.items c.put_group.new.out.items c.args.group.now is c.in_ok-put_group.ensures.packable c.self.invariant

pub returns : goal.returns
returns c =
    let is : c.put_group.new.out.items ≡ c.self.inside.bytes.items ++ group_bytes c.args.group.now = search rules in
    groups_with c.self.inside.many c.self.inside.bytes.items c.put_group.new.out.items c.args.group.now is c.in_ok-put_group.ensures.packable c.self.invariant
    ∙ ap (λ gs. gs ++ c.args.group.now ∷ []) c.self.view_is
