-- Proofs of the goals of `take` (`packed`).
use Rattle.std.proofs.Common.{◌∙◌, ap, drop, take}
use Rattle.packed_groups.proofs.PackedBytes.{groups_taken}
use Rattle.packed_groups.proofs.packed.Unpacking.take.Goals as goal

pub invariant_of-self : goal.invariant_of-self
invariant_of-self c =
    (groups_taken c.args.most c.min-many.result c.self.inside.left c.self.inside.rest.now c.in-Ok.groups.items c.in-Ok.rest.now c.min-many.ensures c.self.invariant c.in-Ok.ensures).packed

pub returns-in-Ok-clause-taken : goal.returns-in-Ok-clause-taken
returns-in-Ok-clause-taken c =
    (groups_taken c.args.most c.min-many.result c.self.inside.left c.self.inside.rest.now c.in-Ok.groups.items c.in-Ok.rest.now c.min-many.ensures c.self.invariant c.in-Ok.ensures).taken
    ∙ ap (take c.args.most) c.self.view_is

pub returns-in-Ok-clause-left : goal.returns-in-Ok-clause-left
returns-in-Ok-clause-left c =
    (groups_taken c.args.most c.min-many.result c.self.inside.left c.self.inside.rest.now c.in-Ok.groups.items c.in-Ok.rest.now c.min-many.ensures c.self.invariant c.in-Ok.ensures).others
    ∙ ap (drop c.args.most) c.self.view_is
