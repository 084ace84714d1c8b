-- Proofs of the goals of `sound_value` (`group_columns`).
use Rattle.std.proofs.Common.{get_or, Err, ap, subst, ◌∙◌}
use Rattle.meaning.specs.Aggregate.{no_statistics, value}
use Rattle.meaning.specs.Order.{value_in}
use Rattle.meaning.specs.Wanting.{ReportsIfMemory}
use Rattle.last_step.specs.Given.{fault_returned}
use Rattle.last_step.proofs.GroupsRead.{no_group, not_both}
use Rattle.last_step.proofs.group_columns.sound_value.Goals as goal

pub unreachable-requires : goal.unreachable-requires
unreachable-requires c =
    let r = value c.args.kind (get_or (get_or c.args.groups.now c.args.group no_group).states c.args.aggregate no_statistics) in
    let bad = subst (λ given. ReportsIfMemory fault_returned value_in given r) (c.in-Err-Fault.is ∙ ap Err c.in-Err-Fault.field-0-is) (c.value_at.ensures.value no_group) in
    let (v, good) = c.requires.sound no_group in
    not_both r c.in-Err-Fault.field-0-0 v bad good
