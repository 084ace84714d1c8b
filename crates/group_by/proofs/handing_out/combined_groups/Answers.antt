-- Proofs of the goals of `combined_groups` (`handing_out`).
use Rattle.group_by.proofs.Handing.{groups_fit}
use Rattle.group_by.proofs.handing_out.combined_groups.Goals as goal

pub combine-requires : goal.combine-requires
combine-requires c =
    groups_fit c.args.keys.items c.args.rows.now c.args.columns.now c.requires.rows c.requires.within c.in_ok-groups.groups.items c.sort.new.groups.items
    c.in_ok-groups.ensures c.in-Ok.ensures.permutation c.requires.few
