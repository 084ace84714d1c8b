-- Proofs of the goals of `append_group` (`writing_groups`).
use Rattle.std.proofs.Common.{◌-◌}
use Rattle.fragment_file.proofs.Written.{on_ok}
use Rattle.fragment_file.proofs.WrittenGroups.{puts_group}
use Rattle.fragment_file.proofs.writing_groups.append_group.Goals as goal

pub returns-clause-ok : goal.returns-clause-ok
returns-clause-ok c =
    on_ok c.append_blocks.result c.append_blocks.ensures.ok
    (puts_group c.args.out.now.items c.append_u32.new.out.items c.append_blocks.new.out.items c.args.columns.now c.args.from (c.args.to - c.args.from) c.in_ok-append_u32.ensures)
