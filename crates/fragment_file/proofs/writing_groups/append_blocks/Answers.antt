-- Proofs of the goals of `append_blocks` (`writing_groups`).
use Rattle.std.proofs.Common.{◌-◌}
use Rattle.fragment_file.proofs.WrittenGroups.{puts_block_more}
use Rattle.fragment_file.proofs.writing_groups.append_blocks.Goals as goal

pub loop-column-preserved : goal.loop-column-preserved
loop-column-preserved c =
    puts_block_more c.args.out.now.items c.loop-column.out.items c.append_block.new.out.items c.args.columns.now c.loop-column.column-index c.args.from (c.args.to - c.args.from)
    c.column-item.result c.loop-column-test.true c.column-item.is c.loop-column.invariant c.in_ok-append_block.ensures.ok
