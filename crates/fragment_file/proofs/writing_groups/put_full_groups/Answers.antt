-- Proofs of the goals of `put_full_groups` (`writing_groups`).
use Rattle.std.proofs.Common.{arith}
use Rattle.fragment_file.proofs.WrittenGroups.{writes_nothing, writes_full}
use Rattle.fragment_file.proofs.writing_groups.put_full_groups.Goals as goal

pub loop-group-init : goal.loop-group-init
loop-group-init g c = writes_nothing (g.W.Write.contents c.args.out.now) c.args.hasher.now c.args.columns.now

pub loop-group-preserved : goal.loop-group-preserved
loop-group-preserved g c =
    writes_full _ _ _ _ _ _ c.args.columns.now c.loop-group.group _ (omega arith) c.loop-group.invariant c.in_ok-put_group.ensures.ok
