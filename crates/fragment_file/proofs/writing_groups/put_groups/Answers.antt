-- Proofs of the goals of `put_groups` (`writing_groups`).
use Rattle.std.proofs.Common.{arith}
use Rattle.fragment_file.proofs.Written.{on_ok}
use Rattle.fragment_file.proofs.WrittenGroups.{writes_rest}
use Rattle.fragment_file.proofs.writing_groups.put_groups.Goals as goal

pub returns-clause-ok : goal.returns-clause-ok
returns-clause-ok g c =
    on_ok c.put_group.result c.put_group.ensures.ok
    (writes_rest _ _ _ _ _ _ c.args.columns.now c.args.rows _ (omega arith) c.if-rows-eq0.false c.in_ok-put_full_groups.ensures.ok)
