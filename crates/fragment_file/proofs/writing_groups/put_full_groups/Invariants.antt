-- Loop invariants of `put_full_groups` (`writing_groups`).
use Rattle.std.proofs.Common.{replicate}
use Rattle.fragment_file.specs.Writing.{WritesGroups}
use Rattle.meaning.specs.Limits.{row_group_rows}
use Rattle.fragment_file.proofs.writing_groups.put_full_groups.Given as goal

abbrev pub invariant-loop-group : goal.invariant-loop-group
invariant-loop-group g l =
    WritesGroups (g.W.Write.contents l.fn.out) (g.W.Write.contents l.out) l.fn.hasher l.hasher l.columns (replicate l.group row_group_rows)
