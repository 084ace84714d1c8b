-- Loop invariants of `append_blocks` (`writing_groups`).
use Rattle.std.proofs.Common.{◌-◌, take}
use Rattle.fragment_file.specs.Writing.{PutsBlocks}
use Rattle.fragment_file.proofs.writing_groups.append_blocks.Given as goal

abbrev pub invariant-loop-column : goal.invariant-loop-column
invariant-loop-column l = PutsBlocks l.fn.out.items l.out.items (take l.column-index l.columns) l.from (l.to - l.from)
