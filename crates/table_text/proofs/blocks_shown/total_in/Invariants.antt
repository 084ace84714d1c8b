-- Loop invariants of `total_in` (`blocks_shown`).
use Rattle.std.proofs.Common.{◌≡◌, map, take}
use Rattle.table_text.specs.BlockText.{column_blocks, total_of}
use Rattle.table_text.proofs.blocks_shown.total_in.Given as goal

abbrev pub invariant-loop-group : goal.invariant-loop-group
invariant-loop-group l = l.total ≡ total_of (column_blocks l.number (map (λ g. g.items) (take l.group-index l.groups)))
