-- Loop invariants of `count_nulls` (`blocks_shown`).
use Rattle.std.proofs.Common.{◌≡◌, ◌≤◌, length, take}
use Rattle.std.specs.Prelude.{filter}
use Rattle.blocks.specs.Block.{nulls_of}
use Rattle.table_text.proofs.blocks_shown.count_nulls.Given as goal

abbrev pub invariant-loop-row : goal.invariant-loop-row
invariant-loop-row l = (l.nulls ≡ length (filter (λ n. n) (take l.row (nulls_of l.block)))) × (l.nulls ≤ l.row)
