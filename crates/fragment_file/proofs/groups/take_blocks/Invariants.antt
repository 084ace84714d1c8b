-- Loop invariants of `take_blocks` (`groups`).
use Rattle.std.proofs.Common.{◌≡◌, drop, map}
use Rattle.fragment_file.specs.FragmentReading.{blocks_at}
use Rattle.fragment_file.specs.View.{AreTaken, block_in}
use Rattle.fragment_file.proofs.Loops.{behind}
use Rattle.fragment_file.proofs.groups.take_blocks.Given as goal

abbrev pub invariant-loop-column : goal.invariant-loop-column
invariant-loop-column l =
    (behind (map (block_in l.bytes) l.locations.items) (blocks_at l.group l.column (drop l.column l.columns) l.rows l.rest) ≡ blocks_at l.group 0 l.columns l.rows l.fn.rest)
    × AreTaken l.bytes l.locations.items l.rest
