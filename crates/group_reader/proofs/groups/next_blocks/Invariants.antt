-- Loop invariants of `next_blocks` (`groups`).
use Rattle.std.proofs.Common.{ℕ, List, take, drop, map}
use Rattle.fragment_file.specs.FragmentReading.{blocks_at}
use Rattle.fragment_file.specs.View.{block_in}
use Rattle.fragment_file.proofs.Loops.{behind}
use Rattle.group_reader.specs.Located.{AreLocated}
use Rattle.group_reader.proofs.Telling.{Reached}
use Rattle.group_reader.proofs.groups.next_blocks.Given as goal

abbrev pub invariant-loop-column : goal.invariant-loop-column
invariant-loop-column g l =
    AreLocated (take l.column l.columns) l.rows l.bytes.items l.locations.items
    × Reached g.R.Read.remaining l.fn.source l.source (blocks_at l.group 0 l.columns l.rows)
    (λ (rest : List ℕ). behind (map (block_in l.bytes.items) l.locations.items) (blocks_at l.group l.column (drop l.column l.columns) l.rows rest))
