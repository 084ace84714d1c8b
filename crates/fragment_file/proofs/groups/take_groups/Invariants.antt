-- Loop invariants of `take_groups` (`groups`).
use Rattle.std.proofs.Common.{◌≡◌, length, map}
use Rattle.fragment_file.specs.Fragment.{group_sizes}
use Rattle.fragment_file.specs.FragmentReading.{groups_at}
use Rattle.fragment_file.specs.View.{AreGroupsTaken, block_in}
use Rattle.fragment_file.proofs.Loops.{behind}
use Rattle.fragment_file.proofs.groups.take_groups.Given as goal

abbrev pub invariant-loop-left : goal.invariant-loop-left
invariant-loop-left l =
    (behind (map (map (block_in l.bytes)) l.groups.items) (groups_at (length (map (map (block_in l.bytes)) l.groups.items)) l.columns (group_sizes l.left) l.rest) ≡ groups_at 0 l.columns (group_sizes l.rows) l.fn.rest)
    × AreGroupsTaken l.bytes l.groups.items l.rest

abbrev pub decreases-loop-left : goal.decreases-loop-left
decreases-loop-left l = l.left
