-- Loop invariants of `keep_of_all` (`selection`).
use Rattle.std.proofs.Common.{◌≡◌, ◌≤◌, length, take}
use Rattle.std.specs.List.{range_with_len}
use Rattle.vectors.specs.Selection.{Keeps}
use Rattle.vectors.proofs.selection.keep_of_all.Given as goal

abbrev pub invariant-loop-position : goal.invariant-loop-position
invariant-loop-position g l =
    Keeps (goal.F-post g l.keep) (range_with_len 0 l.position) (take l.count l.positions)
    × (l.count ≤ l.position)
    × (length l.positions ≡ length l.fn.positions)
