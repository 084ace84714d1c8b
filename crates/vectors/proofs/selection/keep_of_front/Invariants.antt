-- Loop invariants of `keep_of_front` (`selection`).
use Rattle.std.proofs.Common.{◌≡◌, ◌≤◌, length, take, drop}
use Rattle.vectors.specs.Selection.{Keeps}
use Rattle.vectors.proofs.selection.keep_of_front.Given as goal

abbrev pub invariant-loop-i : goal.invariant-loop-i
invariant-loop-i g l =
    Keeps (goal.F-post g l.keep) (take l.i l.fn.positions) (take l.count l.positions)
    × (l.count ≤ l.i)
    × (length l.positions ≡ length l.fn.positions)
    × (drop l.i l.positions ≡ drop l.i l.fn.positions)
