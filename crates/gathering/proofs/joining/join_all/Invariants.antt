-- Loop invariants of `join_all` (`joining`).
use Rattle.std.proofs.Common.{◌≡◌, ◌++◌, List, length, take, drop}
use Rattle.meaning.specs.Said.{Cell}
use Rattle.gathering.specs.Gathering.{join_states}
use Rattle.gathering.proofs.joining.join_all.Given as goal

-- the cells from where the delta ends are joined
abbrev pub invariant-loop-change : goal.invariant-loop-change
invariant-loop-change l = (put : List Cell) × (l.initial.delta.items ≡ l.delta.items ++ put)
    × (l.cells.items ≡ take (length l.delta.items) l.initial.cells.items ++ join_states (drop (length l.delta.items) l.initial.cells.items) put)

abbrev pub decreases-loop-change : goal.decreases-loop-change
decreases-loop-change l = goal.left-loop-change l
