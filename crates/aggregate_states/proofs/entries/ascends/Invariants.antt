-- Invariants of `ascends` (`entries`).
use Rattle.std.proofs.Common.{◌≡◌, ◌-◌, drop}
use Rattle.meaning.specs.Order.{is_ascending, value_cmp}
use Rattle.aggregate_states.proofs.entries.ascends.Given as goal

-- whether all ascend hangs on the values from the one before on
abbrev pub invariant-loop-i : goal.invariant-loop-i
invariant-loop-i l = is_ascending value_cmp l.values ≡ is_ascending value_cmp (drop (l.i - 1) l.values)
