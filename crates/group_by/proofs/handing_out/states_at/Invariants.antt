-- Invariants of `states_at` (`handing_out`).
use Rattle.std.proofs.Common.{◌≡◌, map, take}
use Rattle.group_by.specs.GroupIndexes.{state_in}
use Rattle.group_by.proofs.handing_out.states_at.Given as goal

abbrev pub invariant-loop-column : goal.invariant-loop-column
invariant-loop-column l = l.states.items ≡ map (λ c. state_in c l.group_index) (take l.column-index l.columns)
