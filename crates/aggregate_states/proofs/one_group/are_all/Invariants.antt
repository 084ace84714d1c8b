-- Invariants of `are_all` (`one_group`).
use Rattle.std.proofs.Common.{◌≡◌, ℕ, ◌<◌, true, get_or}
use Rattle.aggregate_states.proofs.one_group.are_all.Given as goal

abbrev pub invariant-loop-k : goal.invariant-loop-k
invariant-loop-k l = l.same ≡ true → (j : ℕ) → j < l.k → get_or l.group_indexes j 0 ≡ l.group_index
