-- Invariants of `are_known` (`close_ints`).
use Rattle.std.proofs.Common.{◌≡◌, ◌^◌, ◌-◌, ℕ, ◌<◌, true, get_or}
use Rattle.std.specs.Prelude.{◌≢◌}
use Rattle.group_keys.proofs.close_ints.are_known.Given as goal

abbrev pub invariant-loop-k : goal.invariant-loop-k
invariant-loop-k l = l.known ≡ true → (j : ℕ) → j < l.k → get_or l.group_indexes j 0 ≢ 2 ^ 32 - 1
