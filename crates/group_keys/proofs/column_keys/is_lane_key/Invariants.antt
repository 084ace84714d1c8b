-- Invariants of `is_lane_key` (`column_keys`).
use Rattle.std.proofs.Common.{◌≡◌, ◌<◌, ℕ, [], get_or}
use Rattle.meaning.specs.declared.value.Value.TheVariants.{Null}
use Rattle.meaning.specs.Order.{column}
use Rattle.group_keys.specs.Rows.{row_at}
use Rattle.group_keys.proofs.column_keys.is_lane_key.Given as goal

abbrev pub invariant-loop-k : goal.invariant-loop-k
invariant-loop-k l = (j : ℕ) → j < l.k → column (get_or l.keys l.group_index []) j ≡ get_or (row_at l.lanes l.at) j Null
