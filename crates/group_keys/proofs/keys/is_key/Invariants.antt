-- Invariants of `is_key` (`keys`).
use Rattle.std.proofs.Common.{◌≡◌, ℕ, ◌<◌, get_or}
use Rattle.meaning.specs.declared.value.Value.TheVariants.{Null}
use Rattle.group_keys.specs.Rows.{row_at}
use Rattle.group_keys.proofs.keys.is_key.Given as goal

abbrev pub invariant-loop-k : goal.invariant-loop-k
invariant-loop-k l = (j : ℕ) → j < l.k → get_or l.key-2 j Null ≡ get_or (row_at l.lanes l.at) j Null
