-- Invariants of `do_take` (`filling`).
use Rattle.std.proofs.Common.{◌≡◌, ◌<◌, ℕ, None, get_or}
use Rattle.meaning.specs.declared.value.Value.TheVariants.{Null}
use Rattle.columns.specs.Column.{refusal}
use Rattle.key_columns.specs.Keys.{no_column}
use Rattle.key_columns.proofs.filling.do_take.Given as goal

abbrev pub invariant-loop-k : goal.invariant-loop-k
invariant-loop-k l = (c : ℕ) → c < l.k → refusal (get_or l.columns c no_column).col_type (get_or l.columns c no_column).nullable (get_or l.key c Null) ≡ None
