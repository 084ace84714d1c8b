-- Invariants of `keys_of` (`group_columns`).
use Rattle.std.proofs.Common.{◌≡◌, map, take}
use Rattle.meaning.specs.Order.{column, value_in}
use Rattle.last_step.proofs.group_columns.keys_of.Given as goal

abbrev pub invariant-loop-k : goal.invariant-loop-k
invariant-loop-k l = map value_in l.values.items ≡ map (λ g. column g.key l.key) (take l.k l.groups)
