-- Loop invariants of `+column_in` (`fact_column`).
use Rattle.std.proofs.Common.{◌≡◌, drop, map}
use Rattle.pushdown.specs.FactColumn.{first_some, named_column, named_in_arm}
use Rattle.pushdown.proofs.fact_column.+column_in.Given as goal

abbrev pub invariant-column_in_list-loop-expr : goal.invariant-column_in_list-loop-expr
invariant-column_in_list-loop-expr l = first_some (map named_column (drop l.expr-index l.list)) ≡ first_some (map named_column l.list)

abbrev pub invariant-column_in_arms-loop-arm : goal.invariant-column_in_arms-loop-arm
invariant-column_in_arms-loop-arm l = first_some (map named_in_arm (drop l.arm-index l.arms)) ≡ first_some (map named_in_arm l.arms)
