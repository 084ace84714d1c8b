-- Loop invariants of `+names` (`naming`).
use Rattle.std.proofs.Common.{◌≡◌, drop, map}
use Rattle.pushdown.specs.Naming.{any_of, is_named, is_named_in_arm}
use Rattle.pushdown.proofs.naming.+names.Given as goal

abbrev pub invariant-names_in_list-loop-expr : goal.invariant-names_in_list-loop-expr
invariant-names_in_list-loop-expr l = any_of (map (is_named l.column) (drop l.expr-index l.list)) ≡ any_of (map (is_named l.column) l.list)

abbrev pub invariant-names_in_arms-loop-arm : goal.invariant-names_in_arms-loop-arm
invariant-names_in_arms-loop-arm l = any_of (map (is_named_in_arm l.column) (drop l.arm-index l.arms)) ≡ any_of (map (is_named_in_arm l.column) l.arms)
