-- Loop invariants of `push_trees` (`keys`).
use Rattle.std.proofs.Common.{◌≡◌, drop}
use Rattle.planner_clauses.specs.Groups.{with_keys}
use Rattle.planner_clauses.proofs.keys.push_trees.Given as goal

abbrev pub invariant-loop-tree : goal.invariant-loop-tree
invariant-loop-tree l = with_keys l.scope l.out (drop l.tree-index l.trees) ≡ with_keys l.scope l.initial.out l.trees
