-- Proofs of the goals of `+conjuncts` (`conjuncts`).
use Rattle.std.proofs.Common.{rules, ◌≡◌, false}
use Rattle.sql_syntax.specs.declared.tree.Expr.TheFolds.{the_lemmas}
use Rattle.sql_syntax.specs.declared.tree.Expr.TheViews.{out-Expr}
use Rattle.planner_clauses.specs.Conjuncts.{is_and_node}
use Rattle.planner_clauses.proofs.Topmost.{if_so, and_step, one_step}
use Rattle.planner_clauses.proofs.conjuncts.+conjuncts.Goals as goal

pub returns-in_ok-add_conjuncts-in-And : goal.returns-in_ok-add_conjuncts-in-And
returns-in_ok-add_conjuncts-in-And t c =
    if_so c.add_conjuncts-in-And.result
    (and_step c.args.scope.now c.args.by c.args.out.now c.add_conjuncts.new.out c.add_conjuncts-in-And.new.out c.args.expr.now _ _ _ _ c.in-And.is c.get.ensures c.get-in-And.ensures c.in_ok-add_conjuncts-in-And.ensures)
    c.add_conjuncts-in-And.ensures

pub returns-in_default : goal.returns-in_default
returns-in_default t c =
    let other : is_and_node (out-Expr c.args.expr.now) ≡ false = search (rules, the_lemmas) in
    if_so c.add_conjunct.result (one_step c.args.scope.now c.args.by c.args.out.now c.add_conjunct.new.out c.args.expr.now other) c.add_conjunct.ensures
