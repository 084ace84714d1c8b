-- The aggregates of a node, from those of its parts.
use Rattle.std.proofs.Common.{◌≡◌, true, false, List, [], ◌∷◌, ◌++◌, map, flat_map, Option, Some, None, option_map, option_to_list, refl, ap, sym, ◌∙◌}
use Rattle.sql_syntax.specs.declared.tree.Arm.{Arm}
use Rattle.sql_syntax.specs.declared.tree.Expr.{Expr}
use Rattle.sql_syntax.specs.declared.tree.Expr.TheOpen as node
use Rattle.sql_syntax.specs.declared.tree.Expr.TheOpen.{Expr-F}
use Rattle.sql_syntax.specs.declared.tree.Expr.TheViews.{roll-Expr}
use Rattle.planner_expressions.specs.declared.scope.Scope.{Scope}
use Rattle.planner_expressions.specs.Trees.{parts_of}
use Rattle.planner_expressions.proofs.Replaced.{parts_give}
use Rattle.planner_clauses.specs.declared.aggregates.Aggregates.{Aggregates}
use Rattle.planner_clauses.specs.Aggregates.{is_aggregate, aggregates_in, arm_aggregates, arm_parts, with_aggregate, with_aggregates, with_parts}
use Rattle.planner_clauses.proofs.Topmost.{given, joined, passes, below}

with_append : (s : Scope) (l : Aggregates) (xs ys : List Expr) → with_aggregates s l (xs ++ ys) ≡ with_aggregates s (with_aggregates s l xs) ys
with_append s l [] ys = refl
with_append s l (x ∷ xs) ys = with_append s (with_aggregate s l x) xs ys

parts_joined : (s : Scope) (l : Aggregates) (parts : List (List Expr)) → with_parts s l parts ≡ with_aggregates s l (flat_map (λ part. part) parts)
parts_joined s l [] = refl
parts_joined s l (es ∷ rest) = parts_joined s (with_aggregates s l es) rest ∙ sym (with_append s l es (flat_map (λ part. part) rest))

pub parts_append : (s : Scope) (l : Aggregates) (xs ys : List (List Expr)) → with_parts s l (xs ++ ys) ≡ with_parts s (with_parts s l xs) ys
parts_append s l [] ys = refl
parts_append s l (x ∷ xs) ys = parts_append s (with_aggregates s l x) xs ys

-- of the parts of a node
abbrev pub parts_at : Expr-F Expr Arm → List (List Expr)
parts_at x = parts_of (parts_give (given is_aggregate) (joined is_aggregate) x)

pub at_node : (s : Scope) (l : Aggregates) (x : Expr-F Expr Arm) (e : Expr) → roll-Expr x ≡ e → is_aggregate e ≡ false → with_parts s l (parts_at x) ≡ with_aggregates s l (aggregates_in e)
at_node s l x e is other = parts_joined s l (parts_at x) ∙ ap (with_aggregates s l) (sym (below is_aggregate x e is other))

pub at_aggregate : (s : Scope) (l new : Aggregates) (e : Expr) → is_aggregate e ≡ true → new ≡ with_aggregate s l e → new ≡ with_aggregates s l (aggregates_in e)
at_aggregate s l new e is new_is = new_is ∙ ap (with_aggregates s l) (sym (passes is_aggregate e is))

pub case_parts : (s : Scope) (l : Aggregates) (arms : List Arm) (o : Option Expr)
    → with_parts s (with_parts s l (arm_parts (map arm_aggregates arms))) (option_to_list (option_map aggregates_in o)) ≡ with_parts s l (parts_at (node.Case arms o))
case_parts s l arms None = sym (parts_append s l (arm_parts (map arm_aggregates arms)) [])
case_parts s l arms (Some e) = sym (parts_append s l (arm_parts (map arm_aggregates arms)) (aggregates_in e ∷ []))
