-- The expressions of a query in the order items, ON, WHERE, GROUP BY, HAVING, up to the first fault.
use Rattle.std.specs.Prelude.{Bool, true, false, List, ◌++◌, map, flat_map, if◌then◌else◌, Option, None, Some, option_to_list, Result, Ok, Err}
use Rattle.meaning.specs.Results.{and_then}
use Rattle.sql_syntax.specs.Joins.{condition_of}
use Rattle.sql_syntax.specs.declared.tree.Expr.{Expr}
use Rattle.sql_syntax.specs.declared.tree.Item.{Item}
use Rattle.sql_syntax.specs.declared.tree.JoinKind.{JoinKind}
use Rattle.sql_syntax.specs.declared.tree.JoinKind.TheVariants.{Comma, Inner, Left}
use Rattle.sql_syntax.specs.declared.tree.Joined.{Joined}
use Rattle.sql_syntax.specs.declared.tree.Query.{Query}
use Rattle.planner_expressions.specs.declared.fault.PlanFault.{PlanFault}
use Rattle.planner_expressions.specs.declared.fault.PlanFault.TheVariants as fault
use Rattle.planner_expressions.specs.declared.scope.Scope.{Scope}
use Rattle.planner_expressions.specs.declared.sort.Sort.TheVariants.{Truth}
use Rattle.planner_expressions.specs.Judged.{Returned, judged}
use Rattle.planner_expressions.specs.Results.{each_ok}
use Rattle.planner_expressions.specs.Sorts.{is_value, same_sort}

-- no value, or a fault
abbrev pub Checked : Type 0
Checked = Result (Unit {0}) PlanFault

-- the whole expression is a value
abbrev pub as_value : Returned → Checked
as_value returned = and_then returned (λ s. if is_value s then Ok tt else Err fault.TypeMismatch)

-- the whole expression is a truth
abbrev pub as_truth : Returned → Checked
as_truth returned = and_then returned (λ s. if same_sort Truth s then Ok tt else Err fault.TypeMismatch)

-- an item is a value, in which aggregates may stand
abbrev pub item_check : Scope → Item → Checked
item_check s i = as_value (judged s i.expr false)

-- a grouping expression is a value without aggregates
abbrev pub key_check : Scope → Expr → Checked
key_check s e = as_value (judged s e true)

-- ON, WHERE and HAVING are truths; in HAVING alone aggregates may stand
abbrev pub condition_check : Scope → Bool → Expr → Checked
condition_check s barred e = as_truth (judged s e barred)

-- the conditions of ON, in the order of the text
abbrev pub on_trees : List Joined → List Expr
on_trees js = flat_map (λ j. option_to_list (condition_of j.kind)) js

-- the conditions of ON and then that of WHERE
abbrev pub conditions : Query → List Expr
conditions q = on_trees q.source.others ++ option_to_list q.filter

-- the conditions by which joined rows are dropped: the ON of a LEFT join drops none

abbrev pub inner_on : JoinKind → Option Expr
inner_on Comma = None
inner_on (Inner e) = Some e
inner_on (Left e) = None

abbrev pub inner_trees : List Joined → List Expr
inner_trees js = flat_map (λ j. option_to_list (inner_on j.kind)) js

abbrev pub row_conditions : Query → List Expr
row_conditions q = inner_trees q.source.others ++ option_to_list q.filter

-- ON and WHERE
abbrev pub conditions_checked : Scope → Query → Checked
conditions_checked s q =
    and_then (each_ok (map (condition_check s true) (on_trees q.source.others)))
    (λ _. each_ok (map (condition_check s true) (option_to_list q.filter)))

-- GROUP BY and HAVING
abbrev pub groups_checked : Scope → Query → Checked
groups_checked s q =
    and_then (each_ok (map (key_check s) q.group_by))
    (λ _. each_ok (map (condition_check s false) (option_to_list q.having)))

abbrev pub checked : Scope → Query → Checked
checked s q = and_then (each_ok (map (item_check s) q.items)) (λ _. and_then (conditions_checked s q) (λ _. groups_checked s q))
