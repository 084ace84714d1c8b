-- The sort of a tree, or its first fault. The parts are judged first, from left to right. Of one node the name is looked
-- up, then the sorts of its parts are judged, and then whether an aggregate may stand there.
use Rattle.std.specs.Prelude.{ℕ, Bool, true, ◌&&◌, List, [], ◌∷◌, map, if◌then◌else◌, Option, Some, None, Result, Ok, Err}
use Rattle.std.specs.List.{list_all}
use Rattle.meaning.specs.Results.{all_ok, and_then}
use Rattle.sql_syntax.specs.declared.tree.Aggregate.{Aggregate}
use Rattle.sql_syntax.specs.declared.tree.Arm.{Arm}
use Rattle.sql_syntax.specs.declared.tree.Expr.{Expr}
use Rattle.sql_syntax.specs.declared.tree.Expr.TheOpen as node
use Rattle.sql_syntax.specs.declared.tree.Expr.TheOpen.{Arm-F}
use Rattle.sql_syntax.specs.declared.tree.Expr.TheFolds.{fold-Expr, fold-Arm}
use Rattle.planner_expressions.specs.declared.fault.PlanFault.{PlanFault}
use Rattle.planner_expressions.specs.declared.fault.PlanFault.TheVariants as fault
use Rattle.planner_expressions.specs.declared.scope.Scope.{Scope}
use Rattle.planner_expressions.specs.declared.sort.Sort.{Sort}
use Rattle.planner_expressions.specs.declared.sort.Sort.TheVariants.{Integer, Text, Truth}
use Rattle.planner_expressions.specs.Results.{map_ok}
use Rattle.planner_expressions.specs.Scope.{meant, one_of}
use Rattle.planner_expressions.specs.Sorts.{sort_of_type, same_sort, is_value, are_alike, first_of, results, is_taken, aggregate_sort}
use Rattle.planner_expressions.specs.Trees.{Node}

-- a sort or a fault
abbrev pub Returned : Type 0
Returned = Result Sort PlanFault

abbrev pub name_sort : Scope → Option (List ℕ) → List ℕ → Returned
name_sort s table name = and_then (one_of (meant s table name)) (λ p. Ok (sort_of_type p.col_type))

-- the sort, where the parts are of the sorts that they are to be
abbrev pub typed : Bool → Sort → Returned
typed test sort = if test then Ok sort else Err fault.TypeMismatch

-- what two parts give
abbrev pub two : Returned → Returned → (Sort → Sort → Returned) → Returned
two a b next = and_then a (λ x. and_then b (λ y. next x y))

-- an aggregate, where it may stand
abbrev pub if_allowed : Bool → Sort → Returned
if_allowed barred sort = if barred then Err fault.MisplacedAggregate else Ok sort

-- an aggregate over a part of this sort
abbrev pub over_part : Aggregate → Bool → Sort → Returned
over_part kind barred x = if is_taken kind x then if_allowed barred (aggregate_sort kind x) else Err fault.TypeMismatch

-- a CASE whose arms and ELSE have these sorts
abbrev pub case_sort : List (Sort × Sort) → Option Sort → Returned
case_sort arms otherwise = typed (list_all (λ arm. same_sort Truth arm.0) arms && are_alike (results arms otherwise)) (first_of (results arms otherwise))

-- what a part is, where aggregates are barred and where they aren't
abbrev pub Judgement : Type 0
Judgement = Bool → Returned

abbrev pub each : Bool → List Judgement → List Returned
each barred = map (λ part. part barred)

-- the condition and then the value
abbrev pub arm_sorts : Bool → Judgement × Judgement → Result (Sort × Sort) PlanFault
arm_sorts barred arm = and_then (arm.0 barred) (λ c. and_then (arm.1 barred) (λ v. Ok (c, v)))

abbrev pub each_arm : Bool → List (Judgement × Judgement) → List (Result (Sort × Sort) PlanFault)
each_arm barred = map (arm_sorts barred)

-- that of ELSE, if there is one
abbrev pub else_sort : Bool → Option Judgement → Result (Option Sort) PlanFault
else_sort barred None = Ok None
else_sort barred (Some e) = map_ok (λ x. Some x) (e barred)

-- a node from its parts; no aggregate may stand in an aggregate
abbrev pub judge_node : Scope → Node Judgement → Judgement
judge_node s (node.Column table name) barred = name_sort s table name
judge_node s (node.Integer n) barred = Ok Integer
judge_node s (node.Text t) barred = Ok Text
judge_node s node.CountRows barred = if_allowed barred Integer
judge_node s (node.Aggregate kind a) barred = and_then (a true) (over_part kind barred)
judge_node s (node.Minus a) barred = and_then (a barred) (λ x. typed (same_sort Integer x) Integer)
judge_node s (node.Arithmetic op a b) barred = two (a barred) (b barred) (λ x y. typed (same_sort Integer x && same_sort Integer y) Integer)
judge_node s (node.Compare op a b) barred = two (a barred) (b barred) (λ x y. typed (are_alike (x ∷ y ∷ [])) Truth)
judge_node s (node.Not a) barred = and_then (a barred) (λ x. typed (same_sort Truth x) Truth)
judge_node s (node.And a b) barred = two (a barred) (b barred) (λ x y. typed (same_sort Truth x && same_sort Truth y) Truth)
judge_node s (node.Or a b) barred = two (a barred) (b barred) (λ x y. typed (same_sort Truth x && same_sort Truth y) Truth)
judge_node s (node.IsNull negated a) barred = and_then (a barred) (λ x. typed (is_value x) Truth)
judge_node s (node.Between negated a low high) barred =
    and_then (a barred) (λ x. two (low barred) (high barred) (λ y z. typed (are_alike (x ∷ y ∷ z ∷ [])) Truth))
judge_node s (node.In negated a entries) barred =
    and_then (a barred) (λ x. and_then (all_ok (each barred entries)) (λ xs. typed (are_alike (x ∷ xs)) Truth))
judge_node s (node.Like negated a pattern) barred = and_then (a barred) (λ x. typed (same_sort Text x) Truth)
judge_node s (node.Coalesce entries) barred = and_then (all_ok (each barred entries)) (λ xs. typed (are_alike xs) (first_of xs))
judge_node s (node.Case arms otherwise) barred =
    and_then (all_ok (each_arm barred arms)) (λ ps. and_then (else_sort barred otherwise) (case_sort ps))

abbrev pub judge_arm : Arm-F Judgement (Judgement × Judgement) → Judgement × Judgement
judge_arm arm = (arm.condition, arm.value)

-- the sort of a tree, or its first fault; where aggregates are barred none may stand in it
abbrev pub judged : Scope → Expr → Judgement
judged s = fold-Expr Judgement (Judgement × Judgement) (judge_node s) judge_arm

abbrev pub judged_arm : Scope → Arm → Judgement × Judgement
judged_arm s = fold-Arm Judgement (Judgement × Judgement) (judge_node s) judge_arm
