-- The plan's expression of a tree: names and aggregates are given, and operators stay.
use Rattle.std.specs.Prelude.{Bool, true, false, List, [], ◌∷◌, map, Option, Some, None, option_map}
use Rattle.meaning.specs.declared.value.Value.TheVariants as value
use Rattle.meaning.specs.declared.expr.Arm.{Arm}
use Rattle.meaning.specs.declared.expr.Expr as plan
use Rattle.meaning.specs.declared.expr.Expr.TheVariants as expr
use Rattle.sql_syntax.specs.declared.tree.Arm as written
use Rattle.sql_syntax.specs.declared.tree.Expr.{Expr}
use Rattle.sql_syntax.specs.declared.tree.Expr.TheOpen as node
use Rattle.planner_expressions.specs.Trees.{Node, replaced}

-- ---- parts that there may be

abbrev pub two_some : {X Y Z : Type 0} → (X → Y → Z) → Option X → Option Y → Option Z
two_some f (Some x) (Some y) = Some (f x y)
two_some f (Some x) None = None
two_some f None y = None

abbrev pub three_some : {X Y : Type 0} → (X → X → X → Y) → Option X → Option X → Option X → Option Y
three_some f (Some x) y z = two_some (f x) y z
three_some f None y z = None

abbrev pub pair_some : {X Y : Type 0} → Option X → Option Y → Option (X × Y)
pair_some (Some x) (Some y) = Some (x, y)
pair_some (Some x) None = None
pair_some None y = None

-- all of them, if each is there
abbrev pub all_some : {X : Type 0} → List (Option X) → Option (List X)
all_some [] = Some []
all_some (x ∷ rest) = two_some (λ y ys. y ∷ ys) x (all_some rest)

-- the list, if all of it is there
abbrev pub if_all : {X : Type 0} → Bool → List X → Option (List X)
if_all true xs = Some xs
if_all false xs = None

-- ---- nodes

-- what stands where no name or aggregate is given, if there is anything
abbrev pub Made : Type 0
Made = Option plan.Expr

abbrev pub arm_of : Made × Made → Option Arm
arm_of arm = two_some (λ when then_value. record { when = when; then = then_value }) arm.0 arm.1

-- a missing ELSE is NULL
abbrev pub else_of : Option Made → Made
else_of None = Some (expr.Literal value.Null)
else_of (Some e) = e

-- a node from its parts
abbrev pub made : Node Made → Made
made (node.Column table name) = None
made node.CountRows = None
made (node.Aggregate kind a) = None
made (node.Integer n) = Some (expr.Literal (value.Int n))
made (node.Text t) = Some (expr.Literal (value.Text t))
made (node.Minus a) = option_map (λ x. expr.Minus x) a
made (node.Arithmetic op a b) = two_some (λ x y. expr.Arithmetic op x y) a b
made (node.Compare op a b) = two_some (λ x y. expr.Compare op x y) a b
made (node.Not a) = option_map (λ x. expr.Not x) a
made (node.And a b) = two_some (λ x y. expr.And x y) a b
made (node.Or a b) = two_some (λ x y. expr.Or x y) a b
made (node.IsNull negated a) = option_map (λ x. expr.IsNull negated x) a
made (node.Between negated a low high) = three_some (λ x y z. expr.Between negated x y z) a low high
made (node.In negated a entries) = two_some (λ x xs. expr.In negated x xs) a (all_some entries)
made (node.Like negated a pattern) = option_map (λ x. expr.Like negated x pattern) a
made (node.Coalesce entries) = option_map (λ xs. expr.Coalesce xs) (all_some entries)
made (node.Case arms otherwise) = two_some (λ xs y. expr.Case xs y) (all_some (map arm_of arms)) (else_of otherwise)

-- the plan's expression of a tree, if all its names and aggregates are given one
abbrev pub translated : (Expr → Option plan.Expr) → Expr → Option plan.Expr
translated given = replaced (λ e. option_map (λ x. Some x) (given e)) made

-- those of WHEN and THEN
abbrev pub translated_arm : (Expr → Option plan.Expr) → written.Arm → Made × Made
translated_arm given arm = (translated given arm.condition, translated given arm.value)
