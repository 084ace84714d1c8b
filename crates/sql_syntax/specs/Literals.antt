-- Trees whose literals are values that a table may hold.
use Rattle.std.specs.Prelude.{Bool, true, ◌&&◌, List}
use Rattle.std.specs.List.{list_all}
use Rattle.std.specs.Option.{option_map_or}
use Rattle.meaning.specs.declared.value.ColType.TheVariants as of_type
use Rattle.meaning.specs.declared.value.Value.TheVariants as value
use Rattle.meaning.specs.Typing.{is_of_type}
use Rattle.sql_syntax.specs.Joins.{condition_of}
use Rattle.sql_syntax.specs.declared.tree.Expr.{Expr}
use Rattle.sql_syntax.specs.declared.tree.Expr.TheOpen as node
use Rattle.sql_syntax.specs.declared.tree.Expr.TheOpen.{Expr-F, Arm-F}
use Rattle.sql_syntax.specs.declared.tree.Expr.TheFolds.{fold-Expr, fold-Arm}
use Rattle.sql_syntax.specs.declared.tree.Arm.{Arm}
use Rattle.sql_syntax.specs.declared.tree.Query.{Query}

-- each of them
abbrev pub all_true : List Bool → Bool
all_true parts = list_all (λ part. part) parts

-- an integer literal has 64 bits, a text literal is UTF-8 of at most 65,535 bytes, and so in each part
abbrev pub fitting_node : Expr-F Bool Bool → Bool
fitting_node (node.Column table name) = true
fitting_node (node.Integer n) = is_of_type of_type.Int (value.Int n)
fitting_node (node.Text t) = is_of_type of_type.Text (value.Text t)
fitting_node node.CountRows = true
fitting_node (node.Aggregate kind a) = a
fitting_node (node.Minus a) = a
fitting_node (node.Arithmetic op a b) = a && b
fitting_node (node.Compare op a b) = a && b
fitting_node (node.Not a) = a
fitting_node (node.And a b) = a && b
fitting_node (node.Or a b) = a && b
fitting_node (node.IsNull negated a) = a
fitting_node (node.Between negated a low high) = a && (low && high)
fitting_node (node.In negated a entries) = a && all_true entries
fitting_node (node.Like negated a pattern) = a
fitting_node (node.Coalesce entries) = all_true entries
fitting_node (node.Case arms otherwise) = all_true arms && option_map_or (λ e. e) otherwise true

abbrev pub fitting_pair : Arm-F Bool Bool → Bool
fitting_pair arm = arm.condition && arm.value

-- all literals of the tree fit
abbrev pub has_fitting_literals : Expr → Bool
has_fitting_literals = fold-Expr Bool Bool fitting_node fitting_pair

abbrev pub arm_has_fitting_literals : Arm → Bool
arm_has_fitting_literals = fold-Arm Bool Bool fitting_node fitting_pair

-- all literals of the query fit: those of the items, of ON, of WHERE, of GROUP BY and of HAVING
abbrev pub has_only_fitting_literals : Query → Bool
has_only_fitting_literals q =
    list_all (λ i. has_fitting_literals i.expr) q.items
    && (list_all (λ j. option_map_or has_fitting_literals (condition_of j.kind) true) q.source.others
    && (option_map_or has_fitting_literals q.filter true
    && (list_all has_fitting_literals q.group_by
    && option_map_or has_fitting_literals q.having true)))
