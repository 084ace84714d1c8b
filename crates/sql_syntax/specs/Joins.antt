-- How a table of FROM is joined.
use Rattle.std.specs.Prelude.{Option, None, Some}
use Rattle.meaning.specs.declared.plan.JoinType.{JoinType}
use Rattle.meaning.specs.declared.plan.JoinType.TheVariants as join_type
use Rattle.sql_syntax.specs.declared.tree.Expr.{Expr}
use Rattle.sql_syntax.specs.declared.tree.JoinKind.{JoinKind}
use Rattle.sql_syntax.specs.declared.tree.JoinKind.TheVariants.{Comma, Inner, Left}

-- by a join of this type with a condition
abbrev pub kind_of : JoinType → Expr → JoinKind
kind_of join_type.Inner e = Inner e
kind_of join_type.Left e = Left e

-- the condition of ON, where there is one
abbrev pub condition_of : JoinKind → Option Expr
condition_of Comma = None
condition_of (Inner e) = Some e
condition_of (Left e) = Some e
