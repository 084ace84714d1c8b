-- How strongly each operator binds: the one table that the grammar and the canonical text cite.
use Rattle.std.specs.Prelude.{ℕ}
use Rattle.sql_syntax.specs.declared.keyword.Keyword.TheVariants as keyword
use Rattle.sql_syntax.specs.declared.token.Sign.{Sign}
use Rattle.sql_syntax.specs.declared.token.Sign.TheVariants as sign
use Rattle.meaning.specs.declared.expr.ArithmeticOperator.TheVariants as arithmetic
use Rattle.meaning.specs.declared.expr.ComparisonOperator.{ComparisonOperator}
use Rattle.meaning.specs.declared.expr.ComparisonOperator.TheVariants as comparison
use Rattle.sql_syntax.specs.declared.tree.Expr.{Expr}
use Rattle.sql_syntax.specs.declared.tree.Expr.TheVariants as expr
use Rattle.sql_syntax.specs.declared.tree.Expr.TheOpen as node
use Rattle.sql_syntax.specs.declared.tree.Expr.TheOpen.{Expr-F}
use Rattle.sql_syntax.specs.Tokens as terminal
use Rattle.sql_syntax.specs.Tokens.{Terminal}
use Rattle.sql_syntax.specs.declared.strength.Level.{Level}
use Rattle.sql_syntax.specs.declared.strength.Level.TheVariants as level
use Rattle.sql_syntax.specs.declared.strength.Operator.{Operator}
use Rattle.sql_syntax.specs.declared.strength.Operator.TheVariants as operator

-- the rule that a rule's operands are of
abbrev pub next : Level → Level
next level.Disjunction = level.Conjunction
next level.Conjunction = level.Negation
next level.Negation = level.Predicate
next level.Predicate = level.Sum
next level.Sum = level.Term
next level.Term = level.Factor
next level.Factor = level.Primary
next level.Primary = level.Primary

-- what binds more has the greater rank
abbrev pub rank : Level → ℕ
rank level.Disjunction = 0
rank level.Conjunction = 1
rank level.Negation = 2
rank level.Predicate = 3
rank level.Sum = 4
rank level.Term = 5
rank level.Factor = 6
rank level.Primary = 7

-- the rule that an operator stands in
abbrev pub level_of : Operator → Level
level_of operator.Or = level.Disjunction
level_of operator.And = level.Conjunction
level_of (operator.Reckon arithmetic.Add) = level.Sum
level_of (operator.Reckon arithmetic.Subtract) = level.Sum
level_of (operator.Reckon arithmetic.Multiply) = level.Term
level_of (operator.Reckon arithmetic.Divide) = level.Term

-- its token
abbrev pub token_of : Operator → Terminal
token_of operator.Or = terminal.keyword keyword.Or
token_of operator.And = terminal.keyword keyword.And
token_of (operator.Reckon arithmetic.Add) = terminal.sign_is sign.Plus
token_of (operator.Reckon arithmetic.Subtract) = terminal.sign_is sign.Minus
token_of (operator.Reckon arithmetic.Multiply) = terminal.sign_is sign.Star
token_of (operator.Reckon arithmetic.Divide) = terminal.sign_is sign.Slash

-- the node that it makes of its operands
abbrev pub node_of : Operator → Expr → Expr → Expr
node_of operator.Or a b = expr.Or a b
node_of operator.And a b = expr.And a b
node_of (operator.Reckon op) a b = expr.Arithmetic op a b

-- a comparison's token
abbrev pub compares : ComparisonOperator → Sign
compares comparison.Equal = sign.Equal
compares comparison.NotEqual = sign.NotEqual
compares comparison.Less = sign.Less
compares comparison.LessOrEqual = sign.AtMost
compares comparison.Greater = sign.Greater
compares comparison.GreaterOrEqual = sign.AtLeast

-- The strongest rule that gives a node without brackets. An integer is as strong as a minus, since it may have one.
abbrev pub strength : {X Y : Type 0} → Expr-F X Y → Level
strength (node.Or a b) = level_of operator.Or
strength (node.And a b) = level_of operator.And
strength (node.Not a) = level.Negation
strength (node.Compare op a b) = level.Predicate
strength (node.IsNull negated x) = level.Predicate
strength (node.Between negated x low high) = level.Predicate
strength (node.In negated x entries) = level.Predicate
strength (node.Like negated x pattern) = level.Predicate
strength (node.Arithmetic op a b) = level_of (operator.Reckon op)
strength (node.Minus a) = level.Factor
strength (node.Integer n) = level.Factor
strength _ = level.Primary
