-- The canonical tokens of a tree.
use Rattle.std.specs.Prelude.{ℕ, suc, ℤ, pos, negsuc, Bool, true, false, nat_le, ◌==◌, if◌then◌else◌, List, [], ◌∷◌, ◌++◌, map, flat_map, Option, Some, None}
use Rattle.sql_syntax.specs.declared.keyword.Keyword.TheVariants as keyword
use Rattle.sql_syntax.specs.declared.token.Sign.TheVariants as sign
use Rattle.sql_syntax.specs.declared.tree.Arm.{Arm}
use Rattle.sql_syntax.specs.declared.tree.Expr.{Expr}
use Rattle.sql_syntax.specs.declared.tree.Expr.TheOpen as node
use Rattle.sql_syntax.specs.declared.tree.Expr.TheOpen.{Expr-F, Arm-F}
use Rattle.sql_syntax.specs.declared.tree.Expr.TheFolds.{fold-Expr, fold-Arm}
use Rattle.sql_syntax.specs.Tokens as terminal
use Rattle.sql_syntax.specs.Tokens.{Terminal}
use Rattle.sql_syntax.specs.declared.strength.Level.{Level}
use Rattle.sql_syntax.specs.declared.strength.Level.TheVariants as level
use Rattle.sql_syntax.specs.declared.strength.Operator.{Operator}
use Rattle.sql_syntax.specs.declared.strength.Operator.TheVariants as operator
use Rattle.sql_syntax.specs.Strength.{next, rank, level_of, token_of, compares, strength}
use Rattle.sql_syntax.specs.Phrases.{word, mark, not_if, distinct_if, bracketed, aggregate_word, is_distinct}

-- the tokens of an expression, and the strongest rule that gives them
pub record Printed : Type 0 where
  pub level : Level
  pub tokens : List Terminal

-- A rule takes what is as strong as itself, and anything else in brackets.
abbrev pub at_level : Level → Printed → List Terminal
at_level l p = if nat_le (rank l) (rank p.level) then p.tokens else bracketed p.tokens

-- any expression, as it stands in brackets
abbrev pub free : Printed → List Terminal
free p = at_level level.Disjunction p

-- a text's quotes, each twice
abbrev pub doubled : List ℕ → List ℕ
doubled = flat_map (λ b. if b == 39 then 39 ∷ 39 ∷ [] else b ∷ [])

-- an operator between its operands
abbrev pub join_tokens : Operator → Printed → Printed → List Terminal
join_tokens o a b = at_level (level_of o) a ++ token_of o ∷ at_level (next (level_of o)) b

-- an integer
abbrev pub integer_tokens : ℤ → List Terminal
integer_tokens (pos n) = terminal.integer n ∷ []
integer_tokens (negsuc n) = mark sign.Minus ∷ terminal.integer (suc n) ∷ []

-- a column, behind its table's name where that is written
abbrev pub column_tokens : Option (List ℕ) → List ℕ → List Terminal
column_tokens None n = terminal.name n ∷ []
column_tokens (Some t) n = terminal.name t ∷ mark sign.Dot ∷ terminal.name n ∷ []

-- expressions with commas between
abbrev pub list_tokens : List Printed → List Terminal
list_tokens [] = []
list_tokens (p ∷ []) = free p
list_tokens (p ∷ q ∷ ps) = free p ++ mark sign.Comma ∷ list_tokens (q ∷ ps)

-- WHEN and THEN
abbrev pub arms_tokens : List (Printed × Printed) → List Terminal
arms_tokens [] = []
arms_tokens (arm ∷ arms) = word keyword.When ∷ free arm.0 ++ (word keyword.Then ∷ free arm.1 ++ arms_tokens arms)

-- ELSE, where it isn't NULL
abbrev pub else_tokens : Option Printed → List Terminal
else_tokens None = []
else_tokens (Some p) = word keyword.Else ∷ free p

-- a node's tokens, from those of its parts
abbrev pub node_tokens : Expr-F Printed (Printed × Printed) → List Terminal
node_tokens (node.Column table name) = column_tokens table name
node_tokens (node.Integer n) = integer_tokens n
node_tokens (node.Text t) = terminal.text (doubled t) ∷ []
node_tokens node.CountRows = word keyword.Count ∷ bracketed (mark sign.Star ∷ [])
node_tokens (node.Aggregate k a) = word (aggregate_word k) ∷ bracketed (distinct_if (is_distinct k) ++ free a)
node_tokens (node.Minus a) = mark sign.Minus ∷ at_level level.Primary a
node_tokens (node.Arithmetic op a b) = join_tokens (operator.Reckon op) a b
node_tokens (node.Compare op a b) = at_level level.Sum a ++ mark (compares op) ∷ at_level level.Sum b
node_tokens (node.Not a) = word keyword.Not ∷ at_level level.Negation a
node_tokens (node.And a b) = join_tokens operator.And a b
node_tokens (node.Or a b) = join_tokens operator.Or a b
node_tokens (node.IsNull not x) = at_level level.Sum x ++ (word keyword.Is ∷ not_if not ++ word keyword.Null ∷ [])
node_tokens (node.Between not x low high) = at_level level.Sum x ++ (not_if not ++ (word keyword.Between ∷ at_level level.Sum low ++ word keyword.And ∷ at_level level.Sum high))
node_tokens (node.In not x entries) = at_level level.Sum x ++ (not_if not ++ word keyword.In ∷ bracketed (list_tokens entries))
node_tokens (node.Like not x pattern) = at_level level.Sum x ++ (not_if not ++ word keyword.Like ∷ terminal.text (doubled pattern) ∷ [])
node_tokens (node.Coalesce entries) = word keyword.Coalesce ∷ bracketed (list_tokens entries)
node_tokens (node.Case arms otherwise) = word keyword.Case ∷ arms_tokens arms ++ (else_tokens otherwise ++ word keyword.End ∷ [])

-- a node, from its parts
abbrev pub print_node : Expr-F Printed (Printed × Printed) → Printed
print_node x = record { level = strength x; tokens = node_tokens x }

abbrev pub print_arm : Arm-F Printed (Printed × Printed) → Printed × Printed
print_arm arm = (arm.condition, arm.value)

-- an expression
abbrev pub printed : Expr → Printed
printed = fold-Expr Printed (Printed × Printed) print_node print_arm

-- WHEN and THEN of an arm
abbrev pub printed_arm : Arm → Printed × Printed
printed_arm = fold-Arm Printed (Printed × Printed) print_node print_arm

-- the canonical tokens of an expression
abbrev pub canonical_tokens : Expr → List Terminal
canonical_tokens e = (printed e).tokens

-- ---- depth

-- the greatest of a list
abbrev pub deepest : List ℕ → ℕ
deepest [] = 0
deepest (n ∷ ns) = Rattle.std.specs.Prelude.max n (deepest ns)

-- how deep the deepest part is, from the depths of the parts; one without parts has none
abbrev pub parts_depth : Expr-F ℕ ℕ → ℕ
parts_depth (node.Aggregate k a) = a
parts_depth (node.Minus a) = a
parts_depth (node.Arithmetic op a b) = deepest (a ∷ b ∷ [])
parts_depth (node.Compare op a b) = deepest (a ∷ b ∷ [])
parts_depth (node.Not a) = a
parts_depth (node.And a b) = deepest (a ∷ b ∷ [])
parts_depth (node.Or a b) = deepest (a ∷ b ∷ [])
parts_depth (node.IsNull not x) = x
parts_depth (node.Between not x low high) = deepest (x ∷ low ∷ high ∷ [])
parts_depth (node.In not x entries) = deepest (x ∷ entries)
parts_depth (node.Like not x pattern) = x
parts_depth (node.Coalesce entries) = deepest entries
parts_depth (node.Case arms None) = deepest arms
parts_depth (node.Case arms (Some e)) = deepest (e ∷ arms)
parts_depth _ = 0

-- A literal, a column and COUNT(*) have depth 1, every other node one more than its deepest part.
abbrev pub depth : Expr → ℕ
depth = fold-Expr ℕ ℕ (λ x. suc (parts_depth x)) (λ arm. deepest (arm.condition ∷ arm.value ∷ []))
