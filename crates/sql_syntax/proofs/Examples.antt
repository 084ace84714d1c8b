-- Worked examples of canonical tokens and texts.
use Rattle.std.proofs.Common.{◌≡◌, ℕ, pos, negsuc, true, List, [], ◌∷◌, ◌++◌, None, ap, ◌∙◌}
use Rattle.std.specs.Prelude.{codes}
use Rattle.std.specs.Fmt.{digits}
use Rattle.sql_syntax.specs.declared.keyword.Keyword.TheVariants as keyword
use Rattle.sql_syntax.specs.declared.token.Sign.TheVariants as sign
use Rattle.sql_syntax.specs.declared.tree.Aggregate.TheVariants as aggregate
use Rattle.meaning.specs.declared.expr.ArithmeticOperator.{ArithmeticOperator}
use Rattle.meaning.specs.declared.expr.ArithmeticOperator.TheVariants as arithmetic
use Rattle.meaning.specs.declared.expr.ComparisonOperator.{ComparisonOperator}
use Rattle.meaning.specs.declared.expr.ComparisonOperator.TheVariants as comparison
use Rattle.sql_syntax.specs.declared.tree.Expr.{Expr}
use Rattle.sql_syntax.specs.declared.tree.JoinKind.TheVariants as join_kind
use Rattle.sql_syntax.specs.declared.tree.Joined.{Joined}
use Rattle.sql_syntax.specs.declared.tree.Query.{Query}
use Rattle.sql_syntax.specs.declared.tree.Expr.TheVariants as expr
use Rattle.sql_syntax.specs.Tokens as terminal
use Rattle.sql_syntax.specs.Tokens.{Terminal}
use Rattle.sql_syntax.specs.declared.strength.Level.TheVariants as level
use Rattle.sql_syntax.specs.declared.strength.Operator.TheVariants as operator
use Rattle.sql_syntax.specs.Strength.{level_of, compares}
use Rattle.sql_syntax.specs.Words.{lower}
use Rattle.sql_syntax.specs.Phrases.{word, mark, not_if, bracketed, Spells, as_next, joined, column}
use Rattle.sql_syntax.specs.CanonicalTokens.{Printed, printed, at_level, join_tokens, canonical_tokens}
use Rattle.sql_syntax.specs.Queries.{text_of, others_tokens_of, query_tokens}
use Rattle.sql_syntax.proofs.Canonical.{to_free, printed_not, printed_or, printed_and, printed_reckon, printed_minus, printed_integer, printed_column, printed_aggregate, printed_compare, printed_between}

abbrev col : List ℕ → Expr
col n = expr.Column None n

abbrev a : Expr
a = col (codes "a")

abbrev b : Expr
b = col (codes "b")

abbrev c : Expr
c = col (codes "c")

abbrev minus_of : Expr → Expr → Expr
minus_of x y = expr.Arithmetic arithmetic.Subtract x y

-- a column, and what is printed of nodes whose parts are known
column_is : (n : List ℕ) → printed (col n) ≡ record { level = level.Primary; tokens = terminal.name n ∷ [] }
column_is n = printed_column None n

reckon_is : (op : ArithmeticOperator) (x y : Expr) {p q : Printed} → printed x ≡ p → printed y ≡ q → printed (expr.Arithmetic op x y) ≡ record { level = level_of (operator.Reckon op); tokens = join_tokens (operator.Reckon op) p q }
reckon_is op x y f g = printed_reckon op x y ∙ (λ i. record { level = level_of (operator.Reckon op); tokens = join_tokens (operator.Reckon op) (f i) (g i) })

or_is : (x y : Expr) {p q : Printed} → printed x ≡ p → printed y ≡ q → printed (expr.Or x y) ≡ record { level = level.Disjunction; tokens = join_tokens operator.Or p q }
or_is x y f g = printed_or x y ∙ (λ i. record { level = level.Disjunction; tokens = join_tokens operator.Or (f i) (g i) })

and_is : (x y : Expr) {p q : Printed} → printed x ≡ p → printed y ≡ q → printed (expr.And x y) ≡ record { level = level.Conjunction; tokens = join_tokens operator.And p q }
and_is x y f g = printed_and x y ∙ (λ i. record { level = level.Conjunction; tokens = join_tokens operator.And (f i) (g i) })

not_is : (x : Expr) {p : Printed} → printed x ≡ p → printed (expr.Not x) ≡ record { level = level.Negation; tokens = word keyword.Not ∷ at_level level.Negation p }
not_is x f = printed_not x ∙ (λ i. record { level = level.Negation; tokens = word keyword.Not ∷ at_level level.Negation (f i) })

minus_is : (x : Expr) {p : Printed} → printed x ≡ p → printed (expr.Minus x) ≡ record { level = level.Factor; tokens = mark sign.Minus ∷ at_level level.Primary p }
minus_is x f = printed_minus x ∙ (λ i. record { level = level.Factor; tokens = mark sign.Minus ∷ at_level level.Primary (f i) })

compare_is : (op : ComparisonOperator) (x y : Expr) {p q : Printed} → printed x ≡ p → printed y ≡ q
    → printed (expr.Compare op x y) ≡ record { level = level.Predicate; tokens = at_level level.Sum p ++ mark (compares op) ∷ at_level level.Sum q }
compare_is op x y f g = printed_compare op x y ∙ (λ i. record { level = level.Predicate; tokens = at_level level.Sum (f i) ++ mark (compares op) ∷ at_level level.Sum (g i) })

between_is : (x y z : Expr) {p q r : Printed} → printed x ≡ p → printed y ≡ q → printed z ≡ r
    → printed (expr.Between true x y z) ≡ record { level = level.Predicate; tokens = at_level level.Sum p ++ (not_if true ++ (word keyword.Between ∷ at_level level.Sum q ++ word keyword.And ∷ at_level level.Sum r)) }
between_is x y z f g h = printed_between true x y z ∙ (λ i. record { level = level.Predicate; tokens = at_level level.Sum (f i) ++ (not_if true ++ (word keyword.Between ∷ at_level level.Sum (g i) ++ word keyword.And ∷ at_level level.Sum (h i))) })

-- a - b - c groups from the left, and is written without brackets
left_text : text_of (canonical_tokens (minus_of (minus_of a b) c)) ≡ codes "a - b - c"
left_text = ap (λ (p : Printed). text_of p.tokens) (reckon_is arithmetic.Subtract (minus_of a b) c (reckon_is arithmetic.Subtract a b (column_is (codes "a")) (column_is (codes "b"))) (column_is (codes "c")))

right_text : text_of (canonical_tokens (minus_of a (minus_of b c))) ≡ codes "a - (b - c)"
right_text = ap (λ (p : Printed). text_of p.tokens) (reckon_is arithmetic.Subtract a (minus_of b c) (column_is (codes "a")) (reckon_is arithmetic.Subtract b c (column_is (codes "b")) (column_is (codes "c"))))

-- NOT takes the whole comparison
not_text : text_of (canonical_tokens (expr.Not (expr.Compare comparison.Equal a b))) ≡ codes "NOT a = b"
not_text = ap (λ (p : Printed). text_of p.tokens) (not_is (expr.Compare comparison.Equal a b) (compare_is comparison.Equal a b (column_is (codes "a")) (column_is (codes "b"))))

compare_not_text : text_of (canonical_tokens (expr.Compare comparison.Equal (expr.Not a) b)) ≡ codes "(NOT a) = b"
compare_not_text = ap (λ (p : Printed). text_of p.tokens) (compare_is comparison.Equal (expr.Not a) b (not_is a (column_is (codes "a"))) (column_is (codes "b")))

-- OR keeps its brackets below AND
or_text : text_of (canonical_tokens (expr.And (expr.Or a b) c)) ≡ codes "(a OR b) AND c"
or_text = ap (λ (p : Printed). text_of p.tokens) (and_is (expr.Or a b) c (or_is a b (column_is (codes "a")) (column_is (codes "b"))) (column_is (codes "c")))

-- a minus of a literal isn't a literal
minus_text : text_of (canonical_tokens (expr.Minus (expr.Integer (pos 5)))) ≡ codes "-(5)"
unfolding digits
minus_text = ap (λ (p : Printed). text_of p.tokens) (minus_is (expr.Integer (pos 5)) (printed_integer (pos 5)))

literal_text : text_of (canonical_tokens (expr.Integer (negsuc 4))) ≡ codes "-5"
unfolding digits
literal_text = ap (λ (p : Printed). text_of p.tokens) (printed_integer (negsuc 4))

minus_minus_text : text_of (canonical_tokens (expr.Minus (expr.Minus a))) ≡ codes "-(-a)"
minus_minus_text = ap (λ (p : Printed). text_of p.tokens) (minus_is (expr.Minus a) (minus_is a (column_is (codes "a"))))

-- BETWEEN takes its own AND
between_text : text_of (canonical_tokens (expr.And (expr.Between true a (expr.Integer (pos 1)) (expr.Integer (pos 2))) b)) ≡ codes "a NOT BETWEEN 1 AND 2 AND b"
unfolding digits
between_text = ap (λ (p : Printed). text_of p.tokens) (and_is (expr.Between true a (expr.Integer (pos 1)) (expr.Integer (pos 2))) b (between_is a (expr.Integer (pos 1)) (expr.Integer (pos 2)) (column_is (codes "a")) (printed_integer (pos 1)) (printed_integer (pos 2))) (column_is (codes "b")))

-- a left join is written without OUTER
abbrev joined_left : List Joined
joined_left = record { table = record { name = codes "t"; alias = None }; kind = join_kind.Left (expr.Compare comparison.Equal a b) } ∷ []

left_join_text : text_of (others_tokens_of joined_left) ≡ codes "LEFT JOIN t ON a = b"
left_join_text =
    ap (λ (p : Printed). text_of (word keyword.Left ∷ word keyword.Join ∷ terminal.name (codes "t") ∷ word keyword.On ∷ at_level level.Disjunction p ++ []))
    (compare_is comparison.Equal a b (column_is (codes "a")) (column_is (codes "b")))

-- DISTINCT has a blank behind it, and none between it and the bracket
count_distinct_text : text_of (canonical_tokens (expr.Aggregate aggregate.CountDistinct a)) ≡ codes "COUNT(DISTINCT a)"
count_distinct_text =
    ap (λ (p : Printed). text_of p.tokens) (printed_aggregate aggregate.CountDistinct a)
    ∙ ap (λ (p : Printed). text_of (word keyword.Count ∷ bracketed (word keyword.Distinct ∷ at_level level.Disjunction p))) (column_is (codes "a"))

abbrev pub distinct_rows : Query
distinct_rows = record {
  distinct = true;
  items = record { expr = a; alias = None } ∷ [];
  source = record { first = record { name = codes "t"; alias = None }; others = [] };
  filter = None;
  group_by = [];
  having = None;
  order_by = [];
  limit = None;
}

select_distinct_text : text_of (query_tokens distinct_rows) ≡ codes "SELECT DISTINCT a FROM t"
select_distinct_text =
    ap (λ (p : Printed). text_of (word keyword.Select ∷ word keyword.Distinct ∷ (at_level level.Disjunction p ++ []) ++ (word keyword.From ∷ terminal.name (codes "t") ∷ []))) (column_is (codes "a"))

-- ---- trees of tokens

-- a - b - c is read from the left
left_read : Spells level.Disjunction (terminal.name (codes "a") ∷ mark sign.Minus ∷ terminal.name (codes "b") ∷ mark sign.Minus ∷ terminal.name (codes "c") ∷ []) (minus_of (minus_of a b) c)
left_read =
    let subtract = operator.Reckon arithmetic.Subtract in
    let n : (m : List ℕ) → Spells level.Factor (terminal.name m ∷ []) (col (lower m)) = λ m. as_next (column m) in
    let both : Spells level.Sum (terminal.name (codes "a") ∷ mark sign.Minus ∷ terminal.name (codes "b") ∷ []) (minus_of a b) = joined subtract (as_next (as_next (n (codes "a")))) (as_next (n (codes "b"))) in
    to_free level.Sum (joined subtract both (as_next (n (codes "c"))))
