-- Reading the tokens of an expression from front to back: one definition a rule of the grammar.
use Rattle.std.specs.Prelude.{ℕ, zero, suc, ◌+◌, ℤ, pos, Bool, true, false, ◌||◌, nat_le, nat_lt, max, if◌then◌else◌, List, [], ◌∷◌, ◌++◌, length, map, Option, Some, None, Result, Ok, Err, ◌≡◌}
use denote.Enum.Bare.{sameb}
use Rattle.sql_syntax.specs.contracts.keyword.Keyword as keyword_contract
use Rattle.sql_syntax.specs.contracts.token.Sign as sign_contract
use Rattle.sql_syntax.specs.declared.keyword.Keyword.{Keyword}
use Rattle.sql_syntax.specs.declared.keyword.Keyword.TheVariants as keyword
use Rattle.sql_syntax.specs.declared.token.Sign.{Sign}
use Rattle.sql_syntax.specs.declared.token.Sign.TheVariants as sign
use Rattle.sql_syntax.specs.declared.token.Lexeme.{Lexeme}
use Rattle.sql_syntax.specs.declared.strength.Level.{Level}
use Rattle.sql_syntax.specs.declared.strength.Level.TheVariants as level
use Rattle.sql_syntax.specs.declared.strength.Operator.{Operator}
use Rattle.sql_syntax.specs.declared.strength.Operator.TheVariants as operator
use Rattle.sql_syntax.specs.declared.tree.Aggregate.{Aggregate}
use Rattle.sql_syntax.specs.declared.tree.Aggregate.TheVariants as aggregate
use Rattle.meaning.specs.declared.expr.ArithmeticOperator.TheVariants as arithmetic
use Rattle.meaning.specs.declared.expr.ComparisonOperator.{ComparisonOperator}
use Rattle.meaning.specs.declared.expr.ComparisonOperator.TheVariants as comparison
use Rattle.sql_syntax.specs.declared.tree.Arm.{Arm}
use Rattle.sql_syntax.specs.declared.tree.Expr.{Expr}
use Rattle.sql_syntax.specs.declared.tree.Expr.TheVariants as expr
use Rattle.sql_syntax.specs.Words.{lower}
use Rattle.sql_syntax.specs.Tokens as terminal
use Rattle.sql_syntax.specs.Tokens.{Terminal, terminal_of}
use Rattle.sql_syntax.specs.Strength.{node_of}
use Rattle.sql_syntax.specs.Phrases.{below_zero, undoubled}
use Rattle.sql_expressions.specs.declared.stop.Stop.{Stop}
use Rattle.sql_expressions.specs.declared.stop.Stop.TheVariants as stop
use Rattle.sql_expressions.specs.declared.parsed.Parsed.{Parsed}

-- the tokens of the code, without where they lie and stand
abbrev pub terms : List Lexeme → List Terminal
terms = map (λ l. terminal_of l.token)

-- ---- what a call gives

-- what is read and the tokens that are left, or why reading stops
abbrev pub Reads : Type 0 → Type 0
Reads A = Result (A × List Terminal) Stop

abbrev pub Reader : Type 0
Reader = List Terminal → Reads Parsed

-- A call stops where and why reading does, unless memory ran out.
abbrev pub Stops : {Y : Type 0} → Stop → Result Y Stop → Type 0
Stops stop.Memory read = Unit {0}
Stops stop.TooDeep read = read ≡ Err stop.TooDeep
Stops (stop.At left) read = read ≡ Err (stop.At left)

-- What a call returned, seen by view, is what reading gives, unless memory ran out.
abbrev pub Gives : {X Y : Type 0} → (X → Y) → Result X Stop → Result Y Stop → Type 0
Gives view (Ok x) read = read ≡ Ok (view x)
Gives view (Err reason) read = Stops reason read

-- one step, and then the next with what it gave
infixl 10 ◌>>=◌
abbrev pub ◌>>=◌ : {A B : Type 0} → Result A Stop → (A → Result B Stop) → Result B Stop
(Err reason) >>= f = Err reason
(Ok x) >>= f = f x

-- reading stops at the front of these tokens
abbrev pub stops_at : {A : Type 0} → List Terminal → Result A Stop
stops_at ts = Err (stop.At (length ts))

-- what is there, or reading stops at the front of these tokens
abbrev pub needed : {A : Type 0} → List Terminal → Option A → Result A Stop
needed ts None = stops_at ts
needed ts (Some x) = Ok x

-- one way where something is there, and another where it isn't
abbrev pub choose : {A B : Type 0} → Option A → (A → B) → B → B
choose None f other = other
choose (Some x) f other = f x

-- ---- tokens

-- the token is this keyword
abbrev pub is_keyword : Keyword → Terminal → Bool
is_keyword k (terminal.keyword found) = sameb keyword_contract.the_type found k
is_keyword k _ = false

-- the token is this sign
abbrev pub is_sign : Sign → Terminal → Bool
is_sign s (terminal.sign_is found) = sameb sign_contract.the_type found s
is_sign s _ = false

-- what stands behind a token that passes
abbrev pub behind : (Terminal → Bool) → List Terminal → Option (List Terminal)
behind passes [] = None
behind passes (t ∷ ts) = if passes t then Some ts else None

-- what stands behind a token that has to be there
abbrev pub past : (Terminal → Bool) → List Terminal → Result (List Terminal) Stop
past passes ts = needed ts (behind passes ts)

-- the name that the token is, in lower case
abbrev pub name_at : List Terminal → Reads (List ℕ)
name_at (terminal.name n ∷ ts) = Ok (lower n, ts)
name_at ts = stops_at ts

-- a name is at the front
abbrev pub begins_name : List Terminal → Bool
begins_name (terminal.name n ∷ ts) = true
begins_name _ = false

-- the text that the token is, without its quotes
abbrev pub text_at : List Terminal → Reads (List ℕ)
text_at (terminal.text t ∷ ts) = Ok (undoubled t, ts)
text_at ts = stops_at ts

-- an integer that needs no minus
abbrev pub integer_at : List Terminal → Reads ℕ
integer_at (terminal.integer n ∷ ts) = if nat_le n 9223372036854775807 then Ok (n, ts) else stops_at (terminal.integer n ∷ ts)
integer_at ts = stops_at ts

-- the number that the token's digits make
abbrev pub digits_of : Terminal → Option ℕ
digits_of (terminal.integer n) = Some n
digits_of _ = None

-- the literal of digits, and that of a minus and digits
abbrev pub positive : ℕ → Option ℤ
positive n = if nat_le n 9223372036854775807 then Some (pos n) else None

abbrev pub negative : ℕ → Option ℤ
negative n = if nat_le n 9223372036854775808 then Some (below_zero n) else None

-- an integer is at the front
abbrev pub begins_integer : List Terminal → Bool
begins_integer (terminal.integer n ∷ ts) = true
begins_integer _ = false

-- the operator that a token is in a rule
abbrev pub operator_of : Level → Terminal → Option Operator
operator_of level.Disjunction (terminal.keyword keyword.Or) = Some operator.Or
operator_of level.Conjunction (terminal.keyword keyword.And) = Some operator.And
operator_of level.Sum (terminal.sign_is sign.Plus) = Some (operator.Reckon arithmetic.Add)
operator_of level.Sum (terminal.sign_is sign.Minus) = Some (operator.Reckon arithmetic.Subtract)
operator_of level.Term (terminal.sign_is sign.Star) = Some (operator.Reckon arithmetic.Multiply)
operator_of level.Term (terminal.sign_is sign.Slash) = Some (operator.Reckon arithmetic.Divide)
operator_of _ _ = None

-- the comparison that a token is
abbrev pub comparison_of : Terminal → Option ComparisonOperator
comparison_of (terminal.sign_is sign.Equal) = Some comparison.Equal
comparison_of (terminal.sign_is sign.NotEqual) = Some comparison.NotEqual
comparison_of (terminal.sign_is sign.Less) = Some comparison.Less
comparison_of (terminal.sign_is sign.AtMost) = Some comparison.LessOrEqual
comparison_of (terminal.sign_is sign.Greater) = Some comparison.Greater
comparison_of (terminal.sign_is sign.AtLeast) = Some comparison.GreaterOrEqual
comparison_of _ = None

-- the aggregate that a keyword names
abbrev pub aggregate_of : Keyword → Option Aggregate
aggregate_of keyword.Count = Some aggregate.Count
aggregate_of keyword.Sum = Some aggregate.Sum
aggregate_of keyword.Min = Some aggregate.Min
aggregate_of keyword.Max = Some aggregate.Max
aggregate_of keyword.Avg = Some aggregate.Average
aggregate_of _ = None

-- the aggregate that DISTINCT makes of one
abbrev pub distinct_of : Aggregate → Option Aggregate
distinct_of aggregate.Count = Some aggregate.CountDistinct
distinct_of aggregate.Sum = Some aggregate.SumDistinct
distinct_of _ = None

-- what a token is, and the tokens behind it
abbrev pub first_is : {A : Type 0} → (Terminal → Option A) → List Terminal → Option (A × List Terminal)
first_is is [] = None
first_is is (t ∷ ts) = choose (is t) (λ a. Some (a, ts)) None

-- the token is one that begins such a table, and such a one is at the front
abbrev pub names_other : Terminal → Bool
names_other t = is_sign sign.Comma t || is_keyword keyword.Inner t || is_keyword keyword.Join t || is_keyword keyword.Left t

abbrev pub begins_other : List Terminal → Bool
begins_other [] = false
begins_other (t ∷ ts) = names_other t

-- ---- nodes

-- one more than the depth, where that is allowed
abbrev pub deeper : ℕ → ℕ → Result ℕ Stop
deeper most deepest = if nat_lt deepest most then Ok (deepest + 1) else Err stop.TooDeep

-- a node whose deepest part is so deep
abbrev pub node : ℕ → ℕ → Expr → Result Parsed Stop
node most deepest e = deeper most deepest >>= (λ d. Ok (record { expr = e; depth = d }))

-- a node without parts
abbrev pub leaf : Expr → Parsed
leaf e = record { expr = e; depth = 1 }

-- a node, and the tokens behind it
abbrev pub then_left : Result Parsed Stop → List Terminal → Reads Parsed
then_left p ts = p >>= (λ x. Ok (x, ts))

-- ---- repeated operators

-- operators of a rule behind an operand, each with the one behind it, fewer than n of them
abbrev pub more_of : ℕ → ℕ → Level → Reader → Parsed → Reader
more_of zero most l operand a ts = Err stop.TooDeep
more_of (suc n) most l operand a ts =
    choose (first_is (operator_of l) ts)
    (λ o. operand o.1 >>= (λ b. node most (max a.depth b.0.depth) (node_of o.0 a.expr b.0.expr) >>= (λ c. more_of n most l operand c b.1)))
    (Ok (a, ts))

-- An operand, and others behind operators. There are no more of them than tokens.
abbrev pub chain_of : ℕ → Level → Reader → Reader
chain_of most l operand ts = operand ts >>= (λ a. more_of (suc (length a.1)) most l operand a.0 a.1)

-- ---- lists

-- expressions and the depth of the deepest
pub record Listed : Type 0 where
  pub exprs : List Expr
  pub deepest : ℕ

-- WHEN and THEN, and the depth of the deepest expression
pub record Cases : Type 0 where
  pub arms : List Arm
  pub deepest : ℕ

-- one expression more
abbrev pub with_entry : Listed → Parsed → Listed
with_entry es p = record { exprs = es.exprs ++ p.expr ∷ []; deepest = max es.deepest p.depth }

-- one arm more
abbrev pub with_arm : Cases → Arm × ℕ → Cases
with_arm cs arm = record { arms = cs.arms ++ arm.0 ∷ []; deepest = max cs.deepest arm.1 }

-- ---- rules, by what reads an expression of each rule in brackets, in CASE, or behind NOT or a minus

-- an expression, and a token behind it
abbrev pub before_of : (Terminal → Bool) → (Level → Reader) → Reader
before_of passes inner ts = inner level.Disjunction ts >>= (λ x. past passes x.1 >>= (λ rest. Ok (x.0, rest)))

-- an expression, put behind others
abbrev pub entry_of : (Level → Reader) → Listed → List Terminal → Reads Listed
entry_of inner before ts = inner level.Disjunction ts >>= (λ x. Ok (with_entry before x.0, x.1))

-- expressions behind commas, fewer than n of them, put behind others
abbrev pub more_entries : ℕ → (Level → Reader) → Listed → List Terminal → Reads Listed
more_entries zero inner before ts = Err stop.TooDeep
more_entries (suc n) inner before ts = choose (behind (is_sign sign.Comma) ts) (λ us. entry_of inner before us >>= (λ x. more_entries n inner x.0 x.1)) (Ok (before, ts))

-- expressions with commas between; there are no more of them than tokens
abbrev pub list_at : (Level → Reader) → Listed → List Terminal → Reads Listed
list_at inner before ts = entry_of inner before ts >>= (λ x. more_entries (suc (length x.1)) inner x.0 x.1)

-- and the bracket that closes them
abbrev pub closed_list_of : (Level → Reader) → Listed → List Terminal → Reads Listed
closed_list_of inner before ts = list_at inner before ts >>= (λ es. past (is_sign sign.Close) es.1 >>= (λ rest. Ok (es.0, rest)))

-- expressions in brackets, with commas between
abbrev pub bracketed_list : (Level → Reader) → List Terminal → Reads Listed
bracketed_list inner ts = past (is_sign sign.Open) ts >>= closed_list_of inner (record { exprs = []; deepest = 0 })

-- THEN and the value
abbrev pub then_of : (Level → Reader) → Reader
then_of inner ts = past (is_keyword keyword.Then) ts >>= inner level.Disjunction

-- an arm behind its WHEN, and the depth of its deeper expression
abbrev pub arm_of : (Level → Reader) → List Terminal → Reads (Arm × ℕ)
arm_of inner ts =
    inner level.Disjunction ts >>= (λ c. then_of inner c.1 >>= (λ v. Ok ((record { condition = c.0.expr; value = v.0.expr }, max c.0.depth v.0.depth), v.1)))

-- an arm, put behind others
abbrev pub arm_at : (Level → Reader) → Cases → List Terminal → Reads Cases
arm_at inner before ts = arm_of inner ts >>= (λ x. Ok (with_arm before x.0, x.1))

-- arms, each with its WHEN, fewer than n of them, put behind others
abbrev pub more_arms : ℕ → (Level → Reader) → Cases → List Terminal → Reads Cases
more_arms zero inner before ts = Err stop.TooDeep
more_arms (suc n) inner before ts = choose (behind (is_keyword keyword.When) ts) (λ us. arm_at inner before us >>= (λ x. more_arms n inner x.0 x.1)) (Ok (before, ts))

-- an arm behind its WHEN, and others
abbrev pub arms_at : (Level → Reader) → Cases → List Terminal → Reads Cases
arms_at inner before ts = arm_at inner before ts >>= (λ x. more_arms (suc (length x.1)) inner x.0 x.1)

-- ELSE, or nothing, and END; ELSE NULL is the same as nothing
abbrev pub without_value : List Terminal → Reads (Option Parsed)
without_value ts = past (is_keyword keyword.End) ts >>= (λ rest. Ok (None, rest))

abbrev pub else_of : (Level → Reader) → List Terminal → Reads (Option Parsed)
else_of inner ts =
    choose (behind (is_keyword keyword.Else) ts)
    (λ us. choose (behind (is_keyword keyword.Null) us) without_value (before_of (is_keyword keyword.End) inner us >>= (λ v. Ok (Some v.0, v.1))))
    (without_value ts)

-- the tree of CASE
abbrev pub case_node : ℕ → Cases → Option Parsed → Result Parsed Stop
case_node most cs None = node most cs.deepest (expr.Case cs.arms None)
case_node most cs (Some v) = node most (max cs.deepest v.depth) (expr.Case cs.arms (Some v.expr))

-- CASE, behind that word
abbrev pub case_of : ℕ → ℕ → (Level → Reader) → Reader
case_of most left inner ts =
    past (is_keyword keyword.When) ts >>= (λ us. arms_at inner (record { arms = []; deepest = 0 }) us
    >>= (λ cs. else_of inner cs.1 >>= (λ v. then_left (case_node most cs.0 v.0) v.1)))

-- the expression in an aggregate's brackets
abbrev pub argument_of : ℕ → ℕ → (Level → Reader) → Aggregate → Reader
argument_of most left inner k ts = before_of (is_sign sign.Close) inner ts >>= (λ a. then_left (node most a.0.depth (expr.Aggregate k a.0.expr)) a.1)

-- behind `*` in the brackets of COUNT
abbrev pub rows_of : ℕ → List Terminal → Reads Parsed
rows_of left ts = past (is_sign sign.Close) ts >>= (λ rest. if nat_lt 0 left then Ok (leaf expr.CountRows, rest) else Err stop.TooDeep)

-- the token leads on to COUNT(*)
abbrev pub behind_star : Aggregate → List Terminal → Option (List Terminal)
behind_star aggregate.Count ts = behind (is_sign sign.Star) ts
behind_star k ts = None

-- DISTINCT leads on, and makes another aggregate
abbrev pub behind_distinct : Aggregate → List Terminal → Option (Aggregate × List Terminal)
behind_distinct k ts = choose (distinct_of k) (λ d. choose (behind (is_keyword keyword.Distinct) ts) (λ rest. Some (d, rest)) None) None

-- in an aggregate's brackets
abbrev pub inside_of : ℕ → ℕ → (Level → Reader) → Aggregate → Reader
inside_of most left inner k ts = choose (behind_distinct k ts) (λ d. argument_of most left inner d.0 d.1) (argument_of most left inner k ts)

-- an aggregate, behind its name
abbrev pub aggregate_at : ℕ → ℕ → (Level → Reader) → Aggregate → Reader
aggregate_at most left inner k ts = past (is_sign sign.Open) ts >>= (λ us. choose (behind_star k us) (rows_of left) (inside_of most left inner k us))

-- COALESCE, behind that word
abbrev pub coalesce_of : ℕ → ℕ → (Level → Reader) → Reader
coalesce_of most left inner ts = bracketed_list inner ts >>= (λ es. then_left (node most es.0.deepest (expr.Coalesce es.0.exprs)) es.1)

-- a text
abbrev pub literal_at : Reader
literal_at ts = text_at ts >>= (λ t. Ok (leaf (expr.Text t.0), t.1))

-- a column, behind its table's name or without it
abbrev pub column_of : List ℕ → Reader
column_of table ts = name_at ts >>= (λ n. Ok (leaf (expr.Column (Some table) n.0), n.1))

abbrev pub column_at : Reader
column_at ts = name_at ts >>= (λ n. choose (behind (is_sign sign.Dot) n.1) (column_of n.0) (Ok (leaf (expr.Column None n.0), n.1)))

-- what begins with a keyword
abbrev pub call_of : ℕ → ℕ → (Level → Reader) → Keyword → Reader
call_of most left inner keyword.Case ts = case_of most left inner ts
call_of most left inner keyword.Coalesce ts = coalesce_of most left inner ts
call_of most left inner k ts = needed (terminal.keyword k ∷ ts) (aggregate_of k) >>= (λ a. aggregate_at most left inner a ts)

abbrev pub primary_of : ℕ → ℕ → (Level → Reader) → Reader
primary_of most left inner (terminal.text t ∷ ts) = literal_at (terminal.text t ∷ ts)
primary_of most left inner (terminal.name n ∷ ts) = column_at (terminal.name n ∷ ts)
primary_of most left inner (terminal.keyword k ∷ ts) = call_of most left inner k ts
primary_of most left inner (terminal.sign_is sign.Open ∷ ts) = before_of (is_sign sign.Close) inner ts
primary_of most left inner ts = stops_at ts

-- A minus and the integer right behind it are one literal.
abbrev pub minus_of : ℕ → ℕ → (Level → Reader) → Reader
minus_of most left inner ts =
    choose (first_is digits_of ts) (λ n. needed ts (negative n.0) >>= (λ z. Ok (leaf (expr.Integer z), n.1)))
    (inner level.Factor ts >>= (λ a. then_left (node most a.0.depth (expr.Minus a.0.expr)) a.1))

abbrev pub factor_of : ℕ → ℕ → (Level → Reader) → Reader
factor_of most left inner (terminal.sign_is sign.Minus ∷ ts) = minus_of most left inner ts
factor_of most left inner (terminal.integer n ∷ ts) = needed (terminal.integer n ∷ ts) (positive n) >>= (λ z. Ok (leaf (expr.Integer z), ts))
factor_of most left inner ts = primary_of most left inner ts

abbrev pub term_of : ℕ → ℕ → (Level → Reader) → Reader
term_of most left inner = chain_of most level.Term (factor_of most left inner)

abbrev pub sum_of : ℕ → ℕ → (Level → Reader) → Reader
sum_of most left inner = chain_of most level.Sum (term_of most left inner)

-- ---- what stands behind a predicate's subject

abbrev pub compare_of : ℕ → ℕ → (Level → Reader) → Parsed → ComparisonOperator → Reader
compare_of most left inner a op ts = sum_of most left inner ts >>= (λ b. then_left (node most (max a.depth b.0.depth) (expr.Compare op a.expr b.0.expr)) b.1)

-- AND and the bound behind it
abbrev pub high_of : ℕ → ℕ → (Level → Reader) → Reader
high_of most left inner ts = past (is_keyword keyword.And) ts >>= sum_of most left inner

-- the bounds behind BETWEEN
abbrev pub bounds_of : ℕ → ℕ → (Level → Reader) → List Terminal → Reads (Parsed × Parsed)
bounds_of most left inner ts = sum_of most left inner ts >>= (λ low. high_of most left inner low.1 >>= (λ high. Ok ((low.0, high.0), high.1)))

abbrev pub between_of : ℕ → ℕ → (Level → Reader) → Parsed → Bool → Reader
between_of most left inner a not ts =
    bounds_of most left inner ts >>= (λ b. then_left (node most (max a.depth (max b.0.0.depth b.0.1.depth)) (expr.Between not a.expr b.0.0.expr b.0.1.expr)) b.1)

abbrev pub in_of : ℕ → ℕ → (Level → Reader) → Parsed → Bool → Reader
in_of most left inner a not ts = bracketed_list inner ts >>= (λ es. then_left (node most (max a.depth es.0.deepest) (expr.In not a.expr es.0.exprs)) es.1)

-- LIKE and its pattern
abbrev pub pattern_at : List Terminal → Reads (List ℕ)
pattern_at ts = past (is_keyword keyword.Like) ts >>= text_at

abbrev pub like_test : ℕ → Parsed → Bool → Reader
like_test most a not ts = pattern_at ts >>= (λ t. then_left (node most a.depth (expr.Like not a.expr t.0)) t.1)

-- a test that may be negated, behind NOT or without it
abbrev pub named_test : ℕ → ℕ → (Level → Reader) → Parsed → Bool → Reader
named_test most left inner a not ts =
    choose (behind (is_keyword keyword.Between) ts) (between_of most left inner a not)
    (choose (behind (is_keyword keyword.In) ts) (in_of most left inner a not)
    (like_test most a not ts))

-- the token is one of its words, and such a one is at the front
abbrev pub names_test : Terminal → Bool
names_test t = is_keyword keyword.Between t || is_keyword keyword.In t || is_keyword keyword.Like t

abbrev pub begins_test : List Terminal → Bool
begins_test [] = false
begins_test (t ∷ ts) = names_test t

-- [NOT] NULL, behind IS
abbrev pub null_of : ℕ → Parsed → Bool → Reader
null_of most a not ts = past (is_keyword keyword.Null) ts >>= (λ rest. then_left (node most a.depth (expr.IsNull not a.expr)) rest)

abbrev pub is_of : ℕ → Parsed → Reader
is_of most a ts = choose (behind (is_keyword keyword.Not) ts) (null_of most a true) (null_of most a false ts)

-- a test, or nothing
abbrev pub test_of : ℕ → ℕ → (Level → Reader) → Parsed → Reader
test_of most left inner a ts =
    choose (first_is comparison_of ts) (λ op. compare_of most left inner a op.0 op.1)
    (choose (behind (is_keyword keyword.Is) ts) (is_of most a)
    (choose (behind (is_keyword keyword.Not) ts) (named_test most left inner a true)
    (if begins_test ts then named_test most left inner a false ts else Ok (a, ts))))

-- ---- the weaker rules

abbrev pub predicate_of : ℕ → ℕ → (Level → Reader) → Reader
predicate_of most left inner ts = sum_of most left inner ts >>= (λ a. test_of most left inner a.0 a.1)

abbrev pub negation_of : ℕ → ℕ → (Level → Reader) → Reader
negation_of most left inner ts =
    choose (behind (is_keyword keyword.Not) ts) (λ rest. inner level.Negation rest >>= (λ a. then_left (node most a.0.depth (expr.Not a.0.expr)) a.1))
    (predicate_of most left inner ts)

abbrev pub conjunction_of : ℕ → ℕ → (Level → Reader) → Reader
conjunction_of most left inner = chain_of most level.Conjunction (negation_of most left inner)

abbrev pub disjunction_of : ℕ → ℕ → (Level → Reader) → Reader
disjunction_of most left inner = chain_of most level.Disjunction (conjunction_of most left inner)

abbrev pub rule_of : ℕ → ℕ → (Level → Reader) → Level → Reader
rule_of most left inner level.Disjunction = disjunction_of most left inner
rule_of most left inner level.Conjunction = conjunction_of most left inner
rule_of most left inner level.Negation = negation_of most left inner
rule_of most left inner level.Predicate = predicate_of most left inner
rule_of most left inner level.Sum = sum_of most left inner
rule_of most left inner level.Term = term_of most left inner
rule_of most left inner level.Factor = factor_of most left inner
rule_of most left inner level.Primary = primary_of most left inner

-- an expression of a rule behind what opens it, where so many may still be opened
unfoldable pub inner_at : ℕ → ℕ → Level → Reader
inner_at most zero l ts = Err stop.TooDeep
inner_at most (suc n) l ts = rule_of most n (inner_at most n) l ts

-- an expression of a rule, where so many may still be opened
abbrev pub rule_at : ℕ → ℕ → Level → Reader
rule_at most n = rule_of most n (inner_at most n)
