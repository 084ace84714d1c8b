-- Which tokens spell which expression.
use Rattle.std.specs.Prelude.{◌≡◌, ℕ, zero, suc, ◌≤◌, ℤ, pos, negsuc, Bool, true, false, ◌&&◌, ◌==◌, if◌then◌else◌, List, [], ◌∷◌, ◌++◌, Option, Some, None, max}
use Rattle.sql_syntax.specs.declared.keyword.Keyword.{Keyword}
use Rattle.sql_syntax.specs.declared.keyword.Keyword.TheVariants as keyword
use Rattle.sql_syntax.specs.declared.token.Sign.{Sign}
use Rattle.sql_syntax.specs.declared.token.Sign.TheVariants as sign
use Rattle.sql_syntax.specs.declared.tree.Aggregate.{Aggregate}
use Rattle.sql_syntax.specs.declared.tree.Aggregate.TheVariants as aggregate
use Rattle.meaning.specs.declared.expr.ComparisonOperator.{ComparisonOperator}
use Rattle.sql_syntax.specs.declared.tree.Arm.{Arm}
use Rattle.sql_syntax.specs.declared.tree.Expr.{Expr}
use Rattle.sql_syntax.specs.declared.tree.Expr.TheVariants as expr
use Rattle.sql_syntax.specs.Words.{lower}
use Rattle.sql_syntax.specs.Tokens as terminal
use Rattle.sql_syntax.specs.Tokens.{Terminal}
use Rattle.sql_syntax.specs.declared.strength.Level.{Level}
use Rattle.sql_syntax.specs.declared.strength.Level.TheVariants as level
use Rattle.sql_syntax.specs.declared.strength.Operator.{Operator}
use Rattle.sql_syntax.specs.Strength.{next, level_of, token_of, node_of, compares}

-- a keyword's token, and a sign's
abbrev pub word : Keyword → Terminal
word k = terminal.keyword k

abbrev pub mark : Sign → Terminal
mark s = terminal.sign_is s

-- NOT where it is written
abbrev pub not_if : Bool → List Terminal
not_if true = word keyword.Not ∷ []
not_if false = []

-- DISTINCT where it is written
abbrev pub distinct_if : Bool → List Terminal
distinct_if true = word keyword.Distinct ∷ []
distinct_if false = []

-- tokens in brackets
abbrev pub bracketed : List Terminal → List Terminal
bracketed ts = mark sign.Open ∷ ts ++ mark sign.Close ∷ []

-- an aggregate's name
abbrev pub aggregate_word : Aggregate → Keyword
aggregate_word aggregate.Count = keyword.Count
aggregate_word aggregate.CountDistinct = keyword.Count
aggregate_word aggregate.Sum = keyword.Sum
aggregate_word aggregate.SumDistinct = keyword.Sum
aggregate_word aggregate.Min = keyword.Min
aggregate_word aggregate.Max = keyword.Max
aggregate_word aggregate.Average = keyword.Avg

-- DISTINCT stands in an aggregate's brackets
abbrev pub is_distinct : Aggregate → Bool
is_distinct aggregate.CountDistinct = true
is_distinct aggregate.SumDistinct = true
is_distinct _ = false

-- the number that a minus makes of digits
abbrev pub below_zero : ℕ → ℤ
below_zero zero = pos 0
below_zero (suc n) = negsuc n

-- what stands in quotes, with each two quotes as one
abbrev pub undoubled : List ℕ → List ℕ
undoubled [] = []
undoubled (b ∷ []) = b ∷ []
undoubled (b ∷ c ∷ bs) = if b == 39 && c == 39 then 39 ∷ undoubled bs else b ∷ undoubled (c ∷ bs)

-- an integer stands at the front
abbrev pub heads_integer : List Terminal → Bool
heads_integer (terminal.integer n ∷ ts) = true
heads_integer _ = false

mutual
  -- the tokens of an expression by a rule of the grammar, and its tree
  pub data Spells : Level → List Terminal → Expr → Type 0 where
    -- A rule takes what the next one takes, so `a` is a sum of one term.
    as_next : {l : Level} {ts : List Terminal} {e : Expr} → Spells (next l) ts e → Spells l ts e
    -- OR, AND, + - and * /, where the left operand may be of the same rule
    joined : (o : Operator) {ts us : List Terminal} {a b : Expr} → Spells (level_of o) ts a → Spells (next (level_of o)) us b
        → Spells (level_of o) (ts ++ token_of o ∷ us) (node_of o a b)
    negated : {ts : List Terminal} {e : Expr} → Spells level.Negation ts e → Spells level.Negation (word keyword.Not ∷ ts) (expr.Not e)
    tested : {ts us : List Terminal} {a e : Expr} → Spells level.Sum ts a → Tests a us e → Spells level.Predicate (ts ++ us) e
    -- A minus and the integer right behind it are a literal, and no minus of an integer.
    minus : {ts : List Terminal} {e : Expr} → heads_integer ts ≡ false → Spells level.Factor ts e → Spells level.Factor (mark sign.Minus ∷ ts) (expr.Minus e)
    integer : (n : ℕ) → n ≤ 9223372036854775807 → Spells level.Factor (terminal.integer n ∷ []) (expr.Integer (pos n))
    negative : (n : ℕ) → n ≤ 9223372036854775808 → Spells level.Factor (mark sign.Minus ∷ terminal.integer n ∷ []) (expr.Integer (below_zero n))
    text : (t : List ℕ) → Spells level.Primary (terminal.text t ∷ []) (expr.Text (undoubled t))
    column : (n : List ℕ) → Spells level.Primary (terminal.name n ∷ []) (expr.Column None (lower n))
    column_of : (t n : List ℕ) → Spells level.Primary (terminal.name t ∷ mark sign.Dot ∷ terminal.name n ∷ []) (expr.Column (Some (lower t)) (lower n))
    rows : Spells level.Primary (word keyword.Count ∷ bracketed (mark sign.Star ∷ [])) expr.CountRows
    aggregated : (k : Aggregate) {ts : List Terminal} {e : Expr} → Spells level.Disjunction ts e
        → Spells level.Primary (word (aggregate_word k) ∷ bracketed (distinct_if (is_distinct k) ++ ts)) (expr.Aggregate k e)
    first_of : {ts : List Terminal} {es : List Expr} → SpellsList ts es → Spells level.Primary (word keyword.Coalesce ∷ bracketed ts) (expr.Coalesce es)
    chosen : {ts us : List Terminal} {arms : List Arm} {otherwise : Option Expr} → SpellsArms ts arms → SpellsElse us otherwise
        → Spells level.Primary (word keyword.Case ∷ ts ++ (us ++ word keyword.End ∷ [])) (expr.Case arms otherwise)
    in_brackets : {ts : List Terminal} {e : Expr} → Spells level.Disjunction ts e → Spells level.Primary (bracketed ts) e

  -- what may stand behind the subject of a predicate, and the tree of both
  pub data Tests : Expr → List Terminal → Expr → Type 0 where
    compared : (op : ComparisonOperator) {a b : Expr} {ts : List Terminal} → Spells level.Sum ts b → Tests a (mark (compares op) ∷ ts) (expr.Compare op a b)
    between : (not : Bool) {a low high : Expr} {ts us : List Terminal} → Spells level.Sum ts low → Spells level.Sum us high
        → Tests a (not_if not ++ (word keyword.Between ∷ ts ++ word keyword.And ∷ us)) (expr.Between not a low high)
    among : (not : Bool) {a : Expr} {ts : List Terminal} {es : List Expr} → SpellsList ts es → Tests a (not_if not ++ word keyword.In ∷ bracketed ts) (expr.In not a es)
    like : (not : Bool) {a : Expr} (t : List ℕ) → Tests a (not_if not ++ word keyword.Like ∷ terminal.text t ∷ []) (expr.Like not a (undoubled t))
    is_null : (not : Bool) {a : Expr} → Tests a (word keyword.Is ∷ not_if not ++ word keyword.Null ∷ []) (expr.IsNull not a)

  -- one expression or more, with commas
  pub data SpellsList : List Terminal → List Expr → Type 0 where
    last : {ts : List Terminal} {e : Expr} → Spells level.Disjunction ts e → SpellsList ts (e ∷ [])
    more : {ts us : List Terminal} {e : Expr} {es : List Expr} → Spells level.Disjunction ts e → SpellsList us es → SpellsList (ts ++ mark sign.Comma ∷ us) (e ∷ es)

  -- WHEN and THEN, once or more
  pub data SpellsArms : List Terminal → List Arm → Type 0 where
    last_arm : {ts us : List Terminal} {c v : Expr} → Spells level.Disjunction ts c → Spells level.Disjunction us v
        → SpellsArms (word keyword.When ∷ ts ++ word keyword.Then ∷ us) (record { condition = c; value = v } ∷ [])
    more_arms : {ts us vs : List Terminal} {c v : Expr} {arms : List Arm} → Spells level.Disjunction ts c → Spells level.Disjunction us v → SpellsArms vs arms
        → SpellsArms (word keyword.When ∷ ts ++ (word keyword.Then ∷ us ++ vs)) (record { condition = c; value = v } ∷ arms)

  -- ELSE, or nothing, which is ELSE NULL
  pub data SpellsElse : List Terminal → Option Expr → Type 0 where
    nothing : SpellsElse [] None
    null : SpellsElse (word keyword.Else ∷ word keyword.Null ∷ []) None
    otherwise : {ts : List Terminal} {e : Expr} → Spells level.Disjunction ts e → SpellsElse (word keyword.Else ∷ ts) (Some e)

abbrev mutual
  -- How many are open at the token of an expression where most are: brackets, CASE before its END, and NOT and a minus
  -- before the end of their operands. A literal's minus isn't one.
  pub open_in : {l : Level} {ts : List Terminal} {e : Expr} → Spells l ts e → ℕ
  open_in (as_next d) = open_in d
  open_in (joined o d d') = max (open_in d) (open_in d')
  open_in (negated d) = suc (open_in d)
  open_in (tested d t) = max (open_in d) (open_in_test t)
  open_in (minus h d) = suc (open_in d)
  open_in (integer n h) = 0
  open_in (negative n h) = 0
  open_in (text t) = 0
  open_in (column n) = 0
  open_in (column_of t n) = 0
  open_in rows = 1
  open_in (aggregated k d) = suc (open_in d)
  open_in (first_of ds) = suc (open_in_list ds)
  open_in (chosen arms d) = suc (max (open_in_arms arms) (open_in_else d))
  open_in (in_brackets d) = suc (open_in d)

  -- the same behind a predicate's subject
  pub open_in_test : {a e : Expr} {ts : List Terminal} → Tests a ts e → ℕ
  open_in_test (compared op d) = open_in d
  open_in_test (between not d d') = max (open_in d) (open_in d')
  open_in_test (among not ds) = suc (open_in_list ds)
  open_in_test (like not t) = 0
  open_in_test (is_null not) = 0

  pub open_in_list : {ts : List Terminal} {es : List Expr} → SpellsList ts es → ℕ
  open_in_list (last d) = open_in d
  open_in_list (more d ds) = max (open_in d) (open_in_list ds)

  pub open_in_arms : {ts : List Terminal} {arms : List Arm} → SpellsArms ts arms → ℕ
  open_in_arms (last_arm d d') = max (open_in d) (open_in d')
  open_in_arms (more_arms d d' arms) = max (open_in d) (max (open_in d') (open_in_arms arms))

  pub open_in_else : {ts : List Terminal} {o : Option Expr} → SpellsElse ts o → ℕ
  open_in_else nothing = 0
  open_in_else null = 0
  open_in_else (otherwise d) = open_in d
