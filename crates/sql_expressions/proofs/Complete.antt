-- An expression that is spelled is read, whatever stands behind it that its rule doesn't take.
use Rattle.std.proofs.Common.{◌≡◌, ℕ, zero, suc, ◌+◌, ◌<◌, ◌≤◌, pos, Bool, true, false, cond, List, [], ◌∷◌, ◌++◌, length, map, Option, Some, None, Result, Ok, Err, refl, sym, ap, ◌∙◌, subst, rules, arith, append_assoc, length-append}
use Rattle.std.specs.Prelude.{max}
use Rattle.std.proofs.lemmas.Bool.{lt-ltb, le-leb}
use Rattle.sql_syntax.specs.declared.keyword.Keyword.{Keyword}
use Rattle.sql_syntax.specs.declared.keyword.Keyword.TheVariants as keyword
use Rattle.sql_syntax.specs.declared.token.Sign.{Sign}
use Rattle.sql_syntax.specs.declared.token.Sign.TheVariants as sign
use Rattle.sql_syntax.specs.declared.tree.Aggregate.{Aggregate}
use Rattle.sql_syntax.specs.declared.tree.Aggregate.TheVariants as aggregate
use Rattle.meaning.specs.declared.expr.ArithmeticOperator.TheVariants as arithmetic
use Rattle.meaning.specs.declared.expr.ComparisonOperator.{ComparisonOperator}
use Rattle.meaning.specs.declared.expr.ComparisonOperator.TheVariants as comparison
use Rattle.sql_syntax.specs.declared.tree.Arm.{Arm}
use Rattle.sql_syntax.specs.declared.tree.Expr.{Expr}
use Rattle.sql_syntax.specs.declared.tree.Expr.TheVariants as expr
use Rattle.sql_syntax.specs.declared.tree.Expr.TheFolds.{the_lemmas, fold-Arm}
use Rattle.sql_syntax.specs.Words.{lower}
use Rattle.sql_syntax.specs.Tokens as terminal
use Rattle.sql_syntax.specs.Tokens.{Terminal}
use Rattle.sql_syntax.specs.declared.strength.Level.{Level}
use Rattle.sql_syntax.specs.declared.strength.Level.TheVariants as level
use Rattle.sql_syntax.specs.declared.strength.Operator.{Operator}
use Rattle.sql_syntax.specs.declared.strength.Operator.TheVariants as operator
use Rattle.sql_syntax.specs.Strength.{next, rank, level_of, token_of, node_of, compares}
use Rattle.sql_syntax.specs.Phrases.{word, mark, not_if, distinct_if, bracketed, aggregate_word, is_distinct, below_zero, undoubled, heads_integer, Spells, as_next, joined, negated, tested, minus, integer, negative, text, column, column_of, rows, aggregated, first_of, chosen, in_brackets, Tests, compared, between, among, like, is_null, SpellsList, last, more, SpellsArms, last_arm, more_arms, SpellsElse, nothing, null, otherwise, open_in, open_in_test, open_in_list, open_in_arms, open_in_else}
use Rattle.sql_syntax.specs.CanonicalTokens.{depth, deepest, parts_depth}
use Rattle.sql_expressions.specs.declared.parsed.Parsed.{Parsed}
use Rattle.sql_expressions.specs.declared.stop.Stop.{Stop}
use Rattle.sql_expressions.specs.Rules as rule
use Rattle.sql_expressions.specs.Rules.{Reader, ◌>>=◌, choose, is_keyword, is_sign, behind, first_is, operator_of, comparison_of, deeper, node, then_left, more_of, inner_at, rule_at}
use Rattle.sql_expressions.proofs.Ahead.{reach, reach_of, not_keyword, not_sign, no_keyword, ends_chain, no_comparison, no_test}

-- ---- depths

pub depth_not : (a : Expr) → depth (expr.Not a) ≡ suc (depth a)
depth_not a = search (rules, the_lemmas)

pub depth_minus : (a : Expr) → depth (expr.Minus a) ≡ suc (depth a)
depth_minus a = search (rules, the_lemmas)

pub depth_aggregate : (k : Aggregate) (a : Expr) → depth (expr.Aggregate k a) ≡ suc (depth a)
depth_aggregate k a = search (rules, the_lemmas)

pub depth_null : (not : Bool) (a : Expr) → depth (expr.IsNull not a) ≡ suc (depth a)
depth_null not a = search (rules, the_lemmas)

pub depth_like : (not : Bool) (a : Expr) (t : List ℕ) → depth (expr.Like not a t) ≡ suc (depth a)
depth_like not a t = search (rules, the_lemmas)

pub depth_compare : (op : ComparisonOperator) (a b : Expr) → depth (expr.Compare op a b) ≡ suc (deepest (depth a ∷ depth b ∷ []))
depth_compare op a b = search (rules, the_lemmas)

pub depth_or : (a b : Expr) → depth (expr.Or a b) ≡ suc (deepest (depth a ∷ depth b ∷ []))
depth_or a b = search (rules, the_lemmas)

pub depth_and : (a b : Expr) → depth (expr.And a b) ≡ suc (deepest (depth a ∷ depth b ∷ []))
depth_and a b = search (rules, the_lemmas)

pub depth_node : (o : Operator) (a b : Expr) → depth (node_of o a b) ≡ suc (deepest (depth a ∷ depth b ∷ []))
depth_node operator.Or a b = depth_or a b
depth_node operator.And a b = depth_and a b
depth_node (operator.Reckon op) a b = search (rules, the_lemmas)

pub depth_between : (not : Bool) (a low high : Expr) → depth (expr.Between not a low high) ≡ suc (deepest (depth a ∷ depth low ∷ depth high ∷ []))
depth_between not a low high = search (rules, the_lemmas)

pub depth_in : (not : Bool) (a : Expr) (es : List Expr) → depth (expr.In not a es) ≡ suc (deepest (depth a ∷ map depth es))
depth_in not a es = search (rules, the_lemmas)

pub depth_coalesce : (es : List Expr) → depth (expr.Coalesce es) ≡ suc (deepest (map depth es))
depth_coalesce es = search (rules, the_lemmas)

-- the depth of an arm's deeper expression
abbrev pub arm_depth : Arm → ℕ
arm_depth = fold-Arm ℕ ℕ (λ x. suc (parts_depth x)) (λ arm. deepest (arm.condition ∷ arm.value ∷ []))

pub depth_arm : (c v : Expr) → arm_depth (record { condition = c; value = v }) ≡ deepest (depth c ∷ depth v ∷ [])
depth_arm c v = search (rules, the_lemmas)

pub depth_case : (arms : List Arm) → depth (expr.Case arms None) ≡ suc (deepest (map arm_depth arms))
depth_case arms = search (rules, the_lemmas)

pub depth_else : (arms : List Arm) (e : Expr) → depth (expr.Case arms (Some e)) ≡ suc (deepest (depth e ∷ map arm_depth arms))
depth_else arms e = search (rules, the_lemmas)

-- ---- what is read

-- an expression with its depth
abbrev pub whole : Expr → Parsed
whole e = record { expr = e; depth = depth e }

-- a rule reads these tokens, and leaves those behind them
abbrev pub Read : ℕ → ℕ → Level → List Terminal → Expr → List Terminal → Type 0
Read most n l ts e rest = rule_at most n l (ts ++ rest) ≡ Ok (whole e, rest)

-- a rule reads these tokens, and then further operators
pub record Chained (most n : ℕ) (l : Level) (ts : List Terminal) (e : Expr) (rest : List Terminal) : Type 0 where
  pub steps : ℕ
  pub enough : length rest < steps
  pub reads : rule_at most n l (ts ++ rest) ≡ more_of steps most l (rule_at most n (next l)) (whole e) rest

-- what is shown of each rule
abbrev pub Goal : ℕ → ℕ → Level → List Terminal → Expr → List Terminal → Type 0
Goal most n level.Disjunction ts e rest = Chained most n level.Disjunction ts e rest
Goal most n level.Conjunction ts e rest = Chained most n level.Conjunction ts e rest
Goal most n level.Negation ts e rest = Read most n level.Negation ts e rest
Goal most n level.Predicate ts e rest = Read most n level.Predicate ts e rest
Goal most n level.Sum ts e rest = Chained most n level.Sum ts e rest
Goal most n level.Term ts e rest = Chained most n level.Term ts e rest
Goal most n level.Factor ts e rest = Read most n level.Factor ts e rest
Goal most n level.Primary ts e rest = Read most n level.Primary ts e rest

-- how far what stands behind may reach for it
abbrev pub most_reach : Level → ℕ
most_reach level.Disjunction = 1
most_reach level.Conjunction = 2
most_reach level.Negation = 2
most_reach level.Predicate = 3
most_reach level.Sum = 5
most_reach level.Term = 6
most_reach level.Factor = 6
most_reach level.Primary = 7

-- operators end where none is ahead
more_ends : (steps most : ℕ) (l : Level) (operand : Reader) (a : Parsed) (rest : List Terminal) → length rest < steps → first_is (operator_of l) rest ≡ None → more_of steps most l operand a rest ≡ Ok (a, rest)
more_ends zero most l operand a rest h e = absurd (omega arith)
more_ends (suc m) most l operand a rest h e = rw e refl

chain_ends : (most n : ℕ) (l : Level) (ts : List Terminal) (e : Expr) (rest : List Terminal) → reach_of rest ≤ rank l → Chained most n l ts e rest → Read most n l ts e rest
chain_ends most n l ts e rest h c = c.reads ∙ more_ends c.steps most l (rule_at most n (next l)) (whole e) rest c.enough (ends_chain l rest h)

pub full : (most n : ℕ) (l : Level) (ts : List Terminal) (e : Expr) (rest : List Terminal) → reach_of rest ≤ rank l → Goal most n l ts e rest → Read most n l ts e rest
full most n level.Disjunction ts e rest h g = chain_ends most n level.Disjunction ts e rest h g
full most n level.Conjunction ts e rest h g = chain_ends most n level.Conjunction ts e rest h g
full most n level.Negation ts e rest h g = g
full most n level.Predicate ts e rest h g = g
full most n level.Sum ts e rest h g = chain_ends most n level.Sum ts e rest h g
full most n level.Term ts e rest h g = chain_ends most n level.Term ts e rest h g
full most n level.Factor ts e rest h g = g
full most n level.Primary ts e rest h g = g

-- ---- nodes

node_is : (most k : ℕ) (e : Expr) → depth e ≡ suc k → depth e ≤ most → node most k e ≡ Ok (whole e)
node_is most k e is h =
    let below : k < most = omega arith in
    let same : k + 1 ≡ depth e = omega arith in
    rw (lt-ltb k most below) (ap (λ d. Ok (record { expr = e; depth = d })) same)

pub two_deep : (a b : ℕ) → deepest (a ∷ b ∷ []) ≡ max a b
two_deep a b = omega arith

-- ---- operators

more_step : (m most : ℕ) (l : Level) (operand : Reader) (a b c : Parsed) (o : Operator) (t : Terminal) (us rest : List Terminal)
    → operator_of l t ≡ Some o → operand us ≡ Ok (b, rest) → node most (max a.depth b.depth) (node_of o a.expr b.expr) ≡ Ok c
    → more_of (suc m) most l operand a (t ∷ us) ≡ more_of m most l operand c rest
more_step m most l operand a b c o t us rest is reads made = rw (is, reads, made) refl

chain_step : (most n : ℕ) (l : Level) (o : Operator) (ts us rest : List Terminal) (a b : Expr) → operator_of l (token_of o) ≡ Some o
    → Chained most n l ts a (token_of o ∷ us ++ rest) → Read most n (next l) us b rest → depth (node_of o a b) ≤ most
    → Chained most n l (ts ++ token_of o ∷ us) (node_of o a b) rest
chain_step most n l o ts us rest a b is c reads h = step c.steps c.enough c.reads
  where
    step : (steps : ℕ) → length (token_of o ∷ us ++ rest) < steps
        → rule_at most n l (ts ++ (token_of o ∷ us ++ rest)) ≡ more_of steps most l (rule_at most n (next l)) (whole a) (token_of o ∷ us ++ rest)
        → Chained most n l (ts ++ token_of o ∷ us) (node_of o a b) rest
    step zero enough first = absurd (omega arith)
    step (suc m) enough first =
        let made : node most (max (depth a) (depth b)) (node_of o a b) ≡ Ok (whole (node_of o a b)) = node_is most (max (depth a) (depth b)) (node_of o a b) (depth_node o a b ∙ ap suc (two_deep (depth a) (depth b))) h in
        let len : length (us ++ rest) ≡ length us + length rest = length-append us rest in
        let fewer : length rest < m = omega arith in
        record {
          steps = m;
          enough = fewer;
          reads = ap (rule_at most n l) (append_assoc ts (token_of o ∷ us) rest) ∙ first
              ∙ more_step m most l (rule_at most n (next l)) (whole a) (whole b) (whole (node_of o a b)) o (token_of o) (us ++ rest) rest is reads made;
        }

joined_goal : (most n : ℕ) (o : Operator) (ts us rest : List Terminal) (a b : Expr)
    → Goal most n (level_of o) ts a (token_of o ∷ us ++ rest) → Read most n (next (level_of o)) us b rest → depth (node_of o a b) ≤ most
    → Goal most n (level_of o) (ts ++ token_of o ∷ us) (node_of o a b) rest
joined_goal most n operator.Or ts us rest a b c reads h = chain_step most n level.Disjunction operator.Or ts us rest a b refl c reads h
joined_goal most n operator.And ts us rest a b c reads h = chain_step most n level.Conjunction operator.And ts us rest a b refl c reads h
joined_goal most n (operator.Reckon arithmetic.Add) ts us rest a b c reads h = chain_step most n level.Sum (operator.Reckon arithmetic.Add) ts us rest a b refl c reads h
joined_goal most n (operator.Reckon arithmetic.Subtract) ts us rest a b c reads h = chain_step most n level.Sum (operator.Reckon arithmetic.Subtract) ts us rest a b refl c reads h
joined_goal most n (operator.Reckon arithmetic.Multiply) ts us rest a b c reads h = chain_step most n level.Term (operator.Reckon arithmetic.Multiply) ts us rest a b refl c reads h
joined_goal most n (operator.Reckon arithmetic.Divide) ts us rest a b c reads h = chain_step most n level.Term (operator.Reckon arithmetic.Divide) ts us rest a b refl c reads h

-- behind an operator's left operand it reaches no further than its rule takes, nor does what stands behind the right one
left_reach : (o : Operator) (us : List Terminal) → reach_of (token_of o ∷ us) ≤ most_reach (level_of o)
left_reach operator.Or us = omega arith
left_reach operator.And us = omega arith
left_reach (operator.Reckon arithmetic.Add) us = omega arith
left_reach (operator.Reckon arithmetic.Subtract) us = omega arith
left_reach (operator.Reckon arithmetic.Multiply) us = omega arith
left_reach (operator.Reckon arithmetic.Divide) us = omega arith

right_reach : (o : Operator) (n : ℕ) → n ≤ most_reach (level_of o) → (n ≤ rank (next (level_of o))) × (n ≤ most_reach (next (level_of o)))
right_reach operator.Or n h = (omega arith, omega arith)
right_reach operator.And n h = (omega arith, omega arith)
right_reach (operator.Reckon arithmetic.Add) n h = (omega arith, omega arith)
right_reach (operator.Reckon arithmetic.Subtract) n h = (omega arith, omega arith)
right_reach (operator.Reckon arithmetic.Multiply) n h = (omega arith, omega arith)
right_reach (operator.Reckon arithmetic.Divide) n h = (omega arith, omega arith)

-- ---- what an expression begins with

-- one more than the rank of the strongest rule that begins with the token, or 0
abbrev pub opens : Terminal → ℕ
opens (terminal.keyword keyword.Not) = 3
opens (terminal.keyword keyword.Count) = 8
opens (terminal.keyword keyword.Sum) = 8
opens (terminal.keyword keyword.Min) = 8
opens (terminal.keyword keyword.Max) = 8
opens (terminal.keyword keyword.Avg) = 8
opens (terminal.keyword keyword.Coalesce) = 8
opens (terminal.keyword keyword.Case) = 8
opens (terminal.sign_is sign.Minus) = 7
opens (terminal.sign_is sign.Open) = 8
opens (terminal.integer n) = 7
opens (terminal.name n) = 8
opens (terminal.text t) = 8
opens _ = 0

pub record Begins (l : Level) (ts : List Terminal) : Type 0 where
  pub first : Terminal
  pub others : List Terminal
  pub are : ts ≡ first ∷ others
  pub opened : rank l < opens first

rank_next : (l : Level) → rank l ≤ rank (next l)
rank_next level.Disjunction = omega arith
rank_next level.Conjunction = omega arith
rank_next level.Negation = omega arith
rank_next level.Predicate = omega arith
rank_next level.Sum = omega arith
rank_next level.Term = omega arith
rank_next level.Factor = omega arith
rank_next level.Primary = omega arith

weaker : (l : Level) (ts : List Terminal) → Begins (next l) ts → Begins l ts
weaker l ts b = let lower_rank : rank l ≤ rank (next l) = rank_next l in let o : rank (next l) < opens b.first = b.opened in record { first = b.first; others = b.others; are = b.are; opened = omega arith }

with_more : (l : Level) (ts us : List Terminal) → Begins l ts → Begins l (ts ++ us)
with_more l ts us b = record { first = b.first; others = b.others ++ us; are = ap (λ (x : List Terminal). x ++ us) b.are; opened = b.opened }

begins_with : (l : Level) (t : Terminal) (ts : List Terminal) → rank l < opens t → Begins l (t ∷ ts)
begins_with l t ts h = record { first = t; others = ts; are = refl; opened = h }

aggregate_opens : (k : Aggregate) → 7 < opens (word (aggregate_word k))
aggregate_opens aggregate.Count = omega arith
aggregate_opens aggregate.CountDistinct = omega arith
aggregate_opens aggregate.Sum = omega arith
aggregate_opens aggregate.SumDistinct = omega arith
aggregate_opens aggregate.Min = omega arith
aggregate_opens aggregate.Max = omega arith
aggregate_opens aggregate.Average = omega arith

sum_weaker : (ts : List Terminal) → Begins level.Sum ts → Begins level.Predicate ts
sum_weaker ts b = weaker level.Predicate ts b

pub begins : {l : Level} {ts : List Terminal} {e : Expr} → Spells l ts e → Begins l ts
begins (as_next {l = l} {ts = ts} d) = weaker l ts (begins d)
begins (joined o {ts = ts} {us = us} d d') = with_more (level_of o) ts (token_of o ∷ us) (begins d)
begins (negated d) = begins_with level.Negation _ _ (omega arith)
begins (tested {ts = ts} {us = us} d t) = with_more level.Predicate ts us (sum_weaker ts (begins d))
begins (minus h d) = begins_with level.Factor _ _ (omega arith)
begins (integer n h) = begins_with level.Factor _ _ (omega arith)
begins (negative n h) = begins_with level.Factor _ _ (omega arith)
begins (text t) = begins_with level.Primary _ _ (omega arith)
begins (column n) = begins_with level.Primary _ _ (omega arith)
begins (column_of t n) = begins_with level.Primary _ _ (omega arith)
begins rows = begins_with level.Primary _ _ (omega arith)
begins (aggregated k d) = begins_with level.Primary _ _ (aggregate_opens k)
begins (first_of ds) = begins_with level.Primary _ _ (omega arith)
begins (chosen ds d) = begins_with level.Primary _ _ (omega arith)
begins (in_brackets d) = begins_with level.Primary _ _ (omega arith)

no_first : (k : Keyword) (l : Level) (ts : List Terminal) → Begins l ts → opens (word k) ≤ rank l → behind (is_keyword k) ts ≡ None
no_first k l ts b h =
    let o : rank l < opens b.first = b.opened in
    ap (behind (is_keyword k)) b.are ∙ ap (λ x. cond x (Some b.others) None) (not_keyword k b.first (λ e. let same : opens b.first ≡ opens (word k) = ap opens e in omega arith))

no_first_sign : (s : Sign) (l : Level) (ts : List Terminal) → Begins l ts → opens (mark s) ≤ rank l → behind (is_sign s) ts ≡ None
no_first_sign s l ts b h =
    let o : rank l < opens b.first = b.opened in
    ap (behind (is_sign s)) b.are ∙ ap (λ x. cond x (Some b.others) None) (not_sign s b.first (λ e. let same : opens b.first ≡ opens (mark s) = ap opens e in omega arith))

-- ---- behind what opens it

inside : (most n : ℕ) (l : Level) (ts : List Terminal) (e : Expr) (rest : List Terminal) (k : ℕ) → suc k ≤ n → ((m : ℕ) → k ≤ m → Read most m l ts e rest) → inner_at most n l (ts ++ rest) ≡ Ok (whole e, rest)
unfolding inner_at
inside most zero l ts e rest k h reads = absurd (omega arith)
inside most (suc m) l ts e rest k h reads = reads m (omega arith)

-- ---- what a rule takes from the next one

chain_start : (most : ℕ) (l : Level) (operand : Reader) (ts : List Terminal) (a : Parsed) (rest : List Terminal) → operand ts ≡ Ok (a, rest) → rule.chain_of most l operand ts ≡ more_of (suc (length rest)) most l operand a rest
chain_start most l operand ts a rest reads = rw reads refl

plain_negation : (most n : ℕ) (ts : List Terminal) (r : Result (Parsed × List Terminal) Stop) → behind (is_keyword keyword.Not) ts ≡ None → rule_at most n level.Predicate ts ≡ r → rule_at most n level.Negation ts ≡ r
plain_negation most n ts r none reads = rw none reads

no_tests : (most left : ℕ) (inner : Level → Reader) (a : Parsed) (rest : List Terminal) → reach_of rest ≤ 3 → rule.test_of most left inner a rest ≡ Ok (a, rest)
no_tests most left inner a rest h = rw (no_comparison rest h, no_keyword keyword.Is rest (omega arith), no_keyword keyword.Not rest (omega arith), no_test rest h) refl

tested_by : (most n : ℕ) (ts : List Terminal) (a e : Expr) (us rest : List Terminal) → rule_at most n level.Sum ts ≡ Ok (whole a, us) → rule.test_of most n (inner_at most n) (whole a) us ≡ Ok (whole e, rest) → rule_at most n level.Predicate ts ≡ Ok (whole e, rest)
tested_by most n ts a e us rest reads test = rw reads test

factor_primary : (most left : ℕ) (inner : Level → Reader) (t : Terminal) (us : List Terminal) → 7 < opens t → rule.factor_of most left inner (t ∷ us) ≡ rule.primary_of most left inner (t ∷ us)
factor_primary most left inner (terminal.keyword k) us h = refl
factor_primary most left inner (terminal.name n) us h = refl
factor_primary most left inner (terminal.integer n) us h = absurd (omega arith)
factor_primary most left inner (terminal.text n) us h = refl
factor_primary most left inner (terminal.sign_is sign.Open) us h = refl
factor_primary most left inner (terminal.sign_is sign.Close) us h = refl
factor_primary most left inner (terminal.sign_is sign.Comma) us h = refl
factor_primary most left inner (terminal.sign_is sign.Dot) us h = refl
factor_primary most left inner (terminal.sign_is sign.Semicolon) us h = refl
factor_primary most left inner (terminal.sign_is sign.Plus) us h = refl
factor_primary most left inner (terminal.sign_is sign.Minus) us h = absurd (omega arith)
factor_primary most left inner (terminal.sign_is sign.Star) us h = refl
factor_primary most left inner (terminal.sign_is sign.Slash) us h = refl
factor_primary most left inner (terminal.sign_is sign.Equal) us h = refl
factor_primary most left inner (terminal.sign_is sign.NotEqual) us h = refl
factor_primary most left inner (terminal.sign_is sign.Less) us h = refl
factor_primary most left inner (terminal.sign_is sign.AtMost) us h = refl
factor_primary most left inner (terminal.sign_is sign.Greater) us h = refl
factor_primary most left inner (terminal.sign_is sign.AtLeast) us h = refl
factor_primary most left inner (terminal.left_out n) us h = refl
factor_primary most left inner terminal.out_of_range us h = refl
factor_primary most left inner terminal.not_closed us h = refl
factor_primary most left inner terminal.unknown us h = refl

factor_begins : (most n : ℕ) (ts : List Terminal) → Begins level.Primary ts → rule_at most n level.Factor ts ≡ rule_at most n level.Primary ts
factor_begins most n ts b = subst (λ (x : List Terminal). rule_at most n level.Factor x ≡ rule_at most n level.Primary x) (sym b.are) (factor_primary most n (inner_at most n) b.first b.others b.opened)

started : (most n : ℕ) (l : Level) (ts : List Terminal) (e : Expr) (rest : List Terminal) → rule_at most n l (ts ++ rest) ≡ more_of (suc (length rest)) most l (rule_at most n (next l)) (whole e) rest → Chained most n l ts e rest
started most n l ts e rest reads = record { steps = suc (length rest); enough = omega arith; reads = reads }

next_goal : (most n : ℕ) (l : Level) (ts : List Terminal) (e : Expr) (rest : List Terminal) → Begins (next l) ts → reach_of rest ≤ most_reach l → Goal most n (next l) ts e rest → Goal most n l ts e rest
next_goal most n level.Disjunction ts e rest b r g = started most n level.Disjunction ts e rest (chain_start most level.Disjunction (rule_at most n level.Conjunction) (ts ++ rest) (whole e) rest (full most n level.Conjunction ts e rest (omega arith) g))
next_goal most n level.Conjunction ts e rest b r g = started most n level.Conjunction ts e rest (chain_start most level.Conjunction (rule_at most n level.Negation) (ts ++ rest) (whole e) rest (full most n level.Negation ts e rest (omega arith) g))
next_goal most n level.Negation ts e rest b r g = plain_negation most n (ts ++ rest) (Ok (whole e, rest)) (no_first keyword.Not level.Predicate (ts ++ rest) (with_more level.Predicate ts rest b) (omega arith)) g
next_goal most n level.Predicate ts e rest b r g = tested_by most n (ts ++ rest) e e rest rest (full most n level.Sum ts e rest (omega arith) g) (no_tests most n (inner_at most n) (whole e) rest r)
next_goal most n level.Sum ts e rest b r g = started most n level.Sum ts e rest (chain_start most level.Sum (rule_at most n level.Term) (ts ++ rest) (whole e) rest (full most n level.Term ts e rest (omega arith) g))
next_goal most n level.Term ts e rest b r g = started most n level.Term ts e rest (chain_start most level.Term (rule_at most n level.Factor) (ts ++ rest) (whole e) rest (full most n level.Factor ts e rest (omega arith) g))
next_goal most n level.Factor ts e rest b r g = factor_begins most n (ts ++ rest) (with_more level.Primary ts rest b) ∙ g
next_goal most n level.Primary ts e rest b r g = g

next_reach : (l : Level) (k : ℕ) → k ≤ most_reach l → k ≤ most_reach (next l)
next_reach level.Disjunction k h = omega arith
next_reach level.Conjunction k h = omega arith
next_reach level.Negation k h = omega arith
next_reach level.Predicate k h = omega arith
next_reach level.Sum k h = omega arith
next_reach level.Term k h = omega arith
next_reach level.Factor k h = omega arith
next_reach level.Primary k h = omega arith

-- ---- nodes behind their tokens

not_reads : (most n : ℕ) (ts : List Terminal) (e : Expr) (rest : List Terminal) → inner_at most n level.Negation (ts ++ rest) ≡ Ok (whole e, rest) → depth (expr.Not e) ≤ most → Read most n level.Negation (word keyword.Not ∷ ts) (expr.Not e) rest
not_reads most n ts e rest reads h = rw (reads, node_is most (depth e) (expr.Not e) (depth_not e) h) refl

no_digits : (ts rest : List Terminal) → Begins level.Factor ts → heads_integer ts ≡ false → first_is rule.digits_of (ts ++ rest) ≡ None
no_digits ts rest b h = subst (λ (x : List Terminal). first_is rule.digits_of (x ++ rest) ≡ None) (sym b.are) (other b.first b.others (ap heads_integer (sym b.are) ∙ h))
  where
    other : (t : Terminal) (us : List Terminal) → heads_integer (t ∷ us) ≡ false → first_is rule.digits_of (t ∷ (us ++ rest)) ≡ None
    other (terminal.keyword k) us h = refl
    other (terminal.name n) us h = refl
    other (terminal.integer n) us h = absurd cc
    other (terminal.text n) us h = refl
    other (terminal.sign_is s) us h = refl
    other (terminal.left_out n) us h = refl
    other terminal.out_of_range us h = refl
    other terminal.not_closed us h = refl
    other terminal.unknown us h = refl

minus_reads : (most n : ℕ) (ts : List Terminal) (e : Expr) (rest : List Terminal) → first_is rule.digits_of (ts ++ rest) ≡ None → inner_at most n level.Factor (ts ++ rest) ≡ Ok (whole e, rest) → depth (expr.Minus e) ≤ most
    → Read most n level.Factor (mark sign.Minus ∷ ts) (expr.Minus e) rest
minus_reads most n ts e rest none reads h = rw (none, reads, node_is most (depth e) (expr.Minus e) (depth_minus e) h) refl

leaf_is : (e : Expr) → depth e ≡ 1 → rule.leaf e ≡ whole e
leaf_is e h = ap (λ d. record { expr = e; depth = d }) (sym h)

integer_reads : (most n k : ℕ) (rest : List Terminal) → k ≤ 9223372036854775807 → Read most n level.Factor (terminal.integer k ∷ []) (expr.Integer (pos k)) rest
integer_reads most n k rest h =
    let one : depth (expr.Integer (pos k)) ≡ 1 = search (rules, the_lemmas) in
    rw (le-leb k 9223372036854775807 h) (ap (λ p. Ok (p, rest)) (leaf_is (expr.Integer (pos k)) one))

negative_reads : (most n k : ℕ) (rest : List Terminal) → k ≤ 9223372036854775808 → Read most n level.Factor (mark sign.Minus ∷ terminal.integer k ∷ []) (expr.Integer (below_zero k)) rest
negative_reads most n k rest h =
    let one : depth (expr.Integer (below_zero k)) ≡ 1 = search (rules, the_lemmas) in
    rw (le-leb k 9223372036854775808 h) (ap (λ p. Ok (p, rest)) (leaf_is (expr.Integer (below_zero k)) one))

text_reads : (most n : ℕ) (t : List ℕ) (rest : List Terminal) → Read most n level.Primary (terminal.text t ∷ []) (expr.Text (undoubled t)) rest
text_reads most n t rest =
    let one : depth (expr.Text (undoubled t)) ≡ 1 = search (rules, the_lemmas) in
    ap (λ p. Ok (p, rest)) (leaf_is (expr.Text (undoubled t)) one)

column_reads : (most n : ℕ) (m : List ℕ) (rest : List Terminal) → reach_of rest ≤ 7 → Read most n level.Primary (terminal.name m ∷ []) (expr.Column None (lower m)) rest
column_reads most n m rest h =
    let one : depth (expr.Column None (lower m)) ≡ 1 = search (rules, the_lemmas) in
    rw (no_dot rest h) (ap (λ p. Ok (p, rest)) (leaf_is (expr.Column None (lower m)) one))
  where
    no_dot : (us : List Terminal) → reach_of us ≤ 7 → behind (is_sign sign.Dot) us ≡ None
    no_dot [] h = refl
    no_dot (t ∷ us) h = ap (λ b. cond b (Some us) None) (not_sign sign.Dot t (λ e. let same : reach t ≡ 8 = ap reach e in omega arith))

column_of_reads : (most n : ℕ) (t m : List ℕ) (rest : List Terminal) → Read most n level.Primary (terminal.name t ∷ mark sign.Dot ∷ terminal.name m ∷ []) (expr.Column (Some (lower t)) (lower m)) rest
column_of_reads most n t m rest =
    let one : depth (expr.Column (Some (lower t)) (lower m)) ≡ 1 = search (rules, the_lemmas) in
    ap (λ p. Ok (p, rest)) (leaf_is (expr.Column (Some (lower t)) (lower m)) one)

rows_reads : (most n : ℕ) (rest : List Terminal) → 1 ≤ n → Read most n level.Primary (word keyword.Count ∷ bracketed (mark sign.Star ∷ [])) expr.CountRows rest
rows_reads most n rest h =
    let one : depth expr.CountRows ≡ 1 = search (rules, the_lemmas) in
    rw (lt-ltb 0 n h) (ap (λ p. Ok (p, rest)) (leaf_is expr.CountRows one))

-- ---- brackets

-- an expression and what closes it
closed_reads : (most n : ℕ) (ts : List Terminal) (e : Expr) (rest : List Terminal) → inner_at most n level.Disjunction (ts ++ mark sign.Close ∷ rest) ≡ Ok (whole e, mark sign.Close ∷ rest)
    → rule.before_of (is_sign sign.Close) (inner_at most n) ((ts ++ mark sign.Close ∷ []) ++ rest) ≡ Ok (whole e, rest)
closed_reads most n ts e rest reads = ap (rule.before_of (is_sign sign.Close) (inner_at most n)) (append_assoc ts (mark sign.Close ∷ []) rest) ∙ (rw reads refl)

-- an aggregate is read where its argument is
argument_first : (most left : ℕ) (inner : Level → Reader) (k : Aggregate) (us : List Terminal) (x : Result (Parsed × List Terminal) Stop) → behind (is_sign sign.Star) us ≡ None → behind (is_keyword keyword.Distinct) us ≡ None
    → rule.argument_of most left inner k us ≡ x → rule.primary_of most left inner (word (aggregate_word k) ∷ mark sign.Open ∷ distinct_if (is_distinct k) ++ us) ≡ x
argument_first most left inner aggregate.Count us x star distinct reads = rw (star, distinct) reads
argument_first most left inner aggregate.CountDistinct us x star distinct reads = reads
argument_first most left inner aggregate.Sum us x star distinct reads = rw distinct reads
argument_first most left inner aggregate.SumDistinct us x star distinct reads = reads
argument_first most left inner aggregate.Min us x star distinct reads = reads
argument_first most left inner aggregate.Max us x star distinct reads = reads
argument_first most left inner aggregate.Average us x star distinct reads = reads

distinct_parts : (distinct : Bool) (ts rest : List Terminal) → ((distinct_if distinct ++ ts) ++ mark sign.Close ∷ []) ++ rest ≡ distinct_if distinct ++ ((ts ++ mark sign.Close ∷ []) ++ rest)
distinct_parts true ts rest = refl
distinct_parts false ts rest = refl

aggregate_reads : (most n : ℕ) (k : Aggregate) (ts : List Terminal) (e : Expr) (rest : List Terminal) → Begins level.Disjunction ts → inner_at most n level.Disjunction (ts ++ mark sign.Close ∷ rest) ≡ Ok (whole e, mark sign.Close ∷ rest)
    → depth (expr.Aggregate k e) ≤ most → Read most n level.Primary (word (aggregate_word k) ∷ bracketed (distinct_if (is_distinct k) ++ ts)) (expr.Aggregate k e) rest
aggregate_reads most n k ts e rest b reads h =
    let us : List Terminal = (ts ++ mark sign.Close ∷ []) ++ rest in
    let front : Begins level.Disjunction us = with_more level.Disjunction (ts ++ mark sign.Close ∷ []) rest (with_more level.Disjunction ts (mark sign.Close ∷ []) b) in
    let star : behind (is_sign sign.Star) us ≡ None = no_first_sign sign.Star level.Disjunction us front (omega arith) in
    let distinct : behind (is_keyword keyword.Distinct) us ≡ None = no_first keyword.Distinct level.Disjunction us front (omega arith) in
    let closed : rule.before_of (is_sign sign.Close) (inner_at most n) us ≡ Ok (whole e, rest) = closed_reads most n ts e rest reads in
    let made : node most (depth e) (expr.Aggregate k e) ≡ Ok (whole (expr.Aggregate k e)) = node_is most (depth e) (expr.Aggregate k e) (depth_aggregate k e) h in
    ap (λ (v : List Terminal). rule.primary_of most n (inner_at most n) (word (aggregate_word k) ∷ mark sign.Open ∷ v)) (distinct_parts (is_distinct k) ts rest)
    ∙ argument_first most n (inner_at most n) k us _ star distinct (argument_made most n k us e rest closed made)
  where
    argument_made : (most n : ℕ) (k : Aggregate) (us : List Terminal) (e : Expr) (rest : List Terminal) → rule.before_of (is_sign sign.Close) (inner_at most n) us ≡ Ok (whole e, rest)
        → node most (depth e) (expr.Aggregate k e) ≡ Ok (whole (expr.Aggregate k e)) → rule.argument_of most n (inner_at most n) k us ≡ Ok (whole (expr.Aggregate k e), rest)
    argument_made most n k us e rest closed made = rw (closed, made) refl

-- ---- tests behind a subject

abbrev Tested : ℕ → ℕ → Expr → List Terminal → Expr → List Terminal → Type 0
Tested most n a us e rest = rule.test_of most n (inner_at most n) (whole a) (us ++ rest) ≡ Ok (whole e, rest)

comparison_is : (op : ComparisonOperator) → comparison_of (mark (compares op)) ≡ Some op
comparison_is comparison.Equal = refl
comparison_is comparison.NotEqual = refl
comparison_is comparison.Less = refl
comparison_is comparison.LessOrEqual = refl
comparison_is comparison.Greater = refl
comparison_is comparison.GreaterOrEqual = refl

compare_reads : (most n : ℕ) (op : ComparisonOperator) (a b : Expr) (ts rest : List Terminal) → Read most n level.Sum ts b rest → depth (expr.Compare op a b) ≤ most → Tested most n a (mark (compares op) ∷ ts) (expr.Compare op a b) rest
compare_reads most n op a b ts rest reads h =
    rw (comparison_is op, reads, node_is most (max (depth a) (depth b)) (expr.Compare op a b) (depth_compare op a b ∙ ap suc (two_deep (depth a) (depth b))) h) refl

pub three_deep : (a b c : ℕ) → deepest (a ∷ b ∷ c ∷ []) ≡ max a (max b c)
three_deep a b c = omega arith

between_reads : (most n : ℕ) (not : Bool) (a low high : Expr) (ts us rest : List Terminal) → Read most n level.Sum ts low (word keyword.And ∷ us ++ rest) → Read most n level.Sum us high rest → depth (expr.Between not a low high) ≤ most
    → rule.between_of most n (inner_at most n) (whole a) not ((ts ++ word keyword.And ∷ us) ++ rest) ≡ Ok (whole (expr.Between not a low high), rest)
between_reads most n not a low high ts us rest first second h =
    let made : node most (max (depth a) (max (depth low) (depth high))) (expr.Between not a low high) ≡ Ok (whole (expr.Between not a low high)) =
    node_is most (max (depth a) (max (depth low) (depth high))) (expr.Between not a low high) (depth_between not a low high ∙ ap suc (three_deep (depth a) (depth low) (depth high))) h in
    ap (rule.between_of most n (inner_at most n) (whole a) not) (append_assoc ts (word keyword.And ∷ us) rest) ∙ (rw (first, second, made) refl)

between_tested : (most n : ℕ) (not : Bool) (a e : Expr) (us rest : List Terminal) → rule.between_of most n (inner_at most n) (whole a) not (us ++ rest) ≡ Ok (whole e, rest) → Tested most n a (not_if not ++ word keyword.Between ∷ us) e rest
between_tested most n true a e us rest reads = reads
between_tested most n false a e us rest reads = reads

in_tested : (most n : ℕ) (not : Bool) (a e : Expr) (us rest : List Terminal) → rule.in_of most n (inner_at most n) (whole a) not (us ++ rest) ≡ Ok (whole e, rest) → Tested most n a (not_if not ++ word keyword.In ∷ us) e rest
in_tested most n true a e us rest reads = reads
in_tested most n false a e us rest reads = reads

like_reads : (most n : ℕ) (not : Bool) (a : Expr) (t : List ℕ) (rest : List Terminal) → depth (expr.Like not a (undoubled t)) ≤ most → Tested most n a (not_if not ++ word keyword.Like ∷ terminal.text t ∷ []) (expr.Like not a (undoubled t)) rest
like_reads most n true a t rest h = rw (node_is most (depth a) (expr.Like true a (undoubled t)) (depth_like true a (undoubled t)) h) refl
like_reads most n false a t rest h = rw (node_is most (depth a) (expr.Like false a (undoubled t)) (depth_like false a (undoubled t)) h) refl

null_reads : (most n : ℕ) (not : Bool) (a : Expr) (rest : List Terminal) → depth (expr.IsNull not a) ≤ most → Tested most n a (word keyword.Is ∷ not_if not ++ word keyword.Null ∷ []) (expr.IsNull not a) rest
null_reads most n true a rest h = rw (node_is most (depth a) (expr.IsNull true a) (depth_null true a) h) refl
null_reads most n false a rest h = rw (node_is most (depth a) (expr.IsNull false a) (depth_null false a) h) refl

-- what a test begins with reaches as far as a predicate takes it
test_reach : {a e : Expr} {us : List Terminal} (rest : List Terminal) → Tests a us e → reach_of (us ++ rest) ≤ 4
test_reach rest (compared op {ts = ts} d) = compare_reach op (ts ++ rest)
  where
    compare_reach : (op : ComparisonOperator) (us : List Terminal) → reach_of (mark (compares op) ∷ us) ≤ 4
    compare_reach comparison.Equal us = omega arith
    compare_reach comparison.NotEqual us = omega arith
    compare_reach comparison.Less us = omega arith
    compare_reach comparison.LessOrEqual us = omega arith
    compare_reach comparison.Greater us = omega arith
    compare_reach comparison.GreaterOrEqual us = omega arith
test_reach rest (between true d d2) = omega arith
test_reach rest (between false d d2) = omega arith
test_reach rest (among true ds) = omega arith
test_reach rest (among false ds) = omega arith
test_reach rest (like true t) = omega arith
test_reach rest (like false t) = omega arith
test_reach rest (is_null not) = omega arith

-- ---- lists

-- the first expression is read, and then the others, and what is kept of all
pub record Listing (most n : ℕ) (ts : List Terminal) (es : List Expr) (before : rule.Listed) (rest : List Terminal) : Type 0 where
  pub first : rule.Listed
  pub others : List Terminal
  pub entry : rule.entry_of (inner_at most n) before (ts ++ rest) ≡ Ok (first, others)
  pub fewer : length others ≤ length (ts ++ rest)
  pub more_read : (m : ℕ) → length others < m → rule.more_entries m (inner_at most n) first others ≡ Ok (record { exprs = before.exprs ++ es; deepest = max before.deepest (deepest (map depth es)) }, rest)

entries_end : (m : ℕ) (inner : Level → Reader) (before : rule.Listed) (rest : List Terminal) → 0 < m → behind (is_sign sign.Comma) rest ≡ None → rule.more_entries m inner before rest ≡ Ok (before, rest)
entries_end zero inner before rest h e = absurd (omega arith)
entries_end (suc m) inner before rest h e = rw e refl

last_listing : (most n : ℕ) (ts : List Terminal) (e : Expr) (before : rule.Listed) (rest : List Terminal) → inner_at most n level.Disjunction (ts ++ rest) ≡ Ok (whole e, rest) → behind (is_sign sign.Comma) rest ≡ None
    → Listing most n ts (e ∷ []) before rest
last_listing most n ts e before rest reads none =
    let len : length (ts ++ rest) ≡ length ts + length rest = length-append ts rest in
    let same : max before.deepest (depth e) ≡ max before.deepest (deepest (depth e ∷ [])) = omega arith in
    record {
      first = rule.with_entry before (whole e);
      others = rest;
      entry = rw reads refl;
      fewer = omega arith;
      more_read = λ m h. entries_end m (inner_at most n) (rule.with_entry before (whole e)) rest (omega arith) none
          ∙ ap (λ d. Ok (record { exprs = before.exprs ++ e ∷ []; deepest = d }, rest)) same;
    }

entries_go_on : (m : ℕ) (inner : Level → Reader) (before first : rule.Listed) (us others : List Terminal) (r : Result (rule.Listed × List Terminal) Stop) → rule.entry_of inner before us ≡ Ok (first, others) → rule.more_entries m inner first others ≡ r
    → rule.more_entries (suc m) inner before (mark sign.Comma ∷ us) ≡ r
entries_go_on m inner before first us others r entry more_read = rw entry more_read

more_listing : (most n : ℕ) (ts us : List Terminal) (e : Expr) (es : List Expr) (before : rule.Listed) (rest : List Terminal)
    → inner_at most n level.Disjunction (ts ++ (mark sign.Comma ∷ us ++ rest)) ≡ Ok (whole e, mark sign.Comma ∷ us ++ rest)
    → Listing most n us es (rule.with_entry before (whole e)) rest → Listing most n (ts ++ mark sign.Comma ∷ us) (e ∷ es) before rest
more_listing most n ts us e es before rest reads l =
    let len : length (ts ++ (mark sign.Comma ∷ us ++ rest)) ≡ length ts + length (mark sign.Comma ∷ us ++ rest) = length-append ts (mark sign.Comma ∷ us ++ rest) in
    let assoc : (ts ++ mark sign.Comma ∷ us) ++ rest ≡ ts ++ (mark sign.Comma ∷ us ++ rest) = append_assoc ts (mark sign.Comma ∷ us) rest in
    let same_len : length ((ts ++ mark sign.Comma ∷ us) ++ rest) ≡ length (ts ++ (mark sign.Comma ∷ us ++ rest)) = ap length assoc in
    record {
      first = rule.with_entry before (whole e);
      others = mark sign.Comma ∷ us ++ rest;
      entry = ap (rule.entry_of (inner_at most n) before) assoc ∙ (rw reads refl);
      fewer = omega arith;
      more_read = λ m h. onward m h;
    }
  where
    kept : rule.Listed
    kept = rule.with_entry before (whole e)

    same : ◌≡◌ {A = rule.Listed} (record { exprs = kept.exprs ++ es; deepest = max kept.deepest (deepest (map depth es)) }) (record { exprs = before.exprs ++ e ∷ es; deepest = max before.deepest (deepest (map depth (e ∷ es))) })
    same =
        let lists : (before.exprs ++ e ∷ []) ++ es ≡ before.exprs ++ e ∷ es = append_assoc before.exprs (e ∷ []) es in
        let deep : max (max before.deepest (depth e)) (deepest (map depth es)) ≡ max before.deepest (max (depth e) (deepest (map depth es))) = omega arith in
        λ i. record { exprs = lists i; deepest = deep i }

    onward : (m : ℕ) → length (mark sign.Comma ∷ us ++ rest) < m → rule.more_entries m (inner_at most n) (rule.with_entry before (whole e)) (mark sign.Comma ∷ us ++ rest)
        ≡ Ok (record { exprs = before.exprs ++ e ∷ es; deepest = max before.deepest (deepest (map depth (e ∷ es))) }, rest)
    onward zero h = absurd (omega arith)
    onward (suc m) h =
        let f : length l.others ≤ length (us ++ rest) = l.fewer in
        entries_go_on m (inner_at most n) (rule.with_entry before (whole e)) l.first (us ++ rest) l.others _ l.entry (l.more_read m (omega arith)) ∙ ap (λ x. Ok (x, rest)) same

-- all expressions of a list
pub list_reads : (most n : ℕ) (ts : List Terminal) (es : List Expr) (before : rule.Listed) (rest : List Terminal) → Listing most n ts es before rest
    → rule.list_at (inner_at most n) before (ts ++ rest) ≡ Ok (record { exprs = before.exprs ++ es; deepest = max before.deepest (deepest (map depth es)) }, rest)
list_reads most n ts es before rest l = rw l.entry (l.more_read (suc (length l.others)) (omega arith))

abbrev pub none_listed : rule.Listed
none_listed = record { exprs = []; deepest = 0 }

bracketed_reads : (most n : ℕ) (ts : List Terminal) (es : List Expr) (rest : List Terminal) → Listing most n ts es none_listed (mark sign.Close ∷ rest)
    → rule.bracketed_list (inner_at most n) (bracketed ts ++ rest) ≡ Ok (record { exprs = es; deepest = deepest (map depth es) }, rest)
bracketed_reads most n ts es rest l =
    let reads = list_reads most n ts es none_listed (mark sign.Close ∷ rest) l in
    let deep : max 0 (deepest (map depth es)) ≡ deepest (map depth es) = omega arith in
    ap (rule.closed_list_of (inner_at most n) none_listed) (append_assoc ts (mark sign.Close ∷ []) rest) ∙ closes (ts ++ mark sign.Close ∷ rest) (record { exprs = es; deepest = max 0 (deepest (map depth es)) }) reads
    ∙ ap (λ d. Ok (record { exprs = es; deepest = d }, rest)) deep
  where
    closes : (us : List Terminal) (x : rule.Listed) → rule.list_at (inner_at most n) none_listed us ≡ Ok (x, mark sign.Close ∷ rest) → rule.closed_list_of (inner_at most n) none_listed us ≡ Ok (x, rest)
    closes us x reads = rw reads refl

coalesce_reads : (most n : ℕ) (ts : List Terminal) (es : List Expr) (rest : List Terminal) → Listing most n ts es none_listed (mark sign.Close ∷ rest) → depth (expr.Coalesce es) ≤ most
    → Read most n level.Primary (word keyword.Coalesce ∷ bracketed ts) (expr.Coalesce es) rest
coalesce_reads most n ts es rest l h = rw (bracketed_reads most n ts es rest l, node_is most (deepest (map depth es)) (expr.Coalesce es) (depth_coalesce es) h) refl

in_reads : (most n : ℕ) (not : Bool) (a : Expr) (ts : List Terminal) (es : List Expr) (rest : List Terminal) → Listing most n ts es none_listed (mark sign.Close ∷ rest) → depth (expr.In not a es) ≤ most
    → rule.in_of most n (inner_at most n) (whole a) not (bracketed ts ++ rest) ≡ Ok (whole (expr.In not a es), rest)
in_reads most n not a ts es rest l h = rw (bracketed_reads most n ts es rest l, node_is most (max (depth a) (deepest (map depth es))) (expr.In not a es) (depth_in not a es) h) refl

-- ---- arms

-- the first arm is read behind its WHEN, and then the others, and what is kept of all
pub record Arming (most n : ℕ) (ts : List Terminal) (arms : List Arm) (before : rule.Cases) (rest : List Terminal) : Type 0 where
  pub behind_when : List Terminal
  pub starts : ts ≡ word keyword.When ∷ behind_when
  pub first : rule.Cases
  pub others : List Terminal
  pub arm : rule.arm_at (inner_at most n) before (behind_when ++ rest) ≡ Ok (first, others)
  pub fewer : length others ≤ length (behind_when ++ rest)
  pub more_read : (m : ℕ) → length others < m → rule.more_arms m (inner_at most n) first others ≡ Ok (record { arms = before.arms ++ arms; deepest = max before.deepest (deepest (map arm_depth arms)) }, rest)

arms_end : (m : ℕ) (inner : Level → Reader) (before : rule.Cases) (rest : List Terminal) → 0 < m → behind (is_keyword keyword.When) rest ≡ None → rule.more_arms m inner before rest ≡ Ok (before, rest)
arms_end zero inner before rest h e = absurd (omega arith)
arms_end (suc m) inner before rest h e = rw e refl

abbrev pub arm_of : Expr → Expr → Arm
arm_of c v = record { condition = c; value = v }

-- one arm more, with the depth of its deeper expression
abbrev kept_arm : rule.Cases → Expr → Expr → rule.Cases
kept_arm before c v = rule.with_arm before (arm_of c v, max (depth c) (depth v))

arm_reads : (most n : ℕ) (ts us : List Terminal) (c v : Expr) (before : rule.Cases) (rest : List Terminal)
    → inner_at most n level.Disjunction (ts ++ (word keyword.Then ∷ us ++ rest)) ≡ Ok (whole c, word keyword.Then ∷ us ++ rest)
    → inner_at most n level.Disjunction (us ++ rest) ≡ Ok (whole v, rest)
    → rule.arm_at (inner_at most n) before (ts ++ (word keyword.Then ∷ us ++ rest)) ≡ Ok (kept_arm before c v, rest)
arm_reads most n ts us c v before rest first second = rw (first, second) refl

last_arming : (most n : ℕ) (ts us : List Terminal) (c v : Expr) (before : rule.Cases) (rest : List Terminal)
    → inner_at most n level.Disjunction (ts ++ (word keyword.Then ∷ us ++ rest)) ≡ Ok (whole c, word keyword.Then ∷ us ++ rest)
    → inner_at most n level.Disjunction (us ++ rest) ≡ Ok (whole v, rest) → behind (is_keyword keyword.When) rest ≡ None
    → Arming most n (word keyword.When ∷ ts ++ word keyword.Then ∷ us) (arm_of c v ∷ []) before rest
last_arming most n ts us c v before rest first second none =
    let assoc : (ts ++ word keyword.Then ∷ us) ++ rest ≡ ts ++ (word keyword.Then ∷ us ++ rest) = append_assoc ts (word keyword.Then ∷ us) rest in
    let len : length ((ts ++ word keyword.Then ∷ us) ++ rest) ≡ length (ts ++ word keyword.Then ∷ us) + length rest = length-append (ts ++ word keyword.Then ∷ us) rest in
    let two : arm_depth (arm_of c v) ≡ deepest (depth c ∷ depth v ∷ []) = depth_arm c v in
    let same : max before.deepest (max (depth c) (depth v)) ≡ max before.deepest (deepest (arm_depth (arm_of c v) ∷ [])) = omega arith in
    record {
      behind_when = ts ++ word keyword.Then ∷ us;
      starts = refl;
      first = kept_arm before c v;
      others = rest;
      arm = ap (rule.arm_at (inner_at most n) before) assoc ∙ arm_reads most n ts us c v before rest first second;
      fewer = omega arith;
      more_read = λ m h. arms_end m (inner_at most n) (kept_arm before c v) rest (omega arith) none
          ∙ ap (λ d. Ok (record { arms = before.arms ++ arm_of c v ∷ []; deepest = d }, rest)) same;
    }

arms_go_on : (m : ℕ) (inner : Level → Reader) (before first : rule.Cases) (us others : List Terminal) (r : Result (rule.Cases × List Terminal) Stop) → rule.arm_at inner before us ≡ Ok (first, others) → rule.more_arms m inner first others ≡ r
    → rule.more_arms (suc m) inner before (word keyword.When ∷ us) ≡ r
arms_go_on m inner before first us others r arm more_read = rw arm more_read

more_arming : (most n : ℕ) (ts us vs : List Terminal) (c v : Expr) (arms : List Arm) (before : rule.Cases) (rest : List Terminal)
    → inner_at most n level.Disjunction (ts ++ (word keyword.Then ∷ us ++ (vs ++ rest))) ≡ Ok (whole c, word keyword.Then ∷ us ++ (vs ++ rest))
    → inner_at most n level.Disjunction (us ++ (vs ++ rest)) ≡ Ok (whole v, vs ++ rest)
    → Arming most n vs arms (kept_arm before c v) rest → Arming most n (word keyword.When ∷ ts ++ (word keyword.Then ∷ us ++ vs)) (arm_of c v ∷ arms) before rest
more_arming most n ts us vs c v arms before rest first second l =
    let inner_assoc : (us ++ vs) ++ rest ≡ us ++ (vs ++ rest) = append_assoc us vs rest in
    let assoc : (ts ++ (word keyword.Then ∷ us ++ vs)) ++ rest ≡ ts ++ (word keyword.Then ∷ us ++ (vs ++ rest)) = append_assoc ts (word keyword.Then ∷ us ++ vs) rest ∙ ap (λ (x : List Terminal). ts ++ word keyword.Then ∷ x) inner_assoc in
    let len : length (ts ++ (word keyword.Then ∷ us ++ (vs ++ rest))) ≡ length ts + length (word keyword.Then ∷ us ++ (vs ++ rest)) = length-append ts (word keyword.Then ∷ us ++ (vs ++ rest)) in
    let inner_len : length (us ++ (vs ++ rest)) ≡ length us + length (vs ++ rest) = length-append us (vs ++ rest) in
    let same_len : length ((ts ++ (word keyword.Then ∷ us ++ vs)) ++ rest) ≡ length (ts ++ (word keyword.Then ∷ us ++ (vs ++ rest))) = ap length assoc in
    record {
      behind_when = ts ++ (word keyword.Then ∷ us ++ vs);
      starts = refl;
      first = kept_arm before c v;
      others = vs ++ rest;
      arm = ap (rule.arm_at (inner_at most n) before) assoc ∙ arm_reads most n ts us c v before (vs ++ rest) first second;
      fewer = omega arith;
      more_read = λ m h. onward m h;
    }
  where
    kept : rule.Cases
    kept = kept_arm before c v

    same : ◌≡◌ {A = rule.Cases} (record { arms = kept.arms ++ arms; deepest = max kept.deepest (deepest (map arm_depth arms)) }) (record { arms = before.arms ++ arm_of c v ∷ arms; deepest = max before.deepest (deepest (map arm_depth (arm_of c v ∷ arms))) })
    same =
        let lists : (before.arms ++ arm_of c v ∷ []) ++ arms ≡ before.arms ++ arm_of c v ∷ arms = append_assoc before.arms (arm_of c v ∷ []) arms in
        let two : arm_depth (arm_of c v) ≡ deepest (depth c ∷ depth v ∷ []) = depth_arm c v in
        let deep : max (max before.deepest (max (depth c) (depth v))) (deepest (map arm_depth arms)) ≡ max before.deepest (max (arm_depth (arm_of c v)) (deepest (map arm_depth arms))) = omega arith in
        λ i. record { arms = lists i; deepest = deep i }

    onward : (m : ℕ) → length (vs ++ rest) < m → rule.more_arms m (inner_at most n) (kept_arm before c v) (vs ++ rest)
        ≡ Ok (record { arms = before.arms ++ arm_of c v ∷ arms; deepest = max before.deepest (deepest (map arm_depth (arm_of c v ∷ arms))) }, rest)
    onward zero h = absurd (omega arith)
    onward (suc m) h =
        let f : length l.others ≤ length (l.behind_when ++ rest) = l.fewer in
        let start : vs ++ rest ≡ word keyword.When ∷ l.behind_when ++ rest = ap (λ (x : List Terminal). x ++ rest) l.starts in
        let start_len : length (vs ++ rest) ≡ suc (length (l.behind_when ++ rest)) = ap length start in
        ap (rule.more_arms (suc m) (inner_at most n) (kept_arm before c v)) start
        ∙ arms_go_on m (inner_at most n) (kept_arm before c v) l.first (l.behind_when ++ rest) l.others _ l.arm (l.more_read m (omega arith)) ∙ ap (λ x. Ok (x, rest)) same

-- ---- ELSE and CASE

abbrev none_armed : rule.Cases
none_armed = record { arms = []; deepest = 0 }

-- an expression of ELSE with its depth, or none
abbrev pub whole_else : Option Expr → Option Parsed
whole_else None = None
whole_else (Some e) = Some (whole e)

-- what stands behind the arms of CASE
abbrev Elsed : ℕ → ℕ → List Terminal → Option Expr → List Terminal → Type 0
Elsed most n us o rest = rule.else_of (inner_at most n) (us ++ (word keyword.End ∷ rest)) ≡ Ok (whole_else o, rest)

else_reads : (most n : ℕ) (ts : List Terminal) (e : Expr) (rest : List Terminal) → Begins level.Disjunction ts
    → inner_at most n level.Disjunction (ts ++ (word keyword.End ∷ rest)) ≡ Ok (whole e, word keyword.End ∷ rest) → Elsed most n (word keyword.Else ∷ ts) (Some e) rest
else_reads most n ts e rest b reads =
    let none : behind (is_keyword keyword.Null) (ts ++ (word keyword.End ∷ rest)) ≡ None = no_first keyword.Null level.Disjunction (ts ++ (word keyword.End ∷ rest)) (with_more level.Disjunction ts (word keyword.End ∷ rest) b) (omega arith) in
    rw (none, reads) refl

case_made : (most : ℕ) (arms : List Arm) (o : Option Expr) → depth (expr.Case arms o) ≤ most → rule.case_node most (record { arms = arms; deepest = deepest (map arm_depth arms) }) (whole_else o) ≡ Ok (whole (expr.Case arms o))
case_made most arms None h = node_is most (deepest (map arm_depth arms)) (expr.Case arms None) (depth_case arms) h
case_made most arms (Some e) h =
    let turned : max (depth e) (deepest (map arm_depth arms)) ≡ max (deepest (map arm_depth arms)) (depth e) = omega arith in
    node_is most (max (deepest (map arm_depth arms)) (depth e)) (expr.Case arms (Some e)) (depth_else arms e ∙ ap suc turned) h

arms_read : (most n : ℕ) (ts : List Terminal) (arms : List Arm) (rest : List Terminal) (l : Arming most n ts arms none_armed rest)
    → rule.arms_at (inner_at most n) none_armed (l.behind_when ++ rest) ≡ Ok (record { arms = arms; deepest = deepest (map arm_depth arms) }, rest)
arms_read most n ts arms rest l =
    let deep : max 0 (deepest (map arm_depth arms)) ≡ deepest (map arm_depth arms) = omega arith in
    (rw l.arm (l.more_read (suc (length l.others)) (omega arith))) ∙ ap (λ d. Ok (record { arms = arms; deepest = d }, rest)) deep

case_reads : (most n : ℕ) (ts us : List Terminal) (arms : List Arm) (o : Option Expr) (rest : List Terminal) → Arming most n ts arms none_armed (us ++ (word keyword.End ∷ rest)) → Elsed most n us o rest → depth (expr.Case arms o) ≤ most
    → Read most n level.Primary (word keyword.Case ∷ ts ++ (us ++ word keyword.End ∷ [])) (expr.Case arms o) rest
case_reads most n ts us arms o rest l other h =
    let assoc : (ts ++ (us ++ word keyword.End ∷ [])) ++ rest ≡ ts ++ (us ++ (word keyword.End ∷ rest)) =
    append_assoc ts (us ++ word keyword.End ∷ []) rest ∙ ap (λ (x : List Terminal). ts ++ x) (append_assoc us (word keyword.End ∷ []) rest) in
    let start : ts ++ (us ++ (word keyword.End ∷ rest)) ≡ word keyword.When ∷ l.behind_when ++ (us ++ (word keyword.End ∷ rest)) = ap (λ (x : List Terminal). x ++ (us ++ (word keyword.End ∷ rest))) l.starts in
    ap (rule.case_of most n (inner_at most n)) (assoc ∙ start) ∙ from_when (l.behind_when ++ (us ++ (word keyword.End ∷ rest))) (arms_read most n ts arms (us ++ (word keyword.End ∷ rest)) l)
  where
    from_when : (vs : List Terminal) → rule.arms_at (inner_at most n) none_armed vs ≡ Ok (record { arms = arms; deepest = deepest (map arm_depth arms) }, us ++ (word keyword.End ∷ rest))
        → rule.case_of most n (inner_at most n) (word keyword.When ∷ vs) ≡ Ok (whole (expr.Case arms o), rest)
    from_when vs reads = rw (reads, other, case_made most arms o h) refl

-- ---- depths of parts

-- a test is deeper than its subject
subject_depth : {a e : Expr} {us : List Terminal} → Tests a us e → depth a ≤ depth e
subject_depth {a} (compared op {b = b} d) = let deep : depth (expr.Compare op a b) ≡ suc (max (depth a) (max (depth b) 0)) = depth_compare op a b in omega arith
subject_depth {a} (between not {low = low} {high = high} d d2) = let deep : depth (expr.Between not a low high) ≡ suc (max (depth a) (max (depth low) (max (depth high) 0))) = depth_between not a low high in omega arith
subject_depth {a} (among not {es = es} ds) = let deep : depth (expr.In not a es) ≡ suc (max (depth a) (deepest (map depth es))) = depth_in not a es in omega arith
subject_depth {a} (like not t) = let deep : depth (expr.Like not a (undoubled t)) ≡ suc (depth a) = depth_like not a (undoubled t) in omega arith
subject_depth {a} (is_null not) = let deep : depth (expr.IsNull not a) ≡ suc (depth a) = depth_null not a in omega arith

abbrev else_depth : Option Expr → ℕ
else_depth None = 0
else_depth (Some e) = depth e

case_depth : (arms : List Arm) (x : Option Expr) (most : ℕ) → depth (expr.Case arms x) ≤ most → max (deepest (map arm_depth arms)) (else_depth x) ≤ most
case_depth arms None most h = let deep : depth (expr.Case arms None) ≡ suc (deepest (map arm_depth arms)) = depth_case arms in omega arith
case_depth arms (Some e) most h = let deep : depth (expr.Case arms (Some e)) ≡ suc (max (depth e) (deepest (map arm_depth arms))) = depth_else arms e in omega arith

-- what stands behind the arms is no WHEN, and no rule takes it
else_reach : {us : List Terminal} {x : Option Expr} → SpellsElse us x → (rest : List Terminal) → (reach_of (us ++ (word keyword.End ∷ rest)) ≤ 0) × (behind (is_keyword keyword.When) (us ++ (word keyword.End ∷ rest)) ≡ None)
else_reach nothing rest = (omega arith, refl)
else_reach null rest = (omega arith, refl)
else_reach (otherwise d) rest = (omega arith, refl)

arms_reach : {ts : List Terminal} {arms : List Arm} → SpellsArms ts arms → (rest : List Terminal) → reach_of (ts ++ rest) ≤ 0
arms_reach (last_arm d d2) rest = omega arith
arms_reach (more_arms d d2 ds) rest = omega arith

-- ---- all rules

-- an expression behind what opens it, and before what no rule takes
pub freely : (most n : ℕ) (ts : List Terminal) (e : Expr) (rest : List Terminal) (k : ℕ) → suc k ≤ n → reach_of rest ≤ 0 → ((m : ℕ) → k ≤ m → reach_of rest ≤ 1 → Goal most m level.Disjunction ts e rest)
    → inner_at most n level.Disjunction (ts ++ rest) ≡ Ok (whole e, rest)
freely most n ts e rest k o r goal =
    let one : reach_of rest ≤ 1 = omega arith in
    inside most n level.Disjunction ts e rest k o (λ m h. full most m level.Disjunction ts e rest r (goal m h one))

mutual
  -- what a rule spells it reads
  pub complete : {l : Level} {ts : List Terminal} {e : Expr} (d : Spells l ts e) (most n : ℕ) (rest : List Terminal) → open_in d ≤ n → depth e ≤ most → reach_of rest ≤ most_reach l → Goal most n l ts e rest
  complete (as_next {l = l} {ts = ts} {e = e} d) most n rest o h r = next_goal most n l ts e rest (begins d) r (complete d most n rest o h (next_reach l (reach_of rest) r))
  complete (joined p {ts = ts} {us = us} {a = a} {b = b} d d2) most n rest o h r =
      let deep : depth (node_of p a b) ≡ suc (max (depth a) (max (depth b) 0)) = depth_node p a b in
      let both : max (open_in d) (open_in d2) ≤ n = o in
      let reaches = right_reach p (reach_of rest) r in
      joined_goal most n p ts us rest a b (complete d most n (token_of p ∷ us ++ rest) (omega arith) (omega arith) (left_reach p (us ++ rest)))
      (full most n (next (level_of p)) us b rest reaches.0 (complete d2 most n rest (omega arith) (omega arith) reaches.1)) h
  complete (negated {ts = ts} {e = e} d) most n rest o h r =
      let deep : depth (expr.Not e) ≡ suc (depth e) = depth_not e in
      let lower_depth : depth e ≤ most = omega arith in
      not_reads most n ts e rest (inside most n level.Negation ts e rest (open_in d) o (λ m k. complete d most m rest k lower_depth r)) h
  complete (tested {ts = ts} {us = us} {a = a} {e = e} d t) most n rest o h r =
      let both : max (open_in d) (open_in_test t) ≤ n = o in
      let deep : depth a ≤ depth e = subject_depth t in
      let reaches : reach_of (us ++ rest) ≤ 4 = test_reach rest t in
      ap (rule_at most n level.Predicate) (append_assoc ts us rest)
      ∙ tested_by most n (ts ++ (us ++ rest)) a e (us ++ rest) rest (full most n level.Sum ts a (us ++ rest) reaches (complete d most n (us ++ rest) (omega arith) (omega arith) (omega arith))) (complete_test t most n rest (omega arith) h r)
  complete (minus {ts = ts} {e = e} no_int d) most n rest o h r =
      let deep : depth (expr.Minus e) ≡ suc (depth e) = depth_minus e in
      let lower_depth : depth e ≤ most = omega arith in
      minus_reads most n ts e rest (no_digits ts rest (begins d) no_int) (inside most n level.Factor ts e rest (open_in d) o (λ m k. complete d most m rest k lower_depth r)) h
  complete (integer k small) most n rest o h r = integer_reads most n k rest small
  complete (negative k small) most n rest o h r = negative_reads most n k rest small
  complete (text t) most n rest o h r = text_reads most n t rest
  complete (column m) most n rest o h r = column_reads most n m rest r
  complete (column_of t m) most n rest o h r = column_of_reads most n t m rest
  complete rows most n rest o h r = rows_reads most n rest o
  complete (aggregated k {ts = ts} {e = e} d) most n rest o h r =
      let deep : depth (expr.Aggregate k e) ≡ suc (depth e) = depth_aggregate k e in
      let lower_depth : depth e ≤ most = omega arith in
      aggregate_reads most n k ts e rest (begins d) (freely most n ts e (mark sign.Close ∷ rest) (open_in d) o (omega arith) (λ m j s. complete d most m (mark sign.Close ∷ rest) j lower_depth s)) h
  complete (first_of {ts = ts} {es = es} ds) most n rest o h r =
      let deep : depth (expr.Coalesce es) ≡ suc (deepest (map depth es)) = depth_coalesce es in
      coalesce_reads most n ts es rest (complete_list ds most n none_listed (mark sign.Close ∷ rest) o (omega arith) (omega arith) refl) h
  complete (chosen {ts = ts} {us = us} {arms = arms} {otherwise = x} ds d) most n rest o h r =
      let both : suc (max (open_in_arms ds) (open_in_else d)) ≤ n = o in
      let few : max (deepest (map arm_depth arms)) (else_depth x) ≤ most = case_depth arms x most h in
      case_reads most n ts us arms x rest
      (complete_arms ds most n none_armed (us ++ (word keyword.End ∷ rest)) (omega arith) (omega arith) (else_reach d rest).0 (else_reach d rest).1)
      (complete_else d most n rest (omega arith) (omega arith)) h
  complete (in_brackets {ts = ts} {e = e} d) most n rest o h r = closed_reads most n ts e rest (freely most n ts e (mark sign.Close ∷ rest) (open_in d) o (omega arith) (λ m j s. complete d most m (mark sign.Close ∷ rest) j h s))

  complete_test : {a e : Expr} {us : List Terminal} (t : Tests a us e) (most n : ℕ) (rest : List Terminal) → open_in_test t ≤ n → depth e ≤ most → reach_of rest ≤ 3 → Tested most n a us e rest
  complete_test {a} (compared op {b = b} {ts = ts} d) most n rest o h r =
      let deep : depth (expr.Compare op a b) ≡ suc (max (depth a) (max (depth b) 0)) = depth_compare op a b in
      compare_reads most n op a b ts rest (full most n level.Sum ts b rest (omega arith) (complete d most n rest o (omega arith) (omega arith))) h
  complete_test {a} (between not {low = low} {high = high} {ts = ts} {us = us} d d2) most n rest o h r =
      let deep : depth (expr.Between not a low high) ≡ suc (max (depth a) (max (depth low) (max (depth high) 0))) = depth_between not a low high in
      let both : max (open_in d) (open_in d2) ≤ n = o in
      between_tested most n not a (expr.Between not a low high) (ts ++ word keyword.And ∷ us) rest
      (between_reads most n not a low high ts us rest (full most n level.Sum ts low (word keyword.And ∷ us ++ rest) (omega arith) (complete d most n (word keyword.And ∷ us ++ rest) (omega arith) (omega arith) (omega arith)))
      (full most n level.Sum us high rest (omega arith) (complete d2 most n rest (omega arith) (omega arith) (omega arith))) h)
  complete_test {a} (among not {ts = ts} {es = es} ds) most n rest o h r =
      let deep : depth (expr.In not a es) ≡ suc (max (depth a) (deepest (map depth es))) = depth_in not a es in
      in_tested most n not a (expr.In not a es) (bracketed ts) rest (in_reads most n not a ts es rest (complete_list ds most n none_listed (mark sign.Close ∷ rest) o (omega arith) (omega arith) refl) h)
  complete_test {a} (like not t) most n rest o h r = like_reads most n not a t rest h
  complete_test {a} (is_null not) most n rest o h r = null_reads most n not a rest h

  pub complete_list : {ts : List Terminal} {es : List Expr} (ds : SpellsList ts es) (most n : ℕ) (before : rule.Listed) (rest : List Terminal) → suc (open_in_list ds) ≤ n → deepest (map depth es) ≤ most → reach_of rest ≤ 0
      → behind (is_sign sign.Comma) rest ≡ None → Listing most n ts es before rest
  complete_list (last {ts = ts} {e = e} d) most n before rest o h r none =
      let deep : max (depth e) 0 ≤ most = h in
      let lower_depth : depth e ≤ most = omega arith in
      last_listing most n ts e before rest (freely most n ts e (rest) (open_in d) o r (λ m j s. complete d most m (rest) j lower_depth s)) none
  complete_list (more {ts = ts} {us = us} {e = e} {es = es} d ds) most n before rest o h r none =
      let both : suc (max (open_in d) (open_in_list ds)) ≤ n = o in
      let deep : max (depth e) (deepest (map depth es)) ≤ most = h in
      let first_open : suc (open_in d) ≤ n = omega arith in
      let first_depth : depth e ≤ most = omega arith in
      more_listing most n ts us e es before rest (freely most n ts e (mark sign.Comma ∷ us ++ rest) (open_in d) first_open (omega arith) (λ m j s. complete d most m (mark sign.Comma ∷ us ++ rest) j first_depth s))
      (complete_list ds most n (rule.with_entry before (whole e)) rest (omega arith) (omega arith) r none)

  complete_arms : {ts : List Terminal} {arms : List Arm} (ds : SpellsArms ts arms) (most n : ℕ) (before : rule.Cases) (rest : List Terminal) → suc (open_in_arms ds) ≤ n → deepest (map arm_depth arms) ≤ most → reach_of rest ≤ 0
      → behind (is_keyword keyword.When) rest ≡ None → Arming most n ts arms before rest
  complete_arms (last_arm {ts = ts} {us = us} {c = c} {v = v} d d2) most n before rest o h r none =
      let both : suc (max (open_in d) (open_in d2)) ≤ n = o in
      let two : arm_depth (arm_of c v) ≡ deepest (depth c ∷ depth v ∷ []) = depth_arm c v in
      let deep : max (arm_depth (arm_of c v)) 0 ≤ most = h in
      let first_open : suc (open_in d) ≤ n = omega arith in
      let second_open : suc (open_in d2) ≤ n = omega arith in
      let first_depth : depth c ≤ most = omega arith in
      let second_depth : depth v ≤ most = omega arith in
      last_arming most n ts us c v before rest (freely most n ts c (word keyword.Then ∷ us ++ rest) (open_in d) first_open (omega arith) (λ m j s. complete d most m (word keyword.Then ∷ us ++ rest) j first_depth s))
      (freely most n us v (rest) (open_in d2) second_open r (λ m j s. complete d2 most m (rest) j second_depth s)) none
  complete_arms (more_arms {ts = ts} {us = us} {vs = vs} {c = c} {v = v} {arms = arms} d d2 ds) most n before rest o h r none =
      let all : suc (max (open_in d) (max (open_in d2) (open_in_arms ds))) ≤ n = o in
      let two : arm_depth (arm_of c v) ≡ deepest (depth c ∷ depth v ∷ []) = depth_arm c v in
      let deep : max (arm_depth (arm_of c v)) (deepest (map arm_depth arms)) ≤ most = h in
      let first_open : suc (open_in d) ≤ n = omega arith in
      let second_open : suc (open_in d2) ≤ n = omega arith in
      let first_depth : depth c ≤ most = omega arith in
      let second_depth : depth v ≤ most = omega arith in
      more_arming most n ts us vs c v arms before rest (freely most n ts c (word keyword.Then ∷ us ++ (vs ++ rest)) (open_in d) first_open (omega arith) (λ m j s. complete d most m (word keyword.Then ∷ us ++ (vs ++ rest)) j first_depth s))
      (freely most n us v (vs ++ rest) (open_in d2) second_open (arms_reach ds rest) (λ m j s. complete d2 most m (vs ++ rest) j second_depth s))
      (complete_arms ds most n (kept_arm before c v) rest (omega arith) (omega arith) r none)

  complete_else : {us : List Terminal} {x : Option Expr} (d : SpellsElse us x) (most n : ℕ) (rest : List Terminal) → suc (open_in_else d) ≤ n → else_depth x ≤ most → Elsed most n us x rest
  complete_else nothing most n rest o h = refl
  complete_else null most n rest o h = refl
  complete_else (otherwise {ts = ts} {e = e} d) most n rest o h = else_reads most n ts e rest (begins d) (freely most n ts e (word keyword.End ∷ rest) (open_in d) o (omega arith) (λ m j s. complete d most m (word keyword.End ∷ rest) j h s))

-- ---- at most one tree

reads_all : {l : Level} {ts : List Terminal} {e : Expr} (d : Spells l ts e) (most n : ℕ) → open_in d ≤ n → depth e ≤ most → rule_at most n l (ts ++ []) ≡ Ok (whole e, [])
reads_all {l} {ts} {e} d most n o h = full most n l ts e [] (omega arith) (complete d most n [] o h (omega arith))

abbrev read_expr : Result (Parsed × List Terminal) Stop → Option Expr
read_expr (Err reason) = None
read_expr (Ok x) = Some x.0.expr

expr_of : (a b : Expr) → ◌≡◌ {A = Result (Parsed × List Terminal) Stop} (Ok (whole a, [])) (Ok (whole b, [])) → a ≡ b
expr_of a b e = let both : ◌≡◌ {A = Option Expr} (Some a) (Some b) = ap read_expr e in cc both

-- a list of tokens spells at most one expression
pub unique : {l : Level} {ts : List Terminal} {a b : Expr} → Spells l ts a → Spells l ts b → a ≡ b
unique {l} {ts} {a} {b} d d2 =
    let most : ℕ = max (depth a) (depth b) in
    let n : ℕ = max (open_in d) (open_in d2) in
    let first = reads_all d most n (omega arith) (omega arith) in
    let second = reads_all d2 most n (omega arith) (omega arith) in
    expr_of a b (sym first ∙ second)
