-- The same of the rules of expressions: under two limits, of which the second is no less, where reading stops doesn't depend on what
-- stands behind.
use Rattle.std.proofs.Common.{◌≡◌, ℕ, zero, suc, ◌<◌, ◌≤◌, ℤ, Bool, true, false, cond, List, [], Option, Some, None, Ok, Err, refl, sym, subst, arith}
use Rattle.std.specs.Prelude.{max, nat_lt}
use Rattle.std.proofs.lemmas.Bool.{ltb-true, lt-ltb}
use Rattle.sql_syntax.specs.declared.keyword.Keyword.{Keyword}
use Rattle.sql_syntax.specs.declared.keyword.Keyword.TheVariants as keyword
use Rattle.sql_syntax.specs.declared.token.Sign.TheVariants as sign
use Rattle.sql_syntax.specs.declared.tree.Aggregate.{Aggregate}
use Rattle.sql_syntax.specs.declared.tree.Aggregate.TheVariants as aggregate
use Rattle.meaning.specs.declared.expr.ComparisonOperator.{ComparisonOperator}
use Rattle.sql_syntax.specs.declared.tree.Arm.{Arm}
use Rattle.sql_syntax.specs.declared.tree.Expr.{Expr}
use Rattle.sql_syntax.specs.declared.tree.Expr.TheVariants as expr
use Rattle.sql_syntax.specs.Words.{lower}
use Rattle.sql_syntax.specs.Tokens as terminal
use Rattle.sql_syntax.specs.Tokens.{Terminal}
use Rattle.sql_syntax.specs.declared.strength.Level.{Level}
use Rattle.sql_syntax.specs.declared.strength.Level.TheVariants as level
use Rattle.sql_syntax.specs.Phrases.{undoubled}
use Rattle.sql_expressions.specs.declared.parsed.Parsed.{Parsed}
use Rattle.sql_expressions.specs.declared.stop.Stop.TheVariants as stop
use Rattle.sql_expressions.specs.Rules as rule
use Rattle.sql_expressions.specs.Rules.{Reader, ◌>>=◌, choose, is_keyword, is_sign, behind, stops_at, comparison_of, begins_test, node, then_left, leaf, inner_at}
use Rattle.sql_expressions.proofs.Local as local
use Rattle.sql_expressions.proofs.Local.{IsSameAhead, at_end, at_token, beyond, Local, Refines, node_refines}

-- where two lists begin alike, both begin a test, or neither
tests_alike : (ts us : List Terminal) → IsSameAhead ts us → begins_test ts ≡ begins_test us
tests_alike _ _ at_end = refl
tests_alike _ _ (at_token t ts us) = refl

case_refines : (most more : ℕ) (cs : rule.Cases) (o : Option Parsed) → most ≤ more → Refines (rule.case_node most cs o) (rule.case_node more cs o)
case_refines most more cs None h = node_refines most more cs.deepest (expr.Case cs.arms None) h
case_refines most more cs (Some v) h = node_refines most more (max cs.deepest v.depth) (expr.Case cs.arms (Some v.expr)) h

-- DISTINCT leads on, or it isn't there
distinct_is : {X : Type 0} (o : Option (List Terminal)) (k : Aggregate) (read : Aggregate × List Terminal → X) (d : X) → choose (choose o (λ (rest : List Terminal). Some (k, rest)) None) read d ≡ choose o (λ rest. read (k, rest)) d
distinct_is None k read d = refl
distinct_is (Some us) k read d = refl

module _ (f g : List Terminal) (ahead : IsSameAhead f g) (most more : ℕ) (deep : most ≤ more) where
  -- a node of so deep a part, and the tokens behind it
  pub local_node : (k : ℕ) (e : Expr) → Local Parsed f g (λ ts. then_left (node most k e) ts) (λ ts. then_left (node more k e) ts)
  local_node k e = local.local_made f g ahead (node most k e) (node more k e) (node_refines most more k e deep) (node_refines more more k e (omega arith))

  module _ (inner other : Level → Reader) (h : (l : Level) → Local Parsed f g (inner l) (other l)) where
    pub local_before : (passes : Terminal → Bool) → Local Parsed f g (rule.before_of passes inner) (rule.before_of passes other)
    local_before passes =
        local.local_bind f g ahead (inner level.Disjunction) (other level.Disjunction) _ _ (h level.Disjunction) (λ x. local.local_past f g ahead passes (λ rest. Ok (x, rest)) (λ rest. Ok (x, rest)) (local.local_done f g ahead x))

    local_entry : (before : rule.Listed) → Local rule.Listed f g (rule.entry_of inner before) (rule.entry_of other before)
    local_entry before = local.local_bind f g ahead (inner level.Disjunction) (other level.Disjunction) _ _ (h level.Disjunction) (λ x. local.local_done f g ahead (rule.with_entry before x))

    pub local_list : (before : rule.Listed) → Local rule.Listed f g (rule.list_at inner before) (rule.list_at other before)
    local_list before =
        local.local_bind f g ahead (rule.entry_of inner before) (rule.entry_of other before) _ _ (local_entry before)
        (λ x. local.local_loop f g ahead (is_sign sign.Comma) (λ n b ts. rule.more_entries n inner b ts) (λ n b ts. rule.more_entries n other b ts) (λ b ts. rule.entry_of inner b ts) (λ b ts. rule.entry_of other b ts)
        (λ b ts. refl) (λ n b ts. refl) (λ b ts. refl) (λ n b ts. refl) local_entry x)

    local_closed : (before : rule.Listed) → Local rule.Listed f g (rule.closed_list_of inner before) (rule.closed_list_of other before)
    local_closed before =
        local.local_bind f g ahead (rule.list_at inner before) (rule.list_at other before) _ _ (local_list before) (λ x. local.local_past f g ahead (is_sign sign.Close) (λ rest. Ok (x, rest)) (λ rest. Ok (x, rest)) (local.local_done f g ahead x))

    local_bracketed : Local rule.Listed f g (rule.bracketed_list inner) (rule.bracketed_list other)
    local_bracketed = local.local_past f g ahead (is_sign sign.Open) _ _ (local_closed (record { exprs = []; deepest = 0 }))

    local_then : Local Parsed f g (rule.then_of inner) (rule.then_of other)
    local_then = local.local_past f g ahead (is_keyword keyword.Then) _ _ (h level.Disjunction)

    local_arm : Local (Arm × ℕ) f g (rule.arm_of inner) (rule.arm_of other)
    local_arm =
        local.local_bind f g ahead (inner level.Disjunction) (other level.Disjunction) _ _ (h level.Disjunction)
        (λ c. local.local_bind f g ahead (rule.then_of inner) (rule.then_of other) _ _ local_then (λ v. local.local_done f g ahead (record { condition = c.expr; value = v.expr }, max c.depth v.depth)))

    local_armed : (before : rule.Cases) → Local rule.Cases f g (rule.arm_at inner before) (rule.arm_at other before)
    local_armed before = local.local_bind f g ahead (rule.arm_of inner) (rule.arm_of other) _ _ local_arm (λ x. local.local_done f g ahead (rule.with_arm before x))

    local_arms : (before : rule.Cases) → Local rule.Cases f g (rule.arms_at inner before) (rule.arms_at other before)
    local_arms before =
        local.local_bind f g ahead (rule.arm_at inner before) (rule.arm_at other before) _ _ (local_armed before)
        (λ x. local.local_loop f g ahead (is_keyword keyword.When) (λ n b ts. rule.more_arms n inner b ts) (λ n b ts. rule.more_arms n other b ts) (λ b ts. rule.arm_at inner b ts) (λ b ts. rule.arm_at other b ts)
        (λ b ts. refl) (λ n b ts. refl) (λ b ts. refl) (λ n b ts. refl) local_armed x)

    local_valueless : Local (Option Parsed) f g rule.without_value rule.without_value
    local_valueless = local.local_past f g ahead (is_keyword keyword.End) (λ rest. Ok (None, rest)) (λ rest. Ok (None, rest)) (local.local_done f g ahead None)

    local_else : Local (Option Parsed) f g (rule.else_of inner) (rule.else_of other)
    local_else =
        local.local_choose f g ahead (is_keyword keyword.Else) _ _ _ _
        (local.local_choose f g ahead (is_keyword keyword.Null) _ _ _ _ local_valueless
        (local.local_bind f g ahead (rule.before_of (is_keyword keyword.End) inner) (rule.before_of (is_keyword keyword.End) other) _ _ (local_before (is_keyword keyword.End)) (λ v. local.local_done f g ahead (Some v))))
        local_valueless

    local_case : (left left2 : ℕ) → Local Parsed f g (rule.case_of most left inner) (rule.case_of more left2 other)
    local_case left left2 =
        local.local_past f g ahead (is_keyword keyword.When) _ _
        (local.local_bind f g ahead (rule.arms_at inner (record { arms = []; deepest = 0 })) (rule.arms_at other (record { arms = []; deepest = 0 })) _ _ (local_arms (record { arms = []; deepest = 0 }))
        (λ cs. local.local_bind f g ahead (rule.else_of inner) (rule.else_of other) _ _ local_else
        (λ v. local.local_made f g ahead (rule.case_node most cs v) (rule.case_node more cs v) (case_refines most more cs v deep) (case_refines more more cs v (omega arith)))))

    local_argument : (left left2 : ℕ) (k : Aggregate) → Local Parsed f g (rule.argument_of most left inner k) (rule.argument_of more left2 other k)
    local_argument left left2 k =
        local.local_bind f g ahead (rule.before_of (is_sign sign.Close) inner) (rule.before_of (is_sign sign.Close) other) _ _ (local_before (is_sign sign.Close)) (λ a. local_node a.depth (expr.Aggregate k a.expr))

    -- so many may still be opened, where the second is no less
    counted : (b c : Bool) → (b ≡ true → c ≡ true) → Local Parsed f g (λ rest. cond b (Ok (leaf expr.CountRows, rest)) (Err stop.TooDeep)) (λ rest. cond c (Ok (leaf expr.CountRows, rest)) (Err stop.TooDeep))
    counted true c is =
        subst (λ (x : Bool). Local Parsed f g (λ rest. Ok (leaf expr.CountRows, rest)) (λ rest. cond x (Ok (leaf expr.CountRows, rest)) (Err stop.TooDeep))) (sym (is refl)) (local.local_done f g ahead (leaf expr.CountRows))
    counted false true is = record { left = λ ts. tt; right = λ ts. omega arith; agrees = λ ts us u. beyond tt }
    counted false false is = record { left = λ ts. tt; right = λ ts. tt; agrees = λ ts us u. beyond tt }

    local_rows : (left left2 : ℕ) → left ≤ left2 → Local Parsed f g (rule.rows_of left) (rule.rows_of left2)
    local_rows left left2 few =
        local.local_past f g ahead (is_sign sign.Close) _ _ (counted (nat_lt 0 left) (nat_lt 0 left2) (λ b. let some : 0 < left = ltb-true 0 left b in lt-ltb 0 left2 (omega (arith, some, few))))

    local_distinct : (left left2 : ℕ) (k d : Aggregate)
        → Local Parsed f g (λ ts. choose (choose {B = Option (Aggregate × List Terminal)} (behind (is_keyword keyword.Distinct) ts) (λ (rest : List Terminal). Some (d, rest)) None) (λ x. rule.argument_of most left inner x.0 x.1) (rule.argument_of most left inner k ts))
        (λ ts. choose (choose {B = Option (Aggregate × List Terminal)} (behind (is_keyword keyword.Distinct) ts) (λ (rest : List Terminal). Some (d, rest)) None) (λ x. rule.argument_of more left2 other x.0 x.1) (rule.argument_of more left2 other k ts))
    local_distinct left left2 k d =
        local.local_same f g ahead _ _ _ _ (λ ts. distinct_is (behind (is_keyword keyword.Distinct) ts) d (λ x. rule.argument_of most left inner x.0 x.1) (rule.argument_of most left inner k ts))
        (λ ts. distinct_is (behind (is_keyword keyword.Distinct) ts) d (λ x. rule.argument_of more left2 other x.0 x.1) (rule.argument_of more left2 other k ts))
        (local.local_choose f g ahead (is_keyword keyword.Distinct) (rule.argument_of most left inner d) (rule.argument_of more left2 other d) (rule.argument_of most left inner k) (rule.argument_of more left2 other k) (local_argument left left2 d) (local_argument left left2 k))

    local_inside : (left left2 : ℕ) (k : Aggregate) → Local Parsed f g (rule.inside_of most left inner k) (rule.inside_of more left2 other k)
    local_inside left left2 aggregate.Count = local_distinct left left2 aggregate.Count aggregate.CountDistinct
    local_inside left left2 aggregate.Sum = local_distinct left left2 aggregate.Sum aggregate.SumDistinct
    local_inside left left2 aggregate.CountDistinct = local_argument left left2 aggregate.CountDistinct
    local_inside left left2 aggregate.SumDistinct = local_argument left left2 aggregate.SumDistinct
    local_inside left left2 aggregate.Min = local_argument left left2 aggregate.Min
    local_inside left left2 aggregate.Max = local_argument left left2 aggregate.Max
    local_inside left left2 aggregate.Average = local_argument left left2 aggregate.Average

    local_star : (left left2 : ℕ) (k : Aggregate) → left ≤ left2
        → Local Parsed f g (λ us. choose (rule.behind_star k us) (rule.rows_of left) (rule.inside_of most left inner k us)) (λ us. choose (rule.behind_star k us) (rule.rows_of left2) (rule.inside_of more left2 other k us))
    local_star left left2 aggregate.Count few = local.local_choose f g ahead (is_sign sign.Star) _ _ _ _ (local_rows left left2 few) (local_inside left left2 aggregate.Count)
    local_star left left2 aggregate.CountDistinct few = local_inside left left2 aggregate.CountDistinct
    local_star left left2 aggregate.Sum few = local_inside left left2 aggregate.Sum
    local_star left left2 aggregate.SumDistinct few = local_inside left left2 aggregate.SumDistinct
    local_star left left2 aggregate.Min few = local_inside left left2 aggregate.Min
    local_star left left2 aggregate.Max few = local_inside left left2 aggregate.Max
    local_star left left2 aggregate.Average few = local_inside left left2 aggregate.Average

    local_aggregate : (left left2 : ℕ) (k : Aggregate) → left ≤ left2 → Local Parsed f g (rule.aggregate_at most left inner k) (rule.aggregate_at more left2 other k)
    local_aggregate left left2 k few = local.local_past f g ahead (is_sign sign.Open) _ _ (local_star left left2 k few)

    local_coalesce : (left left2 : ℕ) → Local Parsed f g (rule.coalesce_of most left inner) (rule.coalesce_of more left2 other)
    local_coalesce left left2 = local.local_bind f g ahead (rule.bracketed_list inner) (rule.bracketed_list other) _ _ local_bracketed (λ es. local_node es.deepest (expr.Coalesce es.exprs))

    local_column : (n : List ℕ) → Local Parsed f g (λ ts. choose (behind (is_sign sign.Dot) ts) (rule.column_of n) (Ok (leaf (expr.Column None n), ts))) (λ ts. choose (behind (is_sign sign.Dot) ts) (rule.column_of n) (Ok (leaf (expr.Column None n), ts)))
    local_column n =
        local.local_choose f g ahead (is_sign sign.Dot) (rule.column_of n) (rule.column_of n) _ _
        (local.local_bind f g ahead rule.name_at rule.name_at _ _ (local.local_name f g ahead) (λ m. local.local_done f g ahead (leaf (expr.Column (Some n) m)))) (local.local_done f g ahead (leaf (expr.Column None n)))

    -- ---- what begins with a keyword, and the strongest rules

    call_steps : (left left2 : ℕ) → left ≤ left2 → (k : Keyword) → local.Steps f g ahead Parsed (λ ts. stops_at ts) (λ ts. stops_at ts) (rule.primary_of most left inner) (rule.primary_of more left2 other) (terminal.keyword k)
    call_steps left left2 few keyword.Case = local.goes_on _ _ (local_case left left2) (λ ts. refl) (λ ts. refl)
    call_steps left left2 few keyword.Coalesce = local.goes_on _ _ (local_coalesce left left2) (λ ts. refl) (λ ts. refl)
    call_steps left left2 few keyword.Count = local.goes_on _ _ (local_aggregate left left2 aggregate.Count few) (λ ts. refl) (λ ts. refl)
    call_steps left left2 few keyword.Sum = local.goes_on _ _ (local_aggregate left left2 aggregate.Sum few) (λ ts. refl) (λ ts. refl)
    call_steps left left2 few keyword.Min = local.goes_on _ _ (local_aggregate left left2 aggregate.Min few) (λ ts. refl) (λ ts. refl)
    call_steps left left2 few keyword.Max = local.goes_on _ _ (local_aggregate left left2 aggregate.Max few) (λ ts. refl) (λ ts. refl)
    call_steps left left2 few keyword.Avg = local.goes_on _ _ (local_aggregate left left2 aggregate.Average few) (λ ts. refl) (λ ts. refl)
    call_steps left left2 few k = local.stops_there (λ ts. refl) (λ ts. refl)

    primary_steps : (left left2 : ℕ) → left ≤ left2 → (t : Terminal) → local.Steps f g ahead Parsed (λ ts. stops_at ts) (λ ts. stops_at ts) (rule.primary_of most left inner) (rule.primary_of more left2 other) t
    primary_steps left left2 few (terminal.text t) = local.goes_on (λ ts. Ok (leaf (expr.Text (undoubled t)), ts)) (λ ts. Ok (leaf (expr.Text (undoubled t)), ts)) (local.local_done f g ahead (leaf (expr.Text (undoubled t)))) (λ ts. refl) (λ ts. refl)
    primary_steps left left2 few (terminal.name n) = local.goes_on _ _ (local_column (lower n)) (λ ts. refl) (λ ts. refl)
    primary_steps left left2 few (terminal.keyword k) = call_steps left left2 few k
    primary_steps left left2 few (terminal.sign_is sign.Open) = local.goes_on _ _ (local_before (is_sign sign.Close)) (λ ts. refl) (λ ts. refl)
    primary_steps left left2 few t = local.stops_there (λ ts. refl) (λ ts. refl)

    local_primary : (left left2 : ℕ) → left ≤ left2 → Local Parsed f g (rule.primary_of most left inner) (rule.primary_of more left2 other)
    local_primary left left2 few = local.local_steps f g ahead (λ ts. stops_at ts) (λ ts. stops_at ts) (rule.primary_of most left inner) (rule.primary_of more left2 other) (local.local_stops f g ahead) refl refl (primary_steps left left2 few)

    -- a minus of an operand
    abbrev operand_at : ℕ → (Level → Reader) → Reader
    operand_at limit read ts = read level.Factor ts >>= (λ a. then_left (node limit a.0.depth (expr.Minus a.0.expr)) a.1)

    local_operand : Local Parsed f g (operand_at most inner) (operand_at more other)
    local_operand = local.local_bind f g ahead (inner level.Factor) (other level.Factor) _ _ (h level.Factor) (λ a. local_node a.depth (expr.Minus a.expr))

    digits_by : (left left2 n : ℕ) (o : Option ℤ) → rule.negative n ≡ o → local.Steps f g ahead Parsed (operand_at most inner) (operand_at more other) (rule.minus_of most left inner) (rule.minus_of more left2 other) (terminal.integer n)
    digits_by left left2 n None is = local.stops_there (λ ts. rw is refl) (λ ts. rw is refl)
    digits_by left left2 n (Some z) is = local.goes_on (λ ts. Ok (leaf (expr.Integer z), ts)) (λ ts. Ok (leaf (expr.Integer z), ts)) (local.local_done f g ahead (leaf (expr.Integer z))) (λ ts. rw is refl) (λ ts. rw is refl)

    minus_steps : (left left2 : ℕ) (t : Terminal) → local.Steps f g ahead Parsed (operand_at most inner) (operand_at more other) (rule.minus_of most left inner) (rule.minus_of more left2 other) t
    minus_steps left left2 (terminal.integer n) = digits_by left left2 n (rule.negative n) refl
    minus_steps left left2 (terminal.keyword k) = local.passes_by (λ ts. refl) (λ ts. refl)
    minus_steps left left2 (terminal.name n) = local.passes_by (λ ts. refl) (λ ts. refl)
    minus_steps left left2 (terminal.text t) = local.passes_by (λ ts. refl) (λ ts. refl)
    minus_steps left left2 (terminal.sign_is s) = local.passes_by (λ ts. refl) (λ ts. refl)
    minus_steps left left2 (terminal.left_out w) = local.passes_by (λ ts. refl) (λ ts. refl)
    minus_steps left left2 terminal.out_of_range = local.passes_by (λ ts. refl) (λ ts. refl)
    minus_steps left left2 terminal.not_closed = local.passes_by (λ ts. refl) (λ ts. refl)
    minus_steps left left2 terminal.unknown = local.passes_by (λ ts. refl) (λ ts. refl)

    local_minus : (left left2 : ℕ) → Local Parsed f g (rule.minus_of most left inner) (rule.minus_of more left2 other)
    local_minus left left2 = local.local_steps f g ahead (operand_at most inner) (operand_at more other) (rule.minus_of most left inner) (rule.minus_of more left2 other) local_operand refl refl (minus_steps left left2)

    integer_by : (left left2 n : ℕ) (o : Option ℤ) → rule.positive n ≡ o → local.Steps f g ahead Parsed (rule.primary_of most left inner) (rule.primary_of more left2 other) (rule.factor_of most left inner) (rule.factor_of more left2 other) (terminal.integer n)
    integer_by left left2 n None is = local.stops_there (λ ts. rw is refl) (λ ts. rw is refl)
    integer_by left left2 n (Some z) is = local.goes_on (λ ts. Ok (leaf (expr.Integer z), ts)) (λ ts. Ok (leaf (expr.Integer z), ts)) (local.local_done f g ahead (leaf (expr.Integer z))) (λ ts. rw is refl) (λ ts. rw is refl)

    factor_steps : (left left2 : ℕ) (t : Terminal) → local.Steps f g ahead Parsed (rule.primary_of most left inner) (rule.primary_of more left2 other) (rule.factor_of most left inner) (rule.factor_of more left2 other) t
    factor_steps left left2 (terminal.sign_is sign.Minus) = local.goes_on _ _ (local_minus left left2) (λ ts. refl) (λ ts. refl)
    factor_steps left left2 (terminal.integer n) = integer_by left left2 n (rule.positive n) refl
    factor_steps left left2 t = local.passes_by (λ ts. refl) (λ ts. refl)

    local_factor : (left left2 : ℕ) → left ≤ left2 → Local Parsed f g (rule.factor_of most left inner) (rule.factor_of more left2 other)
    local_factor left left2 few = local.local_steps f g ahead (rule.primary_of most left inner) (rule.primary_of more left2 other) (rule.factor_of most left inner) (rule.factor_of more left2 other) (local_primary left left2 few) refl refl (factor_steps left left2)

    local_term : (left left2 : ℕ) → left ≤ left2 → Local Parsed f g (rule.term_of most left inner) (rule.term_of more left2 other)
    local_term left left2 few = local.local_chain f g ahead most more level.Term (rule.factor_of most left inner) (rule.factor_of more left2 other) deep (local_factor left left2 few)

    local_sum : (left left2 : ℕ) → left ≤ left2 → Local Parsed f g (rule.sum_of most left inner) (rule.sum_of more left2 other)
    local_sum left left2 few = local.local_chain f g ahead most more level.Sum (rule.term_of most left inner) (rule.term_of more left2 other) deep (local_term left left2 few)

    -- ---- tests

    local_compare : (left left2 : ℕ) → left ≤ left2 → (a : Parsed) (op : ComparisonOperator) → Local Parsed f g (rule.compare_of most left inner a op) (rule.compare_of more left2 other a op)
    local_compare left left2 few a op = local.local_bind f g ahead (rule.sum_of most left inner) (rule.sum_of more left2 other) _ _ (local_sum left left2 few) (λ b. local_node (max a.depth b.depth) (expr.Compare op a.expr b.expr))

    local_bounds : (left left2 : ℕ) → left ≤ left2 → Local (Parsed × Parsed) f g (rule.bounds_of most left inner) (rule.bounds_of more left2 other)
    local_bounds left left2 few =
        local.local_bind f g ahead (rule.sum_of most left inner) (rule.sum_of more left2 other) _ _ (local_sum left left2 few)
        (λ low. local.local_bind f g ahead (rule.high_of most left inner) (rule.high_of more left2 other) _ _ (local.local_past f g ahead (is_keyword keyword.And) _ _ (local_sum left left2 few)) (λ high. local.local_done f g ahead (low, high)))

    local_between : (left left2 : ℕ) → left ≤ left2 → (a : Parsed) (not : Bool) → Local Parsed f g (rule.between_of most left inner a not) (rule.between_of more left2 other a not)
    local_between left left2 few a not =
        local.local_bind f g ahead (rule.bounds_of most left inner) (rule.bounds_of more left2 other) _ _ (local_bounds left left2 few) (λ b. local_node (max a.depth (max b.0.depth b.1.depth)) (expr.Between not a.expr b.0.expr b.1.expr))

    local_in : (left left2 : ℕ) (a : Parsed) (not : Bool) → Local Parsed f g (rule.in_of most left inner a not) (rule.in_of more left2 other a not)
    local_in left left2 a not = local.local_bind f g ahead (rule.bracketed_list inner) (rule.bracketed_list other) _ _ local_bracketed (λ es. local_node (max a.depth es.deepest) (expr.In not a.expr es.exprs))

    local_like : (a : Parsed) (not : Bool) → Local Parsed f g (rule.like_test most a not) (rule.like_test more a not)
    local_like a not =
        local.local_bind f g ahead rule.pattern_at rule.pattern_at _ _ (local.local_past f g ahead (is_keyword keyword.Like) rule.text_at rule.text_at (local.local_text f g ahead)) (λ t. local_node a.depth (expr.Like not a.expr t))

    local_named : (left left2 : ℕ) → left ≤ left2 → (a : Parsed) (not : Bool) → Local Parsed f g (rule.named_test most left inner a not) (rule.named_test more left2 other a not)
    local_named left left2 few a not =
        local.local_choose f g ahead (is_keyword keyword.Between) _ _ _ _ (local_between left left2 few a not) (local.local_choose f g ahead (is_keyword keyword.In) _ _ _ _ (local_in left left2 a not) (local_like a not))

    local_null : (a : Parsed) (not : Bool) → Local Parsed f g (rule.null_of most a not) (rule.null_of more a not)
    local_null a not = local.local_past f g ahead (is_keyword keyword.Null) _ _ (local_node a.depth (expr.IsNull not a.expr))

    local_is : (a : Parsed) → Local Parsed f g (rule.is_of most a) (rule.is_of more a)
    local_is a = local.local_choose f g ahead (is_keyword keyword.Not) _ _ _ _ (local_null a true) (local_null a false)

    local_test : (left left2 : ℕ) → left ≤ left2 → (a : Parsed) → Local Parsed f g (rule.test_of most left inner a) (rule.test_of more left2 other a)
    local_test left left2 few a =
        local.local_first f g ahead comparison_of _ _ _ _ (λ op. local_compare left left2 few a op)
        (local.local_choose f g ahead (is_keyword keyword.Is) _ _ _ _ (local_is a)
        (local.local_choose f g ahead (is_keyword keyword.Not) _ _ _ _ (local_named left left2 few a true)
        (local.local_if f g ahead begins_test (rule.named_test most left inner a false) (rule.named_test more left2 other a false) (λ ts. Ok (a, ts)) (λ ts. Ok (a, ts)) tests_alike (local_named left left2 few a false) (local.local_done f g ahead a))))

    -- ---- the weaker rules

    local_predicate : (left left2 : ℕ) → left ≤ left2 → Local Parsed f g (rule.predicate_of most left inner) (rule.predicate_of more left2 other)
    local_predicate left left2 few = local.local_bind f g ahead (rule.sum_of most left inner) (rule.sum_of more left2 other) _ _ (local_sum left left2 few) (λ a. local_test left left2 few a)

    local_negation : (left left2 : ℕ) → left ≤ left2 → Local Parsed f g (rule.negation_of most left inner) (rule.negation_of more left2 other)
    local_negation left left2 few =
        local.local_choose f g ahead (is_keyword keyword.Not) _ _ _ _
        (local.local_bind f g ahead (inner level.Negation) (other level.Negation) _ _ (h level.Negation) (λ a. local_node a.depth (expr.Not a.expr))) (local_predicate left left2 few)

    local_conjunction : (left left2 : ℕ) → left ≤ left2 → Local Parsed f g (rule.conjunction_of most left inner) (rule.conjunction_of more left2 other)
    local_conjunction left left2 few = local.local_chain f g ahead most more level.Conjunction (rule.negation_of most left inner) (rule.negation_of more left2 other) deep (local_negation left left2 few)

    local_rule : (left left2 : ℕ) → left ≤ left2 → (l : Level) → Local Parsed f g (rule.rule_of most left inner l) (rule.rule_of more left2 other l)
    local_rule left left2 few level.Disjunction = local.local_chain f g ahead most more level.Disjunction (rule.conjunction_of most left inner) (rule.conjunction_of more left2 other) deep (local_conjunction left left2 few)
    local_rule left left2 few level.Conjunction = local_conjunction left left2 few
    local_rule left left2 few level.Negation = local_negation left left2 few
    local_rule left left2 few level.Predicate = local_predicate left left2 few
    local_rule left left2 few level.Sum = local_sum left left2 few
    local_rule left left2 few level.Term = local_term left left2 few
    local_rule left left2 few level.Factor = local_factor left left2 few
    local_rule left left2 few level.Primary = local_primary left left2 few

inner_self : (f g : List Terminal) → IsSameAhead f g → (most n : ℕ) (l : Level) → Local Parsed f g (inner_at most n l) (inner_at most n l)
unfolding inner_at
inner_self f g ahead most zero l = record { left = λ ts. tt; right = λ ts. tt; agrees = λ ts us u. beyond tt }
inner_self f g ahead most (suc n) l = local_rule f g ahead most most (omega arith) (inner_at most n) (inner_at most n) (inner_self f g ahead most n) n n (omega arith) l

pub local_inner : (f g : List Terminal) → IsSameAhead f g → (most more : ℕ) → most ≤ more → (n m : ℕ) → n ≤ m → (l : Level) → Local Parsed f g (inner_at most n l) (inner_at more m l)
unfolding inner_at
local_inner f g ahead most more deep zero m few l = record { left = λ ts. tt; right = (inner_self f g ahead more m l).right; agrees = λ ts us u. beyond tt }
local_inner f g ahead most more deep (suc n) zero few l = absurd (omega arith)
local_inner f g ahead most more deep (suc n) (suc m) few l = local_rule f g ahead most more deep (inner_at most n) (inner_at more m) (local_inner f g ahead most more deep n m (omega arith)) n m (omega arith) l
