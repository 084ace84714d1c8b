-- What is read is spelled.
use Rattle.std.proofs.Common.{◌≡◌, ◌⊎◌, ℕ, zero, suc, ◌+◌, ◌<◌, ◌≤◌, ℤ, pos, Bool, true, false, cond, List, [], ◌∷◌, ◌++◌, length, map, Option, Some, None, Result, Ok, Err, refl, sym, ap, ◌∙◌, subst, rules, arith, append_assoc, inl, inr}
use Rattle.std.specs.Prelude.{max, nat_lt, nat_le}
use Rattle.std.proofs.lemmas.Bool.{ltb-true, leb-true}
use Rattle.sql_syntax.specs.declared.keyword.Keyword.{Keyword}
use Rattle.sql_syntax.specs.declared.keyword.Keyword.TheVariants as keyword
use Rattle.sql_syntax.specs.declared.token.Sign.{Sign}
use Rattle.sql_syntax.specs.declared.token.Sign.TheVariants as sign
use Rattle.sql_syntax.specs.declared.tree.Aggregate.{Aggregate}
use Rattle.sql_syntax.specs.declared.tree.Aggregate.TheVariants as aggregate
use Rattle.meaning.specs.declared.expr.ArithmeticOperator.TheVariants as arithmetic
use Rattle.meaning.specs.declared.expr.ComparisonOperator.{ComparisonOperator}
use Rattle.meaning.specs.declared.expr.ComparisonOperator.TheVariants as comparison
use Rattle.sql_syntax.specs.declared.tree.Arm.{Arm}
use Rattle.sql_syntax.specs.declared.tree.Expr.{Expr}
use Rattle.sql_syntax.specs.declared.tree.Expr.TheVariants as expr
use Rattle.sql_syntax.specs.declared.tree.Expr.TheFolds.{the_lemmas}
use Rattle.sql_syntax.specs.Words.{lower}
use Rattle.sql_syntax.specs.Tokens as terminal
use Rattle.sql_syntax.specs.Tokens.{Terminal}
use Rattle.sql_syntax.specs.declared.strength.Level.{Level}
use Rattle.sql_syntax.specs.declared.strength.Level.TheVariants as level
use Rattle.sql_syntax.specs.declared.strength.Operator.{Operator}
use Rattle.sql_syntax.specs.declared.strength.Operator.TheVariants as operator
use Rattle.sql_syntax.specs.Strength.{next, level_of, token_of, node_of, compares}
use Rattle.sql_syntax.specs.Phrases.{word, mark, not_if, distinct_if, bracketed, aggregate_word, is_distinct, below_zero, undoubled, heads_integer, Spells, as_next, joined, negated, tested, minus, integer, negative, text, column, column_of, rows, aggregated, first_of, chosen, in_brackets, Tests, compared, between, among, like, is_null, SpellsList, last, more, SpellsArms, last_arm, more_arms, SpellsElse, nothing, null, otherwise, open_in, open_in_test, open_in_list, open_in_arms, open_in_else}
use Rattle.sql_syntax.specs.CanonicalTokens.{depth, deepest}
use Rattle.sql_expressions.specs.declared.parsed.Parsed.{Parsed}
use Rattle.sql_expressions.specs.declared.stop.Stop.{Stop}
use Rattle.sql_expressions.specs.declared.stop.Stop.TheVariants as stop
use Rattle.sql_expressions.specs.Rules as rule
use Rattle.sql_expressions.specs.Rules.{Reader, ◌>>=◌, choose, is_keyword, is_sign, behind, past, first_is, operator_of, comparison_of, begins_test, node, then_left, more_of, inner_at, rule_at}
use Rattle.sql_expressions.proofs.Ahead.{keyword_is, sign_is}
use Rattle.sql_expressions.proofs.Complete.{depth_not, depth_minus, depth_node, depth_aggregate, depth_null, depth_like, depth_compare, depth_between, depth_in, depth_coalesce, depth_arm, depth_case, depth_else, arm_depth, arm_of, whole, whole_else, none_listed}

-- ---- steps

pub bind_ok : {A B : Type 0} (r : Result A Stop) (f : A → Result B Stop) (y : B) → (r >>= f) ≡ Ok y → (x : A) × (r ≡ Ok x) × (f x ≡ Ok y)
bind_ok (Err reason) f y e = absurd cc
bind_ok (Ok x) f y e = (x, refl, e)

pub choose_ok : {A B : Type 0} (o : Option A) (f : A → Result B Stop) (d : Result B Stop) (y : B) → choose o f d ≡ Ok y → ((x : A) × (o ≡ Some x) × (f x ≡ Ok y)) ⊎ ((o ≡ None) × (d ≡ Ok y))
choose_ok None f d y e = inr (refl, e)
choose_ok (Some x) f d y e = inl (x, refl, e)

-- what is there is seen in another way
there : {A B : Type 0} (o : Option A) (f : A → B) (y : B) → choose o (λ a. Some (f a)) None ≡ Some y → (x : A) × (o ≡ Some x) × (f x ≡ y)
there None f y e = absurd cc
there (Some x) f y e = (x, refl, cc e)

pub needed_ok : {A : Type 0} (ts : List Terminal) (o : Option A) (x : A) → rule.needed ts o ≡ Ok x → o ≡ Some x
needed_ok ts None x e = absurd cc
needed_ok ts (Some y) x e = let same : y ≡ x = cc e in ap (λ a. Some a) same

passed : (test : Bool) (ts us : List Terminal) → cond test (Some ts) None ≡ Some us → (test ≡ true) × (ts ≡ us)
passed true ts us e = (refl, cc)
passed false ts us e = absurd cc

pub word_taken : (k : Keyword) (ts us : List Terminal) → behind (is_keyword k) ts ≡ Some us → ts ≡ word k ∷ us
word_taken k [] us e = absurd cc
word_taken k (t ∷ ts) us e = let p = passed (is_keyword k t) ts us e in (λ i. keyword_is k t p.0 i ∷ p.1 i)

pub mark_taken : (s : Sign) (ts us : List Terminal) → behind (is_sign s) ts ≡ Some us → ts ≡ mark s ∷ us
mark_taken s [] us e = absurd cc
mark_taken s (t ∷ ts) us e = let p = passed (is_sign s t) ts us e in (λ i. sign_is s t p.0 i ∷ p.1 i)

pub word_past : (k : Keyword) (ts us : List Terminal) → past (is_keyword k) ts ≡ Ok us → ts ≡ word k ∷ us
word_past k ts us e = word_taken k ts us (needed_ok ts (behind (is_keyword k) ts) us e)

pub mark_past : (s : Sign) (ts us : List Terminal) → past (is_sign s) ts ≡ Ok us → ts ≡ mark s ∷ us
mark_past s ts us e = mark_taken s ts us (needed_ok ts (behind (is_sign s) ts) us e)

-- what is read where a test passes
pub allowed : {A : Type 0} (test : Bool) (reason : Stop) (a b : A) → cond test (Ok a) (Err reason) ≡ Ok b → (test ≡ true) × (a ≡ b)
allowed true reason a b e = (refl, cc e)
allowed false reason a b e = absurd cc

-- a node that isn't too deep
pub node_some : (k : ℕ) (e : Expr) (p : Parsed) → node 128 k e ≡ Ok p → (p.expr ≡ e) × (p.depth ≡ suc k) × (p.depth ≤ 128)
node_some k e p is =
    let a = bind_ok (rule.deeper 128 k) (λ d. Ok (record { expr = e; depth = d })) p is in
    let b = allowed (nat_lt k 128) stop.TooDeep (k + 1) a.0 a.1 in
    let below : k < 128 = ltb-true k 128 b.0 in
    let made : ◌≡◌ {A = Parsed} (record { expr = e; depth = a.0 }) p = cc a.2 in
    let same_expr : e ≡ p.expr = ap (λ (x : Parsed). x.expr) made in
    let same_depth : a.0 ≡ p.depth = ap (λ (x : Parsed). x.depth) made in
    let sum : k + 1 ≡ a.0 = b.1 in
    let first : p.depth ≡ suc k = omega arith in
    let second : p.depth ≤ 128 = omega arith in
    (sym same_expr, first, second)

-- ---- what was taken

-- An expression was taken from the front of the tokens by a rule, with so few open that so many more may be.
pub record Took (more_open n : ℕ) (l : Level) (ts : List Terminal) (x : Parsed × List Terminal) : Type 0 where
  pub front : List Terminal
  pub spells : Spells l front x.0.expr
  pub parts : ts ≡ front ++ x.1
  pub opens : open_in spells + more_open ≤ n
  pub deep : x.0.depth ≡ depth x.0.expr
  pub bounded : x.0.depth ≤ 128

abbrev pub IsSound : ℕ → ℕ → Level → Reader → Type 0
IsSound more_open n l read = (ts : List Terminal) (x : Parsed × List Terminal) → read ts ≡ Ok x → Took more_open n l ts x

-- ---- operators

operator_is : (l : Level) (t : Terminal) (o : Operator) → operator_of l t ≡ Some o → (level_of o ≡ l) × (t ≡ token_of o)
operator_is level.Disjunction (terminal.keyword keyword.Or) o e = let is : operator.Or ≡ o = cc e in subst (λ (x : Operator). (level_of x ≡ level.Disjunction) × (word keyword.Or ≡ token_of x)) is (refl, refl)
operator_is level.Conjunction (terminal.keyword keyword.And) o e = let is : operator.And ≡ o = cc e in subst (λ (x : Operator). (level_of x ≡ level.Conjunction) × (word keyword.And ≡ token_of x)) is (refl, refl)
operator_is level.Sum (terminal.sign_is sign.Plus) o e = let is : operator.Reckon arithmetic.Add ≡ o = cc e in subst (λ (x : Operator). (level_of x ≡ level.Sum) × (mark sign.Plus ≡ token_of x)) is (refl, refl)
operator_is level.Sum (terminal.sign_is sign.Minus) o e = let is : operator.Reckon arithmetic.Subtract ≡ o = cc e in subst (λ (x : Operator). (level_of x ≡ level.Sum) × (mark sign.Minus ≡ token_of x)) is (refl, refl)
operator_is level.Term (terminal.sign_is sign.Star) o e = let is : operator.Reckon arithmetic.Multiply ≡ o = cc e in subst (λ (x : Operator). (level_of x ≡ level.Term) × (mark sign.Star ≡ token_of x)) is (refl, refl)
operator_is level.Term (terminal.sign_is sign.Slash) o e = let is : operator.Reckon arithmetic.Divide ≡ o = cc e in subst (λ (x : Operator). (level_of x ≡ level.Term) × (mark sign.Slash ≡ token_of x)) is (refl, refl)
operator_is l t o e = absurd cc

pub first_operator : (l : Level) (us : List Terminal) (o : Operator × List Terminal) → first_is (operator_of l) us ≡ Some o → (level_of o.0 ≡ l) × (us ≡ token_of o.0 ∷ o.1)
first_operator l [] o e = absurd cc
first_operator l (t ∷ us) o e =
    let b = there (operator_of l t) (λ (a : Operator). (a, us)) o e in
    let p = operator_is l t b.0 b.1 in
    let tokens : t ∷ us ≡ token_of b.0 ∷ us = ap (λ (x : Terminal). x ∷ us) p.1 in
    subst (λ (y : Operator × List Terminal). (level_of y.0 ≡ l) × (t ∷ us ≡ token_of y.0 ∷ y.1)) b.2 (p.0, tokens)

-- ---- nodes of what was taken

-- a node over what was taken, and the tokens behind it
made : (n k : ℕ) (l : Level) (ts front rest : List Terminal) (e : Expr) (d : Spells l front e) (x : Parsed × List Terminal) → then_left (node 128 k e) rest ≡ Ok x → ts ≡ front ++ rest → open_in d ≤ n → depth e ≡ suc k → Took 0 n l ts x
made n k l ts front rest e d x is parts o deep =
    let left = bind_ok (node 128 k e) (λ (p : Parsed). Ok (p, rest)) x is in
    let found = bind_ok (rule.deeper 128 k) (λ (d : ℕ). Ok (record { expr = e; depth = d })) left.0 left.1 in
    let below = allowed (nat_lt k 128) stop.TooDeep (k + 1) found.0 found.1 in
    let small : k < 128 = ltb-true k 128 below.0 in
    let sum : k + 1 ≡ found.0 = below.1 in
    let node_is : ◌≡◌ {A = Parsed} (record { expr = e; depth = found.0 }) left.0 = cc found.2 in
    let whole : ◌≡◌ {A = Parsed × List Terminal} (record { expr = e; depth = found.0 }, rest) x = ap (λ (p : Parsed). (p, rest)) node_is ∙ cc left.2 in
    let same : found.0 ≡ depth e = omega arith in
    let bound : found.0 ≤ 128 = omega arith in
    let few : open_in d + 0 ≤ n = omega arith in
    subst (λ (y : Parsed × List Terminal). Took 0 n l ts y) whole (record { front = front; spells = d; parts = parts; opens = few; deep = same; bounded = bound })

-- a node without parts, and the tokens behind it
leaf_made : (n : ℕ) (l : Level) (ts front rest : List Terminal) (e : Expr) (d : Spells l front e) (x : Parsed × List Terminal) → ◌≡◌ {A = Result (Parsed × List Terminal) Stop} (Ok (rule.leaf e, rest)) (Ok x) → ts ≡ front ++ rest → open_in d ≤ n → depth e ≡ 1 → Took 0 n l ts x
leaf_made n l ts front rest e d x is parts o deep =
    let whole : ◌≡◌ {A = Parsed × List Terminal} (rule.leaf e, rest) x = cc is in
    let same : 1 ≡ depth e = sym deep in
    let bound : 1 ≤ 128 = omega arith in
    let few : open_in d + 0 ≤ n = omega arith in
    subst (λ (y : Parsed × List Terminal). Took 0 n l ts y) whole (record { front = front; spells = d; parts = parts; opens = few; deep = same; bounded = bound })

-- a rule takes what the next one takes
pub next_took : (n : ℕ) (l : Level) (ts : List Terminal) (x : Parsed × List Terminal) → Took 0 n (next l) ts x → Took 0 n l ts x
next_took n l ts x t = record { front = t.front; spells = as_next {l = l} t.spells; parts = t.parts; opens = t.opens; deep = t.deep; bounded = t.bounded }

-- ---- chains of operators

join_took : (n : ℕ) (o : Operator) (ts us : List Terminal) (a : Parsed) (b : Parsed × List Terminal) (c : Parsed) → Took 0 n (level_of o) ts (a, token_of o ∷ us) → Took 0 n (next (level_of o)) us b
    → node 128 (max a.depth b.0.depth) (node_of o a.expr b.0.expr) ≡ Ok c → Took 0 n (level_of o) ts (c, b.1)
join_took n o ts us a b c p q is =
    let reads : then_left (node 128 (max a.depth b.0.depth) (node_of o a.expr b.0.expr)) b.1 ≡ Ok (c, b.1) = rw is refl in
    let parts : ts ≡ (p.front ++ token_of o ∷ q.front) ++ b.1 = p.parts ∙ ap (λ (x : List Terminal). p.front ++ token_of o ∷ x) q.parts ∙ sym (append_assoc p.front (token_of o ∷ q.front) b.1) in
    let deep : depth (node_of o a.expr b.0.expr) ≡ suc (max (depth a.expr) (max (depth b.0.expr) 0)) = depth_node o a.expr b.0.expr in
    let first : a.depth ≡ depth a.expr = p.deep in
    let second : b.0.depth ≡ depth b.0.expr = q.deep in
    let first_open : open_in p.spells + 0 ≤ n = p.opens in
    let second_open : open_in q.spells + 0 ≤ n = q.opens in
    made n (max a.depth b.0.depth) (level_of o) ts (p.front ++ token_of o ∷ q.front) b.1 (node_of o a.expr b.0.expr) (joined o p.spells q.spells) (c, b.1) reads parts (omega arith) (omega arith)

-- the same in a rule that the operator stands in
pub join_at : (n : ℕ) (l : Level) (o : Operator) (ts us : List Terminal) (a : Parsed) (b : Parsed × List Terminal) (c : Parsed) → level_of o ≡ l → Took 0 n l ts (a, token_of o ∷ us) → Took 0 n (next l) us b
    → node 128 (max a.depth b.0.depth) (node_of o a.expr b.0.expr) ≡ Ok c → Took 0 n l ts (c, b.1)
join_at n l o ts us a b c is p q made_is =
    subst (λ (k : Level). Took 0 n k ts (a, token_of o ∷ us) → Took 0 n (next k) us b → Took 0 n k ts (c, b.1)) is (λ p q. join_took n o ts us a b c p q made_is) p q

-- one operator more, or none
turn : (m n : ℕ) (l : Level) (operand : Reader) → IsSound 0 n (next l) operand → (a : Parsed) (ts us : List Terminal) (x : Parsed × List Terminal) → Took 0 n l ts (a, us)
    → ((c : Parsed) (vs : List Terminal) → Took 0 n l ts (c, vs) → more_of m 128 l operand c vs ≡ Ok x → Took 0 n l ts x)
    → ((o : Operator × List Terminal) × (first_is (operator_of l) us ≡ Some o) × ((operand o.1 >>= (λ b. node 128 (max a.depth b.0.depth) (node_of o.0 a.expr b.0.expr) >>= (λ c. more_of m 128 l operand c b.1))) ≡ Ok x)) ⊎ ((first_is (operator_of l) us ≡ None) × (◌≡◌ {A = Result (Parsed × List Terminal) Stop} (Ok (a, us)) (Ok x)))
    → Took 0 n l ts x
turn m n l operand h a ts us x t again (inl p) =
    let is = first_operator l us p.0 p.1 in
    let r = bind_ok (operand p.0.1) (λ (b : Parsed × List Terminal). node 128 (max a.depth b.0.depth) (node_of p.0.0 a.expr b.0.expr) >>= (λ c. more_of m 128 l operand c b.1)) x p.2 in
    let made_is = bind_ok (node 128 (max a.depth r.0.0.depth) (node_of p.0.0 a.expr r.0.0.expr)) (λ (c : Parsed). more_of m 128 l operand c r.0.1) x r.2 in
    let here : Took 0 n l ts (a, token_of p.0.0 ∷ p.0.1) = subst (λ (v : List Terminal). Took 0 n l ts (a, v)) is.1 t in
    again made_is.0 r.0.1 (join_at n l p.0.0 ts p.0.1 a r.0 made_is.0 is.0 here (h p.0.1 r.0 r.1) made_is.1) made_is.2
turn m n l operand h a ts us x t again (inr p) = let same : ◌≡◌ {A = Parsed × List Terminal} (a, us) x = cc p.1 in subst (λ (y : Parsed × List Terminal). Took 0 n l ts y) same t

more_sound : (m n : ℕ) (l : Level) (operand : Reader) → IsSound 0 n (next l) operand → (a : Parsed) (ts us : List Terminal) (x : Parsed × List Terminal) → Took 0 n l ts (a, us) → more_of m 128 l operand a us ≡ Ok x → Took 0 n l ts x
more_sound zero n l operand h a ts us x t e = absurd cc
more_sound (suc m) n l operand h a ts us x t e =
    turn m n l operand h a ts us x t (λ c vs t2 e2. more_sound m n l operand h c ts vs x t2 e2)
    (choose_ok (first_is (operator_of l) us) (λ (o : Operator × List Terminal). operand o.1 >>= (λ b. node 128 (max a.depth b.0.depth) (node_of o.0 a.expr b.0.expr) >>= (λ c. more_of m 128 l operand c b.1))) (Ok (a, us)) x e)

chain_sound : (n : ℕ) (l : Level) (operand : Reader) → IsSound 0 n (next l) operand → IsSound 0 n l (rule.chain_of 128 l operand)
chain_sound n l operand h ts x e =
    let a = bind_ok (operand ts) (λ (a : Parsed × List Terminal). more_of (suc (length a.1)) 128 l operand a.0 a.1) x e in
    more_sound (suc (length a.0.1)) n l operand h a.0.0 ts a.0.1 x (next_took n l ts a.0 (h ts a.0 a.1)) a.2

-- ---- lists

-- what reads an expression behind what opens it
abbrev pub IsInner : ℕ → (Level → Reader) → Type 0
IsInner n inner = (l : Level) → IsSound 1 n l (inner l)

pub record TookList (n : ℕ) (before : rule.Listed) (ts : List Terminal) (x : rule.Listed × List Terminal) : Type 0 where
  pub front : List Terminal
  pub exprs : List Expr
  pub spells : SpellsList front exprs
  pub parts : ts ≡ front ++ x.1
  pub opens : open_in_list spells + 1 ≤ n
  pub are : x.0.exprs ≡ before.exprs ++ exprs
  pub deep : x.0.deepest ≡ max before.deepest (deepest (map depth exprs))
  pub bounded : deepest (map depth exprs) ≤ 128

last_took : (n : ℕ) (before : rule.Listed) (ts : List Terminal) (p : Parsed × List Terminal) → Took 1 n level.Disjunction ts p → TookList n before ts (rule.with_entry before p.0, p.1)
last_took n before ts p t =
    let deep : p.0.depth ≡ depth p.0.expr = t.deep in
    let most : p.0.depth ≤ 128 = t.bounded in
    let bound : max (depth p.0.expr) 0 ≤ 128 = omega arith in
    let same : max before.deepest p.0.depth ≡ max before.deepest (max (depth p.0.expr) 0) = omega arith in
    record { front = t.front; exprs = p.0.expr ∷ []; spells = last t.spells; parts = t.parts; opens = t.opens; are = refl; deep = same; bounded = bound }

-- an expression, a comma and those behind it
more_took : (n : ℕ) (before : rule.Listed) (ts us : List Terminal) (p : Parsed × List Terminal) (x : rule.Listed × List Terminal) → Took 1 n level.Disjunction ts p → p.1 ≡ mark sign.Comma ∷ us → TookList n (rule.with_entry before p.0) us x → TookList n before ts x
more_took n before ts us p x t comma l =
    let parts : ts ≡ (t.front ++ mark sign.Comma ∷ l.front) ++ x.1 = t.parts ∙ ap (λ (v : List Terminal). t.front ++ v) (comma ∙ ap (λ (v : List Terminal). mark sign.Comma ∷ v) l.parts) ∙ sym (append_assoc t.front (mark sign.Comma ∷ l.front) x.1) in
    let lists : x.0.exprs ≡ before.exprs ++ p.0.expr ∷ l.exprs = l.are ∙ append_assoc before.exprs (p.0.expr ∷ []) l.exprs in
    let deep : p.0.depth ≡ depth p.0.expr = t.deep in
    let deeper : x.0.deepest ≡ max (max before.deepest p.0.depth) (deepest (map depth l.exprs)) = l.deep in
    let same : x.0.deepest ≡ max before.deepest (max (depth p.0.expr) (deepest (map depth l.exprs))) = omega arith in
    let first_open : open_in t.spells + 1 ≤ n = t.opens in
    let rest_open : open_in_list l.spells + 1 ≤ n = l.opens in
    let few : max (open_in t.spells) (open_in_list l.spells) + 1 ≤ n = omega arith in
    let first_most : p.0.depth ≤ 128 = t.bounded in
    let rest_most : deepest (map depth l.exprs) ≤ 128 = l.bounded in
    let bound : max (depth p.0.expr) (deepest (map depth l.exprs)) ≤ 128 = omega arith in
    record { front = t.front ++ mark sign.Comma ∷ l.front; exprs = p.0.expr ∷ l.exprs; spells = more t.spells l.spells; parts = parts; opens = few; are = lists; deep = same; bounded = bound }

entry_turn : (m n : ℕ) (inner : Level → Reader) → IsInner n inner → (before : rule.Listed) (ts : List Terminal) (p : Parsed × List Terminal) (x : rule.Listed × List Terminal) → Took 1 n level.Disjunction ts p
    → ((us : List Terminal) (q : Parsed × List Terminal) → Took 1 n level.Disjunction us q → rule.more_entries m inner (rule.with_entry (rule.with_entry before p.0) q.0) q.1 ≡ Ok x → TookList n (rule.with_entry before p.0) us x)
    → ((us : List Terminal) × (behind (is_sign sign.Comma) p.1 ≡ Some us) × ((rule.entry_of inner (rule.with_entry before p.0) us >>= (λ y. rule.more_entries m inner y.0 y.1)) ≡ Ok x)) ⊎ ((behind (is_sign sign.Comma) p.1 ≡ None) × (◌≡◌ {A = Result (rule.Listed × List Terminal) Stop} (Ok (rule.with_entry before p.0, p.1)) (Ok x)))
    → TookList n before ts x
entry_turn m n inner h before ts p x t again (inl q) =
    let kept : rule.Listed = rule.with_entry before p.0 in
    let comma = mark_taken sign.Comma p.1 q.0 q.1 in
    let r = bind_ok (rule.entry_of inner kept q.0) (λ (y : rule.Listed × List Terminal). rule.more_entries m inner y.0 y.1) x q.2 in
    let s = bind_ok (inner level.Disjunction q.0) (λ (y : Parsed × List Terminal). Ok (rule.with_entry kept y.0, y.1)) r.0 r.1 in
    let same : ◌≡◌ {A = rule.Listed × List Terminal} r.0 (rule.with_entry kept s.0.0, s.0.1) = sym (cc s.2) in
    let reads : rule.more_entries m inner (rule.with_entry kept s.0.0) s.0.1 ≡ Ok x = subst (λ (y : rule.Listed × List Terminal). rule.more_entries m inner y.0 y.1 ≡ Ok x) same r.2 in
    more_took n before ts q.0 p x t comma (again q.0 s.0 (h level.Disjunction q.0 s.0 s.1) reads)
entry_turn m n inner h before ts p x t again (inr q) =
    let same : ◌≡◌ {A = rule.Listed × List Terminal} (rule.with_entry before p.0, p.1) x = cc q.1 in
    subst (λ (y : rule.Listed × List Terminal). TookList n before ts y) same (last_took n before ts p t)

entries_sound : (m n : ℕ) (inner : Level → Reader) → IsInner n inner → (before : rule.Listed) (ts : List Terminal) (p : Parsed × List Terminal) (x : rule.Listed × List Terminal) → Took 1 n level.Disjunction ts p
    → rule.more_entries m inner (rule.with_entry before p.0) p.1 ≡ Ok x → TookList n before ts x
entries_sound zero n inner h before ts p x t e = absurd cc
entries_sound (suc m) n inner h before ts p x t e =
    entry_turn m n inner h before ts p x t (λ us q t2 e2. entries_sound m n inner h (rule.with_entry before p.0) us q x t2 e2)
    (choose_ok (behind (is_sign sign.Comma) p.1) (λ (us : List Terminal). rule.entry_of inner (rule.with_entry before p.0) us >>= (λ y. rule.more_entries m inner y.0 y.1)) (Ok (rule.with_entry before p.0, p.1)) x e)

pub list_sound : (n : ℕ) (inner : Level → Reader) → IsInner n inner → (before : rule.Listed) (ts : List Terminal) (x : rule.Listed × List Terminal) → rule.list_at inner before ts ≡ Ok x → TookList n before ts x
list_sound n inner h before ts x e =
    let r = bind_ok (rule.entry_of inner before ts) (λ (y : rule.Listed × List Terminal). rule.more_entries (suc (length y.1)) inner y.0 y.1) x e in
    let s = bind_ok (inner level.Disjunction ts) (λ (y : Parsed × List Terminal). Ok (rule.with_entry before y.0, y.1)) r.0 r.1 in
    let same : ◌≡◌ {A = rule.Listed × List Terminal} r.0 (rule.with_entry before s.0.0, s.0.1) = sym (cc s.2) in
    let reads : rule.more_entries (suc (length s.0.1)) inner (rule.with_entry before s.0.0) s.0.1 ≡ Ok x = subst (λ (y : rule.Listed × List Terminal). rule.more_entries (suc (length y.1)) inner y.0 y.1 ≡ Ok x) same r.2 in
    entries_sound (suc (length s.0.1)) n inner h before ts s.0 x (h level.Disjunction ts s.0 s.1) reads

-- what stands in brackets
bracket_parts : (ts us front rest : List Terminal) → ts ≡ mark sign.Open ∷ us → us ≡ front ++ mark sign.Close ∷ rest → ts ≡ bracketed front ++ rest
bracket_parts ts us front rest opened closed = opened ∙ ap (λ (v : List Terminal). mark sign.Open ∷ v) (closed ∙ sym (append_assoc front (mark sign.Close ∷ []) rest))

pub record TookBracketed (n : ℕ) (ts : List Terminal) (x : rule.Listed × List Terminal) : Type 0 where
  pub front : List Terminal
  pub spells : SpellsList front x.0.exprs
  pub parts : ts ≡ bracketed front ++ x.1
  pub opens : open_in_list spells + 1 ≤ n
  pub deep : x.0.deepest ≡ deepest (map depth x.0.exprs)

pub bracketed_sound : (n : ℕ) (inner : Level → Reader) → IsInner n inner → (ts : List Terminal) (x : rule.Listed × List Terminal) → rule.bracketed_list inner ts ≡ Ok x → TookBracketed n ts x
bracketed_sound n inner h ts x e =
    let r = bind_ok (past (is_sign sign.Open) ts) (λ (us : List Terminal). rule.closed_list_of inner none_listed us) x e in
    let s = bind_ok (rule.list_at inner none_listed r.0) (λ (es : rule.Listed × List Terminal). past (is_sign sign.Close) es.1 >>= (λ rest. Ok (es.0, rest))) x r.2 in
    let c = bind_ok (past (is_sign sign.Close) s.0.1) (λ (rest : List Terminal). Ok (s.0.0, rest)) x s.2 in
    let l = list_sound n inner h none_listed r.0 s.0 s.1 in
    let closed : s.0.1 ≡ mark sign.Close ∷ c.0 = mark_past sign.Close s.0.1 c.0 c.1 in
    let deep : s.0.0.deepest ≡ max 0 (deepest (map depth l.exprs)) = l.deep in
    let same_deep : s.0.0.deepest ≡ deepest (map depth l.exprs) = omega arith in
    let same_list : l.exprs ≡ s.0.0.exprs = sym l.are in
    let listed : ◌≡◌ {A = rule.Listed} (record { exprs = l.exprs; deepest = deepest (map depth l.exprs) }) s.0.0 = (λ i. record { exprs = same_list i; deepest = sym same_deep i }) in
    let whole : ◌≡◌ {A = rule.Listed × List Terminal} (record { exprs = l.exprs; deepest = deepest (map depth l.exprs) }, c.0) x = ap (λ (v : rule.Listed). (v, c.0)) listed ∙ cc c.2 in
    let parts : ts ≡ bracketed l.front ++ c.0 = bracket_parts ts r.0 l.front c.0 (mark_past sign.Open ts r.0 r.1) (l.parts ∙ ap (λ (v : List Terminal). l.front ++ v) closed) in
    subst (λ (y : rule.Listed × List Terminal). TookBracketed n ts y) whole (record { front = l.front; spells = l.spells; parts = parts; opens = l.opens; deep = refl })

-- ---- arms

-- an arm behind its WHEN
pub record TookArm (n : ℕ) (ts : List Terminal) (x : (Arm × ℕ) × List Terminal) : Type 0 where
  pub condition : Expr
  pub value : Expr
  pub is : x.0.0 ≡ arm_of condition value
  pub first_front : List Terminal
  pub first : Spells level.Disjunction first_front condition
  pub second_front : List Terminal
  pub second : Spells level.Disjunction second_front value
  pub parts : ts ≡ first_front ++ (word keyword.Then ∷ second_front ++ x.1)
  pub first_open : open_in first + 1 ≤ n
  pub second_open : open_in second + 1 ≤ n
  pub deep : x.0.1 ≡ max (depth condition) (depth value)

pub arm_sound : (n : ℕ) (inner : Level → Reader) → IsInner n inner → (ts : List Terminal) (x : (Arm × ℕ) × List Terminal) → rule.arm_of inner ts ≡ Ok x → TookArm n ts x
arm_sound n inner h ts x e =
    let c = bind_ok (inner level.Disjunction ts) (λ (c : Parsed × List Terminal). rule.then_of inner c.1 >>= (λ v. Ok ((arm_of c.0.expr v.0.expr, max c.0.depth v.0.depth), v.1))) x e in
    let v = bind_ok (rule.then_of inner c.0.1) (λ (v : Parsed × List Terminal). Ok ((arm_of c.0.0.expr v.0.expr, max c.0.0.depth v.0.depth), v.1)) x c.2 in
    let then_is = bind_ok (past (is_keyword keyword.Then) c.0.1) (λ (us : List Terminal). inner level.Disjunction us) v.0 v.1 in
    let word_is : c.0.1 ≡ word keyword.Then ∷ then_is.0 = word_past keyword.Then c.0.1 then_is.0 then_is.1 in
    let a = h level.Disjunction ts c.0 c.1 in
    let b = h level.Disjunction then_is.0 v.0 then_is.2 in
    let first_deep : c.0.0.depth ≡ depth c.0.0.expr = a.deep in
    let second_deep : v.0.0.depth ≡ depth v.0.0.expr = b.deep in
    let deep : max c.0.0.depth v.0.0.depth ≡ max (depth c.0.0.expr) (depth v.0.0.expr) = omega arith in
    let parts : ts ≡ a.front ++ (word keyword.Then ∷ b.front ++ v.0.1) = a.parts ∙ ap (λ (w : List Terminal). a.front ++ w) (word_is ∙ ap (λ (w : List Terminal). word keyword.Then ∷ w) b.parts) in
    let same : ◌≡◌ {A = (Arm × ℕ) × List Terminal} ((arm_of c.0.0.expr v.0.0.expr, max c.0.0.depth v.0.0.depth), v.0.1) x = cc v.2 in
    subst (λ (y : (Arm × ℕ) × List Terminal). TookArm n ts y) same
    (record { condition = c.0.0.expr; value = v.0.0.expr; is = refl; first_front = a.front; first = a.spells; second_front = b.front; second = b.spells; parts = parts; first_open = a.opens; second_open = b.opens; deep = deep })

-- arms behind the first WHEN
pub record TookArms (n : ℕ) (before : rule.Cases) (ts : List Terminal) (x : rule.Cases × List Terminal) : Type 0 where
  pub front : List Terminal
  pub arms : List Arm
  pub spells : SpellsArms front arms
  pub parts : word keyword.When ∷ ts ≡ front ++ x.1
  pub opens : open_in_arms spells + 1 ≤ n
  pub are : x.0.arms ≡ before.arms ++ arms
  pub deep : x.0.deepest ≡ max before.deepest (deepest (map arm_depth arms))

last_arm_took : (n : ℕ) (before : rule.Cases) (ts : List Terminal) (p : (Arm × ℕ) × List Terminal) → TookArm n ts p → TookArms n before ts (rule.with_arm before p.0, p.1)
last_arm_took n before ts p t =
    let first_open : open_in t.first + 1 ≤ n = t.first_open in
    let second_open : open_in t.second + 1 ≤ n = t.second_open in
    let two : arm_depth (arm_of t.condition t.value) ≡ max (depth t.condition) (max (depth t.value) 0) = depth_arm t.condition t.value in
    let deep : p.0.1 ≡ max (depth t.condition) (depth t.value) = t.deep in
    let same : max before.deepest p.0.1 ≡ max before.deepest (max (arm_depth (arm_of t.condition t.value)) 0) = omega arith in
    let few : max (open_in t.first) (open_in t.second) + 1 ≤ n = omega arith in
    let parts : word keyword.When ∷ ts ≡ (word keyword.When ∷ t.first_front ++ word keyword.Then ∷ t.second_front) ++ p.1 = ap (λ (v : List Terminal). word keyword.When ∷ v) (t.parts ∙ sym (append_assoc t.first_front (word keyword.Then ∷ t.second_front) p.1)) in
    record { front = word keyword.When ∷ t.first_front ++ word keyword.Then ∷ t.second_front; arms = arm_of t.condition t.value ∷ []; spells = last_arm t.first t.second; parts = parts; opens = few; are = ap (λ (a : Arm). before.arms ++ a ∷ []) t.is; deep = same }

more_arms_took : (n : ℕ) (before : rule.Cases) (ts us : List Terminal) (p : (Arm × ℕ) × List Terminal) (x : rule.Cases × List Terminal) → TookArm n ts p → p.1 ≡ word keyword.When ∷ us → TookArms n (rule.with_arm before p.0) us x → TookArms n before ts x
more_arms_took n before ts us p x t when l =
    let first_open : open_in t.first + 1 ≤ n = t.first_open in
    let second_open : open_in t.second + 1 ≤ n = t.second_open in
    let rest_open : open_in_arms l.spells + 1 ≤ n = l.opens in
    let few : max (open_in t.first) (max (open_in t.second) (open_in_arms l.spells)) + 1 ≤ n = omega arith in
    let two : arm_depth (arm_of t.condition t.value) ≡ max (depth t.condition) (max (depth t.value) 0) = depth_arm t.condition t.value in
    let deep : p.0.1 ≡ max (depth t.condition) (depth t.value) = t.deep in
    let deeper : x.0.deepest ≡ max (max before.deepest p.0.1) (deepest (map arm_depth l.arms)) = l.deep in
    let same : x.0.deepest ≡ max before.deepest (max (arm_depth (arm_of t.condition t.value)) (deepest (map arm_depth l.arms))) = omega arith in
    let lists : x.0.arms ≡ before.arms ++ arm_of t.condition t.value ∷ l.arms = l.are ∙ append_assoc before.arms (p.0.0 ∷ []) l.arms ∙ ap (λ (a : Arm). before.arms ++ a ∷ l.arms) t.is in
    let inner_parts : t.second_front ++ p.1 ≡ (t.second_front ++ l.front) ++ x.1 = ap (λ (v : List Terminal). t.second_front ++ v) (when ∙ l.parts) ∙ sym (append_assoc t.second_front l.front x.1) in
    let parts : word keyword.When ∷ ts ≡ (word keyword.When ∷ t.first_front ++ (word keyword.Then ∷ t.second_front ++ l.front)) ++ x.1 =
    ap (λ (v : List Terminal). word keyword.When ∷ v) (t.parts ∙ ap (λ (v : List Terminal). t.first_front ++ (word keyword.Then ∷ v)) inner_parts ∙ sym (append_assoc t.first_front (word keyword.Then ∷ t.second_front ++ l.front) x.1)) in
    record { front = word keyword.When ∷ t.first_front ++ (word keyword.Then ∷ t.second_front ++ l.front); arms = arm_of t.condition t.value ∷ l.arms; spells = more_arms t.first t.second l.spells; parts = parts; opens = few; are = lists; deep = same }

arm_turn : (m n : ℕ) (inner : Level → Reader) → IsInner n inner → (before : rule.Cases) (ts : List Terminal) (p : (Arm × ℕ) × List Terminal) (x : rule.Cases × List Terminal) → TookArm n ts p
    → ((us : List Terminal) (q : (Arm × ℕ) × List Terminal) → TookArm n us q → rule.more_arms m inner (rule.with_arm (rule.with_arm before p.0) q.0) q.1 ≡ Ok x → TookArms n (rule.with_arm before p.0) us x)
    → ((us : List Terminal) × (behind (is_keyword keyword.When) p.1 ≡ Some us) × ((rule.arm_at inner (rule.with_arm before p.0) us >>= (λ y. rule.more_arms m inner y.0 y.1)) ≡ Ok x)) ⊎ ((behind (is_keyword keyword.When) p.1 ≡ None) × (◌≡◌ {A = Result (rule.Cases × List Terminal) Stop} (Ok (rule.with_arm before p.0, p.1)) (Ok x)))
    → TookArms n before ts x
arm_turn m n inner h before ts p x t again (inl q) =
    let kept : rule.Cases = rule.with_arm before p.0 in
    let when = word_taken keyword.When p.1 q.0 q.1 in
    let r = bind_ok (rule.arm_at inner kept q.0) (λ (y : rule.Cases × List Terminal). rule.more_arms m inner y.0 y.1) x q.2 in
    let s = bind_ok (rule.arm_of inner q.0) (λ (y : (Arm × ℕ) × List Terminal). Ok (rule.with_arm kept y.0, y.1)) r.0 r.1 in
    let same : ◌≡◌ {A = rule.Cases × List Terminal} r.0 (rule.with_arm kept s.0.0, s.0.1) = sym (cc s.2) in
    let reads : rule.more_arms m inner (rule.with_arm kept s.0.0) s.0.1 ≡ Ok x = subst (λ (y : rule.Cases × List Terminal). rule.more_arms m inner y.0 y.1 ≡ Ok x) same r.2 in
    more_arms_took n before ts q.0 p x t when (again q.0 s.0 (arm_sound n inner h q.0 s.0 s.1) reads)
arm_turn m n inner h before ts p x t again (inr q) =
    let same : ◌≡◌ {A = rule.Cases × List Terminal} (rule.with_arm before p.0, p.1) x = cc q.1 in
    subst (λ (y : rule.Cases × List Terminal). TookArms n before ts y) same (last_arm_took n before ts p t)

arms_go : (m n : ℕ) (inner : Level → Reader) → IsInner n inner → (before : rule.Cases) (ts : List Terminal) (p : (Arm × ℕ) × List Terminal) (x : rule.Cases × List Terminal) → TookArm n ts p
    → rule.more_arms m inner (rule.with_arm before p.0) p.1 ≡ Ok x → TookArms n before ts x
arms_go zero n inner h before ts p x t e = absurd cc
arms_go (suc m) n inner h before ts p x t e =
    arm_turn m n inner h before ts p x t (λ us q t2 e2. arms_go m n inner h (rule.with_arm before p.0) us q x t2 e2)
    (choose_ok (behind (is_keyword keyword.When) p.1) (λ (us : List Terminal). rule.arm_at inner (rule.with_arm before p.0) us >>= (λ y. rule.more_arms m inner y.0 y.1)) (Ok (rule.with_arm before p.0, p.1)) x e)

pub arms_sound : (n : ℕ) (inner : Level → Reader) → IsInner n inner → (before : rule.Cases) (ts : List Terminal) (x : rule.Cases × List Terminal) → rule.arms_at inner before ts ≡ Ok x → TookArms n before ts x
arms_sound n inner h before ts x e =
    let r = bind_ok (rule.arm_at inner before ts) (λ (y : rule.Cases × List Terminal). rule.more_arms (suc (length y.1)) inner y.0 y.1) x e in
    let s = bind_ok (rule.arm_of inner ts) (λ (y : (Arm × ℕ) × List Terminal). Ok (rule.with_arm before y.0, y.1)) r.0 r.1 in
    let same : ◌≡◌ {A = rule.Cases × List Terminal} r.0 (rule.with_arm before s.0.0, s.0.1) = sym (cc s.2) in
    let reads : rule.more_arms (suc (length s.0.1)) inner (rule.with_arm before s.0.0) s.0.1 ≡ Ok x = subst (λ (y : rule.Cases × List Terminal). rule.more_arms (suc (length y.1)) inner y.0 y.1 ≡ Ok x) same r.2 in
    arms_go (suc (length s.0.1)) n inner h before ts s.0 x (arm_sound n inner h ts s.0 s.1) reads

-- ---- ELSE and CASE

pub record TookElse (n : ℕ) (ts : List Terminal) (x : Option Parsed × List Terminal) : Type 0 where
  pub front : List Terminal
  pub value : Option Expr
  pub spells : SpellsElse front value
  pub is : x.0 ≡ whole_else value
  pub parts : ts ≡ front ++ (word keyword.End ∷ x.1)
  pub opens : open_in_else spells + 1 ≤ n

-- what has a depth of its own is whole
is_whole : (p : Parsed) → p.depth ≡ depth p.expr → p ≡ whole p.expr
is_whole p deep = λ i. record { expr = p.expr; depth = deep i }

without_sound : (n : ℕ) (ts front : List Terminal) (x : Option Parsed × List Terminal) (s : SpellsElse front None) → (us : List Terminal) → ts ≡ front ++ us → rule.without_value us ≡ Ok x → open_in_else s + 1 ≤ n → TookElse n ts x
without_sound n ts front x s us before e o =
    let r = bind_ok (past (is_keyword keyword.End) us) (λ (rest : List Terminal). Ok (None, rest)) x e in
    let same : ◌≡◌ {A = Option Parsed × List Terminal} (None, r.0) x = cc r.2 in
    let ended : us ≡ word keyword.End ∷ r.0 = word_past keyword.End us r.0 r.1 in
    subst (λ (y : Option Parsed × List Terminal). TookElse n ts y) same (record { front = front; value = None; spells = s; is = refl; parts = before ∙ ap (λ (v : List Terminal). front ++ v) ended; opens = o })

value_sound : (n : ℕ) (inner : Level → Reader) → IsInner n inner → (ts us : List Terminal) (x : Option Parsed × List Terminal) → ts ≡ word keyword.Else ∷ us → (rule.before_of (is_keyword keyword.End) inner us >>= (λ v. Ok (Some v.0, v.1))) ≡ Ok x → TookElse n ts x
value_sound n inner h ts us x before e =
    let r = bind_ok (rule.before_of (is_keyword keyword.End) inner us) (λ (v : Parsed × List Terminal). Ok (Some v.0, v.1)) x e in
    let s = bind_ok (inner level.Disjunction us) (λ (v : Parsed × List Terminal). past (is_keyword keyword.End) v.1 >>= (λ rest. Ok (v.0, rest))) r.0 r.1 in
    let b = bind_ok (past (is_keyword keyword.End) s.0.1) (λ (rest : List Terminal). Ok (s.0.0, rest)) r.0 s.2 in
    let ended : s.0.1 ≡ word keyword.End ∷ b.0 = word_past keyword.End s.0.1 b.0 b.1 in
    let t = h level.Disjunction us s.0 s.1 in
    let same : ◌≡◌ {A = Parsed × List Terminal} (s.0.0, b.0) r.0 = cc b.2 in
    let all : ◌≡◌ {A = Option Parsed × List Terminal} (Some s.0.0, b.0) x = ap (λ (v : Parsed × List Terminal). (Some v.0, v.1)) same ∙ cc r.2 in
    let parts : ts ≡ (word keyword.Else ∷ t.front) ++ (word keyword.End ∷ b.0) = before ∙ ap (λ (v : List Terminal). word keyword.Else ∷ v) (t.parts ∙ ap (λ (v : List Terminal). t.front ++ v) ended) in
    subst (λ (y : Option Parsed × List Terminal). TookElse n ts y) all
    (record { front = word keyword.Else ∷ t.front; value = Some s.0.0.expr; spells = otherwise t.spells; is = ap (λ (p : Parsed). Some p) (is_whole s.0.0 t.deep); parts = parts; opens = t.opens })

behind_else : (n : ℕ) (inner : Level → Reader) → IsInner n inner → (ts us : List Terminal) (x : Option Parsed × List Terminal) → 1 ≤ n → ts ≡ word keyword.Else ∷ us
    → ((vs : List Terminal) × (behind (is_keyword keyword.Null) us ≡ Some vs) × (rule.without_value vs ≡ Ok x)) ⊎ ((behind (is_keyword keyword.Null) us ≡ None) × ((rule.before_of (is_keyword keyword.End) inner us >>= (λ v. Ok (Some v.0, v.1))) ≡ Ok x))
    → TookElse n ts x
behind_else n inner h ts us x o before (inl p) =
    let is_null_word : us ≡ word keyword.Null ∷ p.0 = word_taken keyword.Null us p.0 p.1 in
    without_sound n ts (word keyword.Else ∷ word keyword.Null ∷ []) x null p.0 (before ∙ ap (λ (v : List Terminal). word keyword.Else ∷ v) is_null_word) p.2 o
behind_else n inner h ts us x o before (inr p) = value_sound n inner h ts us x before p.1

else_turn : (n : ℕ) (inner : Level → Reader) → IsInner n inner → (ts : List Terminal) (x : Option Parsed × List Terminal) → 1 ≤ n
    → ((us : List Terminal) × (behind (is_keyword keyword.Else) ts ≡ Some us) × (choose (behind (is_keyword keyword.Null) us) rule.without_value (rule.before_of (is_keyword keyword.End) inner us >>= (λ v. Ok (Some v.0, v.1))) ≡ Ok x)) ⊎ ((behind (is_keyword keyword.Else) ts ≡ None) × (rule.without_value ts ≡ Ok x))
    → TookElse n ts x
else_turn n inner h ts x o (inl p) =
    behind_else n inner h ts p.0 x o (word_taken keyword.Else ts p.0 p.1) (choose_ok (behind (is_keyword keyword.Null) p.0) rule.without_value (rule.before_of (is_keyword keyword.End) inner p.0 >>= (λ v. Ok (Some v.0, v.1))) x p.2)
else_turn n inner h ts x o (inr p) = without_sound n ts [] x nothing ts refl p.1 o

pub else_sound : (n : ℕ) (inner : Level → Reader) → IsInner n inner → (ts : List Terminal) (x : Option Parsed × List Terminal) → 1 ≤ n → rule.else_of inner ts ≡ Ok x → TookElse n ts x
else_sound n inner h ts x o e =
    else_turn n inner h ts x o (choose_ok (behind (is_keyword keyword.Else) ts) (λ (us : List Terminal). choose (behind (is_keyword keyword.Null) us) rule.without_value (rule.before_of (is_keyword keyword.End) inner us >>= (λ v. Ok (Some v.0, v.1)))) (rule.without_value ts) x e)

case_took : (n : ℕ) (ts rest arms_front else_front : List Terminal) (cs : rule.Cases) (arms : List Arm) (o : Option Expr) (x : Parsed × List Terminal) (a : SpellsArms arms_front arms) (d : SpellsElse else_front o)
    → then_left (rule.case_node 128 cs (whole_else o)) rest ≡ Ok x → cs.arms ≡ arms → cs.deepest ≡ deepest (map arm_depth arms) → ts ≡ (word keyword.Case ∷ arms_front ++ (else_front ++ word keyword.End ∷ [])) ++ rest
    → open_in_arms a + 1 ≤ n → open_in_else d + 1 ≤ n → Took 0 n level.Primary ts x
case_took n ts rest arms_front else_front cs arms None x a d e are deep parts oa od =
    let reads : then_left (node 128 cs.deepest (expr.Case arms None)) rest ≡ Ok x = subst (λ (v : List Arm). then_left (node 128 cs.deepest (expr.Case v None)) rest ≡ Ok x) are e in
    let depth_is : depth (expr.Case arms None) ≡ suc (deepest (map arm_depth arms)) = depth_case arms in
    let few : suc (max (open_in_arms a) (open_in_else d)) ≤ n = omega arith in
    made n cs.deepest level.Primary ts (word keyword.Case ∷ arms_front ++ (else_front ++ word keyword.End ∷ [])) rest (expr.Case arms None) (chosen a d) x reads parts few (omega arith)
case_took n ts rest arms_front else_front cs arms (Some v) x a d e are deep parts oa od =
    let reads : then_left (node 128 (max cs.deepest (depth v)) (expr.Case arms (Some v))) rest ≡ Ok x = subst (λ (w : List Arm). then_left (node 128 (max cs.deepest (depth v)) (expr.Case w (Some v))) rest ≡ Ok x) are e in
    let depth_is : depth (expr.Case arms (Some v)) ≡ suc (max (depth v) (deepest (map arm_depth arms))) = depth_else arms v in
    let few : suc (max (open_in_arms a) (open_in_else d)) ≤ n = omega arith in
    made n (max cs.deepest (depth v)) level.Primary ts (word keyword.Case ∷ arms_front ++ (else_front ++ word keyword.End ∷ [])) rest (expr.Case arms (Some v)) (chosen a d) x reads parts few (omega arith)

case_sound : (n : ℕ) (inner : Level → Reader) → IsInner n inner → (ts : List Terminal) (x : Parsed × List Terminal) → rule.case_of 128 n inner ts ≡ Ok x → Took 0 n level.Primary (word keyword.Case ∷ ts) x
case_sound n inner h ts x e =
    let w = bind_ok (past (is_keyword keyword.When) ts) (λ (us : List Terminal). rule.arms_at inner (record { arms = []; deepest = 0 }) us >>= (λ cs. rule.else_of inner cs.1 >>= (λ v. then_left (rule.case_node 128 cs.0 v.0) v.1))) x e in
    let r = bind_ok (rule.arms_at inner (record { arms = []; deepest = 0 }) w.0) (λ (cs : rule.Cases × List Terminal). rule.else_of inner cs.1 >>= (λ v. then_left (rule.case_node 128 cs.0 v.0) v.1)) x w.2 in
    let s = bind_ok (rule.else_of inner r.0.1) (λ (v : Option Parsed × List Terminal). then_left (rule.case_node 128 r.0.0 v.0) v.1) x r.2 in
    let a = arms_sound n inner h (record { arms = []; deepest = 0 }) w.0 r.0 r.1 in
    let arms_open : open_in_arms a.spells + 1 ≤ n = a.opens in
    let some : 1 ≤ n = omega arith in
    let d = else_sound n inner h r.0.1 s.0 some s.1 in
    let when : ts ≡ word keyword.When ∷ w.0 = word_past keyword.When ts w.0 w.1 in
    let deep : r.0.0.deepest ≡ max 0 (deepest (map arm_depth a.arms)) = a.deep in
    let same_deep : r.0.0.deepest ≡ deepest (map arm_depth a.arms) = omega arith in
    let reads : then_left (rule.case_node 128 r.0.0 (whole_else d.value)) s.0.1 ≡ Ok x = subst (λ (v : Option Parsed). then_left (rule.case_node 128 r.0.0 v) s.0.1 ≡ Ok x) d.is s.2 in
    let assoc : (a.front ++ (d.front ++ word keyword.End ∷ [])) ++ s.0.1 ≡ a.front ++ (d.front ++ (word keyword.End ∷ s.0.1)) = append_assoc a.front (d.front ++ word keyword.End ∷ []) s.0.1 ∙ ap (λ (v : List Terminal). a.front ++ v) (append_assoc d.front (word keyword.End ∷ []) s.0.1) in
    let parts : word keyword.Case ∷ ts ≡ (word keyword.Case ∷ a.front ++ (d.front ++ word keyword.End ∷ [])) ++ s.0.1 = ap (λ (v : List Terminal). word keyword.Case ∷ v) (when ∙ a.parts ∙ ap (λ (v : List Terminal). a.front ++ v) d.parts ∙ sym assoc) in
    case_took n (word keyword.Case ∷ ts) s.0.1 a.front d.front r.0.0 a.arms d.value x a.spells d.spells reads a.are same_deep parts a.opens d.opens

-- ---- what stands in brackets

-- an expression and the bracket that closes it
pub record TookClosed (n : ℕ) (ts : List Terminal) (x : Parsed × List Terminal) : Type 0 where
  pub front : List Terminal
  pub spells : Spells level.Disjunction front x.0.expr
  pub parts : ts ≡ front ++ mark sign.Close ∷ x.1
  pub opens : open_in spells + 1 ≤ n
  pub deep : x.0.depth ≡ depth x.0.expr
  pub bounded : x.0.depth ≤ 128

pub closed_sound : (n : ℕ) (inner : Level → Reader) → IsInner n inner → (ts : List Terminal) (x : Parsed × List Terminal) → rule.before_of (is_sign sign.Close) inner ts ≡ Ok x → TookClosed n ts x
closed_sound n inner h ts x e =
    let s = bind_ok (inner level.Disjunction ts) (λ (v : Parsed × List Terminal). past (is_sign sign.Close) v.1 >>= (λ rest. Ok (v.0, rest))) x e in
    let b = bind_ok (past (is_sign sign.Close) s.0.1) (λ (rest : List Terminal). Ok (s.0.0, rest)) x s.2 in
    let closed : s.0.1 ≡ mark sign.Close ∷ b.0 = mark_past sign.Close s.0.1 b.0 b.1 in
    let t = h level.Disjunction ts s.0 s.1 in
    let same : ◌≡◌ {A = Parsed × List Terminal} (s.0.0, b.0) x = cc b.2 in
    subst (λ (y : Parsed × List Terminal). TookClosed n ts y) same
    (record { front = t.front; spells = t.spells; parts = t.parts ∙ ap (λ (v : List Terminal). t.front ++ v) closed; opens = t.opens; deep = t.deep; bounded = t.bounded })

brackets_sound : (n : ℕ) (inner : Level → Reader) → IsInner n inner → (ts : List Terminal) (x : Parsed × List Terminal) → rule.before_of (is_sign sign.Close) inner ts ≡ Ok x → Took 0 n level.Primary (mark sign.Open ∷ ts) x
brackets_sound n inner h ts x e =
    let t = closed_sound n inner h ts x e in
    let opened : open_in t.spells + 1 ≤ n = t.opens in
    let few : suc (open_in t.spells) + 0 ≤ n = omega arith in
    record { front = bracketed t.front; spells = in_brackets t.spells; parts = bracket_parts (mark sign.Open ∷ ts) ts t.front x.1 refl t.parts; opens = few; deep = t.deep; bounded = t.bounded }

-- ---- aggregates and COALESCE

pub star_taken : (k : Aggregate) (us vs : List Terminal) → rule.behind_star k us ≡ Some vs → (k ≡ aggregate.Count) × (us ≡ mark sign.Star ∷ vs)
star_taken aggregate.Count us vs e = (refl, mark_taken sign.Star us vs e)
star_taken aggregate.CountDistinct us vs e = absurd cc
star_taken aggregate.Sum us vs e = absurd cc
star_taken aggregate.SumDistinct us vs e = absurd cc
star_taken aggregate.Min us vs e = absurd cc
star_taken aggregate.Max us vs e = absurd cc
star_taken aggregate.Average us vs e = absurd cc

pub passed_as : {A : Type 0} (test : Bool) (a b : A) → cond test (Some a) None ≡ Some b → (test ≡ true) × (a ≡ b)
passed_as true a b e = (refl, cc)
passed_as false a b e = absurd cc

rows_sound : (n : ℕ) (ts us vs : List Terminal) (k : Aggregate) (x : Parsed × List Terminal) → ts ≡ word (aggregate_word k) ∷ mark sign.Open ∷ us → k ≡ aggregate.Count → us ≡ mark sign.Star ∷ vs → rule.rows_of n vs ≡ Ok x → Took 0 n level.Primary ts x
rows_sound n ts us vs k x before is star e =
    let r = bind_ok (past (is_sign sign.Close) vs) (λ (rest : List Terminal). if_left n rest) x e in
    let closed : vs ≡ mark sign.Close ∷ r.0 = mark_past sign.Close vs r.0 r.1 in
    let p = allowed (nat_lt 0 n) stop.TooDeep (rule.leaf expr.CountRows, r.0) x r.2 in
    let some : 0 < n = ltb-true 0 n p.0 in
    let one : depth expr.CountRows ≡ 1 = search (rules, the_lemmas) in
    let first : word (aggregate_word k) ∷ mark sign.Open ∷ us ≡ word keyword.Count ∷ mark sign.Open ∷ us = ap (λ (a : Aggregate). word (aggregate_word a) ∷ mark sign.Open ∷ us) is in
    let parts : ts ≡ (word keyword.Count ∷ bracketed (mark sign.Star ∷ [])) ++ r.0 = before ∙ first ∙ ap (λ (v : List Terminal). word keyword.Count ∷ mark sign.Open ∷ v) (star ∙ ap (λ (v : List Terminal). mark sign.Star ∷ v) closed) in
    leaf_made n level.Primary ts (word keyword.Count ∷ bracketed (mark sign.Star ∷ [])) r.0 expr.CountRows rows x (ap (λ (y : Parsed × List Terminal). Ok y) p.1) parts (omega arith) one
  where
    if_left : ℕ → List Terminal → Result (Parsed × List Terminal) Stop
    if_left left rest = cond (nat_lt 0 left) (Ok (rule.leaf expr.CountRows, rest)) (Err stop.TooDeep)

-- DISTINCT where an aggregate has it, and its argument
pub distinct_parts : (distinct : Bool) (us front rest : List Terminal) → us ≡ front ++ mark sign.Close ∷ rest → distinct_if distinct ++ us ≡ (distinct_if distinct ++ front) ++ mark sign.Close ∷ rest
distinct_parts true us front rest closed = ap (λ (v : List Terminal). word keyword.Distinct ∷ v) closed
distinct_parts false us front rest closed = closed

argument_sound : (n : ℕ) (inner : Level → Reader) → IsInner n inner → (ts us : List Terminal) (k : Aggregate) (x : Parsed × List Terminal) → ts ≡ word (aggregate_word k) ∷ mark sign.Open ∷ distinct_if (is_distinct k) ++ us
    → rule.argument_of 128 n inner k us ≡ Ok x → Took 0 n level.Primary ts x
argument_sound n inner h ts us k x before e =
    let r = bind_ok (rule.before_of (is_sign sign.Close) inner us) (λ (a : Parsed × List Terminal). then_left (node 128 a.0.depth (expr.Aggregate k a.0.expr)) a.1) x e in
    let t = closed_sound n inner h us r.0 r.1 in
    let opened : open_in t.spells + 1 ≤ n = t.opens in
    let few : suc (open_in t.spells) ≤ n = omega arith in
    let front : List Terminal = distinct_if (is_distinct k) ++ t.front in
    let inside : List Terminal = distinct_if (is_distinct k) ++ us in
    let brackets : mark sign.Open ∷ inside ≡ bracketed front ++ r.0.1 = bracket_parts (mark sign.Open ∷ inside) inside front r.0.1 refl (distinct_parts (is_distinct k) us t.front r.0.1 t.parts) in
    let parts : ts ≡ (word (aggregate_word k) ∷ bracketed front) ++ r.0.1 = before ∙ ap (λ (v : List Terminal). word (aggregate_word k) ∷ v) brackets in
    let deep : depth (expr.Aggregate k r.0.0.expr) ≡ suc r.0.0.depth = depth_aggregate k r.0.0.expr ∙ ap suc (sym t.deep) in
    made n r.0.0.depth level.Primary ts (word (aggregate_word k) ∷ bracketed front) r.0.1 (expr.Aggregate k r.0.0.expr) (aggregated k t.spells) x r.2 parts few deep

-- the tokens behind DISTINCT
distinct_is : (k : Aggregate) → is_distinct k ≡ true → (us : List Terminal) (d : Aggregate × List Terminal) → choose (behind (is_keyword keyword.Distinct) us) (λ (rest : List Terminal). Some (k, rest)) None ≡ Some d
    → (aggregate_word k ≡ aggregate_word d.0) × (us ≡ distinct_if (is_distinct d.0) ++ d.1)
distinct_is k distinct us d e =
    let r = there (behind (is_keyword keyword.Distinct) us) (λ (rest : List Terminal). (k, rest)) d e in
    let front : us ≡ distinct_if (is_distinct k) ++ r.0 = word_taken keyword.Distinct us r.0 r.1 ∙ ap (λ b. distinct_if b ++ r.0) (sym distinct) in
    subst (λ (y : Aggregate × List Terminal). (aggregate_word k ≡ aggregate_word y.0) × (us ≡ distinct_if (is_distinct y.0) ++ y.1)) r.2 (refl, front)

pub distinct_taken : (k : Aggregate) (us : List Terminal) (d : Aggregate × List Terminal) → rule.behind_distinct k us ≡ Some d → (aggregate_word k ≡ aggregate_word d.0) × (us ≡ distinct_if (is_distinct d.0) ++ d.1)
distinct_taken aggregate.Count us d e = distinct_is aggregate.CountDistinct refl us d e
distinct_taken aggregate.Sum us d e = distinct_is aggregate.SumDistinct refl us d e
distinct_taken aggregate.CountDistinct us d e = absurd cc
distinct_taken aggregate.SumDistinct us d e = absurd cc
distinct_taken aggregate.Min us d e = absurd cc
distinct_taken aggregate.Max us d e = absurd cc
distinct_taken aggregate.Average us d e = absurd cc

inside_sound : (n : ℕ) (inner : Level → Reader) → IsInner n inner → (ts us : List Terminal) (k : Aggregate) (x : Parsed × List Terminal) → is_distinct k ≡ false → ts ≡ word (aggregate_word k) ∷ mark sign.Open ∷ us
    → ((d : Aggregate × List Terminal) × (rule.behind_distinct k us ≡ Some d) × (rule.argument_of 128 n inner d.0 d.1 ≡ Ok x)) ⊎ ((rule.behind_distinct k us ≡ None) × (rule.argument_of 128 n inner k us ≡ Ok x)) → Took 0 n level.Primary ts x
inside_sound n inner h ts us k x plain before (inl p) =
    let s = distinct_taken k us p.0 p.1 in
    argument_sound n inner h ts p.0.1 p.0.0 x (before ∙ (λ i. word (s.0 i) ∷ mark sign.Open ∷ s.1 i)) p.2
inside_sound n inner h ts us k x plain before (inr p) =
    argument_sound n inner h ts us k x (before ∙ ap (λ d. word (aggregate_word k) ∷ mark sign.Open ∷ distinct_if d ++ us) (sym plain)) p.1

aggregate_turn : (n : ℕ) (inner : Level → Reader) → IsInner n inner → (ts us : List Terminal) (k : Aggregate) (x : Parsed × List Terminal) → is_distinct k ≡ false → ts ≡ word (aggregate_word k) ∷ mark sign.Open ∷ us
    → ((vs : List Terminal) × (rule.behind_star k us ≡ Some vs) × (rule.rows_of n vs ≡ Ok x)) ⊎ ((rule.behind_star k us ≡ None) × (rule.inside_of 128 n inner k us ≡ Ok x)) → Took 0 n level.Primary ts x
aggregate_turn n inner h ts us k x plain before (inl p) = let s = star_taken k us p.0 p.1 in rows_sound n ts us p.0 k x before s.0 s.1 p.2
aggregate_turn n inner h ts us k x plain before (inr p) =
    inside_sound n inner h ts us k x plain before (choose_ok (rule.behind_distinct k us) (λ (d : Aggregate × List Terminal). rule.argument_of 128 n inner d.0 d.1) (rule.argument_of 128 n inner k us) x p.1)

aggregate_sound : (n : ℕ) (inner : Level → Reader) → IsInner n inner → (k : Aggregate) → is_distinct k ≡ false → (ts : List Terminal) (x : Parsed × List Terminal) → rule.aggregate_at 128 n inner k ts ≡ Ok x → Took 0 n level.Primary (word (aggregate_word k) ∷ ts) x
aggregate_sound n inner h k plain ts x e =
    let r = bind_ok (past (is_sign sign.Open) ts) (λ (us : List Terminal). choose (rule.behind_star k us) (rule.rows_of n) (rule.inside_of 128 n inner k us)) x e in
    aggregate_turn n inner h (word (aggregate_word k) ∷ ts) r.0 k x plain (ap (λ (v : List Terminal). word (aggregate_word k) ∷ v) (mark_past sign.Open ts r.0 r.1)) (choose_ok (rule.behind_star k r.0) (rule.rows_of n) (rule.inside_of 128 n inner k r.0) x r.2)

coalesce_sound : (n : ℕ) (inner : Level → Reader) → IsInner n inner → (ts : List Terminal) (x : Parsed × List Terminal) → rule.coalesce_of 128 n inner ts ≡ Ok x → Took 0 n level.Primary (word keyword.Coalesce ∷ ts) x
coalesce_sound n inner h ts x e =
    let r = bind_ok (rule.bracketed_list inner ts) (λ (es : rule.Listed × List Terminal). then_left (node 128 es.0.deepest (expr.Coalesce es.0.exprs)) es.1) x e in
    let t = bracketed_sound n inner h ts r.0 r.1 in
    let opened : open_in_list t.spells + 1 ≤ n = t.opens in
    let few : suc (open_in_list t.spells) ≤ n = omega arith in
    let deep : depth (expr.Coalesce r.0.0.exprs) ≡ suc r.0.0.deepest = depth_coalesce r.0.0.exprs ∙ ap suc (sym t.deep) in
    made n r.0.0.deepest level.Primary (word keyword.Coalesce ∷ ts) (word keyword.Coalesce ∷ bracketed t.front) r.0.1 (expr.Coalesce r.0.0.exprs) (first_of t.spells) x r.2 (ap (λ (v : List Terminal). word keyword.Coalesce ∷ v) t.parts) few deep

call_sound : (n : ℕ) (inner : Level → Reader) → IsInner n inner → (k : Keyword) (ts : List Terminal) (x : Parsed × List Terminal) → rule.call_of 128 n inner k ts ≡ Ok x → Took 0 n level.Primary (word k ∷ ts) x
call_sound n inner h keyword.Case ts x e = case_sound n inner h ts x e
call_sound n inner h keyword.Coalesce ts x e = coalesce_sound n inner h ts x e
call_sound n inner h keyword.Count ts x e = aggregate_sound n inner h aggregate.Count refl ts x e
call_sound n inner h keyword.Sum ts x e = aggregate_sound n inner h aggregate.Sum refl ts x e
call_sound n inner h keyword.Min ts x e = aggregate_sound n inner h aggregate.Min refl ts x e
call_sound n inner h keyword.Max ts x e = aggregate_sound n inner h aggregate.Max refl ts x e
call_sound n inner h keyword.Avg ts x e = aggregate_sound n inner h aggregate.Average refl ts x e
call_sound n inner h k ts x e = absurd cc

-- ---- texts and columns

column_behind : (n : ℕ) (t : List ℕ) (ts us vs : List Terminal) (x : Parsed × List Terminal) → ts ≡ terminal.name t ∷ us → us ≡ mark sign.Dot ∷ vs → rule.column_of (lower t) vs ≡ Ok x → Took 0 n level.Primary ts x
column_behind n t ts us [] x before dot e = absurd cc
column_behind n t ts us (terminal.name m ∷ vs) x before dot e =
    let one : depth (expr.Column (Some (lower t)) (lower m)) ≡ 1 = search (rules, the_lemmas) in
    leaf_made n level.Primary ts (terminal.name t ∷ mark sign.Dot ∷ terminal.name m ∷ []) vs (expr.Column (Some (lower t)) (lower m)) (column_of t m) x e (before ∙ ap (λ (v : List Terminal). terminal.name t ∷ v) dot) (omega arith) one
column_behind n t ts us (v ∷ vs) x before dot e = absurd cc

column_turn : (n : ℕ) (m : List ℕ) (ts : List Terminal) (x : Parsed × List Terminal)
    → ((vs : List Terminal) × (behind (is_sign sign.Dot) ts ≡ Some vs) × (rule.column_of (lower m) vs ≡ Ok x)) ⊎ ((behind (is_sign sign.Dot) ts ≡ None) × (◌≡◌ {A = Result (Parsed × List Terminal) Stop} (Ok (rule.leaf (expr.Column None (lower m)), ts)) (Ok x))) → Took 0 n level.Primary (terminal.name m ∷ ts) x
column_turn n m ts x (inl p) = column_behind n m (terminal.name m ∷ ts) ts p.0 x refl (mark_taken sign.Dot ts p.0 p.1) p.2
column_turn n m ts x (inr p) =
    let one : depth (expr.Column None (lower m)) ≡ 1 = search (rules, the_lemmas) in
    leaf_made n level.Primary (terminal.name m ∷ ts) (terminal.name m ∷ []) ts (expr.Column None (lower m)) (column m) x p.1 refl (omega arith) one

column_sound : (n : ℕ) (m : List ℕ) (ts : List Terminal) (x : Parsed × List Terminal) → rule.column_at (terminal.name m ∷ ts) ≡ Ok x → Took 0 n level.Primary (terminal.name m ∷ ts) x
column_sound n m ts x e = column_turn n m ts x (choose_ok (behind (is_sign sign.Dot) ts) (rule.column_of (lower m)) (Ok (rule.leaf (expr.Column None (lower m)), ts)) x e)

pub primary_sound : (n : ℕ) (inner : Level → Reader) → IsInner n inner → IsSound 0 n level.Primary (rule.primary_of 128 n inner)
primary_sound n inner h [] x e = absurd cc
primary_sound n inner h (terminal.text t ∷ ts) x e =
    let one : depth (expr.Text (undoubled t)) ≡ 1 = search (rules, the_lemmas) in
    leaf_made n level.Primary (terminal.text t ∷ ts) (terminal.text t ∷ []) ts (expr.Text (undoubled t)) (text t) x e refl (omega arith) one
primary_sound n inner h (terminal.name m ∷ ts) x e = column_sound n m ts x e
primary_sound n inner h (terminal.keyword k ∷ ts) x e = call_sound n inner h k ts x e
primary_sound n inner h (terminal.sign_is sign.Open ∷ ts) x e = brackets_sound n inner h ts x e
primary_sound n inner h (t ∷ ts) x e = absurd cc

-- ---- a minus, and integers

positive_some : (k : ℕ) (z : ℤ) → rule.positive k ≡ Some z → (k ≤ 9223372036854775807) × (pos k ≡ z)
positive_some k z e = let p = passed_as (nat_le k 9223372036854775807) (pos k) z e in (leb-true k 9223372036854775807 p.0, p.1)

negative_some : (k : ℕ) (z : ℤ) → rule.negative k ≡ Some z → (k ≤ 9223372036854775808) × (below_zero k ≡ z)
negative_some k z e = let p = passed_as (nat_le k 9223372036854775808) (below_zero k) z e in (leb-true k 9223372036854775808 p.0, p.1)

integer_sound : (n k : ℕ) (ts : List Terminal) (x : Parsed × List Terminal) → (rule.needed (terminal.integer k ∷ ts) (rule.positive k) >>= (λ z. Ok (rule.leaf (expr.Integer z), ts))) ≡ Ok x → Took 0 n level.Factor (terminal.integer k ∷ ts) x
integer_sound n k ts x e =
    let r = bind_ok (rule.needed (terminal.integer k ∷ ts) (rule.positive k)) (λ (z : ℤ). Ok (rule.leaf (expr.Integer z), ts)) x e in
    let p = positive_some k r.0 (needed_ok (terminal.integer k ∷ ts) (rule.positive k) r.0 r.1) in
    let one : depth (expr.Integer (pos k)) ≡ 1 = search (rules, the_lemmas) in
    let same : ◌≡◌ {A = Result (Parsed × List Terminal) Stop} (Ok (rule.leaf (expr.Integer (pos k)), ts)) (Ok x) = ap (λ (z : ℤ). Ok (rule.leaf (expr.Integer z), ts)) p.1 ∙ r.2 in
    leaf_made n level.Factor (terminal.integer k ∷ ts) (terminal.integer k ∷ []) ts (expr.Integer (pos k)) (integer k p.0) x same refl (omega arith) one

pub digits_taken : (ts : List Terminal) (k : ℕ × List Terminal) → first_is rule.digits_of ts ≡ Some k → ts ≡ terminal.integer k.0 ∷ k.1
digits_taken [] k e = absurd cc
digits_taken (terminal.integer n ∷ ts) k e = let same : ◌≡◌ {A = ℕ × List Terminal} (n, ts) k = cc e in ap (λ (p : ℕ × List Terminal). terminal.integer p.0 ∷ p.1) same
digits_taken (t ∷ ts) k e = absurd cc

pub no_integer : (front rest : List Terminal) → first_is rule.digits_of (front ++ rest) ≡ None → heads_integer front ≡ false
no_integer [] rest e = refl
no_integer (terminal.keyword k ∷ ts) rest e = refl
no_integer (terminal.name n ∷ ts) rest e = refl
no_integer (terminal.integer n ∷ ts) rest e = absurd cc
no_integer (terminal.text n ∷ ts) rest e = refl
no_integer (terminal.sign_is s ∷ ts) rest e = refl
no_integer (terminal.left_out n ∷ ts) rest e = refl
no_integer (terminal.out_of_range ∷ ts) rest e = refl
no_integer (terminal.not_closed ∷ ts) rest e = refl
no_integer (terminal.unknown ∷ ts) rest e = refl

minus_turn : (n : ℕ) (inner : Level → Reader) → IsInner n inner → (ts : List Terminal) (x : Parsed × List Terminal)
    → ((k : ℕ × List Terminal) × (first_is rule.digits_of ts ≡ Some k) × ((rule.needed ts (rule.negative k.0) >>= (λ z. Ok (rule.leaf (expr.Integer z), k.1))) ≡ Ok x)) ⊎ ((first_is rule.digits_of ts ≡ None) × ((inner level.Factor ts >>= (λ a. then_left (node 128 a.0.depth (expr.Minus a.0.expr)) a.1)) ≡ Ok x))
    → Took 0 n level.Factor (mark sign.Minus ∷ ts) x
minus_turn n inner h ts x (inl p) =
    let r = bind_ok (rule.needed ts (rule.negative p.0.0)) (λ (z : ℤ). Ok (rule.leaf (expr.Integer z), p.0.1)) x p.2 in
    let q = negative_some p.0.0 r.0 (needed_ok ts (rule.negative p.0.0) r.0 r.1) in
    let one : depth (expr.Integer (below_zero p.0.0)) ≡ 1 = search (rules, the_lemmas) in
    let same : ◌≡◌ {A = Result (Parsed × List Terminal) Stop} (Ok (rule.leaf (expr.Integer (below_zero p.0.0)), p.0.1)) (Ok x) = ap (λ (z : ℤ). Ok (rule.leaf (expr.Integer z), p.0.1)) q.1 ∙ r.2 in
    leaf_made n level.Factor (mark sign.Minus ∷ ts) (mark sign.Minus ∷ terminal.integer p.0.0 ∷ []) p.0.1 (expr.Integer (below_zero p.0.0)) (negative p.0.0 q.0) x same (ap (λ (v : List Terminal). mark sign.Minus ∷ v) (digits_taken ts p.0 p.1)) (omega arith) one
minus_turn n inner h ts x (inr p) =
    let r = bind_ok (inner level.Factor ts) (λ (a : Parsed × List Terminal). then_left (node 128 a.0.depth (expr.Minus a.0.expr)) a.1) x p.1 in
    let t = h level.Factor ts r.0 r.1 in
    let none : first_is rule.digits_of (t.front ++ r.0.1) ≡ None = ap (first_is rule.digits_of) (sym t.parts) ∙ p.0 in
    let opened : open_in t.spells + 1 ≤ n = t.opens in
    let few : suc (open_in t.spells) ≤ n = omega arith in
    let deep : depth (expr.Minus r.0.0.expr) ≡ suc r.0.0.depth = depth_minus r.0.0.expr ∙ ap suc (sym t.deep) in
    made n r.0.0.depth level.Factor (mark sign.Minus ∷ ts) (mark sign.Minus ∷ t.front) r.0.1 (expr.Minus r.0.0.expr) (minus (no_integer t.front r.0.1 none) t.spells) x r.2 (ap (λ (v : List Terminal). mark sign.Minus ∷ v) t.parts) few deep

minus_sound : (n : ℕ) (inner : Level → Reader) → IsInner n inner → (ts : List Terminal) (x : Parsed × List Terminal) → rule.minus_of 128 n inner ts ≡ Ok x → Took 0 n level.Factor (mark sign.Minus ∷ ts) x
minus_sound n inner h ts x e =
    minus_turn n inner h ts x (choose_ok (first_is rule.digits_of ts) (λ (k : ℕ × List Terminal). rule.needed ts (rule.negative k.0) >>= (λ z. Ok (rule.leaf (expr.Integer z), k.1))) (inner level.Factor ts >>= (λ a. then_left (node 128 a.0.depth (expr.Minus a.0.expr)) a.1)) x e)

pub factor_sound : (n : ℕ) (inner : Level → Reader) → IsInner n inner → IsSound 0 n level.Factor (rule.factor_of 128 n inner)
factor_sound n inner h [] x e = absurd cc
factor_sound n inner h (terminal.sign_is sign.Minus ∷ ts) x e = minus_sound n inner h ts x e
factor_sound n inner h (terminal.integer k ∷ ts) x e = integer_sound n k ts x e
factor_sound n inner h (terminal.text t ∷ ts) x e = next_took n level.Factor (terminal.text t ∷ ts) x (primary_sound n inner h (terminal.text t ∷ ts) x e)
factor_sound n inner h (terminal.name m ∷ ts) x e = next_took n level.Factor (terminal.name m ∷ ts) x (primary_sound n inner h (terminal.name m ∷ ts) x e)
factor_sound n inner h (terminal.keyword k ∷ ts) x e = next_took n level.Factor (terminal.keyword k ∷ ts) x (primary_sound n inner h (terminal.keyword k ∷ ts) x e)
factor_sound n inner h (terminal.sign_is sign.Open ∷ ts) x e = next_took n level.Factor (terminal.sign_is sign.Open ∷ ts) x (primary_sound n inner h (terminal.sign_is sign.Open ∷ ts) x e)
factor_sound n inner h (t ∷ ts) x e = absurd cc

pub term_sound : (n : ℕ) (inner : Level → Reader) → IsInner n inner → IsSound 0 n level.Term (rule.term_of 128 n inner)
term_sound n inner h = chain_sound n level.Term (rule.factor_of 128 n inner) (factor_sound n inner h)

pub sum_sound : (n : ℕ) (inner : Level → Reader) → IsInner n inner → IsSound 0 n level.Sum (rule.sum_of 128 n inner)
sum_sound n inner h = chain_sound n level.Sum (rule.term_of 128 n inner) (term_sound n inner h)

-- ---- what stands behind a predicate's subject

pub record TookTest (n : ℕ) (a : Expr) (us : List Terminal) (x : Parsed × List Terminal) : Type 0 where
  pub front : List Terminal
  pub tests : Tests a front x.0.expr
  pub parts : us ≡ front ++ x.1
  pub opens : open_in_test tests ≤ n
  pub deep : x.0.depth ≡ depth x.0.expr
  pub bounded : x.0.depth ≤ 128

test_made : (n k : ℕ) (a : Expr) (us front rest : List Terminal) (e : Expr) (d : Tests a front e) (x : Parsed × List Terminal) → then_left (node 128 k e) rest ≡ Ok x → us ≡ front ++ rest → open_in_test d ≤ n → depth e ≡ suc k → TookTest n a us x
test_made n k a us front rest e d x is parts o deep =
    let left = bind_ok (node 128 k e) (λ (p : Parsed). Ok (p, rest)) x is in
    let found = bind_ok (rule.deeper 128 k) (λ (d : ℕ). Ok (record { expr = e; depth = d })) left.0 left.1 in
    let below = allowed (nat_lt k 128) stop.TooDeep (k + 1) found.0 found.1 in
    let small : k < 128 = ltb-true k 128 below.0 in
    let sum : k + 1 ≡ found.0 = below.1 in
    let node_is : ◌≡◌ {A = Parsed} (record { expr = e; depth = found.0 }) left.0 = cc found.2 in
    let all : ◌≡◌ {A = Parsed × List Terminal} (record { expr = e; depth = found.0 }, rest) x = ap (λ (p : Parsed). (p, rest)) node_is ∙ cc left.2 in
    let same : found.0 ≡ depth e = omega arith in
    let bound : found.0 ≤ 128 = omega arith in
    subst (λ (y : Parsed × List Terminal). TookTest n a us y) all (record { front = front; tests = d; parts = parts; opens = o; deep = same; bounded = bound })

comparison_taken : (t : Terminal) (op : ComparisonOperator) → comparison_of t ≡ Some op → t ≡ mark (compares op)
comparison_taken (terminal.sign_is sign.Equal) op e = let is : comparison.Equal ≡ op = cc e in ap (λ (x : ComparisonOperator). mark (compares x)) is
comparison_taken (terminal.sign_is sign.NotEqual) op e = let is : comparison.NotEqual ≡ op = cc e in ap (λ (x : ComparisonOperator). mark (compares x)) is
comparison_taken (terminal.sign_is sign.Less) op e = let is : comparison.Less ≡ op = cc e in ap (λ (x : ComparisonOperator). mark (compares x)) is
comparison_taken (terminal.sign_is sign.AtMost) op e = let is : comparison.LessOrEqual ≡ op = cc e in ap (λ (x : ComparisonOperator). mark (compares x)) is
comparison_taken (terminal.sign_is sign.Greater) op e = let is : comparison.Greater ≡ op = cc e in ap (λ (x : ComparisonOperator). mark (compares x)) is
comparison_taken (terminal.sign_is sign.AtLeast) op e = let is : comparison.GreaterOrEqual ≡ op = cc e in ap (λ (x : ComparisonOperator). mark (compares x)) is
comparison_taken t op e = absurd cc

pub first_comparison : (us : List Terminal) (op : ComparisonOperator × List Terminal) → first_is comparison_of us ≡ Some op → us ≡ mark (compares op.0) ∷ op.1
first_comparison [] op e = absurd cc
first_comparison (t ∷ us) op e =
    let b = there (comparison_of t) (λ (a : ComparisonOperator). (a, us)) op e in
    ap (λ (v : Terminal). v ∷ us) (comparison_taken t b.0 b.1) ∙ ap (λ (y : ComparisonOperator × List Terminal). mark (compares y.0) ∷ y.1) b.2

compare_sound : (n : ℕ) (inner : Level → Reader) → IsInner n inner → (a : Parsed) → a.depth ≡ depth a.expr → (op : ComparisonOperator) (us ts : List Terminal) (x : Parsed × List Terminal) → us ≡ mark (compares op) ∷ ts → rule.compare_of 128 n inner a op ts ≡ Ok x → TookTest n a.expr us x
compare_sound n inner h a da op us ts x before e =
    let r = bind_ok (rule.sum_of 128 n inner ts) (λ (b : Parsed × List Terminal). then_left (node 128 (max a.depth b.0.depth) (expr.Compare op a.expr b.0.expr)) b.1) x e in
    let t = sum_sound n inner h ts r.0 r.1 in
    let opened : open_in t.spells + 0 ≤ n = t.opens in
    let few : open_in t.spells ≤ n = omega arith in
    let second : r.0.0.depth ≡ depth r.0.0.expr = t.deep in
    let deep : depth (expr.Compare op a.expr r.0.0.expr) ≡ suc (max (depth a.expr) (max (depth r.0.0.expr) 0)) = depth_compare op a.expr r.0.0.expr in
    let parts : us ≡ (mark (compares op) ∷ t.front) ++ r.0.1 = before ∙ ap (λ (v : List Terminal). mark (compares op) ∷ v) t.parts in
    test_made n (max a.depth r.0.0.depth) a.expr us (mark (compares op) ∷ t.front) r.0.1 (expr.Compare op a.expr r.0.0.expr) (compared op t.spells) x r.2 parts few (omega arith)

between_sound : (n : ℕ) (inner : Level → Reader) → IsInner n inner → (a : Parsed) → a.depth ≡ depth a.expr → (not : Bool) (us ts : List Terminal) (x : Parsed × List Terminal) → us ≡ not_if not ++ (word keyword.Between ∷ ts) → rule.between_of 128 n inner a not ts ≡ Ok x → TookTest n a.expr us x
between_sound n inner h a da not us ts x before e =
    let r = bind_ok (rule.bounds_of 128 n inner ts) (λ (b : (Parsed × Parsed) × List Terminal). then_left (node 128 (max a.depth (max b.0.0.depth b.0.1.depth)) (expr.Between not a.expr b.0.0.expr b.0.1.expr)) b.1) x e in
    let low = bind_ok (rule.sum_of 128 n inner ts) (λ (low : Parsed × List Terminal). rule.high_of 128 n inner low.1 >>= (λ high. Ok ((low.0, high.0), high.1))) r.0 r.1 in
    let high = bind_ok (rule.high_of 128 n inner low.0.1) (λ (high : Parsed × List Terminal). Ok ((low.0.0, high.0), high.1)) r.0 low.2 in
    let and_is = bind_ok (past (is_keyword keyword.And) low.0.1) (λ (vs : List Terminal). rule.sum_of 128 n inner vs) high.0 high.1 in
    let conjunction : low.0.1 ≡ word keyword.And ∷ and_is.0 = word_past keyword.And low.0.1 and_is.0 and_is.1 in
    let t = sum_sound n inner h ts low.0 low.1 in
    let s = sum_sound n inner h and_is.0 high.0 and_is.2 in
    let same : ◌≡◌ {A = (Parsed × Parsed) × List Terminal} r.0 ((low.0.0, high.0.0), high.0.1) = sym (cc high.2) in
    let reads : then_left (node 128 (max a.depth (max low.0.0.depth high.0.0.depth)) (expr.Between not a.expr low.0.0.expr high.0.0.expr)) high.0.1 ≡ Ok x = subst (λ (b : (Parsed × Parsed) × List Terminal). then_left (node 128 (max a.depth (max b.0.0.depth b.0.1.depth)) (expr.Between not a.expr b.0.0.expr b.0.1.expr)) b.1 ≡ Ok x) same r.2 in
    let low_open : open_in t.spells + 0 ≤ n = t.opens in
    let high_open : open_in s.spells + 0 ≤ n = s.opens in
    let few : max (open_in t.spells) (open_in s.spells) ≤ n = omega arith in
    let low_deep : low.0.0.depth ≡ depth low.0.0.expr = t.deep in
    let high_deep : high.0.0.depth ≡ depth high.0.0.expr = s.deep in
    let deep : depth (expr.Between not a.expr low.0.0.expr high.0.0.expr) ≡ suc (max (depth a.expr) (max (depth low.0.0.expr) (max (depth high.0.0.expr) 0))) = depth_between not a.expr low.0.0.expr high.0.0.expr in
    let inner_parts : ts ≡ (t.front ++ word keyword.And ∷ s.front) ++ high.0.1 = t.parts ∙ ap (λ (v : List Terminal). t.front ++ v) (conjunction ∙ ap (λ (v : List Terminal). word keyword.And ∷ v) s.parts) ∙ sym (append_assoc t.front (word keyword.And ∷ s.front) high.0.1) in
    let parts : us ≡ (not_if not ++ (word keyword.Between ∷ t.front ++ word keyword.And ∷ s.front)) ++ high.0.1 =
    before ∙ ap (λ (v : List Terminal). not_if not ++ (word keyword.Between ∷ v)) inner_parts ∙ sym (append_assoc (not_if not) (word keyword.Between ∷ t.front ++ word keyword.And ∷ s.front) high.0.1) in
    test_made n (max a.depth (max low.0.0.depth high.0.0.depth)) a.expr us (not_if not ++ (word keyword.Between ∷ t.front ++ word keyword.And ∷ s.front)) high.0.1 (expr.Between not a.expr low.0.0.expr high.0.0.expr) (between not t.spells s.spells) x reads parts few (omega arith)

in_sound : (n : ℕ) (inner : Level → Reader) → IsInner n inner → (a : Parsed) → a.depth ≡ depth a.expr → (not : Bool) (us ts : List Terminal) (x : Parsed × List Terminal) → us ≡ not_if not ++ (word keyword.In ∷ ts) → rule.in_of 128 n inner a not ts ≡ Ok x → TookTest n a.expr us x
in_sound n inner h a da not us ts x before e =
    let r = bind_ok (rule.bracketed_list inner ts) (λ (es : rule.Listed × List Terminal). then_left (node 128 (max a.depth es.0.deepest) (expr.In not a.expr es.0.exprs)) es.1) x e in
    let t = bracketed_sound n inner h ts r.0 r.1 in
    let opened : open_in_list t.spells + 1 ≤ n = t.opens in
    let few : suc (open_in_list t.spells) ≤ n = omega arith in
    let list_deep : r.0.0.deepest ≡ deepest (map depth r.0.0.exprs) = t.deep in
    let deep : depth (expr.In not a.expr r.0.0.exprs) ≡ suc (max (depth a.expr) (deepest (map depth r.0.0.exprs))) = depth_in not a.expr r.0.0.exprs in
    let parts : us ≡ (not_if not ++ word keyword.In ∷ bracketed t.front) ++ r.0.1 = before ∙ ap (λ (v : List Terminal). not_if not ++ (word keyword.In ∷ v)) t.parts ∙ sym (append_assoc (not_if not) (word keyword.In ∷ bracketed t.front) r.0.1) in
    test_made n (max a.depth r.0.0.deepest) a.expr us (not_if not ++ word keyword.In ∷ bracketed t.front) r.0.1 (expr.In not a.expr r.0.0.exprs) (among not t.spells) x r.2 parts few (omega arith)

pub text_taken : (ts : List Terminal) (t : List ℕ × List Terminal) → rule.text_at ts ≡ Ok t → (w : List ℕ) × (ts ≡ terminal.text w ∷ t.1) × (undoubled w ≡ t.0)
text_taken [] t e = absurd cc
text_taken (terminal.text w ∷ ts) t e =
    let same : ◌≡◌ {A = List ℕ × List Terminal} (undoubled w, ts) t = cc e in
    (w, ap (λ (p : List ℕ × List Terminal). terminal.text w ∷ p.1) same, ap (λ (p : List ℕ × List Terminal). p.0) same)
text_taken (u ∷ ts) t e = absurd cc

like_sound : (n : ℕ) (a : Parsed) → a.depth ≡ depth a.expr → (not : Bool) (us ts : List Terminal) (x : Parsed × List Terminal) → us ≡ not_if not ++ ts → rule.like_test 128 a not ts ≡ Ok x → TookTest n a.expr us x
like_sound n a da not us ts x before e =
    let r = bind_ok (rule.pattern_at ts) (λ (t : List ℕ × List Terminal). then_left (node 128 a.depth (expr.Like not a.expr t.0)) t.1) x e in
    let l = bind_ok (past (is_keyword keyword.Like) ts) (λ (vs : List Terminal). rule.text_at vs) r.0 r.1 in
    let w = text_taken l.0 r.0 l.2 in
    let like_word : ts ≡ word keyword.Like ∷ l.0 = word_past keyword.Like ts l.0 l.1 in
    let reads : then_left (node 128 a.depth (expr.Like not a.expr (undoubled w.0))) r.0.1 ≡ Ok x = subst (λ (v : List ℕ). then_left (node 128 a.depth (expr.Like not a.expr v)) r.0.1 ≡ Ok x) (sym w.2) r.2 in
    let deep : depth (expr.Like not a.expr (undoubled w.0)) ≡ suc (depth a.expr) = depth_like not a.expr (undoubled w.0) in
    let parts : us ≡ (not_if not ++ word keyword.Like ∷ terminal.text w.0 ∷ []) ++ r.0.1 =
    before ∙ ap (λ (v : List Terminal). not_if not ++ v) (like_word ∙ ap (λ (v : List Terminal). word keyword.Like ∷ v) w.1) ∙ sym (append_assoc (not_if not) (word keyword.Like ∷ terminal.text w.0 ∷ []) r.0.1) in
    test_made n a.depth a.expr us (not_if not ++ word keyword.Like ∷ terminal.text w.0 ∷ []) r.0.1 (expr.Like not a.expr (undoubled w.0)) (like not w.0) x reads parts (omega arith) (omega arith)

null_sound : (n : ℕ) (a : Parsed) → a.depth ≡ depth a.expr → (not : Bool) (us ts : List Terminal) (x : Parsed × List Terminal) → us ≡ word keyword.Is ∷ not_if not ++ ts → rule.null_of 128 a not ts ≡ Ok x → TookTest n a.expr us x
null_sound n a da not us ts x before e =
    let r = bind_ok (past (is_keyword keyword.Null) ts) (λ (rest : List Terminal). then_left (node 128 a.depth (expr.IsNull not a.expr)) rest) x e in
    let null_word : ts ≡ word keyword.Null ∷ r.0 = word_past keyword.Null ts r.0 r.1 in
    let deep : depth (expr.IsNull not a.expr) ≡ suc (depth a.expr) = depth_null not a.expr in
    let parts : us ≡ (word keyword.Is ∷ not_if not ++ word keyword.Null ∷ []) ++ r.0 =
    before ∙ ap (λ (v : List Terminal). word keyword.Is ∷ v) (ap (λ (v : List Terminal). not_if not ++ v) null_word ∙ sym (append_assoc (not_if not) (word keyword.Null ∷ []) r.0)) in
    test_made n a.depth a.expr us (word keyword.Is ∷ not_if not ++ word keyword.Null ∷ []) r.0 (expr.IsNull not a.expr) (is_null not) x r.2 parts (omega arith) (omega arith)

in_turn : (n : ℕ) (inner : Level → Reader) → IsInner n inner → (a : Parsed) → a.depth ≡ depth a.expr → (not : Bool) (us ts : List Terminal) (x : Parsed × List Terminal) → us ≡ not_if not ++ ts
    → ((vs : List Terminal) × (behind (is_keyword keyword.In) ts ≡ Some vs) × (rule.in_of 128 n inner a not vs ≡ Ok x)) ⊎ ((behind (is_keyword keyword.In) ts ≡ None) × (rule.like_test 128 a not ts ≡ Ok x)) → TookTest n a.expr us x
in_turn n inner h a da not us ts x before (inl p) = in_sound n inner h a da not us p.0 x (before ∙ ap (λ (v : List Terminal). not_if not ++ v) (word_taken keyword.In ts p.0 p.1)) p.2
in_turn n inner h a da not us ts x before (inr p) = like_sound n a da not us ts x before p.1

between_turn : (n : ℕ) (inner : Level → Reader) → IsInner n inner → (a : Parsed) → a.depth ≡ depth a.expr → (not : Bool) (us ts : List Terminal) (x : Parsed × List Terminal) → us ≡ not_if not ++ ts
    → ((vs : List Terminal) × (behind (is_keyword keyword.Between) ts ≡ Some vs) × (rule.between_of 128 n inner a not vs ≡ Ok x)) ⊎ ((behind (is_keyword keyword.Between) ts ≡ None) × (choose (behind (is_keyword keyword.In) ts) (rule.in_of 128 n inner a not) (rule.like_test 128 a not ts) ≡ Ok x)) → TookTest n a.expr us x
between_turn n inner h a da not us ts x before (inl p) = between_sound n inner h a da not us p.0 x (before ∙ ap (λ (v : List Terminal). not_if not ++ v) (word_taken keyword.Between ts p.0 p.1)) p.2
between_turn n inner h a da not us ts x before (inr p) = in_turn n inner h a da not us ts x before (choose_ok (behind (is_keyword keyword.In) ts) (rule.in_of 128 n inner a not) (rule.like_test 128 a not ts) x p.1)

named_sound : (n : ℕ) (inner : Level → Reader) → IsInner n inner → (a : Parsed) → a.depth ≡ depth a.expr → (not : Bool) (us ts : List Terminal) (x : Parsed × List Terminal) → us ≡ not_if not ++ ts → rule.named_test 128 n inner a not ts ≡ Ok x → TookTest n a.expr us x
named_sound n inner h a da not us ts x before e =
    between_turn n inner h a da not us ts x before (choose_ok (behind (is_keyword keyword.Between) ts) (rule.between_of 128 n inner a not) (choose (behind (is_keyword keyword.In) ts) (rule.in_of 128 n inner a not) (rule.like_test 128 a not ts)) x e)

is_turn : (n : ℕ) (a : Parsed) → a.depth ≡ depth a.expr → (us ts : List Terminal) (x : Parsed × List Terminal) → us ≡ word keyword.Is ∷ ts
    → ((vs : List Terminal) × (behind (is_keyword keyword.Not) ts ≡ Some vs) × (rule.null_of 128 a true vs ≡ Ok x)) ⊎ ((behind (is_keyword keyword.Not) ts ≡ None) × (rule.null_of 128 a false ts ≡ Ok x)) → TookTest n a.expr us x
is_turn n a da us ts x before (inl p) = null_sound n a da true us p.0 x (before ∙ ap (λ (v : List Terminal). word keyword.Is ∷ v) (word_taken keyword.Not ts p.0 p.1)) p.2
is_turn n a da us ts x before (inr p) = null_sound n a da false us ts x before p.1

is_sound : (n : ℕ) (a : Parsed) → a.depth ≡ depth a.expr → (us ts : List Terminal) (x : Parsed × List Terminal) → us ≡ word keyword.Is ∷ ts → rule.is_of 128 a ts ≡ Ok x → TookTest n a.expr us x
is_sound n a da us ts x before e = is_turn n a da us ts x before (choose_ok (behind (is_keyword keyword.Not) ts) (rule.null_of 128 a true) (rule.null_of 128 a false ts) x e)

-- a test, or nothing
abbrev MayTest : ℕ → Parsed → List Terminal → Parsed × List Terminal → Type 0
MayTest n a us x = TookTest n a.expr us x ⊎ (◌≡◌ {A = Parsed × List Terminal} (a, us) x)

-- what stands there where no word of a test does
abbrev plain_test : ℕ → (Level → Reader) → Parsed → Reader
plain_test n inner a us = cond (begins_test us) (rule.named_test 128 n inner a false us) (Ok (a, us))

plain_turn : (n : ℕ) (inner : Level → Reader) → IsInner n inner → (a : Parsed) → a.depth ≡ depth a.expr → (us : List Terminal) (x : Parsed × List Terminal) (begins : Bool) → cond begins (rule.named_test 128 n inner a false us) (Ok (a, us)) ≡ Ok x → MayTest n a us x
plain_turn n inner h a da us x true e = inl (named_sound n inner h a da false us us x refl e)
plain_turn n inner h a da us x false e = inr cc

not_turn : (n : ℕ) (inner : Level → Reader) → IsInner n inner → (a : Parsed) → a.depth ≡ depth a.expr → (us : List Terminal) (x : Parsed × List Terminal)
    → ((vs : List Terminal) × (behind (is_keyword keyword.Not) us ≡ Some vs) × (rule.named_test 128 n inner a true vs ≡ Ok x)) ⊎ ((behind (is_keyword keyword.Not) us ≡ None) × (plain_test n inner a us ≡ Ok x)) → MayTest n a us x
not_turn n inner h a da us x (inl p) = inl (named_sound n inner h a da true us p.0 x (word_taken keyword.Not us p.0 p.1) p.2)
not_turn n inner h a da us x (inr p) = plain_turn n inner h a da us x (begins_test us) p.1

-- what stands there where no comparison does
abbrev word_test : ℕ → (Level → Reader) → Parsed → Reader
word_test n inner a us = choose (behind (is_keyword keyword.Is) us) (rule.is_of 128 a) (choose (behind (is_keyword keyword.Not) us) (rule.named_test 128 n inner a true) (plain_test n inner a us))

word_turn : (n : ℕ) (inner : Level → Reader) → IsInner n inner → (a : Parsed) → a.depth ≡ depth a.expr → (us : List Terminal) (x : Parsed × List Terminal)
    → ((vs : List Terminal) × (behind (is_keyword keyword.Is) us ≡ Some vs) × (rule.is_of 128 a vs ≡ Ok x)) ⊎ ((behind (is_keyword keyword.Is) us ≡ None) × (choose (behind (is_keyword keyword.Not) us) (rule.named_test 128 n inner a true) (plain_test n inner a us) ≡ Ok x)) → MayTest n a us x
word_turn n inner h a da us x (inl p) = inl (is_sound n a da us p.0 x (word_taken keyword.Is us p.0 p.1) p.2)
word_turn n inner h a da us x (inr p) = not_turn n inner h a da us x (choose_ok (behind (is_keyword keyword.Not) us) (rule.named_test 128 n inner a true) (plain_test n inner a us) x p.1)

comparison_turn : (n : ℕ) (inner : Level → Reader) → IsInner n inner → (a : Parsed) → a.depth ≡ depth a.expr → (us : List Terminal) (x : Parsed × List Terminal)
    → ((op : ComparisonOperator × List Terminal) × (first_is comparison_of us ≡ Some op) × (rule.compare_of 128 n inner a op.0 op.1 ≡ Ok x)) ⊎ ((first_is comparison_of us ≡ None) × (word_test n inner a us ≡ Ok x)) → MayTest n a us x
comparison_turn n inner h a da us x (inl p) = inl (compare_sound n inner h a da p.0.0 us p.0.1 x (first_comparison us p.0 p.1) p.2)
comparison_turn n inner h a da us x (inr p) = word_turn n inner h a da us x (choose_ok (behind (is_keyword keyword.Is) us) (rule.is_of 128 a) (choose (behind (is_keyword keyword.Not) us) (rule.named_test 128 n inner a true) (plain_test n inner a us)) x p.1)

pub test_sound : (n : ℕ) (inner : Level → Reader) → IsInner n inner → (a : Parsed) → a.depth ≡ depth a.expr → (us : List Terminal) (x : Parsed × List Terminal) → rule.test_of 128 n inner a us ≡ Ok x → MayTest n a us x
test_sound n inner h a da us x e = comparison_turn n inner h a da us x (choose_ok (first_is comparison_of us) (λ (op : ComparisonOperator × List Terminal). rule.compare_of 128 n inner a op.0 op.1) (word_test n inner a us) x e)

-- ---- the weaker rules

tested_took : (n : ℕ) (ts : List Terminal) (a x : Parsed × List Terminal) → Took 0 n level.Sum ts a → MayTest n a.0 a.1 x → Took 0 n level.Predicate ts x
tested_took n ts a x t (inl s) =
    let first_open : open_in t.spells + 0 ≤ n = t.opens in
    let second_open : open_in_test s.tests ≤ n = s.opens in
    let few : max (open_in t.spells) (open_in_test s.tests) + 0 ≤ n = omega arith in
    record { front = t.front ++ s.front; spells = tested t.spells s.tests; parts = t.parts ∙ ap (λ (v : List Terminal). t.front ++ v) s.parts ∙ sym (append_assoc t.front s.front x.1); opens = few; deep = s.deep; bounded = s.bounded }
tested_took n ts a x t (inr same) = subst (λ (y : Parsed × List Terminal). Took 0 n level.Predicate ts y) same (next_took n level.Predicate ts a t)

pub predicate_sound : (n : ℕ) (inner : Level → Reader) → IsInner n inner → IsSound 0 n level.Predicate (rule.predicate_of 128 n inner)
predicate_sound n inner h ts x e =
    let r = bind_ok (rule.sum_of 128 n inner ts) (λ (a : Parsed × List Terminal). rule.test_of 128 n inner a.0 a.1) x e in
    let t = sum_sound n inner h ts r.0 r.1 in
    tested_took n ts r.0 x t (test_sound n inner h r.0.0 t.deep r.0.1 x r.2)

negation_turn : (n : ℕ) (inner : Level → Reader) → IsInner n inner → (ts : List Terminal) (x : Parsed × List Terminal)
    → ((us : List Terminal) × (behind (is_keyword keyword.Not) ts ≡ Some us) × ((inner level.Negation us >>= (λ a. then_left (node 128 a.0.depth (expr.Not a.0.expr)) a.1)) ≡ Ok x)) ⊎ ((behind (is_keyword keyword.Not) ts ≡ None) × (rule.predicate_of 128 n inner ts ≡ Ok x)) → Took 0 n level.Negation ts x
negation_turn n inner h ts x (inl p) =
    let r = bind_ok (inner level.Negation p.0) (λ (a : Parsed × List Terminal). then_left (node 128 a.0.depth (expr.Not a.0.expr)) a.1) x p.2 in
    let t = h level.Negation p.0 r.0 r.1 in
    let opened : open_in t.spells + 1 ≤ n = t.opens in
    let few : suc (open_in t.spells) ≤ n = omega arith in
    let deep : depth (expr.Not r.0.0.expr) ≡ suc r.0.0.depth = depth_not r.0.0.expr ∙ ap suc (sym t.deep) in
    made n r.0.0.depth level.Negation ts (word keyword.Not ∷ t.front) r.0.1 (expr.Not r.0.0.expr) (negated t.spells) x r.2 (word_taken keyword.Not ts p.0 p.1 ∙ ap (λ (v : List Terminal). word keyword.Not ∷ v) t.parts) few deep
negation_turn n inner h ts x (inr p) = next_took n level.Negation ts x (predicate_sound n inner h ts x p.1)

pub negation_sound : (n : ℕ) (inner : Level → Reader) → IsInner n inner → IsSound 0 n level.Negation (rule.negation_of 128 n inner)
negation_sound n inner h ts x e =
    negation_turn n inner h ts x (choose_ok (behind (is_keyword keyword.Not) ts) (λ (us : List Terminal). inner level.Negation us >>= (λ a. then_left (node 128 a.0.depth (expr.Not a.0.expr)) a.1)) (rule.predicate_of 128 n inner ts) x e)

pub conjunction_sound : (n : ℕ) (inner : Level → Reader) → IsInner n inner → IsSound 0 n level.Conjunction (rule.conjunction_of 128 n inner)
conjunction_sound n inner h = chain_sound n level.Conjunction (rule.negation_of 128 n inner) (negation_sound n inner h)

disjunction_sound : (n : ℕ) (inner : Level → Reader) → IsInner n inner → IsSound 0 n level.Disjunction (rule.disjunction_of 128 n inner)
disjunction_sound n inner h = chain_sound n level.Disjunction (rule.conjunction_of 128 n inner) (conjunction_sound n inner h)

rule_sound : (n : ℕ) (inner : Level → Reader) → IsInner n inner → (l : Level) → IsSound 0 n l (rule.rule_of 128 n inner l)
rule_sound n inner h level.Disjunction = disjunction_sound n inner h
rule_sound n inner h level.Conjunction = conjunction_sound n inner h
rule_sound n inner h level.Negation = negation_sound n inner h
rule_sound n inner h level.Predicate = predicate_sound n inner h
rule_sound n inner h level.Sum = sum_sound n inner h
rule_sound n inner h level.Term = term_sound n inner h
rule_sound n inner h level.Factor = factor_sound n inner h
rule_sound n inner h level.Primary = primary_sound n inner h

-- What is read behind what opens it is spelled by the tokens that it took, with fewer open than may be.
pub inner_sound : (n : ℕ) → IsInner n (inner_at 128 n)
unfolding inner_at
inner_sound zero l ts x e = absurd cc
inner_sound (suc n) l ts x e =
    let t = rule_sound n (inner_at 128 n) (inner_sound n) l ts x e in
    let opened : open_in t.spells + 0 ≤ n = t.opens in
    let few : open_in t.spells + 1 ≤ suc n = omega arith in
    record { front = t.front; spells = t.spells; parts = t.parts; opens = few; deep = t.deep; bounded = t.bounded }
