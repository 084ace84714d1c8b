-- Writing tokens one behind the other.
use Rattle.std.proofs.Common.{◌≡◌, ◌+◌, ◌<◌, ◌≤◌, suc, Bool, List, [], ◌∷◌, ◌++◌, length, drop, get_or, refl, sym, ap, ◌∙◌, append_assoc, arith}
use Rattle.std.proofs.Math.Seq.{drop-cons}
use Rattle.std.proofs.lemmas.List.{append-nil, drop_all}
use Rattle.std.specs.Prelude.{ℕ, map, Option, option_map}
use Rattle.sql_syntax.specs.declared.keyword.Keyword.TheVariants as keyword
use Rattle.sql_syntax.specs.declared.token.Sign.TheVariants as sign
use Rattle.sql_syntax.specs.declared.strength.Level.TheVariants as level
use Rattle.sql_syntax.specs.declared.strength.Operator.TheVariants as operator
use Rattle.sql_syntax.specs.declared.tree.JoinKind.{JoinKind}
use Rattle.sql_syntax.specs.declared.tree.JoinKind.TheVariants as join_kind
use Rattle.sql_syntax.specs.declared.tree.Aggregate.{Aggregate}
use Rattle.meaning.specs.declared.expr.ArithmeticOperator.{ArithmeticOperator}
use Rattle.meaning.specs.declared.expr.ComparisonOperator.{ComparisonOperator}
use Rattle.sql_syntax.specs.declared.tree.Arm.{Arm}
use Rattle.sql_syntax.specs.declared.tree.Expr.{Expr}
use Rattle.sql_syntax.specs.declared.tree.Expr.TheVariants as expr
use Rattle.sql_syntax.specs.declared.tree.Item.{Item}
use Rattle.sql_syntax.specs.declared.tree.Joined.{Joined}
use Rattle.sql_syntax.specs.declared.tree.OrderKey.{OrderKey}
use Rattle.sql_syntax.specs.declared.tree.Table.{Table}
use Rattle.sql_syntax.specs.Tokens as terminal
use Rattle.sql_syntax.specs.Tokens.{Terminal}
use Rattle.sql_syntax.specs.Strength.{next, level_of, token_of, compares}
use Rattle.sql_syntax.specs.Phrases.{word, mark, not_if, distinct_if, bracketed, aggregate_word, is_distinct}
use Rattle.sql_syntax.specs.CanonicalTokens.{Printed, at_level, free, doubled, else_tokens, printed, printed_arm, list_tokens, arms_tokens}
use Rattle.sql_syntax.specs.Queries.{text_behind, with_commas, item_tokens, key_tokens, on_tokens, other_tokens, table_tokens, others_tokens_of}
use Rattle.sql_syntax.specs.Printing.{Written, with_token, with_tokens, aggregate_tokens, behind_commas, more_items, more_keys, joined_tokens}
use Rattle.sql_syntax.proofs.Canonical.{printed_or, printed_case, printed_and, printed_reckon, printed_aggregate, printed_compare, printed_between, printed_in, printed_like, printed_null, printed_arm_is}

pub with_append : (w : Written) (ts us : List Terminal) → with_tokens w (ts ++ us) ≡ with_tokens (with_tokens w ts) us
with_append w [] us = refl
with_append w (t ∷ ts) us = with_append (with_token w t) ts us

-- what is written behind what was there is the text of the tokens
pub writes : (w : Written) (ts : List Terminal) → (with_tokens w ts).bytes ≡ w.bytes ++ text_behind w.operand w.hugs ts
writes w [] = sym (append-nil w.bytes)
writes w (t ∷ ts) = writes (with_token w t) ts ∙ search (append_assoc)

-- ---- steps of loops

pub more_step : (w : Written) (p : Printed) (ps : List Printed) → with_tokens w (behind_commas (p ∷ ps)) ≡ with_tokens (with_tokens w (mark sign.Comma ∷ free p)) (behind_commas ps)
more_step w p ps = with_append w (mark sign.Comma ∷ free p) (behind_commas ps)

list_is : (p : Printed) (ps : List Printed) → list_tokens (p ∷ ps) ≡ free p ++ behind_commas ps
list_is p [] = sym (append-nil (free p))
list_is p (q ∷ ps) = ap (λ (x : List Terminal). free p ++ mark sign.Comma ∷ x) (list_is q ps)

pub list_step : (w : Written) (p : Printed) (ps : List Printed) → with_tokens w (list_tokens (p ∷ ps)) ≡ with_tokens (with_tokens w (free p)) (behind_commas ps)
list_step w p ps = ap (with_tokens w) (list_is p ps) ∙ with_append w (free p) (behind_commas ps)

pub items_step : (w : Written) (item : Item) (items : List Item) → with_tokens w (more_items (item ∷ items)) ≡ with_tokens (with_tokens (with_token w (mark sign.Comma)) (item_tokens item)) (more_items items)
items_step w item items = with_append w (mark sign.Comma ∷ item_tokens item) (more_items items)

items_are : (item : Item) (items : List Item) → with_commas (map item_tokens (item ∷ items)) ≡ item_tokens item ++ more_items items
items_are item [] = sym (append-nil (item_tokens item))
items_are item (next ∷ items) = ap (λ (x : List Terminal). item_tokens item ++ mark sign.Comma ∷ x) (items_are next items)

pub items_first : (w : Written) (item : Item) (items : List Item) → with_tokens w (with_commas (map item_tokens (item ∷ items))) ≡ with_tokens (with_tokens w (item_tokens item)) (more_items items)
items_first w item items = ap (with_tokens w) (items_are item items) ∙ with_append w (item_tokens item) (more_items items)

pub keys_step : (w : Written) (key : OrderKey) (keys : List OrderKey) → with_tokens w (more_keys (key ∷ keys)) ≡ with_tokens (with_tokens (with_token w (mark sign.Comma)) (key_tokens key)) (more_keys keys)
keys_step w key keys = with_append w (mark sign.Comma ∷ key_tokens key) (more_keys keys)

keys_are : (key : OrderKey) (keys : List OrderKey) → with_commas (map key_tokens (key ∷ keys)) ≡ key_tokens key ++ more_keys keys
keys_are key [] = sym (append-nil (key_tokens key))
keys_are key (next ∷ keys) = ap (λ (x : List Terminal). key_tokens key ++ mark sign.Comma ∷ x) (keys_are next keys)

pub keys_first : (w : Written) (key : OrderKey) (keys : List OrderKey) → with_tokens w (with_commas (map key_tokens (key ∷ keys))) ≡ with_tokens (with_tokens w (key_tokens key)) (more_keys keys)
keys_first w key keys = ap (with_tokens w) (keys_are key keys) ∙ with_append w (key_tokens key) (more_keys keys)

on_is : (t : Table) (e : Expr) (rest : List Terminal) → on_tokens t e rest ≡ on_tokens t e [] ++ rest
on_is t e rest =
    ap (λ (x : List Terminal). word keyword.Join ∷ x) (sym (append_assoc (table_tokens t) (word keyword.On ∷ free (printed e)) rest))
    ∙ ap (λ (x : List Terminal). (word keyword.Join ∷ table_tokens t ++ (word keyword.On ∷ x)) ++ rest) (sym (append-nil (free (printed e))))

other_is : (kind : JoinKind) (t : Table) (rest : List Terminal) → other_tokens kind t rest ≡ other_tokens kind t [] ++ rest
other_is join_kind.Comma t rest = ap (λ (x : List Terminal). mark sign.Comma ∷ x ++ rest) (sym (append-nil (table_tokens t)))
other_is (join_kind.Inner e) t rest = on_is t e rest
other_is (join_kind.Left e) t rest = ap (λ (x : List Terminal). word keyword.Left ∷ x) (on_is t e rest)

pub others_step : (w : Written) (j : Joined) (js : List Joined) → with_tokens w (others_tokens_of (j ∷ js)) ≡ with_tokens (with_tokens w (joined_tokens j)) (others_tokens_of js)
others_step w j js = ap (with_tokens w) (other_is j.kind j.table (others_tokens_of js)) ∙ with_append w (joined_tokens j) (others_tokens_of js)

pub arms_step : (w : Written) (arm : Arm) (ps : List (Printed × Printed)) → with_tokens w (arms_tokens (printed_arm arm ∷ ps))
    ≡ with_tokens (with_tokens (with_tokens w (word keyword.When ∷ free (printed arm.condition))) (word keyword.Then ∷ free (printed arm.value))) (arms_tokens ps)
arms_step w arm ps =
    ap (λ (p : Printed × Printed). with_tokens w (arms_tokens (p ∷ ps))) (printed_arm_is arm.condition arm.value)
    ∙ with_append w (word keyword.When ∷ free (printed arm.condition)) (word keyword.Then ∷ free (printed arm.value) ++ arms_tokens ps)
    ∙ with_append (with_tokens w (word keyword.When ∷ free (printed arm.condition))) (word keyword.Then ∷ free (printed arm.value)) (arms_tokens ps)

-- ---- nodes

pub aggregate_step : (w : Written) (k : Aggregate) (e : Expr) → with_tokens w (printed (expr.Aggregate k e)).tokens
    ≡ with_token (with_tokens (with_tokens w (aggregate_tokens k)) (free (printed e))) (mark sign.Close)
aggregate_step w k e =
    let opened = with_token (with_token w (word (aggregate_word k))) (mark sign.Open) in
    ap (λ (p : Printed). with_tokens w p.tokens) (printed_aggregate k e)
    ∙ with_append opened (distinct_if (is_distinct k) ++ free (printed e)) (mark sign.Close ∷ [])
    ∙ ap (λ (v : Written). with_token v (mark sign.Close)) (with_append opened (distinct_if (is_distinct k)) (free (printed e)))

pub reckon_step : (w : Written) (op : ArithmeticOperator) (a b : Expr) → with_tokens w (printed (expr.Arithmetic op a b)).tokens
    ≡ with_tokens (with_tokens w (at_level (level_of (operator.Reckon op)) (printed a))) (token_of (operator.Reckon op) ∷ at_level (next (level_of (operator.Reckon op))) (printed b))
reckon_step w op a b =
    ap (λ (p : Printed). with_tokens w p.tokens) (printed_reckon op a b)
    ∙ with_append w (at_level (level_of (operator.Reckon op)) (printed a)) (token_of (operator.Reckon op) ∷ at_level (next (level_of (operator.Reckon op))) (printed b))

pub compare_step : (w : Written) (op : ComparisonOperator) (a b : Expr) → with_tokens w (printed (expr.Compare op a b)).tokens
    ≡ with_tokens (with_tokens w (at_level level.Sum (printed a))) (mark (compares op) ∷ at_level level.Sum (printed b))
compare_step w op a b = ap (λ (p : Printed). with_tokens w p.tokens) (printed_compare op a b) ∙ with_append w (at_level level.Sum (printed a)) (mark (compares op) ∷ at_level level.Sum (printed b))

pub and_step : (w : Written) (a b : Expr) → with_tokens w (printed (expr.And a b)).tokens
    ≡ with_tokens (with_tokens w (at_level level.Conjunction (printed a))) (word keyword.And ∷ at_level level.Negation (printed b))
and_step w a b = ap (λ (p : Printed). with_tokens w p.tokens) (printed_and a b) ∙ with_append w (at_level level.Conjunction (printed a)) (word keyword.And ∷ at_level level.Negation (printed b))

pub or_step : (w : Written) (a b : Expr) → with_tokens w (printed (expr.Or a b)).tokens
    ≡ with_tokens (with_tokens w (at_level level.Disjunction (printed a))) (word keyword.Or ∷ at_level level.Conjunction (printed b))
or_step w a b = ap (λ (p : Printed). with_tokens w p.tokens) (printed_or a b) ∙ with_append w (at_level level.Disjunction (printed a)) (word keyword.Or ∷ at_level level.Conjunction (printed b))

pub null_step : (w : Written) (not : Bool) (x : Expr) → with_tokens w (printed (expr.IsNull not x)).tokens
    ≡ with_tokens (with_tokens w (at_level level.Sum (printed x))) (word keyword.Is ∷ not_if not ++ word keyword.Null ∷ [])
null_step w not x = ap (λ (p : Printed). with_tokens w p.tokens) (printed_null not x) ∙ with_append w (at_level level.Sum (printed x)) (word keyword.Is ∷ not_if not ++ word keyword.Null ∷ [])

pub between_step : (w : Written) (not : Bool) (x low high : Expr) → with_tokens w (printed (expr.Between not x low high)).tokens
    ≡ with_tokens (with_tokens (with_tokens (with_tokens w (at_level level.Sum (printed x))) (not_if not)) (word keyword.Between ∷ at_level level.Sum (printed low))) (word keyword.And ∷ at_level level.Sum (printed high))
between_step w not x low high =
    ap (λ (p : Printed). with_tokens w p.tokens) (printed_between not x low high)
    ∙ with_append w (at_level level.Sum (printed x)) (not_if not ++ (word keyword.Between ∷ at_level level.Sum (printed low) ++ word keyword.And ∷ at_level level.Sum (printed high)))
    ∙ with_append (with_tokens w (at_level level.Sum (printed x))) (not_if not) (word keyword.Between ∷ at_level level.Sum (printed low) ++ word keyword.And ∷ at_level level.Sum (printed high))
    ∙ with_append (with_tokens (with_tokens w (at_level level.Sum (printed x))) (not_if not)) (word keyword.Between ∷ at_level level.Sum (printed low)) (word keyword.And ∷ at_level level.Sum (printed high))

pub in_step : (w : Written) (not : Bool) (x : Expr) (es : List Expr) → with_tokens w (printed (expr.In not x es)).tokens
    ≡ with_tokens (with_token (with_tokens (with_tokens w (at_level level.Sum (printed x))) (not_if not)) (word keyword.In)) (bracketed (list_tokens (map printed es)))
in_step w not x es =
    ap (λ (p : Printed). with_tokens w p.tokens) (printed_in not x es)
    ∙ with_append w (at_level level.Sum (printed x)) (not_if not ++ word keyword.In ∷ bracketed (list_tokens (map printed es)))
    ∙ with_append (with_tokens w (at_level level.Sum (printed x))) (not_if not) (word keyword.In ∷ bracketed (list_tokens (map printed es)))

pub like_step : (w : Written) (not : Bool) (x : Expr) (t : List ℕ) → with_tokens w (printed (expr.Like not x t)).tokens
    ≡ with_tokens (with_tokens w (at_level level.Sum (printed x))) (not_if not ++ word keyword.Like ∷ terminal.text (doubled t) ∷ [])
like_step w not x t = ap (λ (p : Printed). with_tokens w p.tokens) (printed_like not x t) ∙ with_append w (at_level level.Sum (printed x)) (not_if not ++ word keyword.Like ∷ terminal.text (doubled t) ∷ [])

pub case_step : (w : Written) (arms : List Arm) (o : Option Expr) → with_tokens w (printed (expr.Case arms o)).tokens
    ≡ with_token (with_tokens (with_tokens (with_token w (word keyword.Case)) (arms_tokens (map printed_arm arms))) (else_tokens (option_map printed o))) (word keyword.End)
case_step w arms o =
    ap (λ (p : Printed). with_tokens w p.tokens) (printed_case arms o)
    ∙ with_append (with_token w (word keyword.Case)) (arms_tokens (map printed_arm arms)) (else_tokens (option_map printed o) ++ word keyword.End ∷ [])
    ∙ with_append (with_tokens (with_token w (word keyword.Case)) (arms_tokens (map printed_arm arms))) (else_tokens (option_map printed o)) (word keyword.End ∷ [])

-- ---- loops

-- a loop that writes what is left, element by element
pub goes_on : {X : Type 0} (of : List X → List Terminal) (after : Written → X → Written) → ((w : Written) (x : X) (xs : List X) → with_tokens w (of (x ∷ xs)) ≡ with_tokens (after w x) (of xs))
    → (xs : List X) (i : ℕ) (x d : X) (w new first : Written) → i < length xs → x ≡ get_or xs i d → new ≡ after w x
    → with_tokens w (of (drop i xs)) ≡ with_tokens first (of xs) → with_tokens new (of (drop (i + 1) xs)) ≡ with_tokens first (of xs)
goes_on of after step xs i x d w new first within is new_is kept =
    let one : suc i ≡ i + 1 = omega arith in
    let front : drop i xs ≡ x ∷ drop (i + 1) xs = drop-cons xs i d within ∙ (λ k. sym is k ∷ drop (one k) xs) in
    ap (λ (v : Written). with_tokens v (of (drop (i + 1) xs))) new_is ∙ sym (step w x (drop (i + 1) xs)) ∙ ap (λ ys. with_tokens w (of ys)) (sym front) ∙ kept

-- a list is written once its rest is
pub list_ends : (es : List Expr) (e : Expr) (rest : List Expr) (i : ℕ) (first mid last : Written) → es ≡ e ∷ rest → length rest ≤ i → mid ≡ with_tokens first (free (printed e))
    → with_tokens last (behind_commas (map printed (drop i rest))) ≡ with_tokens mid (behind_commas (map printed rest)) → last ≡ with_tokens first (list_tokens (map printed es))
list_ends es e rest i first mid last is done mid_is kept =
    ap (λ (xs : List Expr). with_tokens last (behind_commas (map printed xs))) (sym (drop_all i rest done))
    ∙ kept
    ∙ ap (λ (w : Written). with_tokens w (behind_commas (map printed rest))) mid_is
    ∙ sym (list_step first (printed e) (map printed rest))
    ∙ ap (λ (xs : List Expr). with_tokens first (list_tokens (map printed xs))) (sym is)
