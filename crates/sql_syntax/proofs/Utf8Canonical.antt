-- The canonical text of what a text of UTF-8 spells is UTF-8.
use Rattle.std.proofs.Common.{◌≡◌, ℕ, ◌≤◌, ◌^◌, ◌<◌, ℤ, pos, negsuc, Bool, true, false, cond, leb, List, [], ◌∷◌, ◌++◌, map, Option, Some, None, sym, ap, subst, arith, append_assoc}
use Rattle.std.specs.Prelude.{option_map, codes, ◌||◌}
use Rattle.std.specs.Fmt.{decimal}
use Rattle.std.specs.List.{AllByRecursion}
use Rattle.std.specs.Str.{IsUtf8}
use Rattle.std.proofs.lemmas.Fmt.{IsAscii-decimal}
use Rattle.std.proofs.lemmas.Str.{IsUtf8-append, IsUtf8-nil, IsUtf8-from_ascii}
use Rattle.std.proofs.lemmas.Str.Ascii.{IsAscii-cons, IsAscii-nil}
use Rattle.meaning.specs.declared.plan.JoinType.{JoinType}
use Rattle.meaning.specs.declared.plan.JoinType.TheVariants as join_type
use Rattle.sql_syntax.specs.declared.keyword.Keyword.{Keyword}
use Rattle.sql_syntax.specs.declared.keyword.Keyword.TheVariants as keyword
use Rattle.sql_syntax.specs.declared.token.Sign.{Sign}
use Rattle.sql_syntax.specs.declared.token.Sign.TheVariants as sign
use Rattle.sql_syntax.specs.declared.strength.Level.{Level}
use Rattle.sql_syntax.specs.declared.strength.Level.TheVariants as level
use Rattle.sql_syntax.specs.declared.strength.Operator.{Operator}
use Rattle.sql_syntax.specs.declared.strength.Operator.TheVariants as operator
use Rattle.meaning.specs.declared.expr.ArithmeticOperator.TheVariants as arithmetic
use Rattle.sql_syntax.specs.declared.tree.Arm.{Arm}
use Rattle.sql_syntax.specs.declared.tree.Expr.{Expr}
use Rattle.sql_syntax.specs.declared.tree.Expr.TheVariants as expr
use Rattle.sql_syntax.specs.declared.tree.Direction.{Direction}
use Rattle.sql_syntax.specs.declared.tree.Direction.TheVariants as direction
use Rattle.sql_syntax.specs.declared.tree.OrderTarget.{OrderTarget}
use Rattle.sql_syntax.specs.declared.tree.OrderKey.{OrderKey}
use Rattle.sql_syntax.specs.declared.tree.Item.{Item}
use Rattle.sql_syntax.specs.declared.tree.Table.{Table}
use Rattle.sql_syntax.specs.declared.tree.Joined.{Joined}
use Rattle.sql_syntax.specs.declared.tree.Query.{Query}
use Rattle.sql_syntax.specs.Words.{lower, spelling_of}
use Rattle.sql_syntax.specs.Tokens as terminal
use Rattle.sql_syntax.specs.Tokens.{Terminal, tokens_of, terminals}
use Rattle.sql_syntax.specs.Canonical.{canonical}
use Rattle.sql_syntax.specs.Strength.{next, rank, level_of, token_of, node_of, compares}
use Rattle.sql_syntax.specs.Joins.{kind_of}
use Rattle.sql_syntax.specs.Phrases.{word, mark, not_if, distinct_if, bracketed, is_distinct, below_zero, undoubled, Spells, as_next, joined, negated, tested, minus, integer, negative, text, column, column_of, rows, aggregated, first_of, chosen, in_brackets, Tests, compared, between, among, like, is_null, SpellsList, last, more, SpellsArms, last_arm, more_arms, SpellsElse, nothing, null, otherwise}
use Rattle.sql_syntax.specs.CanonicalTokens.{Printed, at_level, free, doubled, join_tokens, integer_tokens, list_tokens, arms_tokens, else_tokens, printed, printed_arm}
use Rattle.sql_syntax.specs.Queries.{SpellsAlias, none, bare, behind_as, SpellsTable, table, SpellsTarget, name, SpellsItems, last_item, more_items, SpellsOthers, no_others, behind_comma, behind_join, SpellsClause, no_clause, clause, SpellsGroups, no_groups, groups, SpellsKeys, last_key, more_keys, SpellsOrder, no_order, order, SpellsQuery, alias_tokens, table_tokens, item_tokens, with_commas, on_tokens, other_tokens, others_tokens_of, clause_tokens, groups_tokens_of, target_token, direction_tokens, key_tokens, order_tokens_of, limit_tokens_of, query_tokens, sign_text, token_text, ends_operand, hugs_left, hugs_right, text_behind}
use Rattle.sql_syntax.specs.Queries as queries
use Rattle.sql_syntax.proofs.Names.{IsProperBy, lower_name, name_ascii, tokens_proper}
use Rattle.sql_syntax.proofs.TokenTexts.{keyword_word}
use Rattle.sql_syntax.proofs.ReadAgain.{AreApart, IsSpelled}
use Rattle.sql_syntax.proofs.ApartQuery.{query_apart}
use Rattle.sql_syntax.proofs.Canonical.{printed_not, printed_or, printed_and, printed_reckon, printed_minus, printed_integer, printed_text, printed_column, printed_rows, printed_aggregate, printed_list, printed_case, printed_compare, printed_between, printed_in, printed_like, printed_null, printed_arm_is}
use Rattle.sql_syntax.proofs.Utf8Parts.{doubled_utf8, undoubled_utf8, tokens_utf8}

-- ---- lists of tokens

abbrev All : List Terminal → Type 0
All = AllByRecursion (IsProperBy IsUtf8)

both : (ts us : List Terminal) → All ts → All us → All (ts ++ us)
both [] us x y = y
both (t ∷ ts) us x y = (x.0, both ts us x.1 y)

split : (ts us : List Terminal) → All (ts ++ us) → All ts × All us
split [] us all = (tt, all)
split (t ∷ ts) us all = let rest = split ts us all.1 in ((all.0, rest.0), rest.1)

in_brackets_too : (ts : List Terminal) → All ts → All (bracketed ts)
in_brackets_too ts all = (tt, both ts (mark sign.Close ∷ []) all (tt, tt))

within_brackets : (ts : List Terminal) → All (bracketed ts) → All ts
within_brackets ts all = (split ts (mark sign.Close ∷ []) all.1).0

fine_by_level : (test : Bool) (ts : List Terminal) → All ts → All (cond test ts (bracketed ts))
fine_by_level true ts all = all
fine_by_level false ts all = in_brackets_too ts all

abbrev Fine : Expr → Type 0
Fine e = All (printed e).tokens

fine_at_level : (l : Level) (e : Expr) → Fine e → All (at_level l (printed e))
fine_at_level l e all = fine_by_level (leb (rank l) (rank (printed e).level)) (printed e).tokens all

distinct_too : (distinct : Bool) → All (distinct_if distinct)
distinct_too true = (tt, tt)
distinct_too false = tt

not_too : (not : Bool) → All (not_if not)
not_too true = (tt, tt)
not_too false = tt

fine_by : (e : Expr) (p : Printed) → printed e ≡ p → All p.tokens → Fine e
fine_by e p is all = subst (λ (x : Printed). All x.tokens) (sym is) all

-- ---- nodes

op_too : (o : Operator) → IsProperBy IsUtf8 (token_of o)
op_too operator.Or = tt
op_too operator.And = tt
op_too (operator.Reckon arithmetic.Add) = tt
op_too (operator.Reckon arithmetic.Subtract) = tt
op_too (operator.Reckon arithmetic.Multiply) = tt
op_too (operator.Reckon arithmetic.Divide) = tt

join_too : (o : Operator) (a b : Expr) → Fine a → Fine b → All (join_tokens o (printed a) (printed b))
join_too o a b x y = both (at_level (level_of o) (printed a)) (token_of o ∷ at_level (next (level_of o)) (printed b)) (fine_at_level (level_of o) a x) (op_too o, fine_at_level (next (level_of o)) b y)

joined_fine : (o : Operator) (a b : Expr) → Fine a → Fine b → Fine (node_of o a b)
joined_fine operator.Or a b x y = fine_by (expr.Or a b) _ (printed_or a b) (join_too operator.Or a b x y)
joined_fine operator.And a b x y = fine_by (expr.And a b) _ (printed_and a b) (join_too operator.And a b x y)
joined_fine (operator.Reckon op) a b x y = fine_by (expr.Arithmetic op a b) _ (printed_reckon op a b) (join_too (operator.Reckon op) a b x y)

integer_too : (n : ℤ) → All (integer_tokens n)
integer_too (pos n) = (tt, tt)
integer_too (negsuc n) = (tt, (tt, tt))

integer_fine : (n : ℤ) → Fine (expr.Integer n)
integer_fine n = fine_by (expr.Integer n) _ (printed_integer n) (integer_too n)

text_kept : (t : List ℕ) → IsUtf8 t → IsUtf8 (doubled (undoubled t))
text_kept t utf8 = doubled_utf8 (undoubled t) (undoubled_utf8 t utf8)

list_too : (e : Expr) (es : List Expr) → All (free (printed e)) → All (list_tokens (map printed es)) → All (list_tokens (map printed (e ∷ es)))
list_too e [] x y = x
list_too e (f ∷ es) x y = both (free (printed e)) (mark sign.Comma ∷ list_tokens (map printed (f ∷ es))) x (tt, y)

arm_too : (c v : Expr) (arms : List Arm) → All (free (printed c)) → All (free (printed v)) → All (arms_tokens (map printed_arm arms)) → All (arms_tokens (map printed_arm (record { condition = c; value = v } ∷ arms)))
arm_too c v arms x y others =
    let us = arms_tokens (map printed_arm arms) in
    subst All (sym (ap (λ (p : Printed × Printed). arms_tokens (p ∷ map printed_arm arms)) (printed_arm_is c v)))
    (tt, both (free (printed c)) (word keyword.Then ∷ free (printed v) ++ us) x (tt, both (free (printed v)) us y others))

-- ---- expressions

mutual
  fine : {l : Level} {ts : List Terminal} {e : Expr} → Spells l ts e → All ts → Fine e
  fine (as_next d) all = fine d all
  fine (joined o {ts = ts} {us = us} {a = a} {b = b} d d') all = let s = split ts (token_of o ∷ us) all in joined_fine o a b (fine d s.0) (fine d' s.1.1)
  fine (negated {e = e} d) all = fine_by (expr.Not e) _ (printed_not e) (tt, fine_at_level level.Negation e (fine d all.1))
  fine (tested {ts = ts} {us = us} d t) all = let s = split ts us all in fine_test t (fine d s.0) s.1
  fine (minus {e = e} h d) all = fine_by (expr.Minus e) _ (printed_minus e) (tt, fine_at_level level.Primary e (fine d all.1))
  fine (integer n h) all = integer_fine (pos n)
  fine (negative n h) all = integer_fine (below_zero n)
  fine (text t) all = fine_by (expr.Text (undoubled t)) _ (printed_text (undoubled t)) (text_kept t all.0, tt)
  fine (column n) all = fine_by (expr.Column None (lower n)) _ (printed_column None (lower n)) (lower_name n all.0, tt)
  fine (column_of t n) all = fine_by (expr.Column (Some (lower t)) (lower n)) _ (printed_column (Some (lower t)) (lower n)) (lower_name t all.0, (tt, (lower_name n all.1.1.0, tt)))
  fine rows all = fine_by expr.CountRows _ printed_rows (tt, (tt, (tt, (tt, tt))))
  fine (aggregated k {ts = ts} {e = e} d) all =
      let inside = distinct_if (is_distinct k) in
      let argument = fine_at_level level.Disjunction e (fine d (split inside ts (within_brackets (inside ++ ts) all.1)).1) in
      fine_by (expr.Aggregate k e) _ (printed_aggregate k e) (tt, in_brackets_too (inside ++ free (printed e)) (both inside (free (printed e)) (distinct_too (is_distinct k)) argument))
  fine (first_of {ts = ts} {es = es} ds) all = fine_by (expr.Coalesce es) _ (printed_list es) (tt, in_brackets_too (list_tokens (map printed es)) (fine_list ds (within_brackets ts all.1)))
  fine (chosen {ts = ts} {us = us} {arms = arms} {otherwise = o} ds d) all =
      let s = split ts (us ++ word keyword.End ∷ []) all.1 in
      let rest = both (else_tokens (option_map printed o)) (word keyword.End ∷ []) (fine_else d (split us (word keyword.End ∷ []) s.1).0) (tt, tt) in
      fine_by (expr.Case arms o) _ (printed_case arms o) (tt, both (arms_tokens (map printed_arm arms)) (else_tokens (option_map printed o) ++ word keyword.End ∷ []) (fine_arms ds s.0) rest)
  fine (in_brackets {ts = ts} d) all = fine d (within_brackets ts all)

  fine_test : {a e : Expr} {ts : List Terminal} → Tests a ts e → Fine a → All ts → Fine e
  fine_test {a} (compared op {b = b} d) x all =
      fine_by (expr.Compare op a b) _ (printed_compare op a b) (both (at_level level.Sum (printed a)) (mark (compares op) ∷ at_level level.Sum (printed b)) (fine_at_level level.Sum a x) (tt, fine_at_level level.Sum b (fine d all.1)))
  fine_test {a} (between not {low = low} {high = high} {ts = ts} {us = us} d d') x all =
      let s = split (not_if not) (word keyword.Between ∷ ts ++ word keyword.And ∷ us) all in
      let t = split ts (word keyword.And ∷ us) s.1.1 in
      let bounds = both (at_level level.Sum (printed low)) (word keyword.And ∷ at_level level.Sum (printed high)) (fine_at_level level.Sum low (fine d t.0)) (tt, fine_at_level level.Sum high (fine d' t.1.1)) in
      fine_by (expr.Between not a low high) _ (printed_between not a low high) (both (at_level level.Sum (printed a)) _ (fine_at_level level.Sum a x) (both (not_if not) _ (not_too not) (tt, bounds)))
  fine_test {a} (among not {ts = ts} {es = es} ds) x all =
      let s = split (not_if not) (word keyword.In ∷ bracketed ts) all in
      let list = in_brackets_too (list_tokens (map printed es)) (fine_list ds (within_brackets ts s.1.1)) in
      fine_by (expr.In not a es) _ (printed_in not a es) (both (at_level level.Sum (printed a)) _ (fine_at_level level.Sum a x) (both (not_if not) _ (not_too not) (tt, list)))
  fine_test {a} (like not t) x all =
      let s = split (not_if not) (word keyword.Like ∷ terminal.text t ∷ []) all in
      fine_by (expr.Like not a (undoubled t)) _ (printed_like not a (undoubled t)) (both (at_level level.Sum (printed a)) _ (fine_at_level level.Sum a x) (both (not_if not) _ (not_too not) (tt, (text_kept t s.1.1.0, tt))))
  fine_test {a} (is_null not) x all =
      fine_by (expr.IsNull not a) _ (printed_null not a) (both (at_level level.Sum (printed a)) _ (fine_at_level level.Sum a x) (tt, both (not_if not) (word keyword.Null ∷ []) (not_too not) (tt, tt)))

  fine_list : {ts : List Terminal} {es : List Expr} → SpellsList ts es → All ts → All (list_tokens (map printed es))
  fine_list (last {e = e} d) all = fine_at_level level.Disjunction e (fine d all)
  fine_list (more {ts = ts} {us = us} {e = e} {es = es} d ds) all = let s = split ts (mark sign.Comma ∷ us) all in list_too e es (fine_at_level level.Disjunction e (fine d s.0)) (fine_list ds s.1.1)

  fine_arms : {ts : List Terminal} {arms : List Arm} → SpellsArms ts arms → All ts → All (arms_tokens (map printed_arm arms))
  fine_arms (last_arm {ts = ts} {us = us} {c = c} {v = v} d d') all =
      let s = split ts (word keyword.Then ∷ us) all.1 in arm_too c v [] (fine_at_level level.Disjunction c (fine d s.0)) (fine_at_level level.Disjunction v (fine d' s.1.1)) tt
  fine_arms (more_arms {ts = ts} {us = us} {vs = vs} {c = c} {v = v} {arms = arms} d d' ds) all =
      let s = split ts (word keyword.Then ∷ us ++ vs) all.1 in
      let t = split us vs s.1.1 in
      arm_too c v arms (fine_at_level level.Disjunction c (fine d s.0)) (fine_at_level level.Disjunction v (fine d' t.0)) (fine_arms ds t.1)

  fine_else : {ts : List Terminal} {o : Option Expr} → SpellsElse ts o → All ts → All (else_tokens (option_map printed o))
  fine_else nothing all = tt
  fine_else null all = tt
  fine_else (otherwise {e = e} d) all = (tt, fine_at_level level.Disjunction e (fine d all.1))

free_too : {ts : List Terminal} {e : Expr} → Spells level.Disjunction ts e → All ts → All (free (printed e))
free_too {e = e} d all = fine_at_level level.Disjunction e (fine d all)

-- ---- parts of a query

alias_too : {ts : List Terminal} {alias : Option (List ℕ)} → SpellsAlias ts alias → All ts → All (alias_tokens alias)
alias_too none all = tt
alias_too (bare n) all = (tt, (lower_name n all.0, tt))
alias_too (behind_as n) all = (tt, (lower_name n all.1.0, tt))

table_too : {ts : List Terminal} {t : Table} → SpellsTable ts t → All ts → All (table_tokens t)
table_too (table n d) all = (lower_name n all.0, alias_too d all.1)

commas_too : (ts : List Terminal) (rest : List (List Terminal)) → All ts → All (with_commas rest) → All (with_commas (ts ∷ rest))
commas_too ts [] x y = x
commas_too ts (us ∷ rest) x y = both ts (mark sign.Comma ∷ with_commas (us ∷ rest)) x (tt, y)

items_too : {ts : List Terminal} {items : List Item} {n : ℕ} → SpellsItems ts items n → All ts → All (with_commas (map item_tokens items))
items_too (last_item {ts = ts} {us = us} {e = e} {alias = alias} d a) all =
    let s = split ts us all in both (free (printed e)) (alias_tokens alias) (free_too d s.0) (alias_too a s.1)
items_too (more_items {ts = ts} {us = us} {vs = vs} {e = e} {alias = alias} {items = items} d a others) all =
    let s = split ts (us ++ mark sign.Comma ∷ vs) (subst All (append_assoc ts us (mark sign.Comma ∷ vs)) all) in
    let t = split us (mark sign.Comma ∷ vs) s.1 in
    commas_too (free (printed e) ++ alias_tokens alias) (map item_tokens items) (both (free (printed e)) (alias_tokens alias) (free_too d s.0) (alias_too a t.0)) (items_too others t.1.1)

-- the parts of a table with a condition
on_parts : (is ts us vs : List Terminal) → All (is ++ (ts ++ (word keyword.On ∷ us ++ vs))) → All ts × (All us × All vs)
on_parts is ts us vs all =
    let p = split is (ts ++ (word keyword.On ∷ us ++ vs)) all in
    let s = split ts (word keyword.On ∷ us ++ vs) p.1 in
    (s.0, split us vs s.1.1)

on_too : (t : Table) (e : Expr) (rest : List Terminal) → All (table_tokens t) → All (free (printed e)) → All rest → All (on_tokens t e rest)
on_too t e rest x y z = (tt, both (table_tokens t) (word keyword.On ∷ free (printed e) ++ rest) x (tt, both (free (printed e)) rest y z))

kind_too : (by : JoinType) (t : Table) (e : Expr) (rest : List Terminal) → All (table_tokens t) → All (free (printed e)) → All rest → All (other_tokens (kind_of by e) t rest)
kind_too join_type.Inner t e rest x y z = on_too t e rest x y z
kind_too join_type.Left t e rest x y z = (tt, on_too t e rest x y z)

others_too : {ts : List Terminal} {others : List Joined} {n : ℕ} → SpellsOthers ts others n → All ts → All (others_tokens_of others)
others_too no_others all = tt
others_too (behind_comma {ts = ts} {us = us} {t = t} {others = others} d rest) all =
    let s = split ts us all.1 in (tt, both (table_tokens t) (others_tokens_of others) (table_too d s.0) (others_too rest s.1))
others_too (behind_join {is = is} {ts = ts} {us = us} {vs = vs} {by = by} {t = t} {e = e} {others = others} which d x rest) all =
    let p = on_parts is ts us vs all in kind_too by t e (others_tokens_of others) (table_too d p.0) (free_too x p.1.0) (others_too rest p.1.1)

clause_too : (k : Keyword) {ts : List Terminal} {c : Option Expr} {n : ℕ} → SpellsClause k ts c n → All ts → All (clause_tokens k c)
clause_too k no_clause all = tt
clause_too k (clause d) all = (tt, free_too d all.1)

group_too : (es : List Expr) → All (list_tokens (map printed es)) → All (groups_tokens_of es)
group_too [] all = tt
group_too (e ∷ es) all = (tt, (tt, all))

groups_too : {ts : List Terminal} {es : List Expr} {n : ℕ} → SpellsGroups ts es n → All ts → All (groups_tokens_of es)
groups_too no_groups all = tt
groups_too (groups {es = es} d) all = group_too es (fine_list d all.1.1)

direction_too : (d : Direction) → All (direction_tokens d)
direction_too direction.Ascending = tt
direction_too direction.Descending = (tt, tt)

key_too : {t : Terminal} {o : OrderTarget} (d : Direction) → SpellsTarget t o → IsProperBy IsUtf8 t → All (target_token o ∷ direction_tokens d)
key_too d (queries.position n h) fine = (tt, direction_too d)
key_too d (name n) fine = (lower_name n fine, direction_too d)

keys_too : {ts : List Terminal} {keys : List OrderKey} → SpellsKeys ts keys → All ts → All (with_commas (map key_tokens keys))
keys_too (last_key {d = direction} t d) all = key_too direction t all.0
keys_too (more_keys {t = x} {ts = ts} {us = us} {o = o} {d = direction} {keys = keys} t d others) all =
    let s = split (x ∷ ts) (mark sign.Comma ∷ us) all in commas_too (target_token o ∷ direction_tokens direction) (map key_tokens keys) (key_too direction t s.0.0) (keys_too others s.1.1)

order_is : (keys : List OrderKey) → All (with_commas (map key_tokens keys)) → All (order_tokens_of keys)
order_is [] all = tt
order_is (key ∷ keys) all = (tt, (tt, all))

order_too : {ts : List Terminal} {keys : List OrderKey} → SpellsOrder ts keys → All ts → All (order_tokens_of keys)
order_too no_order all = tt
order_too (order {keys = keys} d) all = order_is keys (keys_too d all.1.1)

limit_too : (o : Option ℕ) → All (limit_tokens_of o)
limit_too None = tt
limit_too (Some n) = (tt, (tt, tt))

query_too : {ts : List Terminal} {q : Query} → SpellsQuery ts q → All ts → All (query_tokens q)
query_too {ts} {q} s proper =
    let all = subst All s.tokens proper in
    let distinct = split (distinct_if q.distinct) (s.items_tokens ++ (word keyword.From ∷ s.first_tokens ++ (s.others_tokens ++ (s.filter_tokens ++ (s.groups_tokens ++ (s.having_tokens ++ (s.order_tokens ++ (s.limit_tokens ++ s.end_tokens)))))))) all.1 in
    let items = split s.items_tokens (word keyword.From ∷ s.first_tokens ++ (s.others_tokens ++ (s.filter_tokens ++ (s.groups_tokens ++ (s.having_tokens ++ (s.order_tokens ++ (s.limit_tokens ++ s.end_tokens))))))) distinct.1 in
    let first = split s.first_tokens (s.others_tokens ++ (s.filter_tokens ++ (s.groups_tokens ++ (s.having_tokens ++ (s.order_tokens ++ (s.limit_tokens ++ s.end_tokens)))))) items.1.1 in
    let others = split s.others_tokens (s.filter_tokens ++ (s.groups_tokens ++ (s.having_tokens ++ (s.order_tokens ++ (s.limit_tokens ++ s.end_tokens))))) first.1 in
    let filter = split s.filter_tokens (s.groups_tokens ++ (s.having_tokens ++ (s.order_tokens ++ (s.limit_tokens ++ s.end_tokens)))) others.1 in
    let groups = split s.groups_tokens (s.having_tokens ++ (s.order_tokens ++ (s.limit_tokens ++ s.end_tokens))) filter.1 in
    let having = split s.having_tokens (s.order_tokens ++ (s.limit_tokens ++ s.end_tokens)) groups.1 in
    let order = split s.order_tokens (s.limit_tokens ++ s.end_tokens) having.1 in
    let from_order = both (order_tokens_of q.order_by) (limit_tokens_of q.limit) (order_too s.order order.0) (limit_too q.limit) in
    let from_having = both (clause_tokens keyword.Having q.having) _ (clause_too keyword.Having s.having having.0) from_order in
    let from_groups = both (groups_tokens_of q.group_by) _ (groups_too s.groups groups.0) from_having in
    let from_filter = both (clause_tokens keyword.Where q.filter) _ (clause_too keyword.Where s.filter filter.0) from_groups in
    let from_others = both (others_tokens_of q.source.others) _ (others_too s.others others.0) from_filter in
    let from = both (table_tokens q.source.first) _ (table_too s.first first.0) from_others in
    (tt, both (distinct_if q.distinct) _ (distinct_too q.distinct) (both (with_commas (map item_tokens q.items)) _ (items_too s.items items.0) (tt, from)))

-- ---- texts of tokens

one_byte : (b : ℕ) → b < 128 → IsUtf8 (b ∷ [])
one_byte b ascii = IsUtf8-from_ascii (b ∷ []) (IsAscii-cons b [] ascii IsAscii-nil)

two_bytes : (b c : ℕ) → b < 128 → c < 128 → IsUtf8 (b ∷ c ∷ [])
two_bytes b c first second = IsUtf8-from_ascii (b ∷ c ∷ []) (IsAscii-cons b (c ∷ []) first (IsAscii-cons c [] second IsAscii-nil))

sign_utf8 : (s : Sign) → IsUtf8 (sign_text s)
sign_utf8 sign.Open = one_byte 40 (omega arith)
sign_utf8 sign.Close = one_byte 41 (omega arith)
sign_utf8 sign.Comma = one_byte 44 (omega arith)
sign_utf8 sign.Dot = one_byte 46 (omega arith)
sign_utf8 sign.Semicolon = one_byte 59 (omega arith)
sign_utf8 sign.Plus = one_byte 43 (omega arith)
sign_utf8 sign.Minus = one_byte 45 (omega arith)
sign_utf8 sign.Star = one_byte 42 (omega arith)
sign_utf8 sign.Slash = one_byte 47 (omega arith)
sign_utf8 sign.Equal = one_byte 61 (omega arith)
sign_utf8 sign.NotEqual = two_bytes 60 62 (omega arith) (omega arith)
sign_utf8 sign.Less = one_byte 60 (omega arith)
sign_utf8 sign.AtMost = two_bytes 60 61 (omega arith) (omega arith)
sign_utf8 sign.Greater = one_byte 62 (omega arith)
sign_utf8 sign.AtLeast = two_bytes 62 61 (omega arith) (omega arith)

integer_utf8 : (n : ℕ) → n ≤ 9223372036854775808 → IsUtf8 (decimal n)
integer_utf8 n within =
    let wide : n < 2 ^ 64 = omega arith in
    IsUtf8-from_ascii (decimal n) (IsAscii-decimal n wide)

token_utf8 : (t : Terminal) → IsSpelled t → IsProperBy IsUtf8 t → IsUtf8 (token_text t)
token_utf8 (terminal.keyword k) spelled fine = IsUtf8-from_ascii (spelling_of k) (name_ascii (spelling_of k) (keyword_word k).word)
token_utf8 (terminal.name n) spelled fine = IsUtf8-from_ascii n (name_ascii n fine.word)
token_utf8 (terminal.integer n) spelled fine = integer_utf8 n spelled
token_utf8 (terminal.text t) spelled fine = IsUtf8-append (codes "'") (t ++ codes "'") (one_byte 39 (omega arith)) (IsUtf8-append t (codes "'") fine (one_byte 39 (omega arith)))
token_utf8 (terminal.sign_is s) spelled fine = sign_utf8 s
token_utf8 (terminal.left_out w) spelled fine = absurd spelled
token_utf8 terminal.out_of_range spelled fine = absurd spelled
token_utf8 terminal.not_closed spelled fine = absurd spelled
token_utf8 terminal.unknown spelled fine = absurd spelled

blank_utf8 : (hugs : Bool) → IsUtf8 (cond hugs [] (codes " "))
blank_utf8 true = IsUtf8-nil
blank_utf8 false = one_byte 32 (omega arith)

tokens_text : (o hugs : Bool) (ts : List Terminal) → AreApart o ts → All ts → IsUtf8 (text_behind o hugs ts)
tokens_text o hugs [] apart all = IsUtf8-nil
tokens_text o hugs (t ∷ ts) apart all =
    let rest = text_behind (ends_operand t) (hugs_right o t) ts in
    IsUtf8-append (cond (hugs || hugs_left t) [] (codes " ")) (token_text t ++ rest) (blank_utf8 (hugs || hugs_left t))
    (IsUtf8-append (token_text t) rest (token_utf8 t apart.0 all.0) (tokens_text (ends_operand t) (hugs_right o t) ts apart.2 all.1))

-- the canonical text of what a text of UTF-8 spells
pub canonical_utf8 : (bs : List ℕ) (q : Query) → IsUtf8 bs → SpellsQuery (terminals (tokens_of bs)) q → IsUtf8 (canonical q)
unfolding canonical
canonical_utf8 bs q utf8 s = tokens_text false true (query_tokens q) (query_apart s (tokens_proper bs)) (query_too s (tokens_utf8 bs utf8))
