-- The literals of what a text spells are values that a table may hold.
use Rattle.std.proofs.Common.{rules, ◌≡◌, ◌≢◌, ℕ, zero, suc, ◌≤◌, ◌^◌, ℤ, pos, Bool, true, ◌&&◌, List, [], ◌∷◌, ◌++◌, map, length, Option, Some, None, refl, sym, subst, ◌∙◌, arith, append_assoc}
use Rattle.std.specs.Prelude.{nat_le}
use Rattle.std.specs.List.{list_all, AllByRecursion}
use Rattle.std.specs.Option.{option_map_or}
use Rattle.std.specs.Str.{is_utf8}
use Rattle.std.proofs.lemmas.Bool.{le-leb}
use Rattle.std.proofs.lemmas.Str.{is_utf8-from_IsUtf8}
use Rattle.meaning.specs.Limits.{max_query_bytes, max_text_bytes}
use Rattle.meaning.specs.Operators.{fits_i64}
use Rattle.meaning.proofs.Tests.{both}
use Rattle.sql_syntax.specs.declared.keyword.Keyword.{Keyword}
use Rattle.sql_syntax.specs.declared.keyword.Keyword.TheVariants as keyword
use Rattle.sql_syntax.specs.declared.token.Sign.TheVariants as sign
use Rattle.sql_syntax.specs.declared.strength.Level.{Level}
use Rattle.sql_syntax.specs.declared.strength.Operator.{Operator}
use Rattle.sql_syntax.specs.declared.strength.Operator.TheVariants as operator
use Rattle.sql_syntax.specs.Joins.{condition_of}
use Rattle.sql_syntax.specs.declared.tree.Aggregate.{Aggregate}
use Rattle.meaning.specs.declared.expr.ArithmeticOperator.{ArithmeticOperator}
use Rattle.meaning.specs.declared.expr.ComparisonOperator.{ComparisonOperator}
use Rattle.sql_syntax.specs.declared.tree.Arm.{Arm}
use Rattle.sql_syntax.specs.declared.tree.Expr.{Expr}
use Rattle.sql_syntax.specs.declared.tree.Expr.TheFolds.{the_lemmas}
use Rattle.sql_syntax.specs.declared.tree.Expr.TheVariants as expr
use Rattle.sql_syntax.specs.declared.tree.Item.{Item}
use Rattle.sql_syntax.specs.declared.tree.Joined.{Joined}
use Rattle.sql_syntax.specs.declared.tree.Query.{Query}
use Rattle.sql_syntax.specs.Literals.{all_true, has_fitting_literals, arm_has_fitting_literals, has_only_fitting_literals}
use Rattle.sql_syntax.specs.Strength.{token_of, node_of}
use Rattle.sql_syntax.specs.Phrases.{word, mark, not_if, distinct_if, bracketed, is_distinct, below_zero, undoubled, Spells, as_next, joined, negated, tested, minus, integer, negative, text, column, column_of, rows, aggregated, first_of, chosen, in_brackets, Tests, compared, between, among, like, is_null, SpellsList, last, more, SpellsArms, last_arm, more_arms, SpellsElse, nothing, null, otherwise}
use Rattle.sql_syntax.specs.Queries.{SpellsItems, last_item, more_items, SpellsOthers, no_others, behind_comma, behind_join, SpellsClause, no_clause, clause, SpellsGroups, no_groups, groups, SpellsQuery}
use Rattle.sql_syntax.specs.Tokens.{Terminal}
use Rattle.sql_syntax.proofs.Names.{IsProperBy}
use Rattle.sql_syntax.proofs.Utf8Parts.{undoubled_utf8}
use Rattle.sql_reader.specs.Grammar.{IsTree}
use Rattle.sql_reader.proofs.TextLengths.{IsFit, tokens_fit, undoubled_short}
use Rattle.sql_reader.proofs.Tables.{condition_is}

-- ---- nodes

abbrev hf : Expr → Bool
hf = has_fitting_literals

fits-Column : (t : Option (List ℕ)) (n : List ℕ) → hf (expr.Column t n) ≡ true
fits-Column t n = search (rules, the_lemmas)

fits-Integer : (n : ℤ) → hf (expr.Integer n) ≡ fits_i64 n
fits-Integer n = search (rules, the_lemmas)

fits-Text : (t : List ℕ) → hf (expr.Text t) ≡ (is_utf8 t && nat_le (length t) max_text_bytes)
fits-Text t = search (rules, the_lemmas)

fits-CountRows : hf expr.CountRows ≡ true
fits-CountRows = search (rules, the_lemmas)

fits-Aggregate : (k : Aggregate) (a : Expr) → hf (expr.Aggregate k a) ≡ hf a
fits-Aggregate k a = search (rules, the_lemmas)

fits-Minus : (a : Expr) → hf (expr.Minus a) ≡ hf a
fits-Minus a = search (rules, the_lemmas)

fits-Arithmetic : (op : ArithmeticOperator) (a b : Expr) → hf (expr.Arithmetic op a b) ≡ (hf a && hf b)
fits-Arithmetic op a b = search (rules, the_lemmas)

fits-Compare : (op : ComparisonOperator) (a b : Expr) → hf (expr.Compare op a b) ≡ (hf a && hf b)
fits-Compare op a b = search (rules, the_lemmas)

fits-Not : (a : Expr) → hf (expr.Not a) ≡ hf a
fits-Not a = search (rules, the_lemmas)

fits-And : (a b : Expr) → hf (expr.And a b) ≡ (hf a && hf b)
fits-And a b = search (rules, the_lemmas)

fits-Or : (a b : Expr) → hf (expr.Or a b) ≡ (hf a && hf b)
fits-Or a b = search (rules, the_lemmas)

fits-IsNull : (n : Bool) (a : Expr) → hf (expr.IsNull n a) ≡ hf a
fits-IsNull n a = search (rules, the_lemmas)

fits-Between : (n : Bool) (a low high : Expr) → hf (expr.Between n a low high) ≡ (hf a && (hf low && hf high))
fits-Between n a low high = search (rules, the_lemmas)

fits-In : (n : Bool) (a : Expr) (es : List Expr) → hf (expr.In n a es) ≡ (hf a && all_true (map hf es))
fits-In n a es = search (rules, the_lemmas)

fits-Like : (n : Bool) (a : Expr) (pattern : List ℕ) → hf (expr.Like n a pattern) ≡ hf a
fits-Like n a pattern = search (rules, the_lemmas)

fits-Coalesce : (es : List Expr) → hf (expr.Coalesce es) ≡ all_true (map hf es)
fits-Coalesce es = search (rules, the_lemmas)

abbrev option_fits : Option Expr → Bool
option_fits o = option_map_or hf o true

fits-Case : (arms : List Arm) (o : Option Expr) → hf (expr.Case arms o) ≡ (all_true (map arm_has_fitting_literals arms) && option_fits o)
fits-Case arms None = search (rules, the_lemmas)
fits-Case arms (Some e) = search (rules, the_lemmas)

arm_fits-record : (c v : Expr) → arm_has_fitting_literals (record { condition = c; value = v }) ≡ (hf c && hf v)
arm_fits-record c v = search (rules, the_lemmas)

-- ---- literals

integer_fits : (n : ℕ) → n ≤ 9223372036854775807 → hf (expr.Integer (pos n)) ≡ true
integer_fits n within = fits-Integer (pos n) ∙ le-leb (suc n) (2 ^ 63) (omega (arith, within))

below_fits : (n : ℕ) → n ≤ 9223372036854775808 → fits_i64 (below_zero n) ≡ true
below_fits zero within = refl
below_fits (suc n) within = le-leb (suc n) (2 ^ 63) (omega (arith, within))

text_fits : (t : List ℕ) → IsFit max_text_bytes t → hf (expr.Text (undoubled t)) ≡ true
text_fits t fit =
    fits-Text (undoubled t)
    ∙ both (is_utf8 (undoubled t)) (nat_le (length (undoubled t)) max_text_bytes) (is_utf8-from_IsUtf8 (undoubled t) (undoubled_utf8 t fit.0))
    (le-leb (length (undoubled t)) max_text_bytes (omega (arith, undoubled_short t, fit.1)))

-- ---- lists of tokens

abbrev All : List Terminal → Type 0
All = AllByRecursion (IsProperBy (IsFit max_text_bytes))

split : (ts us : List Terminal) → All (ts ++ us) → All ts × All us
split [] us all = (tt, all)
split (t ∷ ts) us all = let rest = split ts us all.1 in ((all.0, rest.0), rest.1)

within_brackets : (ts : List Terminal) → All (bracketed ts) → All ts
within_brackets ts all = (split ts (mark sign.Close ∷ []) all.1).0

joined_fits : (o : Operator) (a b : Expr) → hf a ≡ true → hf b ≡ true → hf (node_of o a b) ≡ true
joined_fits operator.Or a b x y = fits-Or a b ∙ both (hf a) (hf b) x y
joined_fits operator.And a b x y = fits-And a b ∙ both (hf a) (hf b) x y
joined_fits (operator.Reckon op) a b x y = fits-Arithmetic op a b ∙ both (hf a) (hf b) x y

arm_fits : (c v : Expr) (rest : Bool) → hf c ≡ true → hf v ≡ true → rest ≡ true → (arm_has_fitting_literals (record { condition = c; value = v }) && rest) ≡ true
arm_fits c v rest x y z = both (arm_has_fitting_literals (record { condition = c; value = v })) rest (arm_fits-record c v ∙ both (hf c) (hf v) x y) z

-- ---- expressions

mutual
  fits : {l : Level} {ts : List Terminal} {e : Expr} → Spells l ts e → All ts → hf e ≡ true
  fits (as_next d) all = fits d all
  fits (joined o {ts = ts} {us = us} {a = a} {b = b} d d') all = let s = split ts (token_of o ∷ us) all in joined_fits o a b (fits d s.0) (fits d' s.1.1)
  fits (negated {e = e} d) all = fits-Not e ∙ fits d all.1
  fits (tested {ts = ts} {us = us} d t) all = let s = split ts us all in test_fits t (fits d s.0) s.1
  fits (minus {e = e} h d) all = fits-Minus e ∙ fits d all.1
  fits (integer n h) all = integer_fits n h
  fits (negative n h) all = fits-Integer (below_zero n) ∙ below_fits n h
  fits (text t) all = text_fits t all.0
  fits (column n) all = fits-Column None _
  fits (column_of t n) all = fits-Column (Some _) _
  fits rows all = fits-CountRows
  fits (aggregated k {ts = ts} {e = e} d) all =
      let inside = distinct_if (is_distinct k) in
      fits-Aggregate k e ∙ fits d (split inside ts (within_brackets (inside ++ ts) all.1)).1
  fits (first_of {ts = ts} {es = es} ds) all = fits-Coalesce es ∙ list_fits ds (within_brackets ts all.1)
  fits (chosen {ts = ts} {us = us} {arms = arms} {otherwise = o} ds d) all =
      let s = split ts (us ++ word keyword.End ∷ []) all.1 in
      fits-Case arms o ∙ both (all_true (map arm_has_fitting_literals arms)) (option_fits o) (arms_fit ds s.0) (else_fits d (split us (word keyword.End ∷ []) s.1).0)
  fits (in_brackets {ts = ts} d) all = fits d (within_brackets ts all)

  test_fits : {a e : Expr} {ts : List Terminal} → Tests a ts e → hf a ≡ true → All ts → hf e ≡ true
  test_fits {a} (compared op {b = b} d) x all = fits-Compare op a b ∙ both (hf a) (hf b) x (fits d all.1)
  test_fits {a} (between not {low = low} {high = high} {ts = ts} {us = us} d d') x all =
      let s = split (not_if not) (word keyword.Between ∷ ts ++ word keyword.And ∷ us) all in
      let t = split ts (word keyword.And ∷ us) s.1.1 in
      fits-Between not a low high ∙ both (hf a) (hf low && hf high) x (both (hf low) (hf high) (fits d t.0) (fits d' t.1.1))
  test_fits {a} (among not {ts = ts} {es = es} ds) x all =
      let s = split (not_if not) (word keyword.In ∷ bracketed ts) all in
      fits-In not a es ∙ both (hf a) (all_true (map hf es)) x (list_fits ds (within_brackets ts s.1.1))
  test_fits {a} (like not t) x all = fits-Like not a (undoubled t) ∙ x
  test_fits {a} (is_null not) x all = fits-IsNull not a ∙ x

  list_fits : {ts : List Terminal} {es : List Expr} → SpellsList ts es → All ts → all_true (map hf es) ≡ true
  list_fits (last {e = e} d) all = both (hf e) true (fits d all) refl
  list_fits (more {ts = ts} {us = us} {e = e} {es = es} d ds) all = let s = split ts (mark sign.Comma ∷ us) all in both (hf e) (all_true (map hf es)) (fits d s.0) (list_fits ds s.1.1)

  arms_fit : {ts : List Terminal} {arms : List Arm} → SpellsArms ts arms → All ts → all_true (map arm_has_fitting_literals arms) ≡ true
  arms_fit (last_arm {ts = ts} {us = us} {c = c} {v = v} d d') all = let s = split ts (word keyword.Then ∷ us) all.1 in arm_fits c v true (fits d s.0) (fits d' s.1.1) refl
  arms_fit (more_arms {ts = ts} {us = us} {vs = vs} {c = c} {v = v} {arms = arms} d d' ds) all =
      let s = split ts (word keyword.Then ∷ us ++ vs) all.1 in
      let t = split us vs s.1.1 in
      arm_fits c v (all_true (map arm_has_fitting_literals arms)) (fits d s.0) (fits d' t.0) (arms_fit ds t.1)

  else_fits : {ts : List Terminal} {o : Option Expr} → SpellsElse ts o → All ts → option_fits o ≡ true
  else_fits nothing all = refl
  else_fits null all = refl
  else_fits (otherwise d) all = fits d all.1

-- ---- parts of a query

abbrev items_fit_in : List Item → Bool
items_fit_in items = list_all (λ i. hf i.expr) items

items_fit : {ts : List Terminal} {items : List Item} {n : ℕ} → SpellsItems ts items n → All ts → items_fit_in items ≡ true
items_fit (last_item {ts = ts} {us = us} {e = e} d a) all = both (hf e) true (fits d (split ts us all).0) refl
items_fit (more_items {ts = ts} {us = us} {vs = vs} {e = e} {items = items} d a others) all =
    let s = split ts (us ++ mark sign.Comma ∷ vs) (subst All (append_assoc ts us (mark sign.Comma ∷ vs)) all) in
    let t = split us (mark sign.Comma ∷ vs) s.1 in
    both (hf e) (items_fit_in items) (fits d s.0) (items_fit others t.1.1)

abbrev others_fit_in : List Joined → Bool
others_fit_in others = list_all (λ j. option_fits (condition_of j.kind)) others

others_fit : {ts : List Terminal} {others : List Joined} {n : ℕ} → SpellsOthers ts others n → All ts → others_fit_in others ≡ true
others_fit no_others all = refl
others_fit (behind_comma {ts = ts} {us = us} d rest) all = others_fit rest (split ts us all.1).1
others_fit (behind_join {is = is} {ts = ts} {us = us} {vs = vs} {by = by} {e = e} {others = others} which d x rest) all =
    let p = split is (ts ++ (word keyword.On ∷ us ++ vs)) all in
    let s = split ts (word keyword.On ∷ us ++ vs) p.1 in
    let r = split us vs s.1.1 in
    subst (λ o. option_fits o && others_fit_in others ≡ true) (sym (condition_is by e)) (both (hf e) (others_fit_in others) (fits x r.0) (others_fit rest r.1))

clause_fits : (k : Keyword) {ts : List Terminal} {c : Option Expr} {n : ℕ} → SpellsClause k ts c n → All ts → option_fits c ≡ true
clause_fits k no_clause all = refl
clause_fits k (clause d) all = fits d all.1

as_list : (es : List Expr) → all_true (map hf es) ≡ true → list_all hf es ≡ true
as_list [] all = refl
as_list (e ∷ es) all = both (hf e) (list_all hf es) (Rattle.meaning.proofs.Tests.first_of (hf e) (all_true (map hf es)) all) (as_list es (Rattle.meaning.proofs.Tests.second_of (hf e) (all_true (map hf es)) all))

groups_fit : {ts : List Terminal} {es : List Expr} {n : ℕ} → SpellsGroups ts es n → All ts → list_all hf es ≡ true
groups_fit no_groups all = refl
groups_fit (groups {es = es} d) all = as_list es (list_fits d all.1.1)

query_fits : {ts : List Terminal} {q : Query} → SpellsQuery ts q → All ts → has_only_fitting_literals q ≡ true
query_fits {ts} {q} s proper =
    let all = subst All s.tokens proper in
    let distinct = split (distinct_if q.distinct) (s.items_tokens ++ (word keyword.From ∷ s.first_tokens ++ (s.others_tokens ++ (s.filter_tokens ++ (s.groups_tokens ++ (s.having_tokens ++ (s.order_tokens ++ (s.limit_tokens ++ s.end_tokens)))))))) all.1 in
    let items = split s.items_tokens (word keyword.From ∷ s.first_tokens ++ (s.others_tokens ++ (s.filter_tokens ++ (s.groups_tokens ++ (s.having_tokens ++ (s.order_tokens ++ (s.limit_tokens ++ s.end_tokens))))))) distinct.1 in
    let first = split s.first_tokens (s.others_tokens ++ (s.filter_tokens ++ (s.groups_tokens ++ (s.having_tokens ++ (s.order_tokens ++ (s.limit_tokens ++ s.end_tokens)))))) items.1.1 in
    let others = split s.others_tokens (s.filter_tokens ++ (s.groups_tokens ++ (s.having_tokens ++ (s.order_tokens ++ (s.limit_tokens ++ s.end_tokens))))) first.1 in
    let filter = split s.filter_tokens (s.groups_tokens ++ (s.having_tokens ++ (s.order_tokens ++ (s.limit_tokens ++ s.end_tokens)))) others.1 in
    let groups = split s.groups_tokens (s.having_tokens ++ (s.order_tokens ++ (s.limit_tokens ++ s.end_tokens))) filter.1 in
    let having = split s.having_tokens (s.order_tokens ++ (s.limit_tokens ++ s.end_tokens)) groups.1 in
    both (items_fit_in q.items) _ (items_fit s.items items.0)
    (both (others_fit_in q.source.others) _ (others_fit s.others others.0)
    (both (option_fits q.filter) _ (clause_fits keyword.Where s.filter filter.0)
    (both (list_all hf q.group_by) (option_fits q.having) (groups_fit s.groups groups.0) (clause_fits keyword.Having s.having having.0))))

-- the literals of a text's tree
pub literals_fit : (bs : List ℕ) (q : Query) → IsTree bs q → length bs ≤ max_query_bytes → has_only_fitting_literals q ≡ true
literals_fit bs q tree short = query_fits tree.spells (tokens_fit max_text_bytes bs tree.utf8 short)

some_items : {ts : List Terminal} {items : List Item} {n : ℕ} → SpellsItems ts items n → items ≢ []
some_items (last_item d a) is = cc
some_items (more_items d a others) is = cc

-- a text's tree has an item
pub items_there : (bs : List ℕ) (q : Query) → IsTree bs q → q.items ≢ []
items_there bs q tree = some_items tree.spells.items
