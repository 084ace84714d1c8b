-- The canonical tokens of an expression may stand one behind the other in a text.
use Rattle.std.proofs.Common.{◌≡◌, ℕ, zero, suc, ◌≤◌, pos, negsuc, ℤ, Bool, true, false, cond, leb, not, List, [], ◌∷◌, ◌++◌, map, Option, Some, None, refl, sym, ap, subst, arith, append_assoc}
use Rattle.std.specs.Prelude.{option_map}
use Rattle.std.specs.List.{AllByRecursion}
use Rattle.std.proofs.lemmas.Bool.{le-leb, leb-true}
use Rattle.sql_syntax.specs.declared.keyword.Keyword.TheVariants as keyword
use Rattle.sql_syntax.specs.declared.token.Sign.TheVariants as sign
use Rattle.sql_syntax.specs.declared.strength.Level.{Level}
use Rattle.sql_syntax.specs.declared.strength.Level.TheVariants as level
use Rattle.sql_syntax.specs.declared.strength.Operator.{Operator}
use Rattle.sql_syntax.specs.declared.strength.Operator.TheVariants as operator
use Rattle.sql_syntax.specs.declared.tree.Aggregate.{Aggregate}
use Rattle.sql_syntax.specs.declared.tree.Aggregate.TheVariants as aggregate
use Rattle.meaning.specs.declared.expr.ArithmeticOperator.{ArithmeticOperator}
use Rattle.meaning.specs.declared.expr.ArithmeticOperator.TheVariants as arithmetic
use Rattle.meaning.specs.declared.expr.ComparisonOperator.{ComparisonOperator}
use Rattle.meaning.specs.declared.expr.ComparisonOperator.TheVariants as comparison
use Rattle.sql_syntax.specs.declared.tree.Arm.{Arm}
use Rattle.sql_syntax.specs.declared.tree.Expr.{Expr}
use Rattle.sql_syntax.specs.declared.tree.Expr.TheVariants as expr
use Rattle.sql_syntax.specs.Words.{lower}
use Rattle.sql_syntax.specs.Tokens as terminal
use Rattle.sql_syntax.specs.Tokens.{Terminal}
use Rattle.sql_syntax.specs.Strength.{next, rank, level_of, token_of, node_of, compares}
use Rattle.sql_syntax.specs.Phrases.{word, mark, not_if, distinct_if, bracketed, aggregate_word, is_distinct, below_zero, undoubled, Spells, as_next, joined, negated, tested, minus, integer, negative, text, column, column_of, rows, aggregated, first_of, chosen, in_brackets, Tests, compared, between, among, like, is_null, SpellsList, last, more, SpellsArms, last_arm, more_arms, SpellsElse, nothing, null, otherwise}
use Rattle.sql_syntax.specs.CanonicalTokens.{Printed, at_level, free, doubled, integer_tokens, list_tokens, arms_tokens, else_tokens, printed, printed_arm}
use Rattle.sql_syntax.proofs.Names.{IsProper, lower_name}
use Rattle.sql_syntax.proofs.ReadAgain.{AreApart, heads_minus}
use Rattle.sql_syntax.proofs.Canonical.{good, spells_at_level, printed_not, printed_or, printed_and, printed_reckon, printed_minus, printed_integer, printed_text, printed_column, printed_rows, printed_aggregate, printed_list, printed_case, printed_compare, printed_between, printed_in, printed_like, printed_null, printed_arm_is, next_primary}

-- ---- what may stand behind

-- whatever ends before it
abbrev pub Ends : List Terminal → Type 0
Ends rest = (o : Bool) → AreApart o rest

-- Behind an operand of arithmetic a minus may stand, and behind others nothing that depends on it.
abbrev pub Ready : Bool → List Terminal → Type 0
Ready true rest = AreApart true rest
Ready false rest = Ends rest

-- the tokens may stand before what may stand behind them
abbrev pub Fits : Bool → List Terminal → Type 0
Fits strong ts = (rest : List Terminal) → Ready strong rest → AreApart false (ts ++ rest)

weaker : (strong : Bool) (ts : List Terminal) → Fits strong ts → Fits false ts
weaker true ts fits = λ rest ends. fits rest (ends true)
weaker false ts fits = fits

abbrev is_strong : Level → Bool
is_strong l = leb 4 (rank l)

abbrev pub Apt : Expr → Type 0
Apt e = Fits (is_strong (printed e).level) (printed e).tokens

apt_by : (e : Expr) (p : Printed) → printed e ≡ p → Fits (is_strong p.level) p.tokens → Apt e
apt_by e p is fits = subst (λ (x : Printed). Fits (is_strong x.level) x.tokens) (sym is) fits

-- ---- in brackets

pub brackets_fit : (ts : List Terminal) → Fits false ts → Fits true (bracketed ts)
brackets_fit ts fits = λ rest ready. (tt, refl, subst (AreApart false) (sym (append_assoc ts (mark sign.Close ∷ []) rest)) (fits (mark sign.Close ∷ rest) (λ o. (tt, refl, ready))))

strong_at_level : (test strong : Bool) (ts : List Terminal) → (test ≡ true → strong ≡ true) → Fits strong ts → Fits true (cond test ts (bracketed ts))
strong_at_level true true ts h fits = fits
strong_at_level true false ts h fits = let no = h refl in absurd cc
strong_at_level false strong ts h fits = brackets_fit ts (weaker strong ts fits)

weak_at_level : (test strong : Bool) (ts : List Terminal) → Fits strong ts → Fits false (cond test ts (bracketed ts))
weak_at_level true strong ts fits = weaker strong ts fits
weak_at_level false strong ts fits = weaker true (bracketed ts) (brackets_fit ts (weaker strong ts fits))

pub free_fits : (l : Level) (e : Expr) → Apt e → Fits false (at_level l (printed e))
free_fits l e apt = weak_at_level (leb (rank l) (rank (printed e).level)) (is_strong (printed e).level) (printed e).tokens apt

climbs : (l m : Level) → is_strong l ≡ true → leb (rank l) (rank m) ≡ true → is_strong m ≡ true
climbs l m h e = le-leb 4 (rank m) (let low = leb-true 4 (rank l) h in let high = leb-true (rank l) (rank m) e in omega (arith, low, high))

operand_fits : (l : Level) (e : Expr) → is_strong l ≡ true → Apt e → Fits true (at_level l (printed e))
operand_fits l e h apt = strong_at_level (leb (rank l) (rank (printed e).level)) (is_strong (printed e).level) (printed e).tokens (climbs l (printed e).level h) apt

-- ---- operators

strong_op : (op : ArithmeticOperator) → is_strong (level_of (operator.Reckon op)) ≡ true
strong_op arithmetic.Add = refl
strong_op arithmetic.Subtract = refl
strong_op arithmetic.Multiply = refl
strong_op arithmetic.Divide = refl

strong_next : (op : ArithmeticOperator) → is_strong (next (level_of (operator.Reckon op))) ≡ true
strong_next arithmetic.Add = refl
strong_next arithmetic.Subtract = refl
strong_next arithmetic.Multiply = refl
strong_next arithmetic.Divide = refl

op_apart : (op : ArithmeticOperator) (us : List Terminal) → AreApart false us → AreApart true (token_of (operator.Reckon op) ∷ us)
op_apart arithmetic.Add us all = (tt, refl, all)
op_apart arithmetic.Subtract us all = (tt, refl, all)
op_apart arithmetic.Multiply us all = (tt, refl, all)
op_apart arithmetic.Divide us all = (tt, refl, all)

compare_apart : (op : ComparisonOperator) (us : List Terminal) → AreApart false us → AreApart true (mark (compares op) ∷ us)
compare_apart comparison.Equal us all = (tt, refl, all)
compare_apart comparison.NotEqual us all = (tt, refl, all)
compare_apart comparison.Less us all = (tt, refl, all)
compare_apart comparison.LessOrEqual us all = (tt, refl, all)
compare_apart comparison.Greater us all = (tt, refl, all)
compare_apart comparison.GreaterOrEqual us all = (tt, refl, all)

-- two parts, one behind the other
two_parts : (strong : Bool) (ts us : List Terminal) → Fits true ts → ((rest : List Terminal) → Ready strong rest → AreApart true (us ++ rest)) → Fits strong (ts ++ us)
two_parts strong ts us fits behind = λ rest ready. subst (AreApart false) (sym (append_assoc ts us rest)) (fits (us ++ rest) (behind rest ready))

pub weak_parts : (ts us : List Terminal) → Fits false ts → ((rest : List Terminal) → Ends rest → Ends (us ++ rest)) → Fits false (ts ++ us)
weak_parts ts us fits behind = λ rest ready. subst (AreApart false) (sym (append_assoc ts us rest)) (fits (us ++ rest) (behind rest ready))

joined_apt : (o : Operator) (a b : Expr) → Apt a → Apt b → Apt (node_of o a b)
joined_apt operator.Or a b x y =
    apt_by (expr.Or a b) _ (printed_or a b) (weak_parts (at_level level.Disjunction (printed a)) (word keyword.Or ∷ at_level level.Conjunction (printed b)) (free_fits level.Disjunction a x)
    (λ rest ready o. (tt, refl, free_fits level.Conjunction b y rest ready)))
joined_apt operator.And a b x y =
    apt_by (expr.And a b) _ (printed_and a b) (weak_parts (at_level level.Conjunction (printed a)) (word keyword.And ∷ at_level level.Negation (printed b)) (free_fits level.Conjunction a x)
    (λ rest ready o. (tt, refl, free_fits level.Negation b y rest ready)))
joined_apt (operator.Reckon op) a b x y =
    apt_by (expr.Arithmetic op a b) _ (printed_reckon op a b) (
    subst (λ s. Fits s (at_level (level_of (operator.Reckon op)) (printed a) ++ token_of (operator.Reckon op) ∷ at_level (next (level_of (operator.Reckon op))) (printed b))) (sym (strong_op op))
    (two_parts true (at_level (level_of (operator.Reckon op)) (printed a)) (token_of (operator.Reckon op) ∷ at_level (next (level_of (operator.Reckon op))) (printed b)) (operand_fits (level_of (operator.Reckon op)) a (strong_op op) x)
    (λ rest ready. op_apart op (at_level (next (level_of (operator.Reckon op))) (printed b) ++ rest) (operand_fits (next (level_of (operator.Reckon op))) b (strong_next op) y rest ready))))

-- ---- unary minus

abbrev IsPrimary : Level → Bool
IsPrimary level.Primary = true
IsPrimary _ = false

-- no primary begins with a minus
no_minus : {l : Level} {ts : List Terminal} {e : Expr} → Spells l ts e → IsPrimary l ≡ true → (rest : List Terminal) → not (heads_minus (ts ++ rest)) ≡ true
no_minus (as_next {l = l} d) h rest = no_minus d (next_primary l h) rest
no_minus (joined operator.Or d d') h rest = absurd cc
no_minus (joined operator.And d d') h rest = absurd cc
no_minus (joined (operator.Reckon arithmetic.Add) d d') h rest = absurd cc
no_minus (joined (operator.Reckon arithmetic.Subtract) d d') h rest = absurd cc
no_minus (joined (operator.Reckon arithmetic.Multiply) d d') h rest = absurd cc
no_minus (joined (operator.Reckon arithmetic.Divide) d d') h rest = absurd cc
no_minus (negated d) h rest = absurd cc
no_minus (tested d t) h rest = absurd cc
no_minus (minus i d) h rest = absurd cc
no_minus (integer n i) h rest = absurd cc
no_minus (negative n i) h rest = absurd cc
no_minus (text t) h rest = refl
no_minus (column n) h rest = refl
no_minus (column_of t n) h rest = refl
no_minus rows h rest = refl
no_minus (aggregated k d) h rest = refl
no_minus (first_of ds) h rest = refl
no_minus (chosen arms d) h rest = refl
no_minus (in_brackets d) h rest = refl

-- ---- names and texts

pub split_all : (ts us : List Terminal) → AllByRecursion IsProper (ts ++ us) → AllByRecursion IsProper ts × AllByRecursion IsProper us
split_all [] us all = (tt, all)
split_all (t ∷ ts) us all = let rest = split_all ts us all.1 in ((all.0, rest.0), rest.1)

integer_apt : (n : ℤ) → Fits true (integer_tokens n) → Apt (expr.Integer n)
integer_apt n fits = apt_by (expr.Integer n) _ (printed_integer n) fits

negative_apt : (n : ℕ) → n ≤ 9223372036854775808 → Apt (expr.Integer (below_zero n))
negative_apt zero h = integer_apt (pos 0) (λ rest ready. (h, refl, ready))
negative_apt (suc n) h = integer_apt (negsuc n) (λ rest ready. (tt, refl, (h, refl, ready)))

aggregate_operand : (k : Aggregate) (o : Bool) (us : List Terminal) → AreApart false (mark sign.Open ∷ us) → AreApart o (word (aggregate_word k) ∷ mark sign.Open ∷ us)
aggregate_operand aggregate.Count o us all = (tt, refl, all)
aggregate_operand aggregate.CountDistinct o us all = (tt, refl, all)
aggregate_operand aggregate.Sum o us all = (tt, refl, all)
aggregate_operand aggregate.SumDistinct o us all = (tt, refl, all)
aggregate_operand aggregate.Min o us all = (tt, refl, all)
aggregate_operand aggregate.Max o us all = (tt, refl, all)
aggregate_operand aggregate.Average o us all = (tt, refl, all)

-- DISTINCT where it is written, before its operand
pub distinct_fits : (distinct : Bool) (ts : List Terminal) → Fits false ts → Fits false (distinct_if distinct ++ ts)
distinct_fits true ts fits = λ rest ready. (tt, refl, fits rest ready)
distinct_fits false ts fits = fits

-- NOT where it is written, and what stands behind it
not_apart : (not : Bool) (o : Bool) (us : List Terminal) → Ends us → AreApart o (not_if not ++ us)
not_apart true o us ends = (tt, refl, ends false)
not_apart false o us ends = ends o

-- ---- nodes

between_behind : (not : Bool) (low high rest : List Terminal) → Fits true low → Fits true high → Ends rest
    → AreApart true ((not_if not ++ (word keyword.Between ∷ low ++ word keyword.And ∷ high)) ++ rest)
between_behind not low high rest fits fits' ends =
    subst (AreApart true) (sym (append_assoc (not_if not) (word keyword.Between ∷ low ++ word keyword.And ∷ high) rest))
    (not_apart not true ((word keyword.Between ∷ low ++ word keyword.And ∷ high) ++ rest) (λ o. (
      tt,
      refl,
      subst (AreApart false) (sym (append_assoc low (word keyword.And ∷ high) rest)) (fits (word keyword.And ∷ high ++ rest) (tt, refl, fits' rest (ends true))),
    )))

in_behind : (not : Bool) (list rest : List Terminal) → Fits true (bracketed list) → Ends rest → AreApart true ((not_if not ++ word keyword.In ∷ bracketed list) ++ rest)
in_behind not list rest fits ends =
    subst (AreApart true) (sym (append_assoc (not_if not) (word keyword.In ∷ bracketed list) rest))
    (not_apart not true (word keyword.In ∷ bracketed list ++ rest) (λ o. (tt, refl, fits rest (ends true))))

like_apart : (not : Bool) (t : List ℕ) (rest : List Terminal) → Ends rest → AreApart true ((not_if not ++ word keyword.Like ∷ terminal.text (doubled t) ∷ []) ++ rest)
like_apart not t rest ends =
    subst (AreApart true) (sym (append_assoc (not_if not) (word keyword.Like ∷ terminal.text (doubled t) ∷ []) rest))
    (not_apart not true (word keyword.Like ∷ terminal.text (doubled t) ∷ rest) (λ o. (tt, refl, ((t, refl), refl, ends true))))

null_apart : (not : Bool) (rest : List Terminal) → Ends rest → AreApart true ((word keyword.Is ∷ not_if not ++ word keyword.Null ∷ []) ++ rest)
null_apart true rest ends = (tt, refl, (tt, refl, (tt, refl, ends false)))
null_apart false rest ends = (tt, refl, (tt, refl, ends false))

list_more : (e : Expr) (es : List Expr) → Fits false (free (printed e)) → Fits false (list_tokens (map printed es)) → Fits false (list_tokens (map printed (e ∷ es)))
list_more e [] fits rest_fits = fits
list_more e (f ∷ es) fits rest_fits = weak_parts (free (printed e)) (mark sign.Comma ∷ list_tokens (map printed (f ∷ es))) fits (λ rest ready o. (tt, refl, rest_fits rest ready))

-- WHEN and THEN before what may stand behind them
abbrev pub Goes : List Terminal → Type 0
Goes ts = (rest : List Terminal) → Ends rest → Ends (ts ++ rest)

arm_goes : (c v : Expr) (arms : List Arm) → Fits false (free (printed c)) → Fits false (free (printed v)) → Goes (arms_tokens (map printed_arm arms)) → Goes (arms_tokens (map printed_arm (record { condition = c; value = v } ∷ arms)))
arm_goes c v arms x y others =
    let us = arms_tokens (map printed_arm arms) in
    subst Goes (sym (ap (λ (p : Printed × Printed). arms_tokens (p ∷ map printed_arm arms)) (printed_arm_is c v)))
    (λ rest ends o. (
      tt,
      refl,
      subst (AreApart false) (sym (append_assoc (free (printed c)) (word keyword.Then ∷ free (printed v) ++ us) rest))
          (x ((word keyword.Then ∷ free (printed v) ++ us) ++ rest) (λ o'. (
            tt,
            refl,
            subst (AreApart false) (sym (append_assoc (free (printed v)) us rest)) (y (us ++ rest) (others rest ends)),
          ))),
    ))

pub no_arms : Goes []
no_arms = λ rest ends. ends

case_fits : (ts us : List Terminal) → Goes ts → Goes us → Fits true (word keyword.Case ∷ ts ++ (us ++ word keyword.End ∷ []))
case_fits ts us x y = λ rest ready. (
  tt,
  refl,
  subst (AreApart false) (sym (append_assoc ts (us ++ word keyword.End ∷ []) rest))
      (x ((us ++ word keyword.End ∷ []) ++ rest) (subst Ends (sym (append_assoc us (word keyword.End ∷ []) rest)) (y (word keyword.End ∷ rest) (λ o. (tt, refl, ready)))) false),
)

mutual
  pub apt : {l : Level} {ts : List Terminal} {e : Expr} → Spells l ts e → AllByRecursion IsProper ts → Apt e
  apt (as_next d) all = apt d all
  apt (joined o {ts = ts} {us = us} {a = a} {b = b} d d') all = let s = split_all ts (token_of o ∷ us) all in joined_apt o a b (apt d s.0) (apt d' s.1.1)
  apt (negated {e = e} d) all = apt_by (expr.Not e) _ (printed_not e) (λ rest ready. (tt, refl, free_fits level.Negation e (apt d all.1) rest ready))
  apt (tested {ts = ts} {us = us} {a = a} d t) all = let s = split_all ts us all in apt_test t (apt d s.0) s.1
  apt (minus {e = e} h d) all =
      apt_by (expr.Minus e) _ (printed_minus e) (λ rest ready. (tt, no_minus (spells_at_level level.Primary e (good d)) refl rest, operand_fits level.Primary e refl (apt d all.1) rest ready))
  apt (integer n h) all = integer_apt (pos n) (λ rest ready. (omega (arith, h), refl, ready))
  apt (negative n h) all = negative_apt n h
  apt (text t) all = apt_by (expr.Text (undoubled t)) _ (printed_text (undoubled t)) (λ rest ready. ((undoubled t, refl), refl, ready))
  apt (column n) all = apt_by (expr.Column None (lower n)) _ (printed_column None (lower n)) (λ rest ready. (lower_name n all.0, refl, ready))
  apt (column_of t n) all = apt_by (expr.Column (Some (lower t)) (lower n)) _ (printed_column (Some (lower t)) (lower n)) (λ rest ready. (lower_name t all.0, refl, (tt, refl, (lower_name n all.1.1.0, refl, ready))))
  apt rows all = apt_by expr.CountRows _ printed_rows (λ rest ready. (tt, refl, (tt, refl, (tt, refl, (tt, refl, ready)))))
  apt (aggregated k {ts = ts} {e = e} d) all =
      let inside = distinct_if (is_distinct k) in
      let within = (split_all (inside ++ ts) (mark sign.Close ∷ []) all.1.1).0 in
      let fits = distinct_fits (is_distinct k) (free (printed e)) (free_fits level.Disjunction e (apt d (split_all inside ts within).1)) in
      apt_by (expr.Aggregate k e) _ (printed_aggregate k e)
      (λ rest ready. aggregate_operand k false (((inside ++ free (printed e)) ++ mark sign.Close ∷ []) ++ rest) (brackets_fit (inside ++ free (printed e)) fits rest ready))
  apt (first_of {ts = ts} {es = es} ds) all =
      apt_by (expr.Coalesce es) _ (printed_list es) (λ rest ready. (tt, refl, brackets_fit (list_tokens (map printed es)) (apt_list ds (split_all ts (mark sign.Close ∷ []) all.1.1).0) rest ready))
  apt (chosen {ts = ts} {us = us} {arms = arms} {otherwise = o} ds d) all =
      let s = split_all ts (us ++ word keyword.End ∷ []) all.1 in
      apt_by (expr.Case arms o) _ (printed_case arms o) (case_fits (arms_tokens (map printed_arm arms)) (else_tokens (option_map printed o)) (apt_arms ds s.0) (apt_else d (split_all us (word keyword.End ∷ []) s.1).0))
  apt (in_brackets {ts = ts} d) all = apt d (split_all ts (mark sign.Close ∷ []) all.1).0

  apt_test : {a e : Expr} {ts : List Terminal} → Tests a ts e → Apt a → AllByRecursion IsProper ts → Apt e
  apt_test {a} (compared op {b = b} d) x all =
      apt_by (expr.Compare op a b) _ (printed_compare op a b) (two_parts false (at_level level.Sum (printed a)) (mark (compares op) ∷ at_level level.Sum (printed b)) (operand_fits level.Sum a refl x)
      (λ rest ends. compare_apart op (at_level level.Sum (printed b) ++ rest) (operand_fits level.Sum b refl (apt d all.1) rest (ends true))))
  apt_test {a} (between not {low = low} {high = high} {ts = ts} {us = us} d d') x all =
      let s = split_all (not_if not) (word keyword.Between ∷ ts ++ word keyword.And ∷ us) all in
      let t = split_all ts (word keyword.And ∷ us) s.1.1 in
      apt_by (expr.Between not a low high) _ (printed_between not a low high) (two_parts false (at_level level.Sum (printed a)) _ (operand_fits level.Sum a refl x)
      (λ rest ends. between_behind not (at_level level.Sum (printed low)) (at_level level.Sum (printed high)) rest (operand_fits level.Sum low refl (apt d t.0)) (operand_fits level.Sum high refl (apt d' t.1.1)) ends))
  apt_test {a} (among not {ts = ts} {es = es} ds) x all =
      let s = split_all (not_if not) (word keyword.In ∷ bracketed ts) all in
      apt_by (expr.In not a es) _ (printed_in not a es) (two_parts false (at_level level.Sum (printed a)) _ (operand_fits level.Sum a refl x)
      (λ rest ends. in_behind not (list_tokens (map printed es)) rest (brackets_fit (list_tokens (map printed es)) (apt_list ds (split_all ts (mark sign.Close ∷ []) s.1.1.1).0)) ends))
  apt_test {a} (like not t) x all =
      apt_by (expr.Like not a (undoubled t)) _ (printed_like not a (undoubled t)) (two_parts false (at_level level.Sum (printed a)) _ (operand_fits level.Sum a refl x) (λ rest ends. like_apart not (undoubled t) rest ends))
  apt_test {a} (is_null not) x all =
      apt_by (expr.IsNull not a) _ (printed_null not a) (two_parts false (at_level level.Sum (printed a)) _ (operand_fits level.Sum a refl x) (λ rest ends. null_apart not rest ends))

  pub apt_list : {ts : List Terminal} {es : List Expr} → SpellsList ts es → AllByRecursion IsProper ts → Fits false (list_tokens (map printed es))
  apt_list (last {e = e} d) all = free_fits level.Disjunction e (apt d all)
  apt_list (more {ts = ts} {us = us} {e = e} {es = es} d ds) all = let s = split_all ts (mark sign.Comma ∷ us) all in list_more e es (free_fits level.Disjunction e (apt d s.0)) (apt_list ds s.1.1)

  apt_arms : {ts : List Terminal} {arms : List Arm} → SpellsArms ts arms → AllByRecursion IsProper ts → Goes (arms_tokens (map printed_arm arms))
  apt_arms (last_arm {ts = ts} {us = us} {c = c} {v = v} d d') all =
      let s = split_all ts (word keyword.Then ∷ us) all.1 in arm_goes c v [] (free_fits level.Disjunction c (apt d s.0)) (free_fits level.Disjunction v (apt d' s.1.1)) no_arms
  apt_arms (more_arms {ts = ts} {us = us} {vs = vs} {c = c} {v = v} {arms = arms} d d' ds) all =
      let s = split_all ts (word keyword.Then ∷ us ++ vs) all.1 in
      let t = split_all us vs s.1.1 in
      arm_goes c v arms (free_fits level.Disjunction c (apt d s.0)) (free_fits level.Disjunction v (apt d' t.0)) (apt_arms ds t.1)

  apt_else : {ts : List Terminal} {o : Option Expr} → SpellsElse ts o → AllByRecursion IsProper ts → Goes (else_tokens (option_map printed o))
  apt_else nothing all = no_arms
  apt_else null all = no_arms
  apt_else (otherwise {e = e} d) all = let fits = free_fits level.Disjunction e (apt d all.1) in λ rest ends o. (tt, refl, fits rest ends)
