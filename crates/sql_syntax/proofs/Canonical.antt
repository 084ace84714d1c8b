-- The canonical tokens of a tree spell it.
use Rattle.std.proofs.Common.{◌≡◌, ℕ, zero, suc, ℤ, pos, negsuc, Bool, true, false, cond, eqb, leb, List, [], ◌∷◌, ◌++◌, map, Option, Some, None, refl, sym, ap, subst, ◌∙◌, rules, arith}
use Rattle.std.specs.Prelude.{◌≤◌, option_map}
use Rattle.std.proofs.lemmas.List.{append-nil}
use Rattle.std.proofs.lemmas.Bool.{eqb-true}
use Rattle.sql_syntax.specs.declared.keyword.Keyword.TheVariants as keyword
use Rattle.sql_syntax.specs.declared.token.Sign.TheVariants as sign
use Rattle.sql_syntax.specs.declared.tree.Aggregate.{Aggregate}
use Rattle.meaning.specs.declared.expr.ArithmeticOperator.{ArithmeticOperator}
use Rattle.meaning.specs.declared.expr.ArithmeticOperator.TheVariants as arithmetic
use Rattle.meaning.specs.declared.expr.ComparisonOperator.{ComparisonOperator}
use Rattle.sql_syntax.specs.declared.tree.Arm.{Arm}
use Rattle.sql_syntax.specs.declared.tree.Expr.{Expr}
use Rattle.sql_syntax.specs.declared.tree.Expr.TheVariants as expr
use Rattle.sql_syntax.specs.declared.tree.Expr.TheFolds.{the_lemmas}
use Rattle.sql_syntax.specs.Words.{lower}
use Rattle.sql_syntax.specs.Tokens as terminal
use Rattle.sql_syntax.specs.Tokens.{Terminal}
use Rattle.sql_syntax.specs.declared.strength.Level.{Level}
use Rattle.sql_syntax.specs.declared.strength.Level.TheVariants as level
use Rattle.sql_syntax.specs.declared.strength.Operator.{Operator}
use Rattle.sql_syntax.specs.declared.strength.Operator.TheVariants as operator
use Rattle.sql_syntax.specs.Strength.{next, rank, level_of, node_of, compares}
use Rattle.sql_syntax.specs.Phrases.{word, mark, not_if, distinct_if, bracketed, aggregate_word, is_distinct, below_zero, undoubled, heads_integer, Spells, as_next, joined, negated, tested, minus, integer, negative, text, column, column_of, rows, aggregated, first_of, chosen, in_brackets, Tests, compared, between, among, like, is_null, SpellsList, last, more, SpellsArms, last_arm, more_arms, SpellsElse, nothing, null, otherwise}
use Rattle.sql_syntax.specs.CanonicalTokens.{Printed, at_level, free, doubled, join_tokens, integer_tokens, column_tokens, list_tokens, arms_tokens, else_tokens, printed, printed_arm, canonical_tokens}
use Rattle.sql_syntax.proofs.Names.{lower_lower}

-- ---- from rule to rule

-- what a rule gives, a weaker one gives too
climbs : (weak strong : Level) {ts : List Terminal} {e : Expr} → leb (rank weak) (rank strong) ≡ true → Spells strong ts e → Spells weak ts e
climbs level.Disjunction level.Disjunction h d = d
climbs level.Disjunction level.Conjunction h d = as_next d
climbs level.Disjunction level.Negation h d = as_next (as_next d)
climbs level.Disjunction level.Predicate h d = as_next (as_next (as_next d))
climbs level.Disjunction level.Sum h d = as_next (as_next (as_next (as_next d)))
climbs level.Disjunction level.Term h d = as_next (as_next (as_next (as_next (as_next d))))
climbs level.Disjunction level.Factor h d = as_next (as_next (as_next (as_next (as_next (as_next d)))))
climbs level.Disjunction level.Primary h d = as_next (as_next (as_next (as_next (as_next (as_next (as_next d))))))
climbs level.Conjunction level.Disjunction h d = absurd cc
climbs level.Conjunction level.Conjunction h d = d
climbs level.Conjunction level.Negation h d = as_next d
climbs level.Conjunction level.Predicate h d = as_next (as_next d)
climbs level.Conjunction level.Sum h d = as_next (as_next (as_next d))
climbs level.Conjunction level.Term h d = as_next (as_next (as_next (as_next d)))
climbs level.Conjunction level.Factor h d = as_next (as_next (as_next (as_next (as_next d))))
climbs level.Conjunction level.Primary h d = as_next (as_next (as_next (as_next (as_next (as_next d)))))
climbs level.Negation level.Disjunction h d = absurd cc
climbs level.Negation level.Conjunction h d = absurd cc
climbs level.Negation level.Negation h d = d
climbs level.Negation level.Predicate h d = as_next d
climbs level.Negation level.Sum h d = as_next (as_next d)
climbs level.Negation level.Term h d = as_next (as_next (as_next d))
climbs level.Negation level.Factor h d = as_next (as_next (as_next (as_next d)))
climbs level.Negation level.Primary h d = as_next (as_next (as_next (as_next (as_next d))))
climbs level.Predicate level.Disjunction h d = absurd cc
climbs level.Predicate level.Conjunction h d = absurd cc
climbs level.Predicate level.Negation h d = absurd cc
climbs level.Predicate level.Predicate h d = d
climbs level.Predicate level.Sum h d = as_next d
climbs level.Predicate level.Term h d = as_next (as_next d)
climbs level.Predicate level.Factor h d = as_next (as_next (as_next d))
climbs level.Predicate level.Primary h d = as_next (as_next (as_next (as_next d)))
climbs level.Sum level.Disjunction h d = absurd cc
climbs level.Sum level.Conjunction h d = absurd cc
climbs level.Sum level.Negation h d = absurd cc
climbs level.Sum level.Predicate h d = absurd cc
climbs level.Sum level.Sum h d = d
climbs level.Sum level.Term h d = as_next d
climbs level.Sum level.Factor h d = as_next (as_next d)
climbs level.Sum level.Primary h d = as_next (as_next (as_next d))
climbs level.Term level.Disjunction h d = absurd cc
climbs level.Term level.Conjunction h d = absurd cc
climbs level.Term level.Negation h d = absurd cc
climbs level.Term level.Predicate h d = absurd cc
climbs level.Term level.Sum h d = absurd cc
climbs level.Term level.Term h d = d
climbs level.Term level.Factor h d = as_next d
climbs level.Term level.Primary h d = as_next (as_next d)
climbs level.Factor level.Disjunction h d = absurd cc
climbs level.Factor level.Conjunction h d = absurd cc
climbs level.Factor level.Negation h d = absurd cc
climbs level.Factor level.Predicate h d = absurd cc
climbs level.Factor level.Sum h d = absurd cc
climbs level.Factor level.Term h d = absurd cc
climbs level.Factor level.Factor h d = d
climbs level.Factor level.Primary h d = as_next d
climbs level.Primary level.Disjunction h d = absurd cc
climbs level.Primary level.Conjunction h d = absurd cc
climbs level.Primary level.Negation h d = absurd cc
climbs level.Primary level.Predicate h d = absurd cc
climbs level.Primary level.Sum h d = absurd cc
climbs level.Primary level.Term h d = absurd cc
climbs level.Primary level.Factor h d = absurd cc
climbs level.Primary level.Primary h d = d

pub to_free : (l : Level) {ts : List Terminal} {e : Expr} → Spells l ts e → Spells level.Disjunction ts e
to_free level.Disjunction d = climbs level.Disjunction level.Disjunction refl d
to_free level.Conjunction d = climbs level.Disjunction level.Conjunction refl d
to_free level.Negation d = climbs level.Disjunction level.Negation refl d
to_free level.Predicate d = climbs level.Disjunction level.Predicate refl d
to_free level.Sum d = climbs level.Disjunction level.Sum refl d
to_free level.Term d = climbs level.Disjunction level.Term refl d
to_free level.Factor d = climbs level.Disjunction level.Factor refl d
to_free level.Primary d = climbs level.Disjunction level.Primary refl d

pub from_primary : (l : Level) {ts : List Terminal} {e : Expr} → Spells level.Primary ts e → Spells l ts e
from_primary level.Disjunction d = climbs level.Disjunction level.Primary refl d
from_primary level.Conjunction d = climbs level.Conjunction level.Primary refl d
from_primary level.Negation d = climbs level.Negation level.Primary refl d
from_primary level.Predicate d = climbs level.Predicate level.Primary refl d
from_primary level.Sum d = climbs level.Sum level.Primary refl d
from_primary level.Term d = climbs level.Term level.Primary refl d
from_primary level.Factor d = climbs level.Factor level.Primary refl d
from_primary level.Primary d = climbs level.Primary level.Primary refl d

spells_by_level : (l strong : Level) (ts : List Terminal) (e : Expr) (test : Bool) → leb (rank l) (rank strong) ≡ test → Spells strong ts e → Spells l (cond test ts (bracketed ts)) e
spells_by_level l strong ts e true h d = climbs l strong h d
spells_by_level l strong ts e false h d = from_primary l (in_brackets (to_free strong d))

-- the printed expression is spelled by any rule of the level that it stands at
abbrev pub Good : Expr → Type 0
Good e = Spells (printed e).level (printed e).tokens e

pub spells_at_level : (l : Level) (e : Expr) → Good e → Spells l (at_level l (printed e)) e
spells_at_level l e d = spells_by_level l (printed e).level (printed e).tokens e (leb (rank l) (rank (printed e).level)) refl d

good_by : (e : Expr) (p : Printed) → printed e ≡ p → Spells p.level p.tokens e → Good e
good_by e p is d = subst (λ (x : Printed). Spells x.level x.tokens e) (sym is) d

-- ---- what is printed of each node

pub printed_not : (e : Expr) → printed (expr.Not e) ≡ record { level = level.Negation; tokens = word keyword.Not ∷ at_level level.Negation (printed e) }
printed_not e = search (rules, the_lemmas)

pub printed_or : (a b : Expr) → printed (expr.Or a b) ≡ record { level = level.Disjunction; tokens = join_tokens operator.Or (printed a) (printed b) }
printed_or a b = search (rules, the_lemmas)

pub printed_list : (es : List Expr) → printed (expr.Coalesce es) ≡ record { level = level.Primary; tokens = word keyword.Coalesce ∷ bracketed (list_tokens (map printed es)) }
printed_list es = search (rules, the_lemmas)

pub printed_case : (arms : List Arm) (o : Option Expr) → printed (expr.Case arms o) ≡ record { level = level.Primary; tokens = word keyword.Case ∷ arms_tokens (map printed_arm arms) ++ (else_tokens (option_map printed o) ++ word keyword.End ∷ []) }
printed_case arms o = search (rules, the_lemmas)

pub printed_and : (a b : Expr) → printed (expr.And a b) ≡ record { level = level.Conjunction; tokens = join_tokens operator.And (printed a) (printed b) }
printed_and a b = search (rules, the_lemmas)

pub printed_reckon : (op : ArithmeticOperator) (a b : Expr) → printed (expr.Arithmetic op a b) ≡ record { level = level_of (operator.Reckon op); tokens = join_tokens (operator.Reckon op) (printed a) (printed b) }
printed_reckon op a b = search (rules, the_lemmas)

pub printed_minus : (e : Expr) → printed (expr.Minus e) ≡ record { level = level.Factor; tokens = mark sign.Minus ∷ at_level level.Primary (printed e) }
printed_minus e = search (rules, the_lemmas)

pub printed_integer : (n : ℤ) → printed (expr.Integer n) ≡ record { level = level.Factor; tokens = integer_tokens n }
printed_integer n = search (rules, the_lemmas)

pub printed_text : (t : List ℕ) → printed (expr.Text t) ≡ record { level = level.Primary; tokens = terminal.text (doubled t) ∷ [] }
printed_text t = search (rules, the_lemmas)

pub printed_column : (t : Option (List ℕ)) (n : List ℕ) → printed (expr.Column t n) ≡ record { level = level.Primary; tokens = column_tokens t n }
printed_column t n = search (rules, the_lemmas)

pub printed_rows : printed expr.CountRows ≡ record { level = level.Primary; tokens = word keyword.Count ∷ bracketed (mark sign.Star ∷ []) }
printed_rows = search (rules, the_lemmas)

pub printed_aggregate : (k : Aggregate) (e : Expr) → printed (expr.Aggregate k e) ≡ record { level = level.Primary; tokens = word (aggregate_word k) ∷ bracketed (distinct_if (is_distinct k) ++ free (printed e)) }
printed_aggregate k e = search (rules, the_lemmas)

pub printed_compare : (op : ComparisonOperator) (a b : Expr) → printed (expr.Compare op a b) ≡ record { level = level.Predicate; tokens = at_level level.Sum (printed a) ++ mark (compares op) ∷ at_level level.Sum (printed b) }
printed_compare op a b = search (rules, the_lemmas)

pub printed_between : (not : Bool) (x low high : Expr) → printed (expr.Between not x low high)
    ≡ record { level = level.Predicate; tokens = at_level level.Sum (printed x) ++ (not_if not ++ (word keyword.Between ∷ at_level level.Sum (printed low) ++ word keyword.And ∷ at_level level.Sum (printed high))) }
printed_between not x low high = search (rules, the_lemmas)

pub printed_in : (not : Bool) (x : Expr) (es : List Expr) → printed (expr.In not x es)
    ≡ record { level = level.Predicate; tokens = at_level level.Sum (printed x) ++ (not_if not ++ word keyword.In ∷ bracketed (list_tokens (map printed es))) }
printed_in not x es = search (rules, the_lemmas)

pub printed_like : (not : Bool) (x : Expr) (t : List ℕ) → printed (expr.Like not x t)
    ≡ record { level = level.Predicate; tokens = at_level level.Sum (printed x) ++ (not_if not ++ word keyword.Like ∷ terminal.text (doubled t) ∷ []) }
printed_like not x t = search (rules, the_lemmas)

pub printed_null : (not : Bool) (x : Expr) → printed (expr.IsNull not x) ≡ record { level = level.Predicate; tokens = at_level level.Sum (printed x) ++ (word keyword.Is ∷ not_if not ++ word keyword.Null ∷ []) }
printed_null not x = search (rules, the_lemmas)

pub printed_arm_is : (c v : Expr) → printed_arm (record { condition = c; value = v }) ≡ (printed c, printed v)
printed_arm_is c v = search (rules, the_lemmas)

-- what is printed of each node
pub ruleset printed_nodes = (printed_not, printed_or, printed_and, printed_reckon, printed_minus, printed_integer, printed_text, printed_column, printed_rows, printed_aggregate, printed_list, printed_case, printed_compare, printed_between, printed_in, printed_like, printed_null, printed_arm_is)

-- ---- texts and columns

pub undouble_other : (b : ℕ) (bs : List ℕ) → eqb b 39 ≡ false → undoubled (b ∷ bs) ≡ b ∷ undoubled bs
undouble_other b [] is = refl
undouble_other b (c ∷ bs) is = rw is refl

undouble_one : (b : ℕ) (bs : List ℕ) (test : Bool) → eqb b 39 ≡ test → undoubled (doubled bs) ≡ bs → undoubled (cond test (39 ∷ 39 ∷ []) (b ∷ []) ++ doubled bs) ≡ b ∷ bs
undouble_one b bs true is tail = let quote : 39 ≡ b = sym (eqb-true b 39 is) in (λ i. quote i ∷ tail i)
undouble_one b bs false is tail = undouble_other b (doubled bs) is ∙ ap (λ (x : List ℕ). b ∷ x) tail

pub undoubled_doubled : (t : List ℕ) → undoubled (doubled t) ≡ t
undoubled_doubled [] = refl
undoubled_doubled (b ∷ bs) = undouble_one b bs (eqb b 39) refl (undoubled_doubled bs)

-- ---- a literal's minus

abbrev IsPrimary : Level → Bool
IsPrimary level.Primary = true
IsPrimary _ = false

pub next_primary : (l : Level) → IsPrimary l ≡ true → IsPrimary (next l) ≡ true
next_primary level.Primary h = refl
next_primary level.Disjunction h = absurd cc
next_primary level.Conjunction h = absurd cc
next_primary level.Negation h = absurd cc
next_primary level.Predicate h = absurd cc
next_primary level.Sum h = absurd cc
next_primary level.Term h = absurd cc
next_primary level.Factor h = absurd cc

-- no primary begins with an integer
pub no_integer : {l : Level} {ts : List Terminal} {e : Expr} → Spells l ts e → IsPrimary l ≡ true → heads_integer ts ≡ false
no_integer (as_next {l = l} d) h = no_integer d (next_primary l h)
no_integer (joined operator.Or d d') h = absurd cc
no_integer (joined operator.And d d') h = absurd cc
no_integer (joined (operator.Reckon arithmetic.Add) d d') h = absurd cc
no_integer (joined (operator.Reckon arithmetic.Subtract) d d') h = absurd cc
no_integer (joined (operator.Reckon arithmetic.Multiply) d d') h = absurd cc
no_integer (joined (operator.Reckon arithmetic.Divide) d d') h = absurd cc
no_integer (negated d) h = absurd cc
no_integer (tested d t) h = absurd cc
no_integer (minus i d) h = absurd cc
no_integer (integer n i) h = absurd cc
no_integer (negative n i) h = absurd cc
no_integer (text t) h = refl
no_integer (column n) h = refl
no_integer (column_of t n) h = refl
no_integer rows h = refl
no_integer (aggregated k d) h = refl
no_integer (first_of ds) h = refl
no_integer (chosen arms d) h = refl
no_integer (in_brackets d) h = refl

-- ---- the canonical tokens

integer_good : (n : ℤ) → Spells level.Factor (integer_tokens n) (expr.Integer n) → Good (expr.Integer n)
integer_good n d = good_by (expr.Integer n) _ (printed_integer n) d

negative_good : (n : ℕ) → n ≤ 9223372036854775808 → Good (expr.Integer (below_zero n))
negative_good zero h = integer_good (pos 0) (integer 0 (omega arith))
negative_good (suc n) h = integer_good (negsuc n) (negative (suc n) h)

joined_good : (o : Operator) (a b : Expr) → Good a → Good b → Good (node_of o a b)
joined_good operator.Or a b x y = good_by (expr.Or a b) _ (printed_or a b) (joined operator.Or (spells_at_level level.Disjunction a x) (spells_at_level level.Conjunction b y))
joined_good operator.And a b x y = good_by (expr.And a b) _ (printed_and a b) (joined operator.And (spells_at_level level.Conjunction a x) (spells_at_level level.Negation b y))
joined_good (operator.Reckon op) a b x y = good_by (expr.Arithmetic op a b) _ (printed_reckon op a b) (joined (operator.Reckon op) (spells_at_level (level_of (operator.Reckon op)) a x) (spells_at_level (next (level_of (operator.Reckon op))) b y))

text_good : (t : List ℕ) → Good (expr.Text t)
text_good t = good_by (expr.Text t) _ (printed_text t) (subst (λ u. Spells level.Primary (terminal.text (doubled t) ∷ []) (expr.Text u)) (undoubled_doubled t) (text (doubled t)))

column_good : (n : List ℕ) → Good (expr.Column None (lower n))
column_good n = good_by (expr.Column None (lower n)) _ (printed_column None (lower n)) (subst (λ m. Spells level.Primary (terminal.name (lower n) ∷ []) (expr.Column None m)) (lower_lower n) (column (lower n)))

column_of_good : (t n : List ℕ) → Good (expr.Column (Some (lower t)) (lower n))
column_of_good t n =
    good_by (expr.Column (Some (lower t)) (lower n)) _ (printed_column (Some (lower t)) (lower n))
    (subst (λ u. Spells level.Primary (column_tokens (Some (lower t)) (lower n)) (expr.Column (Some u) (lower n))) (lower_lower t)
    (subst (λ m. Spells level.Primary (column_tokens (Some (lower t)) (lower n)) (expr.Column (Some (lower (lower t))) m)) (lower_lower n) (column_of (lower t) (lower n))))

no_list : {ts : List Terminal} {es : List Expr} → SpellsList ts es → es ≡ [] → ⊥
no_list (last d) h = cc
no_list (more d ds) h = cc

more_good : (e : Expr) (es : List Expr) → Spells level.Disjunction (free (printed e)) e → SpellsList (list_tokens (map printed es)) es → SpellsList (list_tokens (map printed (e ∷ es))) (e ∷ es)
more_good e [] d (ds) = absurd (no_list ds refl)
more_good e (f ∷ es) d ds = more d ds

arm_first : (c v : Expr) (ps : List (Printed × Printed)) → arms_tokens (printed_arm (record { condition = c; value = v }) ∷ ps) ≡ word keyword.When ∷ free (printed c) ++ (word keyword.Then ∷ free (printed v) ++ arms_tokens ps)
arm_first c v ps = ap (λ (p : Printed × Printed). arms_tokens (p ∷ ps)) (printed_arm_is c v)

last_arm_good : (c v : Expr) → Spells level.Disjunction (free (printed c)) c → Spells level.Disjunction (free (printed v)) v → SpellsArms (arms_tokens (map printed_arm (record { condition = c; value = v } ∷ []))) (record { condition = c; value = v } ∷ [])
last_arm_good c v d d' =
    subst (λ ts. SpellsArms ts (record { condition = c; value = v } ∷ []))
    (ap (λ (us : List Terminal). word keyword.When ∷ free (printed c) ++ word keyword.Then ∷ us) (sym (append-nil (free (printed v)))) ∙ sym (arm_first c v []))
    (last_arm d d')

more_arms_good : (c v : Expr) (arms : List Arm) → Spells level.Disjunction (free (printed c)) c → Spells level.Disjunction (free (printed v)) v → SpellsArms (arms_tokens (map printed_arm arms)) arms
    → SpellsArms (arms_tokens (map printed_arm (record { condition = c; value = v } ∷ arms))) (record { condition = c; value = v } ∷ arms)
more_arms_good c v arms d d' ds = subst (λ ts. SpellsArms ts (record { condition = c; value = v } ∷ arms)) (sym (arm_first c v (map printed_arm arms))) (more_arms d d' ds)

mutual
  -- what is spelled has canonical tokens that spell it
  pub good : {l : Level} {ts : List Terminal} {e : Expr} → Spells l ts e → Good e
  good (as_next d) = good d
  good (joined o {a = a} {b = b} d d') = joined_good o a b (good d) (good d')
  good (negated {e = e} d) = good_by (expr.Not e) _ (printed_not e) (negated (spells_at_level level.Negation e (good d)))
  good (tested {a = a} d t) = good_test t (good d)
  good (minus {e = e} h d) = let p = spells_at_level level.Primary e (good d) in good_by (expr.Minus e) _ (printed_minus e) (minus (no_integer p refl) (as_next p))
  good (integer n h) = integer_good (pos n) (integer n h)
  good (negative n h) = negative_good n h
  good (text t) = text_good (undoubled t)
  good (column n) = column_good n
  good (column_of t n) = column_of_good t n
  good rows = good_by expr.CountRows _ printed_rows rows
  good (aggregated k {e = e} d) = good_by (expr.Aggregate k e) _ (printed_aggregate k e) (aggregated k (spells_at_level level.Disjunction e (good d)))
  good (first_of {es = es} ds) = good_by (expr.Coalesce es) _ (printed_list es) (first_of (good_list ds))
  good (chosen {arms = arms} {otherwise = o} ds d) = good_by (expr.Case arms o) _ (printed_case arms o) (chosen (good_arms ds) (good_else d))
  good (in_brackets d) = good d

  good_test : {a e : Expr} {ts : List Terminal} → Tests a ts e → Good a → Good e
  good_test {a} (compared op {b = b} d) x = good_by (expr.Compare op a b) _ (printed_compare op a b) (tested (spells_at_level level.Sum a x) (compared op (spells_at_level level.Sum b (good d))))
  good_test {a} (between not {low = low} {high = high} d d') x =
      good_by (expr.Between not a low high) _ (printed_between not a low high) (tested (spells_at_level level.Sum a x) (between not (spells_at_level level.Sum low (good d)) (spells_at_level level.Sum high (good d'))))
  good_test {a} (among not {es = es} ds) x = good_by (expr.In not a es) _ (printed_in not a es) (tested (spells_at_level level.Sum a x) (among not (good_list ds)))
  good_test {a} (like not t) x =
      good_by (expr.Like not a (undoubled t)) _ (printed_like not a (undoubled t)) (tested (spells_at_level level.Sum a x)
      (subst (λ u. Tests a (not_if not ++ word keyword.Like ∷ terminal.text (doubled (undoubled t)) ∷ []) (expr.Like not a u)) (undoubled_doubled (undoubled t)) (like not (doubled (undoubled t)))))
  good_test {a} (is_null not) x = good_by (expr.IsNull not a) _ (printed_null not a) (tested (spells_at_level level.Sum a x) (is_null not))

  pub good_list : {ts : List Terminal} {es : List Expr} → SpellsList ts es → SpellsList (list_tokens (map printed es)) es
  good_list (last {e = e} d) = last (spells_at_level level.Disjunction e (good d))
  good_list (more {e = e} d ds) = more_good e _ (spells_at_level level.Disjunction e (good d)) (good_list ds)

  good_arms : {ts : List Terminal} {arms : List Arm} → SpellsArms ts arms → SpellsArms (arms_tokens (map printed_arm arms)) arms
  good_arms (last_arm {c = c} {v = v} d d') = last_arm_good c v (spells_at_level level.Disjunction c (good d)) (spells_at_level level.Disjunction v (good d'))
  good_arms (more_arms {c = c} {v = v} {arms = arms} d d' ds) = more_arms_good c v arms (spells_at_level level.Disjunction c (good d)) (spells_at_level level.Disjunction v (good d')) (good_arms ds)

  good_else : {ts : List Terminal} {o : Option Expr} → SpellsElse ts o → SpellsElse (else_tokens (option_map printed o)) o
  good_else nothing = nothing
  good_else null = nothing
  good_else (otherwise {e = e} d) = otherwise (spells_at_level level.Disjunction e (good d))

-- the canonical tokens of a tree spell it
pub canonical_spells : {l : Level} {ts : List Terminal} {e : Expr} → Spells l ts e → Spells level.Disjunction (canonical_tokens e) e
canonical_spells {e = e} d = to_free (printed e).level (good d)
