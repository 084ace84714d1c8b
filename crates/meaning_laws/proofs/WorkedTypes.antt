-- Worked examples: what expressions name, which types they have, and what conditions make of a row.
use Rattle.std.proofs.Common.{rules, ◌≡◌, pos, true, false, Bool, List, [], ◌∷◌, map, codes, refl}
use Rattle.meaning.specs.declared.value.Value.TheVariants.{Null, Int}
use Rattle.meaning.specs.declared.value.ColType.TheVariants as of_type
use Rattle.meaning.specs.declared.expr.ArithmeticOperator.TheVariants.{Add, Divide}
use Rattle.meaning.specs.declared.expr.ComparisonOperator.TheVariants.{Equal}
use Rattle.meaning.specs.declared.expr.Expr.{Expr}
use Rattle.meaning.specs.declared.expr.Expr.TheVariants.{Column, Joined, Key, Aggregate, Literal, Minus, Arithmetic, Compare, Not, And, IsNull, Between, In, Like, Coalesce, Case}
use Rattle.meaning.specs.declared.expr.Expr.TheFolds.{the_lemmas}
use Rattle.meaning.specs.declared.joined_row.JoinedRow.{JoinedRow}
use Rattle.meaning.specs.References.{FactColumn, JoinColumn, GroupKey, GroupAggregate, columns_used}
use Rattle.meaning.specs.Typing.{Valued, Boolean, RowTypes, has_type}
use Rattle.meaning.specs.Judge.{Passes, Drops, Faults, filtered}
use Rattle.meaning.specs.Order.{union, value_cmp}
use Rattle.meaning.proofs.Evaluation.{evaluation}

abbrev n : Expr
n = Column 0

abbrev t : Expr
t = Column 1

abbrev one : Expr
one = Literal (Int (pos 1))

abbrev null : Expr
null = Literal Null

-- ---- names

-- CASE WHEN n = 1 THEN t ELSE (column 1 of the first join) END
names_of_case : columns_used (Case (record { when = Compare Equal n one; then = t } ∷ []) (Joined 0 1))
    ≡ FactColumn 0 ∷ FactColumn 1 ∷ JoinColumn 0 1 ∷ []
names_of_case = search (rules, the_lemmas)

-- the first key BETWEEN the second aggregate AND n
names_of_between : columns_used (Between false (Key 0) (Aggregate 1) n)
    ≡ GroupKey 0 ∷ GroupAggregate 1 ∷ FactColumn 0 ∷ []
names_of_between = search (rules, the_lemmas)

-- COALESCE (n, -n), n IN (1, n), t LIKE '%'
names_of_lists : map columns_used
    (Coalesce (n ∷ Minus n ∷ []) ∷ In false n (one ∷ n ∷ []) ∷ Like false t (codes "%") ∷ [])
    ≡ (FactColumn 0 ∷ FactColumn 0 ∷ []) ∷ (FactColumn 0 ∷ FactColumn 0 ∷ []) ∷ (FactColumn 1 ∷ []) ∷ []
names_of_lists = search (rules, the_lemmas)

-- ---- types

-- n int, t text
abbrev types : RowTypes
types = record { fact = of_type.Int ∷ of_type.Text ∷ []; joins = []; key = []; aggregates = [] }

-- whether it is an integer, a text, a truth
abbrev tried : Expr → List Bool
tried e = map (has_type types e) (Valued of_type.Int ∷ Valued of_type.Text ∷ Boolean ∷ [])

integer_column : tried n ≡ true ∷ false ∷ false ∷ []
integer_column = search (rules, the_lemmas)

text_column : tried t ≡ false ∷ true ∷ false ∷ []
text_column = search (rules, the_lemmas)

no_column : tried (Column 2) ≡ false ∷ false ∷ false ∷ []
no_column = search (rules, the_lemmas)

-- NULL is of each type of values
null_literal : tried null ≡ true ∷ true ∷ false ∷ []
null_literal = search (rules, the_lemmas)

integer_sum : tried (Arithmetic Add n null) ≡ true ∷ false ∷ false ∷ []
integer_sum = search (rules, the_lemmas)

text_in_a_sum : tried (Arithmetic Add n t) ≡ false ∷ false ∷ false ∷ []
text_in_a_sum = search (rules, the_lemmas)

compared_alike : tried (Compare Equal n one) ≡ false ∷ false ∷ true ∷ []
compared_alike = search (rules, the_lemmas)

compared_unlike : tried (Compare Equal n t) ≡ false ∷ false ∷ false ∷ []
compared_unlike = search (rules, the_lemmas)

value_in_and : tried (And (Compare Equal n one) n) ≡ false ∷ false ∷ false ∷ []
value_in_and = search (rules, the_lemmas)

truth_is_null : tried (IsNull false (Compare Equal n one)) ≡ false ∷ false ∷ false ∷ []
truth_is_null = search (rules, the_lemmas)

texts_coalesced : tried (Coalesce (null ∷ t ∷ [])) ≡ false ∷ true ∷ false ∷ []
texts_coalesced = search (rules, the_lemmas)

-- CASE WHEN n THEN 1 ELSE 1 END, CASE WHEN n = 1 THEN 1 ELSE t END
value_in_when : tried (Case (record { when = n; then = one } ∷ []) one) ≡ false ∷ false ∷ false ∷ []
value_in_when = search (rules, the_lemmas)

branches_unlike : tried (Case (record { when = Compare Equal n one; then = one } ∷ []) t) ≡ false ∷ false ∷ false ∷ []
branches_unlike = search (rules, the_lemmas)

-- ---- conditions

abbrev row : JoinedRow
row = record { fact = Int (pos 1) ∷ Null ∷ []; joins = []; key = []; aggregates = [] }

abbrev is_one : Expr
is_one = Compare Equal n one

abbrev unknown : Expr
unknown = Compare Equal t null

abbrev faulty : Expr
faulty = Compare Equal (Arithmetic Divide one (Literal (Int (pos 0)))) one

filters : map (λ cs. filtered cs row)
    ([] ∷ (is_one ∷ is_one ∷ []) ∷ (is_one ∷ Not is_one ∷ faulty ∷ []) ∷ (unknown ∷ faulty ∷ [])
    ∷ (is_one ∷ faulty ∷ unknown ∷ []) ∷ [])
    ≡ Passes ∷ Passes ∷ Drops ∷ Drops ∷ Faults 2 ∷ []
filters = simp evaluation

-- ---- unions

unions : map (union value_cmp (Int (pos 1) ∷ Int (pos 3) ∷ []))
    ([] ∷ (Int (pos 2) ∷ Int (pos 3) ∷ []) ∷ (Null ∷ []) ∷ [])
    ≡ (Int (pos 1) ∷ Int (pos 3) ∷ []) ∷ (Int (pos 1) ∷ Int (pos 2) ∷ Int (pos 3) ∷ [])
    ∷ (Null ∷ Int (pos 1) ∷ Int (pos 3) ∷ []) ∷ []
unions = refl
