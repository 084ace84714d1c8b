-- What is tested to be the same is equal.
use Rattle.std.proofs.Common.{◌≡◌, true, [], ◌∷◌, refl, sym, ap, ap₂}
use Rattle.std.specs.Prelude.{bytes_eq}
use Rattle.std.specs.Cmp.{booleans_Decides, signed_Decides}
use Rattle.std.proofs.lemmas.Slice.Eq.{bytes_eq-Decides}
use Rattle.meaning.proofs.Tests.{first_of, second_of, both}
use Rattle.sql_syntax.specs.contracts.tree.AggregatePartialEq.TheImpl as aggregates
use Rattle.meaning.specs.contracts.expr.ArithmeticOperatorPartialEq.TheImpl as arithmetics
use Rattle.meaning.specs.contracts.expr.ComparisonOperatorPartialEq.TheImpl as comparisons
use Rattle.sql_syntax.specs.declared.tree.Aggregate.{Aggregate}
use Rattle.sql_syntax.specs.declared.tree.Aggregate.TheVariants as aggregate
use Rattle.meaning.specs.declared.expr.ArithmeticOperator.{ArithmeticOperator}
use Rattle.meaning.specs.declared.expr.ArithmeticOperator.TheVariants as arithmetic
use Rattle.meaning.specs.declared.expr.ComparisonOperator.{ComparisonOperator}
use Rattle.meaning.specs.declared.expr.ComparisonOperator.TheVariants as comparison
use Rattle.planner_expressions.specs.declared.marks.Mark.{Mark}
use Rattle.planner_expressions.specs.declared.marks.Mark.TheVariants as mark
use Rattle.planner_expressions.specs.declared.marks.Operator.{Operator}
use Rattle.planner_expressions.specs.declared.marks.Operator.TheVariants as operator
use Rattle.planner_expressions.specs.Operators.{same_operator}
use Rattle.planner_expressions.specs.Spelled.{Spelling, same_mark, same_spelling}
use Rattle.planner_expressions.proofs.Impossible.{never}

aggregate_is : (a b : Aggregate) → (aggregates.ghosts).eq a b ≡ true → a ≡ b
aggregate_is aggregate.Count aggregate.Count same = refl
aggregate_is aggregate.Count _ same = never (sym same)
aggregate_is aggregate.CountDistinct aggregate.CountDistinct same = refl
aggregate_is aggregate.CountDistinct _ same = never (sym same)
aggregate_is aggregate.Sum aggregate.Sum same = refl
aggregate_is aggregate.Sum _ same = never (sym same)
aggregate_is aggregate.SumDistinct aggregate.SumDistinct same = refl
aggregate_is aggregate.SumDistinct _ same = never (sym same)
aggregate_is aggregate.Min aggregate.Min same = refl
aggregate_is aggregate.Min _ same = never (sym same)
aggregate_is aggregate.Max aggregate.Max same = refl
aggregate_is aggregate.Max _ same = never (sym same)
aggregate_is aggregate.Average aggregate.Average same = refl
aggregate_is aggregate.Average _ same = never (sym same)

aggregate_itself : (a : Aggregate) → (aggregates.ghosts).eq a a ≡ true
aggregate_itself aggregate.Count = refl
aggregate_itself aggregate.CountDistinct = refl
aggregate_itself aggregate.Sum = refl
aggregate_itself aggregate.SumDistinct = refl
aggregate_itself aggregate.Min = refl
aggregate_itself aggregate.Max = refl
aggregate_itself aggregate.Average = refl

arithmetic_is : (a b : ArithmeticOperator) → (arithmetics.ghosts).eq a b ≡ true → a ≡ b
arithmetic_is arithmetic.Add arithmetic.Add same = refl
arithmetic_is arithmetic.Add _ same = never (sym same)
arithmetic_is arithmetic.Subtract arithmetic.Subtract same = refl
arithmetic_is arithmetic.Subtract _ same = never (sym same)
arithmetic_is arithmetic.Multiply arithmetic.Multiply same = refl
arithmetic_is arithmetic.Multiply _ same = never (sym same)
arithmetic_is arithmetic.Divide arithmetic.Divide same = refl
arithmetic_is arithmetic.Divide _ same = never (sym same)

arithmetic_itself : (a : ArithmeticOperator) → (arithmetics.ghosts).eq a a ≡ true
arithmetic_itself arithmetic.Add = refl
arithmetic_itself arithmetic.Subtract = refl
arithmetic_itself arithmetic.Multiply = refl
arithmetic_itself arithmetic.Divide = refl

comparison_is : (a b : ComparisonOperator) → (comparisons.ghosts).eq a b ≡ true → a ≡ b
comparison_is comparison.Equal comparison.Equal same = refl
comparison_is comparison.Equal _ same = never (sym same)
comparison_is comparison.NotEqual comparison.NotEqual same = refl
comparison_is comparison.NotEqual _ same = never (sym same)
comparison_is comparison.Less comparison.Less same = refl
comparison_is comparison.Less _ same = never (sym same)
comparison_is comparison.LessOrEqual comparison.LessOrEqual same = refl
comparison_is comparison.LessOrEqual _ same = never (sym same)
comparison_is comparison.Greater comparison.Greater same = refl
comparison_is comparison.Greater _ same = never (sym same)
comparison_is comparison.GreaterOrEqual comparison.GreaterOrEqual same = refl
comparison_is comparison.GreaterOrEqual _ same = never (sym same)

comparison_itself : (a : ComparisonOperator) → (comparisons.ghosts).eq a a ≡ true
comparison_itself comparison.Equal = refl
comparison_itself comparison.NotEqual = refl
comparison_itself comparison.Less = refl
comparison_itself comparison.LessOrEqual = refl
comparison_itself comparison.Greater = refl
comparison_itself comparison.GreaterOrEqual = refl

operator_is : (a b : Operator) → same_operator a b ≡ true → a ≡ b
operator_is operator.CountRows operator.CountRows same = refl
operator_is operator.CountRows _ same = never (sym same)
operator_is (operator.Aggregate k) (operator.Aggregate l) same = ap operator.Aggregate (aggregate_is k l same)
operator_is (operator.Aggregate k) _ same = never (sym same)
operator_is operator.Minus operator.Minus same = refl
operator_is operator.Minus _ same = never (sym same)
operator_is (operator.Arithmetic k) (operator.Arithmetic l) same = ap operator.Arithmetic (arithmetic_is k l same)
operator_is (operator.Arithmetic k) _ same = never (sym same)
operator_is (operator.Compare k) (operator.Compare l) same = ap operator.Compare (comparison_is k l same)
operator_is (operator.Compare k) _ same = never (sym same)
operator_is operator.Not operator.Not same = refl
operator_is operator.Not _ same = never (sym same)
operator_is operator.And operator.And same = refl
operator_is operator.And _ same = never (sym same)
operator_is operator.Or operator.Or same = refl
operator_is operator.Or _ same = never (sym same)
operator_is (operator.IsNull k) (operator.IsNull l) same = ap operator.IsNull ((booleans_Decides k l).0 same)
operator_is (operator.IsNull k) _ same = never (sym same)
operator_is (operator.Between k) (operator.Between l) same = ap operator.Between ((booleans_Decides k l).0 same)
operator_is (operator.Between k) _ same = never (sym same)
operator_is (operator.In k) (operator.In l) same = ap operator.In ((booleans_Decides k l).0 same)
operator_is (operator.In k) _ same = never (sym same)
operator_is (operator.Like k) (operator.Like l) same = ap operator.Like ((booleans_Decides k l).0 same)
operator_is (operator.Like k) _ same = never (sym same)
operator_is operator.Coalesce operator.Coalesce same = refl
operator_is operator.Coalesce _ same = never (sym same)
operator_is operator.Case operator.Case same = refl
operator_is operator.Case _ same = never (sym same)

operator_itself : (a : Operator) → same_operator a a ≡ true
operator_itself operator.CountRows = refl
operator_itself (operator.Aggregate k) = aggregate_itself k
operator_itself operator.Minus = refl
operator_itself (operator.Arithmetic k) = arithmetic_itself k
operator_itself (operator.Compare k) = comparison_itself k
operator_itself operator.Not = refl
operator_itself operator.And = refl
operator_itself operator.Or = refl
operator_itself (operator.IsNull k) = (booleans_Decides k k).1 refl
operator_itself (operator.Between k) = (booleans_Decides k k).1 refl
operator_itself (operator.In k) = (booleans_Decides k k).1 refl
operator_itself (operator.Like k) = (booleans_Decides k k).1 refl
operator_itself operator.Coalesce = refl
operator_itself operator.Case = refl

mark_is : (a b : Mark) → same_mark a b ≡ true → a ≡ b
mark_is (mark.Column p m) (mark.Column q n) same =
    ap₂ mark.Column ((bytes_eq-Decides p q).0 (first_of (bytes_eq p q) (bytes_eq m n) same)) ((bytes_eq-Decides m n).0 (second_of (bytes_eq p q) (bytes_eq m n) same))
mark_is (mark.Column p m) _ same = never (sym same)
mark_is mark.Unknown mark.Unknown same = refl
mark_is mark.Unknown _ same = never (sym same)
mark_is (mark.Integer n) (mark.Integer m) same = ap mark.Integer ((signed_Decides n m).0 same)
mark_is (mark.Integer n) _ same = never (sym same)
mark_is (mark.Text t) (mark.Text u) same = ap mark.Text ((bytes_eq-Decides t u).0 same)
mark_is (mark.Text t) _ same = never (sym same)
mark_is (mark.Operator a) (mark.Operator b) same = ap mark.Operator (operator_is a b same)
mark_is (mark.Operator a) _ same = never (sym same)
mark_is mark.More mark.More same = refl
mark_is mark.More _ same = never (sym same)
mark_is mark.End mark.End same = refl
mark_is mark.End _ same = never (sym same)

mark_itself : (a : Mark) → same_mark a a ≡ true
mark_itself (mark.Column p m) = both (bytes_eq p p) (bytes_eq m m) ((bytes_eq-Decides p p).1 refl) ((bytes_eq-Decides m m).1 refl)
mark_itself mark.Unknown = refl
mark_itself (mark.Integer n) = (signed_Decides n n).1 refl
mark_itself (mark.Text t) = (bytes_eq-Decides t t).1 refl
mark_itself (mark.Operator a) = operator_itself a
mark_itself mark.More = refl
mark_itself mark.End = refl

pub spelling_is : (x y : Spelling) → same_spelling x y ≡ true → x ≡ y
spelling_is [] [] same = refl
spelling_is [] (b ∷ ys) same = never (sym same)
spelling_is (a ∷ xs) [] same = never (sym same)
spelling_is (a ∷ xs) (b ∷ ys) same =
    ap₂ (λ (m : Mark) (ms : Spelling). m ∷ ms) (mark_is a b (first_of (same_mark a b) (same_spelling xs ys) same)) (spelling_is xs ys (second_of (same_mark a b) (same_spelling xs ys) same))

pub spelling_itself : (x : Spelling) → same_spelling x x ≡ true
spelling_itself [] = refl
spelling_itself (a ∷ xs) = both (same_mark a a) (same_spelling xs xs) (mark_itself a) (spelling_itself xs)
