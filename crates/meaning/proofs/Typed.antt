-- An expression that has a type gives values or truths of it, or faults.
use Rattle.std.proofs.Common.{◌≡◌, ℕ, zero, suc, Bool, true, false, ◌&&◌, cond, List, [], ◌∷◌, map, Option, Some, None, slice_get, slice_index_or, refl, subst, sym}
use Rattle.std.specs.Prelude.{ℤ, pos, neg_ℤ, ◌+ℤ◌, ◌-ℤ◌, ◌*ℤ◌, int_div}
use Rattle.std.specs.List.{list_all}
use Rattle.std.specs.Cmp.Lexicographic.{pointwise}
use Rattle.std.specs.Ordering.{int_eq}
use Rattle.meaning.specs.declared.value.Value.{Value}
use Rattle.meaning.specs.declared.value.Value.TheVariants.{Null, Int, Text}
use Rattle.meaning.specs.declared.value.ColType.{ColType}
use Rattle.meaning.specs.declared.value.ColType.TheVariants as of_type
use Rattle.meaning.specs.declared.outcome.Fault.TheVariants.{DivisionByZero}
use Rattle.meaning.specs.declared.outcome.Truth.TheVariants.{True, False, Unknown}
use Rattle.meaning.specs.declared.outcome.Outcome.{Outcome}
use Rattle.meaning.specs.declared.outcome.Outcome.TheVariants as gives
use Rattle.meaning.specs.declared.expr.ArithmeticOperator.{ArithmeticOperator}
use Rattle.meaning.specs.declared.expr.ArithmeticOperator.TheVariants.{Add, Subtract, Multiply, Divide}
use Rattle.meaning.specs.declared.expr.ComparisonOperator.{ComparisonOperator}
use Rattle.meaning.specs.declared.expr.ComparisonOperator.TheVariants.{Equal, GreaterOrEqual, LessOrEqual}
use Rattle.meaning.specs.declared.expr.Arm.{Arm}
use Rattle.meaning.specs.declared.expr.Expr.{Expr}
use Rattle.meaning.specs.declared.expr.Expr.TheOpen as node
use Rattle.meaning.specs.declared.expr.Expr.TheOpen.{Expr-F, Arm-F}
use Rattle.meaning.specs.declared.expr.Expr.TheFolds.{fold-roll-Expr, fold-roll-Arm, ind-Expr, map-Expr}
use Rattle.meaning.specs.declared.joined_row.JoinedRow.{JoinedRow}
use Rattle.meaning.specs.Order.{Row, column}
use Rattle.meaning.specs.Operators.{fits_i64, or_overflow, fitted, of_integers, minus_of, arith_of, compare_of, not_of, and_of, or_of, not_if, is_null_of, like_of, one_of, first_of, coalesce_of, case_of, cases_of}
use Rattle.meaning.specs.Expr.{Meaning, node_meaning, arm_meanings, at_row, arms_at, eval, eval_arm}
use Rattle.meaning.specs.Typing.{is_of_type, ExprType, Valued, Boolean, RowTypes, are_of_types, are_beside_of_types, fits_row_types, gives_expr_type, same_type, Typing, is_integer, is_boolean, is_column_type, is_literal_type, arm_typing, node_typing, has_type, arm_types}
use Rattle.meaning.proofs.Tests.{first_of as left_of, second_of as right_of}

-- ---- operators

abbrev is_truth : Outcome → Type 0
is_truth o = gives_expr_type Boolean o ≡ true

abbrev gives_value_of : ColType → Outcome → Type 0
gives_value_of kind o = gives_expr_type (Valued kind) o ≡ true

not_truth : (o : Outcome) → is_truth (not_of o)
not_truth (gives.Value v) = refl
not_truth (gives.Truth t) = refl
not_truth (gives.Fault f) = refl

negated_truth : (n : Bool) (o : Outcome) → is_truth o → is_truth (not_if n o)
negated_truth true o is = not_truth o
negated_truth false o is = is

and_truth : (a b : Outcome) → is_truth (and_of a b)
and_truth (gives.Fault f) b = refl
and_truth (gives.Truth False) b = refl
and_truth (gives.Truth True) (gives.Fault f) = refl
and_truth (gives.Truth True) (gives.Truth t) = refl
and_truth (gives.Truth True) (gives.Value v) = refl
and_truth (gives.Truth Unknown) (gives.Fault f) = refl
and_truth (gives.Truth Unknown) (gives.Truth t) = refl
and_truth (gives.Truth Unknown) (gives.Value v) = refl
and_truth (gives.Value v) (gives.Fault f) = refl
and_truth (gives.Value v) (gives.Truth t) = refl
and_truth (gives.Value v) (gives.Value w) = refl

or_truth : (a b : Outcome) → is_truth (or_of a b)
or_truth (gives.Fault f) b = refl
or_truth (gives.Truth True) b = refl
or_truth (gives.Truth False) (gives.Fault f) = refl
or_truth (gives.Truth False) (gives.Truth t) = refl
or_truth (gives.Truth False) (gives.Value v) = refl
or_truth (gives.Truth Unknown) (gives.Fault f) = refl
or_truth (gives.Truth Unknown) (gives.Truth t) = refl
or_truth (gives.Truth Unknown) (gives.Value v) = refl
or_truth (gives.Value v) (gives.Fault f) = refl
or_truth (gives.Value v) (gives.Truth t) = refl
or_truth (gives.Value v) (gives.Value w) = refl

compare_truth : (op : ComparisonOperator) (a b : Outcome) → is_truth (compare_of op a b)
compare_truth op (gives.Fault f) b = refl
compare_truth op (gives.Truth t) (gives.Fault f) = refl
compare_truth op (gives.Truth t) (gives.Truth u) = refl
compare_truth op (gives.Truth t) (gives.Value v) = refl
compare_truth op (gives.Value v) (gives.Fault f) = refl
compare_truth op (gives.Value v) (gives.Truth u) = refl
compare_truth op (gives.Value v) (gives.Value w) = refl

null_truth : (a : Outcome) → is_truth (is_null_of a)
null_truth (gives.Fault f) = refl
null_truth (gives.Truth t) = refl
null_truth (gives.Value Null) = refl
null_truth (gives.Value (Int n)) = refl
null_truth (gives.Value (Text t)) = refl

like_truth : (pattern : List ℕ) (a : Outcome) → is_truth (like_of pattern a)
like_truth pattern (gives.Fault f) = refl
like_truth pattern (gives.Truth t) = refl
like_truth pattern (gives.Value Null) = refl
like_truth pattern (gives.Value (Int n)) = refl
like_truth pattern (gives.Value (Text t)) = refl

one_truth : (x : Outcome) (list : List Outcome) → is_truth (one_of x list)
one_truth x [] = refl
one_truth x (a ∷ more) = or_truth (compare_of Equal x a) (one_of x more)

fitted_integer : (n : ℤ) → gives_value_of of_type.Int (fitted n)
fitted_integer n = elim (fits_i64 n) as
    (λ b. fits_i64 n ≡ b → gives_expr_type (Valued of_type.Int) (or_overflow (cond b (Some n) None))
    ≡ true) [ true ↦ λ e. e | false ↦ λ e. refl ] refl

divided_integer : (b : Bool) (o : Outcome) → gives_value_of of_type.Int o
    → gives_value_of of_type.Int (cond b (gives.Fault DivisionByZero) o)
divided_integer true o is = refl
divided_integer false o is = is

operated_integer : (op : ArithmeticOperator) (m n : ℤ) → gives_value_of of_type.Int (of_integers op m n)
operated_integer Add m n = fitted_integer (m +ℤ n)
operated_integer Subtract m n = fitted_integer (m -ℤ n)
operated_integer Multiply m n = fitted_integer (m *ℤ n)
operated_integer Divide m n = divided_integer (int_eq n (pos 0)) (fitted (int_div m n)) (fitted_integer (int_div m n))

arith_integer : (op : ArithmeticOperator) (a b : Outcome) → gives_value_of of_type.Int (arith_of op a b)
arith_integer op (gives.Fault f) b = refl
arith_integer op (gives.Truth t) (gives.Fault f) = refl
arith_integer op (gives.Truth t) (gives.Truth u) = refl
arith_integer op (gives.Truth t) (gives.Value v) = refl
arith_integer op (gives.Value v) (gives.Fault f) = refl
arith_integer op (gives.Value Null) (gives.Truth u) = refl
arith_integer op (gives.Value (Int m)) (gives.Truth u) = refl
arith_integer op (gives.Value (Text t)) (gives.Truth u) = refl
arith_integer op (gives.Value Null) (gives.Value v) = refl
arith_integer op (gives.Value (Int m)) (gives.Value Null) = refl
arith_integer op (gives.Value (Int m)) (gives.Value (Int n)) = operated_integer op m n
arith_integer op (gives.Value (Int m)) (gives.Value (Text t)) = refl
arith_integer op (gives.Value (Text t)) (gives.Value v) = refl

minus_integer : (a : Outcome) → gives_value_of of_type.Int (minus_of a)
minus_integer (gives.Fault f) = refl
minus_integer (gives.Truth t) = refl
minus_integer (gives.Value Null) = refl
minus_integer (gives.Value (Int n)) = fitted_integer (neg_ℤ n)
minus_integer (gives.Value (Text t)) = refl

-- a value that is not read past the first that is not NULL
coalesced : (kind : ColType) (a b : Outcome) → gives_value_of kind a → gives_value_of kind b
    → gives_value_of kind (coalesce_of a b)
coalesced kind (gives.Value Null) b left right = right
coalesced kind (gives.Value (Int n)) b left right = left
coalesced kind (gives.Value (Text t)) b left right = left
coalesced kind (gives.Truth t) b left right = left
coalesced kind (gives.Fault f) b left right = left

chosen : (kind : ColType) (c a b : Outcome) → gives_value_of kind a → gives_value_of kind b → gives_value_of kind (case_of c a b)
chosen kind (gives.Fault f) a b left right = refl
chosen kind (gives.Truth True) a b left right = left
chosen kind (gives.Truth False) a b left right = right
chosen kind (gives.Truth Unknown) a b left right = right
chosen kind (gives.Value v) a b left right = right

-- ---- what is read

pub type_itself : (t : ColType) → same_type t t ≡ true
type_itself of_type.Int = refl
type_itself of_type.Text = refl

pub null_typed : (t : ColType) → is_of_type t Null ≡ true
null_typed of_type.Int = refl
null_typed of_type.Text = refl

pub same_kind : (a b : ColType) → same_type a b ≡ true → a ≡ b
same_kind of_type.Int of_type.Int e = refl
same_kind of_type.Int of_type.Text e = cc
same_kind of_type.Text of_type.Int e = cc
same_kind of_type.Text of_type.Text e = refl

no_column : (type : ExprType) (o : Outcome) → is_column_type None type ≡ true → gives_expr_type type o ≡ true
no_column (Valued kind) o e = cc
no_column Boolean o e = cc

read_column : (types : List ColType) (row : Row) (at : ℕ) (type : ExprType) → are_of_types types row
    ≡ true → is_column_type (slice_get types at) type ≡ true → gives_expr_type type (gives.Value (column row at)) ≡ true
read_column [] row at type fits e = no_column type (gives.Value (column row at)) e
read_column (k ∷ ks) [] at type fits e = cc
read_column (k ∷ ks) (v ∷ vs) zero (Valued kind) fits e =
    subst (λ t. is_of_type t v ≡ true) (same_kind k kind e) (left_of _ _ fits)
read_column (k ∷ ks) (v ∷ vs) zero Boolean fits e = cc
read_column (k ∷ ks) (v ∷ vs) (suc at) type fits e = read_column ks vs at type (right_of _ _ fits) e

null_column : (o : Option ColType) (type : ExprType) → is_column_type o type ≡ true → gives_expr_type type (gives.Value Null) ≡ true
null_column None type e = cc
null_column (Some kind) (Valued wanted) e = refl
null_column (Some kind) Boolean e = cc

read_beside : (types : List ColType) (row : Row) (at : ℕ) (type : ExprType) → are_beside_of_types types row
    ≡ true → is_column_type (slice_get types at) type ≡ true → gives_expr_type type (gives.Value (column row at)) ≡ true
read_beside types [] at type fits e = null_column (slice_get types at) type e
read_beside types (v ∷ row) at type fits e = read_column types (v ∷ row) at type fits e

read_joined : (types : List (List ColType)) (rows : List Row) (join at : ℕ) (type : ExprType)
    → pointwise are_beside_of_types types rows ≡ true
    → is_column_type (slice_get (slice_index_or types join []) at) type
    ≡ true → gives_expr_type type (gives.Value (column (slice_index_or rows join []) at)) ≡ true
read_joined [] rows join at type fits e = no_column type (gives.Value (column (slice_index_or rows join []) at)) e
read_joined (ks ∷ types) [] join at type fits e = cc
read_joined (ks ∷ types) (row ∷ rows) zero at type fits e = read_beside ks row at type (left_of _ _ fits) e
read_joined (ks ∷ types) (row ∷ rows) (suc join) at type fits e =
    read_joined types rows join at type (right_of _ _ fits) e

literal_fits : (v : Value) (type : ExprType) → is_literal_type v type ≡ true → gives_expr_type type (gives.Value v)
    ≡ true
literal_fits v (Valued kind) e = e
literal_fits v Boolean e = cc

integer_only : (type : ExprType) (test : Bool) (o : Outcome) → (is_integer type && test)
    ≡ true → gives_value_of of_type.Int o → gives_expr_type type o ≡ true
integer_only (Valued of_type.Int) test o e is = is
integer_only (Valued of_type.Text) test o e is = cc
integer_only Boolean test o e is = cc

boolean_only : (type : ExprType) (test : Bool) (o : Outcome) → (is_boolean type && test)
    ≡ true → is_truth o → gives_expr_type type o ≡ true
boolean_only (Valued kind) test o e is = cc
boolean_only Boolean test o e is = is

module _ (types : RowTypes) (r : JoinedRow) (fits : fits_row_types types r ≡ true) where
  abbrev IsTyped : Expr → Type 0
  IsTyped e = (type : ExprType) → has_type types e type ≡ true → gives_expr_type type (eval e r) ≡ true

  abbrev IsTypedArm : Arm → Type 0
  IsTypedArm a = (type : ExprType) → (arm_types types a).1 type ≡ true → gives_expr_type type ((eval_arm a).1 r) ≡ true

  abbrev TypedExpr : Type 0
  TypedExpr = (e : Expr) × IsTyped e

  abbrev TypedArm : Type 0
  TypedArm = (a : Arm) × IsTypedArm a

  abbrev bare : Expr-F TypedExpr TypedArm → Expr-F Expr Arm
  bare = map-Expr TypedExpr TypedArm Expr Arm (λ e. e.0) (λ a. a.0)

  abbrev meant : Expr-F Expr Arm → Meaning
  meant x = node_meaning (map-Expr Expr Arm Meaning (Meaning × Meaning) eval eval_arm x)

  abbrev typing : Expr-F Expr Arm → Typing
  typing x = node_typing types (map-Expr Expr Arm Typing (Typing × Typing) (has_type types) (arm_types types) x)

  first_typed : (kind : ColType) (es : List TypedExpr)
      → list_all (λ (part : Typing). part (Valued kind)) (map (has_type types) (map (λ e. e.0) es))
      ≡ true → gives_value_of kind (first_of (at_row r (map eval (map (λ e. e.0) es))))
  first_typed kind [] e = refl
  first_typed kind (x ∷ es) e = coalesced kind (eval x.0 r) _ (x.1 (Valued kind) (left_of _ _ e))
      (first_typed kind es (right_of _ _ e))

  cases_typed : (kind : ColType) (es : List TypedArm) (otherwise : Outcome)
      → list_all (λ (arm : Typing × Typing). arm.0 Boolean && arm.1 (Valued kind))
      (map (arm_types types) (map (λ a. a.0) es)) ≡ true → gives_value_of kind otherwise
      → gives_value_of kind (cases_of (arms_at r (map eval_arm (map (λ a. a.0) es))) otherwise)
  cases_typed kind [] otherwise e is = is
  cases_typed kind (a ∷ es) otherwise e is =
      chosen kind ((eval_arm a.0).0 r) ((eval_arm a.0).1 r) _ (a.1 (Valued kind) (right_of _ _ (left_of _ _ e)))
      (cases_typed kind es otherwise (right_of _ _ e) is)

  abbrev key_fits : Bool
  key_fits = are_of_types types.key r.key

  abbrev aggregates_fit : Bool
  aggregates_fit = are_of_types types.aggregates r.aggregates

  abbrev group_fits : (key_fits && aggregates_fit) ≡ true
  group_fits = right_of (pointwise are_beside_of_types types.joins r.joins) (key_fits && aggregates_fit)
      (right_of (are_of_types types.fact r.fact)
      (pointwise are_beside_of_types types.joins r.joins && (key_fits && aggregates_fit)) fits)

  typed_node : (y : Expr-F TypedExpr TypedArm) (type : ExprType) → typing (bare y) type
      ≡ true → gives_expr_type type (meant (bare y) r) ≡ true
  typed_node (node.Column at) type e = read_column types.fact r.fact at type (left_of _ _ fits) e
  typed_node (node.Joined join at) type e =
      read_joined types.joins r.joins join at type (left_of _ _ (right_of _ _ fits)) e
  typed_node (node.Key i) type e = read_column types.key r.key i type (left_of key_fits aggregates_fit group_fits) e
  typed_node (node.Aggregate i) type e =
      read_column types.aggregates r.aggregates i type (right_of key_fits aggregates_fit group_fits) e
  typed_node (node.Literal v) type e = literal_fits v type e
  typed_node (node.Minus a) type e = integer_only type _ _ e (minus_integer (eval a.0 r))
  typed_node (node.Arithmetic op a b) type e = integer_only type _ _ e (arith_integer op (eval a.0 r) (eval b.0 r))
  typed_node (node.Compare op a b) type e = boolean_only type _ _ e (compare_truth op (eval a.0 r) (eval b.0 r))
  typed_node (node.Not a) type e = boolean_only type _ _ e (not_truth (eval a.0 r))
  typed_node (node.And a b) type e = boolean_only type _ _ e (and_truth (eval a.0 r) (eval b.0 r))
  typed_node (node.Or a b) type e = boolean_only type _ _ e (or_truth (eval a.0 r) (eval b.0 r))
  typed_node (node.IsNull negated x) type e =
      boolean_only type _ _ e (negated_truth negated _ (null_truth (eval x.0 r)))
  typed_node (node.Between negated x low high) type e =
      boolean_only type _ _ e (negated_truth negated _
      (and_truth (compare_of GreaterOrEqual (eval x.0 r) (eval low.0 r))
      (compare_of LessOrEqual (eval x.0 r) (eval high.0 r))))
  typed_node (node.In negated x list) type e =
      boolean_only type _ _ e (negated_truth negated _
      (one_truth (eval x.0 r) (at_row r (map eval (map (λ (e : TypedExpr). e.0) list)))))
  typed_node (node.Like negated x pattern) type e =
      boolean_only type _ _ e (negated_truth negated _ (like_truth pattern (eval x.0 r)))
  typed_node (node.Coalesce list) (Valued kind) e = first_typed kind list e
  typed_node (node.Coalesce list) Boolean e = cc
  typed_node (node.Case arms otherwise) (Valued kind) e =
      cases_typed kind arms (eval otherwise.0 r) (left_of _ _ e) (otherwise.1 (Valued kind) (right_of _ _ e))
  typed_node (node.Case arms otherwise) Boolean e = cc

  typed_arm : (y : Arm-F TypedExpr TypedArm) (type : ExprType) → has_type types y.then.0 type
      ≡ true → gives_expr_type type (eval y.then.0 r) ≡ true
  typed_arm y type e = y.then.1 type e

  pub typed : (e : Expr) → IsTyped e
  typed = ind-Expr IsTyped IsTypedArm
      (λ x y is type e.
      let folded = fold-roll-Expr Meaning (Meaning × Meaning) node_meaning arm_meanings x in
      let known = subst (λ (t : Typing). t type ≡ true)
      (fold-roll-Expr Typing (Typing × Typing) (node_typing types) arm_typing x) e in
      subst (λ (m : Meaning). gives_expr_type type (m r) ≡ true) (sym folded)
      (subst (λ z. typing z type ≡ true → gives_expr_type type (meant z r) ≡ true) is (typed_node y type) known))
      (λ x y is type e.
      let folded = fold-roll-Arm Meaning (Meaning × Meaning) node_meaning arm_meanings x in
      let known = subst (λ (t : Typing × Typing). t.1 type ≡ true)
      (fold-roll-Arm Typing (Typing × Typing) (node_typing types) arm_typing x) e in
      subst (λ (m : Meaning × Meaning). gives_expr_type type (m.1 r) ≡ true) (sym folded)
      (subst (λ (z : Arm-F Expr Arm). has_type types z.then type ≡ true → gives_expr_type type (eval z.then r)
      ≡ true) is (typed_arm y type) known))
