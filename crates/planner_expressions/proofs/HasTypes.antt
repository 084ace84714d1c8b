-- What type a node has, from the types of its parts: equations that compute.
use Rattle.std.proofs.Common.{rules, ◌≡◌, ℕ, Bool, ◌&&◌, List, [], ◌∷◌, map, slice_get, slice_index_or}
use Rattle.std.specs.List.{list_all}
use Rattle.meaning.specs.declared.value.Value.{Value}
use Rattle.meaning.specs.declared.value.ColType.TheVariants as of_type
use Rattle.meaning.specs.declared.expr.ArithmeticOperator.{ArithmeticOperator}
use Rattle.meaning.specs.declared.expr.ComparisonOperator.{ComparisonOperator}
use Rattle.meaning.specs.declared.expr.Arm.{Arm}
use Rattle.meaning.specs.declared.expr.Expr.{Expr}
use Rattle.meaning.specs.declared.expr.Expr.TheVariants as node
use Rattle.meaning.specs.declared.expr.Expr.TheFolds.{the_lemmas}
use Rattle.meaning.specs.Typing.{ExprType, Valued, Boolean, RowTypes, Typing, is_integer, is_boolean, is_valued, is_column_type, is_literal_type, are_alike, has_type, arm_types}

module _ (types : RowTypes) where
  abbrev has : Expr → Typing
  has = has_type types

  pub has-Column : (i : ℕ) (t : ExprType) → has_type types (node.Column i) t ≡ is_column_type (slice_get types.fact i) t
  has-Column i t = search (rules, the_lemmas)

  pub has-Joined : (j i : ℕ) (t : ExprType) → has_type types (node.Joined j i) t ≡ is_column_type (slice_get (slice_index_or types.joins j []) i) t
  has-Joined j i t = search (rules, the_lemmas)

  pub has-Literal : (v : Value) (t : ExprType) → has_type types (node.Literal v) t ≡ is_literal_type v t
  has-Literal v t = search (rules, the_lemmas)

  pub has-Minus : (a : Expr) (t : ExprType) → has_type types (node.Minus a) t ≡ (is_integer t && has a (Valued of_type.Int))
  has-Minus a t = search (rules, the_lemmas)

  pub has-Arithmetic : (op : ArithmeticOperator) (a b : Expr) (t : ExprType) → has_type types (node.Arithmetic op a b) t
      ≡ (is_integer t && (has a (Valued of_type.Int) && has b (Valued of_type.Int)))
  has-Arithmetic op a b t = search (rules, the_lemmas)

  pub has-Compare : (op : ComparisonOperator) (a b : Expr) (t : ExprType) → has_type types (node.Compare op a b) t
      ≡ (is_boolean t && are_alike (has a ∷ has b ∷ []))
  has-Compare op a b t = search (rules, the_lemmas)

  pub has-Not : (a : Expr) (t : ExprType) → has_type types (node.Not a) t ≡ (is_boolean t && has a Boolean)
  has-Not a t = search (rules, the_lemmas)

  pub has-And : (a b : Expr) (t : ExprType) → has_type types (node.And a b) t ≡ (is_boolean t && (has a Boolean && has b Boolean))
  has-And a b t = search (rules, the_lemmas)

  pub has-Or : (a b : Expr) (t : ExprType) → has_type types (node.Or a b) t ≡ (is_boolean t && (has a Boolean && has b Boolean))
  has-Or a b t = search (rules, the_lemmas)

  pub has-IsNull : (n : Bool) (x : Expr) (t : ExprType) → has_type types (node.IsNull n x) t ≡ (is_boolean t && are_alike (has x ∷ []))
  has-IsNull n x t = search (rules, the_lemmas)

  pub has-Between : (n : Bool) (x low high : Expr) (t : ExprType) → has_type types (node.Between n x low high) t
      ≡ (is_boolean t && are_alike (has x ∷ has low ∷ has high ∷ []))
  has-Between n x low high t = search (rules, the_lemmas)

  pub has-In : (n : Bool) (x : Expr) (list : List Expr) (t : ExprType) → has_type types (node.In n x list) t
      ≡ (is_boolean t && are_alike (has x ∷ map has list))
  has-In n x list t = search (rules, the_lemmas)

  pub has-Like : (n : Bool) (x : Expr) (pattern : List ℕ) (t : ExprType) → has_type types (node.Like n x pattern) t
      ≡ (is_boolean t && has x (Valued of_type.Text))
  has-Like n x pattern t = search (rules, the_lemmas)

  pub has-Coalesce : (list : List Expr) (t : ExprType) → has_type types (node.Coalesce list) t
      ≡ (is_valued t && list_all (λ (part : Typing). part t) (map has list))
  has-Coalesce list t = search (rules, the_lemmas)

  pub has-Case : (arms : List Arm) (x : Expr) (t : ExprType) → has_type types (node.Case arms x) t
      ≡ (is_valued t && (list_all (λ (arm : Typing × Typing). arm.0 Boolean && arm.1 t) (map (arm_types types) arms) && has x t))
  has-Case arms x t = search (rules, the_lemmas)

  pub arm_types-record : (w t : Expr) → arm_types types (record { when = w; then = t }) ≡ (has w, has t)
  arm_types-record w t = search (rules, the_lemmas)
