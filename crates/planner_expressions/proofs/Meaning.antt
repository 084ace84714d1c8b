-- The plan's expression of a tree gives what the tree gives.
use Rattle.std.proofs.Common.{◌≡◌, ℕ, List, [], ◌∷◌, map, Option, Some, None, option_map, unwrap_or, refl, ap, ap₂, subst, sym, ◌∙◌}
use Rattle.meaning.specs.declared.expr.Arm as plan_arm
use Rattle.meaning.specs.declared.expr.Expr as plan
use Rattle.meaning.specs.declared.expr.Expr.TheVariants as expr
use Rattle.meaning.specs.declared.value.Value.TheVariants as value
use Rattle.meaning.specs.declared.joined_row.JoinedRow.{JoinedRow}
use Rattle.meaning.specs.declared.outcome.Outcome.{Outcome}
use Rattle.meaning.specs.declared.outcome.Outcome.TheVariants as gives
use Rattle.meaning.specs.Expr.{eval, eval_arm, arms_at, outcomes}
use Rattle.meaning.specs.Joined.{group_row}
use Rattle.meaning.specs.Operators.{minus_of, arith_of, compare_of, not_of, and_of, or_of, not_if, is_null_of, like_of, between_of, one_of, first_of, cases_of}
use Rattle.meaning.specs.Order.{Row}
use Rattle.meaning.proofs.Evaluation.{eval-Literal, eval-Minus, eval-Arithmetic, eval-Compare, eval-Not, eval-And, eval-Or, eval-IsNull, eval-Between, eval-In, eval-Like, eval-Coalesce, eval-Case, eval-Column, eval-Joined, eval-Key, eval-Aggregate, eval_arm-record}
use Rattle.sql_syntax.specs.declared.tree.Arm.{Arm}
use Rattle.sql_syntax.specs.declared.tree.Expr.{Expr}
use Rattle.sql_syntax.specs.declared.tree.Expr.TheOpen as node
use Rattle.sql_syntax.specs.declared.tree.Expr.TheOpen.{Expr-F, Arm-F}
use Rattle.sql_syntax.specs.declared.tree.Expr.TheFolds.{ind-Expr, map-Expr}
use Rattle.sql_syntax.specs.declared.tree.Expr.TheViews.{roll-Expr, roll-Arm}
use Rattle.planner_expressions.specs.declared.basis.Basis.TheVariants.{Rows, Groups}
use Rattle.planner_expressions.specs.declared.scope.ScopeColumn.{ScopeColumn}
use Rattle.planner_expressions.specs.Given.{column_meant, given_in, column_expr, column_in, key_first}
use Rattle.planner_expressions.specs.Meant.{operated, meant_by, value_in, key_or_aggregate, RowsMean, GroupsMean}
use Rattle.planner_expressions.specs.Spelled.{spelled, index_among}
use Rattle.planner_expressions.specs.Translated.{Made, made, translated, two_some, three_some, all_some, arm_of}
use Rattle.planner_expressions.proofs.Replaced.{parts_give, at_node}
use Rattle.planner_expressions.proofs.Impossible.{not_none}

-- ---- parts that are there

pub one_there : {X Y : Type 0} (f : X → Y) (a : Option X) (z : Y) → option_map f a ≡ Some z → (x : X) × (a ≡ Some x) × (z ≡ f x)
one_there f None z is = absurd cc
one_there f (Some x) z is = (x, refl, cc)

pub two_there : {X Y Z : Type 0} (f : X → Y → Z) (a : Option X) (b : Option Y) (z : Z) → two_some f a b ≡ Some z → (x : X) × ((y : Y) × (a ≡ Some x) × (b ≡ Some y) × (z ≡ f x y))
two_there f None b z is = absurd cc
two_there f (Some x) None z is = absurd cc
two_there f (Some x) (Some y) z is = (x, (y, refl, refl, cc))

pub three_there : {X Y : Type 0} (f : X → X → X → Y) (a b c : Option X) (z : Y) → three_some f a b c ≡ Some z
    → (x : X) × ((y : X) × ((w : X) × (a ≡ Some x) × (b ≡ Some y) × (c ≡ Some w) × (z ≡ f x y w)))
three_there f None b c z is = absurd cc
three_there f (Some x) b c z is = let rest = two_there (f x) b c z is in (x, (rest.0, (rest.1.0, refl, rest.1.1, rest.1.2, rest.1.3)))

module _ (given : Expr → Option plan.Expr) (r : JoinedRow) where
  abbrev tr : Expr → Made
  tr = translated given

  abbrev some_given : Expr → Option Made
  some_given e = option_map (λ x. Some x) (given e)

  -- what is given gives
  abbrev pub values : Expr → Option Outcome
  values e = option_map (λ x. eval x r) (given e)

  abbrev ev : Expr → Outcome
  ev = meant_by values

  abbrev Means : Expr → Type 0
  Means e = (x : plan.Expr) → tr e ≡ Some x → eval x r ≡ ev e

  abbrev MeansArm : Arm → Type 0
  MeansArm a = Means a.condition × Means a.value

  abbrev Meaning : Type 0
  Meaning = (e : Expr) × Means e

  abbrev MeaningArm : Type 0
  MeaningArm = (a : Arm) × MeansArm a

  abbrev bare : Expr-F Meaning MeaningArm → Expr-F Expr Arm
  bare = map-Expr Meaning MeaningArm Expr Arm (λ e. e.0) (λ a. a.0)

  abbrev made_of : Expr-F Expr Arm → Made
  made_of x = made (parts_give some_given made x)

  abbrev gives_of : Expr-F Expr Arm → Outcome
  gives_of x = operated (parts_give values operated x)

  list_means : (es : List Meaning) (xs : List plan.Expr) → all_some (map tr (map (λ e. e.0) es)) ≡ Some xs → outcomes xs r ≡ map ev (map (λ e. e.0) es)
  list_means [] xs is = let none : xs ≡ [] = cc in ap (λ (ys : List plan.Expr). outcomes ys r) none
  list_means (e ∷ es) xs is =
      let parts = two_there (λ (y : plan.Expr) (ys : List plan.Expr). y ∷ ys) (tr e.0) (all_some (map tr (map (λ (d : Meaning). d.0) es))) xs is in
      ap (λ (ys : List plan.Expr). outcomes ys r) parts.1.3
      ∙ ap₂ (λ (o : Outcome) (os : List Outcome). o ∷ os) (e.1 parts.0 parts.1.1) (list_means es parts.1.0 parts.1.2)

  abbrev arm_tr : Arm → Made × Made
  arm_tr a = (tr a.condition, tr a.value)

  abbrev arm_ev : Arm → Outcome × Outcome
  arm_ev a = (ev a.condition, ev a.value)

  arms_mean : (list : List MeaningArm) (xs : List plan_arm.Arm) → all_some (map arm_of (map arm_tr (map (λ a. a.0) list))) ≡ Some xs
      → arms_at r (map eval_arm xs) ≡ map arm_ev (map (λ a. a.0) list)
  arms_mean [] xs is = let none : xs ≡ [] = cc in ap (λ (ys : List plan_arm.Arm). arms_at r (map eval_arm ys)) none
  arms_mean (a ∷ list) xs is =
      let parts = two_there (λ (y : plan_arm.Arm) (ys : List plan_arm.Arm). y ∷ ys) (arm_of (arm_tr a.0)) (all_some (map arm_of (map arm_tr (map (λ (d : MeaningArm). d.0) list)))) xs is in
      let here = two_there (λ (c v : plan.Expr). record { when = c; then = v }) (tr a.0.condition) (tr a.0.value) parts.0 parts.1.1 in
      ap (λ (ys : List plan_arm.Arm). arms_at r (map eval_arm ys)) parts.1.3
      ∙ ap₂ (λ (o : Outcome × Outcome) (os : List (Outcome × Outcome)). o ∷ os)
      (ap (λ (y : plan_arm.Arm). ((eval_arm y).0 r, (eval_arm y).1 r)) here.1.3
      ∙ ap (λ (m : (JoinedRow → Outcome) × (JoinedRow → Outcome)). (m.0 r, m.1 r)) (eval_arm-record here.0 here.1.0)
      ∙ ap₂ (λ (c v : Outcome). (c, v)) (a.1.0 here.0 here.1.1) (a.1.1 here.1.0 here.1.2))
      (arms_mean list parts.1.0 parts.1.2)

  -- a node from its parts
  node_means : (y : Expr-F Meaning MeaningArm) (x : plan.Expr) → made_of (bare y) ≡ Some x → eval x r ≡ gives_of (bare y)
  node_means (node.Column table name) x is = not_none x is
  node_means node.CountRows x is = not_none x is
  node_means (node.Aggregate kind a) x is = not_none x is
  node_means (node.Integer n) x is = let same : x ≡ expr.Literal (value.Int n) = cc in ap (λ (z : plan.Expr). eval z r) same ∙ eval-Literal (value.Int n) r
  node_means (node.Text t) x is = let same : x ≡ expr.Literal (value.Text t) = cc in ap (λ (z : plan.Expr). eval z r) same ∙ eval-Literal (value.Text t) r
  node_means (node.Minus a) x is =
      let p = one_there (λ (z : plan.Expr). expr.Minus z) (tr a.0) x is in
      ap (λ (z : plan.Expr). eval z r) p.2 ∙ eval-Minus p.0 r ∙ ap minus_of (a.1 p.0 p.1)
  node_means (node.Arithmetic op a b) x is =
      let p = two_there (λ (y z : plan.Expr). expr.Arithmetic op y z) (tr a.0) (tr b.0) x is in
      ap (λ (z : plan.Expr). eval z r) p.1.3 ∙ eval-Arithmetic op p.0 p.1.0 r ∙ ap₂ (arith_of op) (a.1 p.0 p.1.1) (b.1 p.1.0 p.1.2)
  node_means (node.Compare op a b) x is =
      let p = two_there (λ (y z : plan.Expr). expr.Compare op y z) (tr a.0) (tr b.0) x is in
      ap (λ (z : plan.Expr). eval z r) p.1.3 ∙ eval-Compare op p.0 p.1.0 r ∙ ap₂ (compare_of op) (a.1 p.0 p.1.1) (b.1 p.1.0 p.1.2)
  node_means (node.Not a) x is =
      let p = one_there (λ (z : plan.Expr). expr.Not z) (tr a.0) x is in
      ap (λ (z : plan.Expr). eval z r) p.2 ∙ eval-Not p.0 r ∙ ap not_of (a.1 p.0 p.1)
  node_means (node.And a b) x is =
      let p = two_there (λ (y z : plan.Expr). expr.And y z) (tr a.0) (tr b.0) x is in
      ap (λ (z : plan.Expr). eval z r) p.1.3 ∙ eval-And p.0 p.1.0 r ∙ ap₂ and_of (a.1 p.0 p.1.1) (b.1 p.1.0 p.1.2)
  node_means (node.Or a b) x is =
      let p = two_there (λ (y z : plan.Expr). expr.Or y z) (tr a.0) (tr b.0) x is in
      ap (λ (z : plan.Expr). eval z r) p.1.3 ∙ eval-Or p.0 p.1.0 r ∙ ap₂ or_of (a.1 p.0 p.1.1) (b.1 p.1.0 p.1.2)
  node_means (node.IsNull negated a) x is =
      let p = one_there (λ (z : plan.Expr). expr.IsNull negated z) (tr a.0) x is in
      ap (λ (z : plan.Expr). eval z r) p.2 ∙ eval-IsNull negated p.0 r ∙ ap (λ (o : Outcome). not_if negated (is_null_of o)) (a.1 p.0 p.1)
  node_means (node.Between negated a low high) x is =
      let p = three_there (λ (u v w : plan.Expr). expr.Between negated u v w) (tr a.0) (tr low.0) (tr high.0) x is in
      let here = a.1 p.0 p.1.1.1 in
      let below = low.1 p.1.0 p.1.1.2 in
      let above = high.1 p.1.1.0 p.1.1.3 in
      ap (λ (z : plan.Expr). eval z r) p.1.1.4 ∙ eval-Between negated p.0 p.1.0 p.1.1.0 r ∙ (λ i. not_if negated (between_of (here i) (below i) (above i)))
  node_means (node.In negated a entries) x is =
      let p = two_there (λ (y : plan.Expr) (ys : List plan.Expr). expr.In negated y ys) (tr a.0) (all_some (map tr (map (λ (e : Meaning). e.0) entries))) x is in
      ap (λ (z : plan.Expr). eval z r) p.1.3
      ∙ eval-In negated p.0 p.1.0 r
      ∙ ap₂ (λ (o : Outcome) (os : List Outcome). not_if negated (one_of o os)) (a.1 p.0 p.1.1) (list_means entries p.1.0 p.1.2)
  node_means (node.Like negated a pattern) x is =
      let p = one_there (λ (z : plan.Expr). expr.Like negated z pattern) (tr a.0) x is in
      ap (λ (z : plan.Expr). eval z r) p.2 ∙ eval-Like negated p.0 pattern r ∙ ap (λ (o : Outcome). not_if negated (like_of pattern o)) (a.1 p.0 p.1)
  node_means (node.Coalesce entries) x is =
      let p = one_there (λ (ys : List plan.Expr). expr.Coalesce ys) (all_some (map tr (map (λ (e : Meaning). e.0) entries))) x is in
      ap (λ (z : plan.Expr). eval z r) p.2 ∙ eval-Coalesce p.0 r ∙ ap first_of (list_means entries p.0 p.1)
  node_means (node.Case arms None) x is =
      let p = two_there (λ (ys : List plan_arm.Arm) (y : plan.Expr). expr.Case ys y) (all_some (map arm_of (map arm_tr (map (λ (a : MeaningArm). a.0) arms)))) (Some (expr.Literal value.Null)) x is in
      let null : p.1.0 ≡ expr.Literal value.Null = cc in
      ap (λ (z : plan.Expr). eval z r) p.1.3
      ∙ eval-Case p.0 p.1.0 r
      ∙ ap₂ cases_of (arms_mean arms p.0 p.1.1) (ap (λ (z : plan.Expr). eval z r) null ∙ eval-Literal value.Null r)
  node_means (node.Case arms (Some e)) x is =
      let p = two_there (λ (ys : List plan_arm.Arm) (y : plan.Expr). expr.Case ys y) (all_some (map arm_of (map arm_tr (map (λ (a : MeaningArm). a.0) arms)))) (tr e.0) x is in
      ap (λ (z : plan.Expr). eval z r) p.1.3
      ∙ eval-Case p.0 p.1.0 r
      ∙ ap₂ cases_of (arms_mean arms p.0 p.1.1) (e.1 p.1.0 p.1.2)

  -- a node that is given, or isn't
  either_means : (y : Expr-F Meaning MeaningArm) (g : Option plan.Expr) (x : plan.Expr) → unwrap_or (option_map (λ z. Some z) g) (made_of (bare y)) ≡ Some x
      → eval x r ≡ unwrap_or (option_map (λ z. eval z r) g) (gives_of (bare y))
  either_means y (Some z) x is = let same : x ≡ z = cc in ap (λ (w : plan.Expr). eval w r) same
  either_means y None x is = node_means y x is

  abbrev Means_at : Expr-F Expr Arm → Type 0
  Means_at z = (x : plan.Expr) → unwrap_or (some_given (roll-Expr z)) (made_of z) ≡ Some x → eval x r ≡ unwrap_or (values (roll-Expr z)) (gives_of z)

  pub means : (e : Expr) → Means e
  means = ind-Expr Means MeansArm
      (λ x y is z there.
      subst Means_at is (λ w. either_means y (given (roll-Expr (bare y))) w) z (sym (at_node some_given made x) ∙ there)
      ∙ sym (at_node values operated x))
      (λ x y is. subst (λ z. MeansArm (roll-Arm z)) is (y.condition.1, y.value.1))

-- ---- rows

row_value : (r : JoinedRow) (p : ScopeColumn) (join : Option ℕ) → eval (column_in join p.column) r ≡ gives.Value (value_in r join p.column)
row_value r p None = eval-Column p.column r
row_value r p (Some j) = eval-Joined j p.column r

row_given : (r : JoinedRow) (c : Option ScopeColumn) → option_map (λ x. eval x r) (option_map column_expr c) ≡ option_map (λ p. gives.Value (value_in r p.join p.column)) c
row_given r None = refl
row_given r (Some p) = ap (λ (o : Outcome). Some o) (row_value r p p.join)

pub rows_mean : RowsMean
rows_mean s e x is r = means (given_in s Rows) r e x is ∙ (λ i. meant_by (λ t. row_given r (column_meant s t) i) e)

-- ---- groups

group_given : (key values : Row) (i j : Option ℕ) → option_map (λ x. eval x (group_row key values)) (key_first i j) ≡ key_or_aggregate key values i j
group_given key values (Some i) j = ap (λ (o : Outcome). Some o) (eval-Key i (group_row key values))
group_given key values None (Some j) = ap (λ (o : Outcome). Some o) (eval-Aggregate j (group_row key values))
group_given key values None None = refl

pub groups_mean : GroupsMean
groups_mean s keys aggregates e x is key values =
    means (given_in s (Groups keys aggregates)) (group_row key values) e x is
    ∙ (λ i. meant_by (λ t. group_given key values (index_among keys (spelled s t)) (index_among aggregates (spelled s t)) i) e)
