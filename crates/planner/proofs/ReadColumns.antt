-- An expression over rows reads just the columns that its tree names.
use Rattle.std.proofs.Common.{rules, ◌≡◌, ℕ, Bool, true, false, ◌||◌, List, [], ◌∷◌, ◌++◌, map, Option, Some, None, option_map, unwrap_or, refl, ap, subst, sym, ◌∙◌}
use Rattle.std.specs.List.{list_any, AllByRecursion}
use Rattle.meaning.specs.References.{Reference, FactColumn, JoinColumn, GroupKey, GroupAggregate, all_references, columns_used, columns_used_in_arm}
use Rattle.meaning.specs.declared.expr.ArithmeticOperator.{ArithmeticOperator}
use Rattle.meaning.specs.declared.expr.ComparisonOperator.{ComparisonOperator}
use Rattle.meaning.specs.declared.expr.Arm as plan_arm
use Rattle.meaning.specs.declared.expr.Expr as plan
use Rattle.meaning.specs.declared.expr.Expr.TheVariants as expr
use Rattle.meaning.specs.declared.expr.Expr.TheFolds as plan_folds
use Rattle.meaning.specs.declared.value.Value.{Value}
use Rattle.meaning.specs.declared.value.Value.TheVariants as value
use Rattle.sql_syntax.specs.declared.tree.Arm.{Arm}
use Rattle.sql_syntax.specs.declared.tree.Expr.{Expr}
use Rattle.sql_syntax.specs.declared.tree.Expr.TheOpen as node
use Rattle.sql_syntax.specs.declared.tree.Expr.TheOpen.{Expr-F, Arm-F}
use Rattle.sql_syntax.specs.declared.tree.Expr.TheFolds.{the_lemmas, ind-Expr, map-Expr, fold-roll-Expr, fold-roll-Arm}
use Rattle.sql_syntax.specs.declared.tree.Expr.TheViews.{roll-Expr, out-Expr}
use Rattle.planner_expressions.specs.declared.basis.Basis.TheVariants.{Rows}
use Rattle.planner_expressions.specs.declared.scope.ScopeColumn.{ScopeColumn}
use Rattle.planner_expressions.specs.declared.scope.Scope.{Scope}
use Rattle.planner_expressions.specs.Given.{node_column, given_in, column_expr, column_in}
use Rattle.planner_expressions.specs.Scope.{stands_for}
use Rattle.planner_expressions.specs.Translated.{Made, made, translated, all_some, arm_of}
use Rattle.planner_expressions.specs.Uses.{names, names_arm, names_node, names_either}
use Rattle.planner_expressions.proofs.Meaning.{one_there, two_there, three_there}
use Rattle.planner_expressions.proofs.Replaced.{parts_give, at_node}
use Rattle.planner_clauses.specs.Conjuncts.{row_expr}
use Rattle.planner_expressions.proofs.Among.{Among}
use Rattle.planner_expressions.proofs.Columns.{stands_among}
use Rattle.planner.proofs.NamedParts.{Named, Covers, left, right}
use Rattle.planner.proofs.TypedTrees.{both_all}

-- ---- what a node reads

pub used-Column : (i : ℕ) → columns_used (expr.Column i) ≡ FactColumn i ∷ []
used-Column i = search (rules, plan_folds.the_lemmas)

pub used-Joined : (j i : ℕ) → columns_used (expr.Joined j i) ≡ JoinColumn j i ∷ []
used-Joined j i = search (rules, plan_folds.the_lemmas)

pub used-Literal : (v : Value) → columns_used (expr.Literal v) ≡ []
used-Literal v = search (rules, plan_folds.the_lemmas)

pub used-Key : (i : ℕ) → columns_used (expr.Key i) ≡ GroupKey i ∷ []
used-Key i = search (rules, plan_folds.the_lemmas)

pub used-Aggregate : (i : ℕ) → columns_used (expr.Aggregate i) ≡ GroupAggregate i ∷ []
used-Aggregate i = search (rules, plan_folds.the_lemmas)

used-Minus : (a : plan.Expr) → columns_used (expr.Minus a) ≡ columns_used a
used-Minus a = search (rules, plan_folds.the_lemmas)

used-Arithmetic : (op : ArithmeticOperator) (a b : plan.Expr) → columns_used (expr.Arithmetic op a b) ≡ columns_used a ++ columns_used b
used-Arithmetic op a b = search (rules, plan_folds.the_lemmas)

used-Compare : (op : ComparisonOperator) (a b : plan.Expr) → columns_used (expr.Compare op a b) ≡ columns_used a ++ columns_used b
used-Compare op a b = search (rules, plan_folds.the_lemmas)

used-Not : (a : plan.Expr) → columns_used (expr.Not a) ≡ columns_used a
used-Not a = search (rules, plan_folds.the_lemmas)

used-And : (a b : plan.Expr) → columns_used (expr.And a b) ≡ columns_used a ++ columns_used b
used-And a b = search (rules, plan_folds.the_lemmas)

used-Or : (a b : plan.Expr) → columns_used (expr.Or a b) ≡ columns_used a ++ columns_used b
used-Or a b = search (rules, plan_folds.the_lemmas)

used-IsNull : (n : Bool) (a : plan.Expr) → columns_used (expr.IsNull n a) ≡ columns_used a
used-IsNull n a = search (rules, plan_folds.the_lemmas)

used-Between : (n : Bool) (a low high : plan.Expr) → columns_used (expr.Between n a low high) ≡ columns_used a ++ (columns_used low ++ columns_used high)
used-Between n a low high = search (rules, plan_folds.the_lemmas)

used-In : (n : Bool) (a : plan.Expr) (list : List plan.Expr) → columns_used (expr.In n a list) ≡ columns_used a ++ all_references (map columns_used list)
used-In n a list = search (rules, plan_folds.the_lemmas)

used-Like : (n : Bool) (a : plan.Expr) (pattern : List ℕ) → columns_used (expr.Like n a pattern) ≡ columns_used a
used-Like n a pattern = search (rules, plan_folds.the_lemmas)

used-Coalesce : (list : List plan.Expr) → columns_used (expr.Coalesce list) ≡ all_references (map columns_used list)
used-Coalesce list = search (rules, plan_folds.the_lemmas)

used-Case : (arms : List plan_arm.Arm) (a : plan.Expr) → columns_used (expr.Case arms a) ≡ all_references (map columns_used_in_arm arms) ++ columns_used a
used-Case arms a = search (rules, plan_folds.the_lemmas)

used_in_arm-record : (w t : plan.Expr) → columns_used_in_arm (record { when = w; then = t }) ≡ columns_used w ++ columns_used t
used_in_arm-record w t = search (rules, plan_folds.the_lemmas)

-- ---- trees

module _ (given : Expr → Option plan.Expr) (IsRead : Reference → Type 0) (test : ScopeColumn → Bool)
    (given_reads : (e : Expr) (x : plan.Expr) → Covers test e → given e ≡ Some x → AllByRecursion IsRead (columns_used x)) where
  abbrev AreRead : List Reference → Type 0
  AreRead = AllByRecursion IsRead

  abbrev tr : Expr → Made
  tr = translated given

  abbrev some_given : Expr → Option Made
  some_given e = option_map (λ x. Some x) (given e)

  abbrev Reads : Expr → Type 0
  Reads e = Covers test e → (x : plan.Expr) → tr e ≡ Some x → AreRead (columns_used x)

  abbrev ReadsArm : Arm → Type 0
  ReadsArm a = Named test (λ p. names_arm p a) → (w t : plan.Expr) → tr a.condition ≡ Some w → tr a.value ≡ Some t → AreRead (columns_used w) × AreRead (columns_used t)

  abbrev Reading : Type 0
  Reading = (e : Expr) × Reads e

  abbrev ReadingArm : Type 0
  ReadingArm = (a : Arm) × ReadsArm a

  abbrev bare : Expr-F Reading ReadingArm → Expr-F Expr Arm
  bare = map-Expr Reading ReadingArm Expr Arm (λ e. e.0) (λ a. a.0)

  abbrev named_at : Expr-F Expr Arm → ScopeColumn → Bool
  named_at x p = names_node p (map-Expr Expr Arm Bool Bool (names p) (names_arm p) x)

  abbrev made_of : Expr-F Expr Arm → Made
  made_of x = made (parts_give some_given made x)

  abbrev arm_tr : Arm → Made × Made
  arm_tr a = (tr a.condition, tr a.value)

  abbrev trees_of : List Reading → List Expr
  trees_of = map (λ (e : Reading). e.0)

  abbrev arms_in : List ReadingArm → List Arm
  arms_in = map (λ (a : ReadingArm). a.0)

  -- ---- parts

  as_used : (x : plan.Expr) (us : List Reference) → columns_used x ≡ us → AreRead us → AreRead (columns_used x)
  as_used x us is all = subst AreRead (sym is) all

  as_made : (x y : plan.Expr) → x ≡ y → AreRead (columns_used y) → AreRead (columns_used x)
  as_made x y is all = subst (λ (w : plan.Expr). AreRead (columns_used w)) (sym is) all

  pair_reads : (a b : Reading) (x y : plan.Expr) → Named test (λ p. names p a.0 || names p b.0) → tr a.0 ≡ Some x → tr b.0 ≡ Some y → AreRead (columns_used x ++ columns_used y)
  pair_reads a b x y named first second =
      both_all IsRead (columns_used x) (columns_used y) (a.1 (left test (λ p. names p a.0) (λ p. names p b.0) named) x first) (b.1 (right test (λ p. names p a.0) (λ p. names p b.0) named) y second)

  list_reads : (es : List Reading) (xs : List plan.Expr) → Named test (λ p. list_any (λ t. t) (map (names p) (trees_of es))) → all_some (map tr (trees_of es)) ≡ Some xs
      → AreRead (all_references (map columns_used xs))
  list_reads [] xs named is = let none : [] ≡ xs = cc in subst (λ (ys : List plan.Expr). AreRead (all_references (map columns_used ys))) none tt
  list_reads (e ∷ es) xs named is =
      let parts = two_there (λ (y : plan.Expr) (ys : List plan.Expr). y ∷ ys) (tr e.0) (all_some (map tr (trees_of es))) xs is in
      let here = e.1 (left test (λ p. names p e.0) (λ p. list_any (λ t. t) (map (names p) (trees_of es))) named) parts.0 parts.1.1 in
      let rest = list_reads es parts.1.0 (right test (λ p. names p e.0) (λ p. list_any (λ t. t) (map (names p) (trees_of es))) named) parts.1.2 in
      subst (λ (ys : List plan.Expr). AreRead (all_references (map columns_used ys))) (sym parts.1.3)
      (both_all IsRead (columns_used parts.0) (all_references (map columns_used parts.1.0)) here rest)

  arms_read : (list : List ReadingArm) (xs : List plan_arm.Arm) → Named test (λ p. list_any (λ t. t) (map (names_arm p) (arms_in list))) → all_some (map arm_of (map arm_tr (arms_in list))) ≡ Some xs
      → AreRead (all_references (map columns_used_in_arm xs))
  arms_read [] xs named is = let none : [] ≡ xs = cc in subst (λ (ys : List plan_arm.Arm). AreRead (all_references (map columns_used_in_arm ys))) none tt
  arms_read (a ∷ list) xs named is =
      let parts = two_there (λ (y : plan_arm.Arm) (ys : List plan_arm.Arm). y ∷ ys) (arm_of (arm_tr a.0)) (all_some (map arm_of (map arm_tr (arms_in list)))) xs is in
      let pair = two_there (λ (c v : plan.Expr). record { when = c; then = v }) (tr a.0.condition) (tr a.0.value) parts.0 parts.1.1 in
      let here = a.1 (left test (λ p. names_arm p a.0) (λ p. list_any (λ t. t) (map (names_arm p) (arms_in list))) named) pair.0 pair.1.0 pair.1.1 pair.1.2 in
      let used : columns_used_in_arm parts.0 ≡ columns_used pair.0 ++ columns_used pair.1.0 = ap columns_used_in_arm pair.1.3 ∙ used_in_arm-record pair.0 pair.1.0 in
      let first : AreRead (columns_used_in_arm parts.0) = subst AreRead (sym used) (both_all IsRead (columns_used pair.0) (columns_used pair.1.0) here.0 here.1) in
      let rest = arms_read list parts.1.0 (right test (λ p. names_arm p a.0) (λ p. list_any (λ t. t) (map (names_arm p) (arms_in list))) named) parts.1.2 in
      subst (λ (ys : List plan_arm.Arm). AreRead (all_references (map columns_used_in_arm ys))) (sym parts.1.3)
      (both_all IsRead (columns_used_in_arm parts.0) (all_references (map columns_used_in_arm parts.1.0)) first rest)

  -- ---- nodes

  literal_reads : (v : Value) (x : plan.Expr) → x ≡ expr.Literal v → AreRead (columns_used x)
  literal_reads v x is = as_made x (expr.Literal v) is (as_used (expr.Literal v) [] (used-Literal v) tt)

  node_reads : (y : Expr-F Reading ReadingArm) (x : plan.Expr) → Named test (named_at (bare y)) → made_of (bare y) ≡ Some x → AreRead (columns_used x)
  node_reads (node.Column table name) x named is = absurd cc
  node_reads node.CountRows x named is = absurd cc
  node_reads (node.Aggregate kind a) x named is = absurd cc
  node_reads (node.Integer n) x named is = literal_reads (value.Int n) x cc
  node_reads (node.Text t) x named is = literal_reads (value.Text t) x cc
  node_reads (node.Minus a) x named is =
      let p = one_there (λ (z : plan.Expr). expr.Minus z) (tr a.0) x is in
      as_made x (expr.Minus p.0) p.2 (as_used (expr.Minus p.0) _ (used-Minus p.0) (a.1 named p.0 p.1))
  node_reads (node.Arithmetic op a b) x named is =
      let p = two_there (λ (y z : plan.Expr). expr.Arithmetic op y z) (tr a.0) (tr b.0) x is in
      as_made x _ p.1.3 (as_used _ _ (used-Arithmetic op p.0 p.1.0) (pair_reads a b p.0 p.1.0 named p.1.1 p.1.2))
  node_reads (node.Compare op a b) x named is =
      let p = two_there (λ (y z : plan.Expr). expr.Compare op y z) (tr a.0) (tr b.0) x is in
      as_made x _ p.1.3 (as_used _ _ (used-Compare op p.0 p.1.0) (pair_reads a b p.0 p.1.0 named p.1.1 p.1.2))
  node_reads (node.Not a) x named is =
      let p = one_there (λ (z : plan.Expr). expr.Not z) (tr a.0) x is in
      as_made x (expr.Not p.0) p.2 (as_used (expr.Not p.0) _ (used-Not p.0) (a.1 named p.0 p.1))
  node_reads (node.And a b) x named is =
      let p = two_there (λ (y z : plan.Expr). expr.And y z) (tr a.0) (tr b.0) x is in
      as_made x _ p.1.3 (as_used _ _ (used-And p.0 p.1.0) (pair_reads a b p.0 p.1.0 named p.1.1 p.1.2))
  node_reads (node.Or a b) x named is =
      let p = two_there (λ (y z : plan.Expr). expr.Or y z) (tr a.0) (tr b.0) x is in
      as_made x _ p.1.3 (as_used _ _ (used-Or p.0 p.1.0) (pair_reads a b p.0 p.1.0 named p.1.1 p.1.2))
  node_reads (node.IsNull negated a) x named is =
      let p = one_there (λ (z : plan.Expr). expr.IsNull negated z) (tr a.0) x is in
      as_made x (expr.IsNull negated p.0) p.2 (as_used (expr.IsNull negated p.0) _ (used-IsNull negated p.0) (a.1 named p.0 p.1))
  node_reads (node.Between negated a low high) x named is =
      let p = three_there (λ (u v w : plan.Expr). expr.Between negated u v w) (tr a.0) (tr low.0) (tr high.0) x is in
      let here = a.1 (left test (λ p. names p a.0) (λ p. names p low.0 || names p high.0) named) p.0 p.1.1.1 in
      let rest = pair_reads low high p.1.0 p.1.1.0 (right test (λ p. names p a.0) (λ p. names p low.0 || names p high.0) named) p.1.1.2 p.1.1.3 in
      as_made x _ p.1.1.4 (as_used _ _ (used-Between negated p.0 p.1.0 p.1.1.0) (both_all IsRead (columns_used p.0) (columns_used p.1.0 ++ columns_used p.1.1.0) here rest))
  node_reads (node.In negated a entries) x named is =
      let p = two_there (λ (y : plan.Expr) (ys : List plan.Expr). expr.In negated y ys) (tr a.0) (all_some (map tr (trees_of entries))) x is in
      let here = a.1 (left test (λ p. names p a.0) (λ p. list_any (λ t. t) (map (names p) (trees_of entries))) named) p.0 p.1.1 in
      let rest = list_reads entries p.1.0 (right test (λ p. names p a.0) (λ p. list_any (λ t. t) (map (names p) (trees_of entries))) named) p.1.2 in
      as_made x _ p.1.3 (as_used _ _ (used-In negated p.0 p.1.0) (both_all IsRead (columns_used p.0) (all_references (map columns_used p.1.0)) here rest))
  node_reads (node.Like negated a pattern) x named is =
      let p = one_there (λ (z : plan.Expr). expr.Like negated z pattern) (tr a.0) x is in
      as_made x (expr.Like negated p.0 pattern) p.2 (as_used (expr.Like negated p.0 pattern) _ (used-Like negated p.0 pattern) (a.1 named p.0 p.1))
  node_reads (node.Coalesce entries) x named is =
      let p = one_there (λ (ys : List plan.Expr). expr.Coalesce ys) (all_some (map tr (trees_of entries))) x is in
      as_made x (expr.Coalesce p.0) p.2 (as_used (expr.Coalesce p.0) _ (used-Coalesce p.0) (list_reads entries p.0 named p.1))
  node_reads (node.Case arms None) x named is =
      let p = two_there (λ (ys : List plan_arm.Arm) (y : plan.Expr). expr.Case ys y) (all_some (map arm_of (map arm_tr (arms_in arms)))) (Some (expr.Literal value.Null)) x is in
      let list = arms_read arms p.0 (left test (λ p. list_any (λ t. t) (map (names_arm p) (arms_in arms))) (λ p. false) named) p.1.1 in
      as_made x _ p.1.3 (as_used _ _ (used-Case p.0 p.1.0) (both_all IsRead (all_references (map columns_used_in_arm p.0)) (columns_used p.1.0) list (literal_reads value.Null p.1.0 (is_null p.1.0 p.1.2))))
    where
      is_null : (y : plan.Expr) → Some (expr.Literal value.Null) ≡ Some y → y ≡ expr.Literal value.Null
      is_null y same = cc
  node_reads (node.Case arms (Some e)) x named is =
      let p = two_there (λ (ys : List plan_arm.Arm) (y : plan.Expr). expr.Case ys y) (all_some (map arm_of (map arm_tr (arms_in arms)))) (tr e.0) x is in
      let list = arms_read arms p.0 (left test (λ p. list_any (λ t. t) (map (names_arm p) (arms_in arms))) (λ p. names p e.0) named) p.1.1 in
      let last = e.1 (right test (λ p. list_any (λ t. t) (map (names_arm p) (arms_in arms))) (λ p. names p e.0) named) p.1.0 p.1.2 in
      as_made x _ p.1.3 (as_used _ _ (used-Case p.0 p.1.0) (both_all IsRead (all_references (map columns_used_in_arm p.0)) (columns_used p.1.0) list last))

  by_given : (y : Expr-F Reading ReadingArm) (g : Option plan.Expr) (x : plan.Expr) → Named test (named_at (bare y)) → given (roll-Expr (bare y)) ≡ g
      → unwrap_or (option_map (λ z. Some z) g) (made_of (bare y)) ≡ Some x → AreRead (columns_used x)
  by_given y (Some z) x named there is =
      let same : z ≡ x = cc in
      given_reads (roll-Expr (bare y)) x (λ p h. named p (sym (fold-roll-Expr Bool Bool (names_node p) names_either (bare y)) ∙ h)) (there ∙ ap (λ (w : plan.Expr). Some w) same)
  by_given y None x named there is = node_reads y x named is

  abbrev Reads_at : Expr-F Expr Arm → Type 0
  Reads_at v = (x : plan.Expr) → Named test (named_at v) → unwrap_or (some_given (roll-Expr v)) (made_of v) ≡ Some x → AreRead (columns_used x)

  any_reads : (y : Expr-F Reading ReadingArm) → Reads_at (bare y)
  any_reads y x named is = by_given y (given (roll-Expr (bare y))) x named refl is

  abbrev Arm_at : Arm-F Expr Arm → Type 0
  Arm_at x = Named test (λ p. names p x.condition || names p x.value) → (w t : plan.Expr) → tr x.condition ≡ Some w → tr x.value ≡ Some t → AreRead (columns_used w) × AreRead (columns_used t)

  arm_reads : (y : Arm-F Reading ReadingArm) (named : Named test (λ p. names p y.condition.0 || names p y.value.0)) (w t : plan.Expr) → tr y.condition.0 ≡ Some w → tr y.value.0 ≡ Some t
      → AreRead (columns_used w) × AreRead (columns_used t)
  arm_reads y named w t first second = (
    y.condition.1 (left test (λ p. names p y.condition.0) (λ p. names p y.value.0) named) w first,
    y.value.1 (right test (λ p. names p y.condition.0) (λ p. names p y.value.0) named) t second,
  )

  pub reads : (e : Expr) → Reads e
  reads = ind-Expr Reads ReadsArm
      (λ v y is named x there.
      subst Reads_at is (any_reads y) x (λ p h. named p (fold-roll-Expr Bool Bool (names_node p) names_either v ∙ h)) (sym (at_node some_given made v) ∙ there))
      (λ v y is named w t first second.
      subst Arm_at is (arm_reads y) (λ p h. named p (fold-roll-Arm Bool Bool (names_node p) names_either v ∙ h)) w t first second)

-- ---- columns of FROM

-- how an expression over rows names the column
abbrev pub reference_in : Option ℕ → ℕ → Reference
reference_in None at = FactColumn at
reference_in (Some j) at = JoinColumn j at

module _ (s : Scope) (test : ScopeColumn → Bool) where
  -- it is a column of FROM that passes the test
  abbrev pub IsOf : Reference → Type 0
  IsOf u = (p : ScopeColumn) × Among s.columns p × (test p ≡ true) × (reference_in p.join p.column ≡ u)

  abbrev pub AreOf : List Reference → Type 0
  AreOf = AllByRecursion IsOf

  column_read : (p : ScopeColumn) (join : Option ℕ) → columns_used (column_in join p.column) ≡ reference_in join p.column ∷ []
  column_read p None = used-Column p.column
  column_read p (Some j) = used-Joined j p.column

  abbrev named_in : Expr-F Expr Arm → ScopeColumn → Bool
  named_in x p = names_node p (map-Expr Expr Arm Bool Bool (names p) (names_arm p) x)

  names_out : (e : Expr) (p : ScopeColumn) → names p e ≡ named_in (out-Expr e) p
  names_out e p = search (rules, the_lemmas)

  node_given : (v : Expr-F Expr Arm) (x : plan.Expr) → Named test (named_in v) → option_map column_expr (node_column s v) ≡ Some x → AreOf (columns_used x)
  node_given (node.Column table name) x named is =
      let p = one_there column_expr (stands_for s table name) x is in
      let there = stands_among s table name p.0 p.1 in
      subst (λ (w : plan.Expr). AreOf (columns_used w)) (sym p.2) (subst AreOf (sym (column_read p.0 p.0.join)) ((p.0, there.0, named p.0 there.1, refl), tt))
  node_given _ x named is = absurd cc

  row_given : (e : Expr) (x : plan.Expr) → Covers test e → given_in s Rows e ≡ Some x → AreOf (columns_used x)
  row_given e x covered is = node_given (out-Expr e) x (λ p h. covered p (names_out e p ∙ h)) is

  by_row : (e : Expr) (o : Option plan.Expr) → Covers test e → translated (given_in s Rows) e ≡ o → AreOf (columns_used (unwrap_or o (expr.Literal value.Null)))
  by_row e (Some x) named is = reads (given_in s Rows) IsOf test row_given e named x is
  by_row e None named is = subst AreOf (sym (used-Literal value.Null)) tt

  -- also where the tree has no expression, and NULL is used for it
  pub row_reads : (e : Expr) → Covers test e → AreOf (columns_used (row_expr s e))
  row_reads e named = by_row e (translated (given_in s Rows) e) named refl
