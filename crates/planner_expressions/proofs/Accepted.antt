-- What has no fault where aggregates are barred has an expression over rows.
use Rattle.std.proofs.Common.{rules, ◌≡◌, ℕ, Bool, true, false, List, [], ◌∷◌, map, Option, Some, None, option_map, unwrap_or, cond, Result, Ok, Err, refl, ap, ap₂, subst, sym, ◌∙◌}
use Rattle.meaning.specs.Results.{all_ok, and_then, with_result}
use Rattle.meaning.specs.declared.expr.Arm as plan_arm
use Rattle.meaning.specs.declared.expr.Expr as plan
use Rattle.meaning.specs.declared.expr.Expr.TheVariants as expr
use Rattle.meaning.specs.declared.value.Value.TheVariants as value
use Rattle.sql_syntax.specs.declared.tree.Aggregate.{Aggregate}
use Rattle.sql_syntax.specs.declared.tree.Arm.{Arm}
use Rattle.sql_syntax.specs.declared.tree.Expr.{Expr}
use Rattle.sql_syntax.specs.declared.tree.Expr.TheOpen as node
use Rattle.sql_syntax.specs.declared.tree.Expr.TheOpen.{Expr-F, Arm-F}
use Rattle.sql_syntax.specs.declared.tree.Expr.TheFolds.{the_lemmas, ind-Expr, map-Expr, fold-roll-Expr, fold-roll-Arm}
use Rattle.sql_syntax.specs.declared.tree.Expr.TheViews.{roll-Expr}
use Rattle.planner_expressions.specs.declared.basis.Basis.TheVariants.{Rows}
use Rattle.planner_expressions.specs.declared.fault.PlanFault.{PlanFault}
use Rattle.planner_expressions.specs.declared.fault.PlanFault.TheVariants as fault
use Rattle.planner_expressions.specs.declared.scope.ScopeColumn.{ScopeColumn}
use Rattle.planner_expressions.specs.declared.scope.Scope.{Scope}
use Rattle.planner_expressions.specs.declared.sort.Sort.{Sort}
use Rattle.planner_expressions.specs.Given.{column_meant, given_in, column_expr}
use Rattle.planner_expressions.specs.Judged.{Returned, Judgement, judge_node, judge_arm, judged, judged_arm, two, each, each_arm, arm_sorts, else_sort, over_part, if_allowed, name_sort}
use Rattle.planner_expressions.specs.Meant.{RowsTranslate}
use Rattle.planner_expressions.specs.Scope.{meant, one_of, stands_for, found}
use Rattle.planner_expressions.specs.Sorts.{sort_of_type, is_taken, aggregate_sort}
use Rattle.planner_expressions.specs.Translated.{Made, made, translated, two_some, three_some, all_some, arm_of}
use Rattle.planner_expressions.proofs.Replaced.{parts_give, at_node}
use Rattle.planner_expressions.proofs.Impossible.{never}

-- ---- results that are there

pub goes_there : {X Y : Type 0} (r : Result X PlanFault) (k : X → Result Y PlanFault) (z : Y) → and_then r k ≡ Ok z → (x : X) × (r ≡ Ok x) × (k x ≡ Ok z)
goes_there (Err e) k z is = absurd cc
goes_there (Ok x) k z is = (x, refl, is)

pub both_there : (a b : Returned) (k : Sort → Sort → Returned) (z : Sort) → two a b k ≡ Ok z → ((x : Sort) × (a ≡ Ok x)) × ((y : Sort) × (b ≡ Ok y))
both_there a b k z is =
    let first = goes_there a (λ x. and_then b (λ y. k x y)) z is in
    let second = goes_there b (λ y. k first.0 y) z first.2 in
    ((first.0, first.1), (second.0, second.1))

-- a result in front of others that are there
pub front_there : {X : Type 0} (r : Result X PlanFault) (rs : Result (List X) PlanFault) (zs : List X) → with_result r rs ≡ Ok zs → ((x : X) × (r ≡ Ok x)) × ((xs : List X) × (rs ≡ Ok xs))
front_there (Err e) rs zs is = absurd cc
front_there (Ok x) (Err e) zs is = absurd cc
front_there (Ok x) (Ok xs) zs is = ((x, refl), (xs, refl))

no_aggregate : (kind : Aggregate) (x z : Sort) (b : Bool) → cond b (if_allowed true (aggregate_sort kind x)) (Err fault.TypeMismatch) ≡ Ok z → ⊥
no_aggregate kind x z true is = cc
no_aggregate kind x z false is = cc

named : (c : List ScopeColumn) (z : Sort) → and_then (one_of c) (λ p. Ok (sort_of_type p.col_type)) ≡ Ok z → (p : ScopeColumn) × (found (one_of c) ≡ Some p)
named c z is = let p = goes_there (one_of c) (λ p. Ok (sort_of_type p.col_type)) z is in (p.0, ap found p.1)

module _ (s : Scope) where
  abbrev given : Expr → Option plan.Expr
  given = given_in s Rows

  abbrev tr : Expr → Made
  tr = translated given

  abbrev some_given : Expr → Option Made
  some_given e = option_map (λ x. Some x) (given e)

  abbrev There : Made → Type 0
  There m = (x : plan.Expr) × (m ≡ Some x)

  abbrev Fine : Expr → Type 0
  Fine e = (sort : Sort) → judged s e true ≡ Ok sort → There (tr e)

  abbrev FineArm : Arm → Type 0
  FineArm a = (p : Sort × Sort) → arm_sorts true (judged_arm s a) ≡ Ok p → There (tr a.condition) × There (tr a.value)

  abbrev Judging : Type 0
  Judging = (e : Expr) × Fine e

  abbrev JudgingArm : Type 0
  JudgingArm = (a : Arm) × FineArm a

  abbrev bare : Expr-F Judging JudgingArm → Expr-F Expr Arm
  bare = map-Expr Judging JudgingArm Expr Arm (λ e. e.0) (λ a. a.0)

  abbrev judge_at : Expr-F Expr Arm → Returned
  judge_at x = judge_node s (map-Expr Expr Arm Judgement (Judgement × Judgement) (judged s) (judged_arm s) x) true

  abbrev made_of : Expr-F Expr Arm → Made
  made_of x = made (parts_give some_given made x)

  abbrev arm_tr : Arm → Made × Made
  arm_tr a = (tr a.condition, tr a.value)

  list_there : (es : List Judging) (zs : List Sort) → all_ok (each true (map (judged s) (map (λ e. e.0) es))) ≡ Ok zs
      → (xs : List plan.Expr) × (all_some (map tr (map (λ e. e.0) es)) ≡ Some xs)
  list_there [] zs is = ([], refl)
  list_there (e ∷ es) zs is =
      let parts = front_there (judged s e.0 true) (all_ok (each true (map (judged s) (map (λ (d : Judging). d.0) es)))) zs is in
      let first = e.1 parts.0.0 parts.0.1 in
      let rest = list_there es parts.1.0 parts.1.1 in
      (first.0 ∷ rest.0, ap₂ (two_some (λ (y : plan.Expr) (ys : List plan.Expr). y ∷ ys)) first.1 rest.1)

  arms_there : (list : List JudgingArm) (zs : List (Sort × Sort)) → all_ok (each_arm true (map (judged_arm s) (map (λ a. a.0) list))) ≡ Ok zs
      → (xs : List plan_arm.Arm) × (all_some (map arm_of (map arm_tr (map (λ a. a.0) list))) ≡ Some xs)
  arms_there [] zs is = ([], refl)
  arms_there (a ∷ list) zs is =
      let parts = front_there (arm_sorts true (judged_arm s a.0)) (all_ok (each_arm true (map (judged_arm s) (map (λ (d : JudgingArm). d.0) list)))) zs is in
      let here = a.1 parts.0.0 parts.0.1 in
      let rest = arms_there list parts.1.0 parts.1.1 in
      let front : arm_of (arm_tr a.0) ≡ Some (record { when = here.0.0; then = here.1.0 }) = ap₂ (two_some (λ (c v : plan.Expr). record { when = c; then = v })) here.0.1 here.1.1 in
      (record { when = here.0.0; then = here.1.0 } ∷ rest.0, ap₂ (two_some (λ (y : plan_arm.Arm) (ys : List plan_arm.Arm). y ∷ ys)) front rest.1)

  abbrev is_name : Expr-F Expr Arm → Bool
  is_name (node.Column table name) = true
  is_name _ = false

  -- a node other than a name
  node_there : (y : Expr-F Judging JudgingArm) (z : Sort) → judge_at (bare y) ≡ Ok z → is_name (bare y) ≡ false → There (made_of (bare y))
  node_there (node.Column table name) z is other = never other
  node_there node.CountRows z is other = absurd cc
  node_there (node.Aggregate kind a) z is other =
      let part = goes_there (judged s a.0 true) (over_part kind true) z is in
      absurd (no_aggregate kind part.0 z (is_taken kind part.0) part.2)
  node_there (node.Integer n) z is other = (expr.Literal (value.Int n), refl)
  node_there (node.Text t) z is other = (expr.Literal (value.Text t), refl)
  node_there (node.Minus a) z is other =
      let part = goes_there (judged s a.0 true) _ z is in
      let x = a.1 part.0 part.1 in
      (expr.Minus x.0, ap (option_map (λ (y : plan.Expr). expr.Minus y)) x.1)
  node_there (node.Arithmetic op a b) z is other =
      let parts = both_there (judged s a.0 true) (judged s b.0 true) _ z is in
      let x = a.1 parts.0.0 parts.0.1 in
      let w = b.1 parts.1.0 parts.1.1 in
      (expr.Arithmetic op x.0 w.0, ap₂ (two_some (λ (u v : plan.Expr). expr.Arithmetic op u v)) x.1 w.1)
  node_there (node.Compare op a b) z is other =
      let parts = both_there (judged s a.0 true) (judged s b.0 true) _ z is in
      let x = a.1 parts.0.0 parts.0.1 in
      let w = b.1 parts.1.0 parts.1.1 in
      (expr.Compare op x.0 w.0, ap₂ (two_some (λ (u v : plan.Expr). expr.Compare op u v)) x.1 w.1)
  node_there (node.Not a) z is other =
      let part = goes_there (judged s a.0 true) _ z is in
      let x = a.1 part.0 part.1 in
      (expr.Not x.0, ap (option_map (λ (y : plan.Expr). expr.Not y)) x.1)
  node_there (node.And a b) z is other =
      let parts = both_there (judged s a.0 true) (judged s b.0 true) _ z is in
      let x = a.1 parts.0.0 parts.0.1 in
      let w = b.1 parts.1.0 parts.1.1 in
      (expr.And x.0 w.0, ap₂ (two_some (λ (u v : plan.Expr). expr.And u v)) x.1 w.1)
  node_there (node.Or a b) z is other =
      let parts = both_there (judged s a.0 true) (judged s b.0 true) _ z is in
      let x = a.1 parts.0.0 parts.0.1 in
      let w = b.1 parts.1.0 parts.1.1 in
      (expr.Or x.0 w.0, ap₂ (two_some (λ (u v : plan.Expr). expr.Or u v)) x.1 w.1)
  node_there (node.IsNull negated a) z is other =
      let part = goes_there (judged s a.0 true) _ z is in
      let x = a.1 part.0 part.1 in
      (expr.IsNull negated x.0, ap (option_map (λ (y : plan.Expr). expr.IsNull negated y)) x.1)
  node_there (node.Between negated a low high) z is other =
      let part = goes_there (judged s a.0 true) _ z is in
      let bounds = both_there (judged s low.0 true) (judged s high.0 true) _ z part.2 in
      let x = a.1 part.0 part.1 in
      let v = low.1 bounds.0.0 bounds.0.1 in
      let w = high.1 bounds.1.0 bounds.1.1 in
      (expr.Between negated x.0 v.0 w.0, (λ i. three_some (λ (k l m : plan.Expr). expr.Between negated k l m) (x.1 i) (v.1 i) (w.1 i)))
  node_there (node.In negated a entries) z is other =
      let part = goes_there (judged s a.0 true) _ z is in
      let list = goes_there (all_ok (each true (map (judged s) (map (λ (e : Judging). e.0) entries)))) _ z part.2 in
      let x = a.1 part.0 part.1 in
      let xs = list_there entries list.0 list.1 in
      (expr.In negated x.0 xs.0, ap₂ (two_some (λ (y : plan.Expr) (ys : List plan.Expr). expr.In negated y ys)) x.1 xs.1)
  node_there (node.Like negated a pattern) z is other =
      let part = goes_there (judged s a.0 true) _ z is in
      let x = a.1 part.0 part.1 in
      (expr.Like negated x.0 pattern, ap (option_map (λ (y : plan.Expr). expr.Like negated y pattern)) x.1)
  node_there (node.Coalesce entries) z is other =
      let list = goes_there (all_ok (each true (map (judged s) (map (λ (e : Judging). e.0) entries)))) _ z is in
      let xs = list_there entries list.0 list.1 in
      (expr.Coalesce xs.0, ap (option_map (λ (ys : List plan.Expr). expr.Coalesce ys)) xs.1)
  node_there (node.Case arms None) z is other =
      let list = goes_there (all_ok (each_arm true (map (judged_arm s) (map (λ (a : JudgingArm). a.0) arms)))) _ z is in
      let xs = arms_there arms list.0 list.1 in
      (expr.Case xs.0 (expr.Literal value.Null), ap (λ (ys : Option (List plan_arm.Arm)). two_some (λ (l : List plan_arm.Arm) (y : plan.Expr). expr.Case l y) ys (Some (expr.Literal value.Null))) xs.1)
  node_there (node.Case arms (Some e)) z is other =
      let list = goes_there (all_ok (each_arm true (map (judged_arm s) (map (λ (a : JudgingArm). a.0) arms)))) _ z is in
      let last = goes_there (else_sort true (Some (judged s e.0))) _ z list.2 in
      let value_of = some_there (judged s e.0 true) last.0 last.1 in
      let xs = arms_there arms list.0 list.1 in
      let x = e.1 value_of.0 value_of.1 in
      (expr.Case xs.0 x.0, ap₂ (two_some (λ (l : List plan_arm.Arm) (y : plan.Expr). expr.Case l y)) xs.1 x.1)
    where
      some_there : (r : Returned) (o : Option Sort) → Rattle.planner_expressions.specs.Results.map_ok (λ (x : Sort). Some x) r ≡ Ok o → (x : Sort) × (r ≡ Ok x)
      some_there (Err f) o is = absurd cc
      some_there (Ok x) o is = (x, refl)

  -- what is given, or made
  or_made : (g : Option plan.Expr) (m : Made) → There m → There (unwrap_or (option_map (λ x. Some x) g) m)
  or_made (Some x) m there = (x, refl)
  or_made None m there = there

  is_given : (g : Option plan.Expr) (m : Made) (x : plan.Expr) → g ≡ Some x → There (unwrap_or (option_map (λ x. Some x) g) m)
  is_given g m x is = (x, ap (λ (h : Option plan.Expr). unwrap_or (option_map (λ y. Some y) h) m) is)

  column_at : (table : Option (List ℕ)) (name : List ℕ) → column_meant s (roll-Expr (node.Column table name)) ≡ stands_for s table name
  column_at table name = search (rules, the_lemmas)

  name_there : (table : Option (List ℕ)) (name : List ℕ) (z : Sort) → name_sort s table name ≡ Ok z → There (unwrap_or (some_given (roll-Expr (node.Column table name))) None)
  name_there table name z is =
      let p = named (meant s table name) z is in
      is_given (given (roll-Expr (node.Column table name))) None (column_expr p.0) (ap (option_map column_expr) (column_at table name ∙ p.1))

  any_there : (y : Expr-F Judging JudgingArm) (z : Sort) → judge_at (bare y) ≡ Ok z → There (unwrap_or (some_given (roll-Expr (bare y))) (made_of (bare y)))
  any_there (node.Column table name) z is = name_there table name z is
  any_there node.CountRows z is = or_made _ _ (node_there node.CountRows z is refl)
  any_there (node.Aggregate kind a) z is = or_made _ _ (node_there (node.Aggregate kind a) z is refl)
  any_there (node.Integer n) z is = or_made _ _ (node_there (node.Integer n) z is refl)
  any_there (node.Text t) z is = or_made _ _ (node_there (node.Text t) z is refl)
  any_there (node.Minus a) z is = or_made _ _ (node_there (node.Minus a) z is refl)
  any_there (node.Arithmetic op a b) z is = or_made _ _ (node_there (node.Arithmetic op a b) z is refl)
  any_there (node.Compare op a b) z is = or_made _ _ (node_there (node.Compare op a b) z is refl)
  any_there (node.Not a) z is = or_made _ _ (node_there (node.Not a) z is refl)
  any_there (node.And a b) z is = or_made _ _ (node_there (node.And a b) z is refl)
  any_there (node.Or a b) z is = or_made _ _ (node_there (node.Or a b) z is refl)
  any_there (node.IsNull negated a) z is = or_made _ _ (node_there (node.IsNull negated a) z is refl)
  any_there (node.Between negated a low high) z is = or_made _ _ (node_there (node.Between negated a low high) z is refl)
  any_there (node.In negated a entries) z is = or_made _ _ (node_there (node.In negated a entries) z is refl)
  any_there (node.Like negated a pattern) z is = or_made _ _ (node_there (node.Like negated a pattern) z is refl)
  any_there (node.Coalesce entries) z is = or_made _ _ (node_there (node.Coalesce entries) z is refl)
  any_there (node.Case arms otherwise) z is = or_made _ _ (node_there (node.Case arms otherwise) z is refl)

  abbrev Fine_at : Expr-F Expr Arm → Type 0
  Fine_at x = (z : Sort) → judge_at x ≡ Ok z → There (unwrap_or (some_given (roll-Expr x)) (made_of x))

  abbrev Arm_at : Arm-F Expr Arm → Type 0
  Arm_at x = (p : Sort × Sort) → arm_sorts true (judged s x.condition, judged s x.value) ≡ Ok p → There (tr x.condition) × There (tr x.value)

  arm_there : (y : Arm-F Judging JudgingArm) (p : Sort × Sort) → arm_sorts true (judged s y.condition.0, judged s y.value.0) ≡ Ok p → There (tr y.condition.0) × There (tr y.value.0)
  arm_there y p is =
      let first = goes_there (judged s y.condition.0 true) (λ c. and_then (judged s y.value.0 true) (λ v. Ok (c, v))) p is in
      let second = goes_there (judged s y.value.0 true) (λ v. Ok (first.0, v)) p first.2 in
      (y.condition.1 first.0 first.1, y.value.1 second.0 second.1)

  fine : (e : Expr) → Fine e
  fine = ind-Expr Fine FineArm
      (λ x y is z returned.
      let at : judge_at x ≡ Ok z = sym (ap (λ (j : Judgement). j true) (fold-roll-Expr Judgement (Judgement × Judgement) (judge_node s) judge_arm x)) ∙ returned in
      let here = subst Fine_at is (any_there y) z at in
      (here.0, at_node some_given made x ∙ here.1))
      (λ x y is p returned.
      let at = sym (ap (arm_sorts true) (fold-roll-Arm Judgement (Judgement × Judgement) (judge_node s) judge_arm x)) ∙ returned in
      subst Arm_at is (arm_there y) p at)

pub rows_translate : RowsTranslate
rows_translate s e sort is = fine s e sort is
