-- What has no fault where aggregates are barred is of the same sort where they aren't.
use Rattle.std.proofs.Common.{◌≡◌, Bool, true, false, List, [], ◌∷◌, map, cond, Option, Some, None, Result, Ok, Err, refl, ap, ap₂, subst, sym, ◌∙◌}
use Rattle.meaning.specs.Results.{all_ok, and_then, with_result}
use Rattle.sql_syntax.specs.declared.tree.Aggregate.{Aggregate}
use Rattle.sql_syntax.specs.declared.tree.Arm.{Arm}
use Rattle.sql_syntax.specs.declared.tree.Expr.{Expr}
use Rattle.sql_syntax.specs.declared.tree.Expr.TheOpen as node
use Rattle.sql_syntax.specs.declared.tree.Expr.TheOpen.{Expr-F, Arm-F}
use Rattle.sql_syntax.specs.declared.tree.Expr.TheFolds.{ind-Expr, map-Expr, fold-roll-Expr, fold-roll-Arm}
use Rattle.sql_syntax.specs.declared.tree.Expr.TheViews.{roll-Expr}
use Rattle.planner_expressions.specs.declared.fault.PlanFault.{PlanFault}
use Rattle.planner_expressions.specs.declared.fault.PlanFault.TheVariants as fault
use Rattle.planner_expressions.specs.declared.scope.Scope.{Scope}
use Rattle.planner_expressions.specs.declared.sort.Sort.{Sort}
use Rattle.planner_expressions.specs.declared.sort.Sort.TheVariants.{Truth}
use Rattle.planner_expressions.specs.Judged.{Returned, Judgement, judge_node, judge_arm, judged, judged_arm, two, typed, each, each_arm, arm_sorts, else_sort, case_sort, over_part, if_allowed}
use Rattle.planner_expressions.specs.Results.{map_ok}
use Rattle.planner_expressions.specs.Sorts.{are_alike, first_of, is_taken, aggregate_sort}
use Rattle.planner_expressions.proofs.Accepted.{goes_there, front_there}

never_there : (k : Aggregate) (x z : Sort) (b : Bool) → cond b (if_allowed true (aggregate_sort k x)) (Err fault.TypeMismatch) ≡ Ok z → ⊥
never_there k x z true is = cc
never_there k x z false is = cc

some_there : (r : Returned) (o : Option Sort) → map_ok (λ (x : Sort). Some x) r ≡ Ok o → (x : Sort) × (r ≡ Ok x)
some_there (Err f) o is = absurd cc
some_there (Ok x) o is = (x, refl)

module _ (s : Scope) where
  abbrev Lifts : Expr → Type 0
  Lifts e = (z : Sort) → judged s e true ≡ Ok z → judged s e false ≡ Ok z

  abbrev LiftsArm : Arm → Type 0
  LiftsArm a = (p : Sort × Sort) → arm_sorts true (judged_arm s a) ≡ Ok p → arm_sorts false (judged_arm s a) ≡ Ok p

  abbrev Lifting : Type 0
  Lifting = (e : Expr) × Lifts e

  abbrev LiftingArm : Type 0
  LiftingArm = (a : Arm) × LiftsArm a

  abbrev bare : Expr-F Lifting LiftingArm → Expr-F Expr Arm
  bare = map-Expr Lifting LiftingArm Expr Arm (λ e. e.0) (λ a. a.0)

  abbrev judge_at : Bool → Expr-F Expr Arm → Returned
  judge_at b x = judge_node s (map-Expr Expr Arm Judgement (Judgement × Judgement) (judged s) (judged_arm s) x) b

  abbrev trees_of : List Lifting → List Expr
  trees_of = map (λ (e : Lifting). e.0)

  abbrev arms_in : List LiftingArm → List Arm
  arms_in = map (λ (a : LiftingArm). a.0)

  both_report : (a : Lifting) (z : Sort) → judged s a.0 true ≡ Ok z → judged s a.0 false ≡ judged s a.0 true
  both_report a z is = a.1 z is ∙ sym is

  one_lifts : (a : Lifting) (k : Sort → Returned) (z : Sort) → and_then (judged s a.0 true) k ≡ Ok z → and_then (judged s a.0 false) k ≡ Ok z
  one_lifts a k z is = let x = goes_there (judged s a.0 true) k z is in ap (λ (t : Returned). and_then t k) (both_report a x.0 x.1) ∙ is

  two_lift : (a c : Lifting) (k : Sort → Sort → Returned) (z : Sort) → two (judged s a.0 true) (judged s c.0 true) k ≡ Ok z → two (judged s a.0 false) (judged s c.0 false) k ≡ Ok z
  two_lift a c k z is =
      let x = goes_there (judged s a.0 true) (λ x. and_then (judged s c.0 true) (λ y. k x y)) z is in
      let y = goes_there (judged s c.0 true) (λ y. k x.0 y) z x.2 in
      ap₂ (λ (t u : Returned). two t u k) (both_report a x.0 x.1) (both_report c y.0 y.1) ∙ is

  list_lifts : (es : List Lifting) (zs : List Sort) → all_ok (each true (map (judged s) (trees_of es))) ≡ Ok zs → all_ok (each false (map (judged s) (trees_of es))) ≡ all_ok (each true (map (judged s) (trees_of es)))
  list_lifts [] zs is = refl
  list_lifts (e ∷ es) zs is =
      let parts = front_there (judged s e.0 true) (all_ok (each true (map (judged s) (trees_of es)))) zs is in
      ap₂ (λ (t : Returned) (ts : Result (List Sort) PlanFault). with_result t ts) (both_report e parts.0.0 parts.0.1) (list_lifts es parts.1.0 parts.1.1)

  arms_lift : (list : List LiftingArm) (ps : List (Sort × Sort)) → all_ok (each_arm true (map (judged_arm s) (arms_in list))) ≡ Ok ps
      → all_ok (each_arm false (map (judged_arm s) (arms_in list))) ≡ all_ok (each_arm true (map (judged_arm s) (arms_in list)))
  arms_lift [] ps is = refl
  arms_lift (a ∷ list) ps is =
      let parts = front_there (arm_sorts true (judged_arm s a.0)) (all_ok (each_arm true (map (judged_arm s) (arms_in list)))) ps is in
      ap₂ (λ (t : Result (Sort × Sort) PlanFault) (ts : Result (List (Sort × Sort)) PlanFault). with_result t ts) (a.1 parts.0.0 parts.0.1 ∙ sym parts.0.1) (arms_lift list parts.1.0 parts.1.1)

  node_lifts : (y : Expr-F Lifting LiftingArm) (z : Sort) → judge_at true (bare y) ≡ Ok z → judge_at false (bare y) ≡ Ok z
  node_lifts (node.Column t n) z is = is
  node_lifts (node.Integer n) z is = is
  node_lifts (node.Text t) z is = is
  node_lifts node.CountRows z is = absurd cc
  node_lifts (node.Aggregate k a) z is = let x = goes_there (judged s a.0 true) (over_part k true) z is in absurd (never_there k x.0 z (is_taken k x.0) x.2)
  node_lifts (node.Minus a) z is = one_lifts a _ z is
  node_lifts (node.Arithmetic op a c) z is = two_lift a c _ z is
  node_lifts (node.Compare op a c) z is = two_lift a c _ z is
  node_lifts (node.Not a) z is = one_lifts a _ z is
  node_lifts (node.And a c) z is = two_lift a c _ z is
  node_lifts (node.Or a c) z is = two_lift a c _ z is
  node_lifts (node.IsNull negated a) z is = one_lifts a _ z is
  node_lifts (node.Between negated a low high) z is =
      let x = goes_there (judged s a.0 true) _ z is in
      let bounds = two_lift low high _ z x.2 in
      ap (λ (t : Returned). and_then t (λ x. two (judged s low.0 false) (judged s high.0 false) (λ y w. typed (are_alike (x ∷ y ∷ w ∷ [])) Truth))) (a.1 x.0 x.1) ∙ bounds
  node_lifts (node.In negated a entries) z is =
      let x = goes_there (judged s a.0 true) _ z is in
      let list = goes_there (all_ok (each true (map (judged s) (trees_of entries)))) _ z x.2 in
      ap₂ (λ (t : Returned) (ts : Result (List Sort) PlanFault). and_then t (λ y. and_then ts (λ ys. typed (are_alike (y ∷ ys)) Truth))) (both_report a x.0 x.1) (list_lifts entries list.0 list.1) ∙ is
  node_lifts (node.Like negated a pattern) z is = one_lifts a _ z is
  node_lifts (node.Coalesce entries) z is =
      let list = goes_there (all_ok (each true (map (judged s) (trees_of entries)))) _ z is in
      ap (λ (ts : Result (List Sort) PlanFault). and_then ts (λ ys. typed (are_alike ys) (first_of ys))) (list_lifts entries list.0 list.1) ∙ is
  node_lifts (node.Case arms None) z is =
      let list = goes_there (all_ok (each_arm true (map (judged_arm s) (arms_in arms)))) _ z is in
      ap (λ (ts : Result (List (Sort × Sort)) PlanFault). and_then ts (λ ps. case_sort ps None)) (arms_lift arms list.0 list.1) ∙ is
  node_lifts (node.Case arms (Some e)) z is =
      let list = goes_there (all_ok (each_arm true (map (judged_arm s) (arms_in arms)))) _ z is in
      let last = goes_there (else_sort true (Some (judged s e.0))) _ z list.2 in
      let value = some_there (judged s e.0 true) last.0 last.1 in
      ap₂ (λ (ts : Result (List (Sort × Sort)) PlanFault) (t : Returned). and_then ts (λ ps. and_then (map_ok (λ (x : Sort). Some x) t) (case_sort ps))) (arms_lift arms list.0 list.1) (both_report e value.0 value.1) ∙ is

  rolled : (b : Bool) (x : Expr-F Expr Arm) → judged s (roll-Expr x) b ≡ judge_at b x
  rolled b x = ap (λ (j : Judgement). j b) (fold-roll-Expr Judgement (Judgement × Judgement) (judge_node s) judge_arm x)

  abbrev Lifts_at : Expr-F Expr Arm → Type 0
  Lifts_at x = (z : Sort) → judge_at true x ≡ Ok z → judge_at false x ≡ Ok z

  abbrev Arm_at : Arm-F Expr Arm → Type 0
  Arm_at x = (p : Sort × Sort) → arm_sorts true (judged s x.condition, judged s x.value) ≡ Ok p → arm_sorts false (judged s x.condition, judged s x.value) ≡ Ok p

  arm_lifts : (y : Arm-F Lifting LiftingArm) (p : Sort × Sort) → arm_sorts true (judged s y.condition.0, judged s y.value.0) ≡ Ok p → arm_sorts false (judged s y.condition.0, judged s y.value.0) ≡ Ok p
  arm_lifts y p is =
      let first = goes_there (judged s y.condition.0 true) (λ c. and_then (judged s y.value.0 true) (λ v. Ok (c, v))) p is in
      let second = goes_there (judged s y.value.0 true) (λ v. Ok (first.0, v)) p first.2 in
      ap₂ (λ (c v : Returned). and_then c (λ x. and_then v (λ w. Ok (x, w)))) (both_report y.condition first.0 first.1) (both_report y.value second.0 second.1) ∙ is

  pub lifts : (e : Expr) → Lifts e
  lifts = ind-Expr Lifts LiftsArm
      (λ x y is z returned. rolled false x ∙ subst Lifts_at is (node_lifts y) z (sym (rolled true x) ∙ returned))
      (λ x y is p returned.
      let folded = fold-roll-Arm Judgement (Judgement × Judgement) (judge_node s) judge_arm x in
      ap (arm_sorts false) folded ∙ subst Arm_at is (arm_lifts y) p (sym (ap (arm_sorts true) folded) ∙ returned))
