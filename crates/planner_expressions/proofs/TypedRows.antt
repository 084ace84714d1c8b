-- What has no fault and has literals that fit becomes an expression that has the type of its sort.
use Rattle.std.proofs.Common.{rules, ◌≡◌, ℕ, Bool, true, false, ◌&&◌, List, [], ◌∷◌, ◌++◌, map, Option, Some, None, option_map, option_to_list, unwrap_or, Result, Ok, Err, refl, ap, subst, sym, ◌∙◌}
use Rattle.std.specs.List.{list_all}
use Rattle.meaning.specs.Results.{all_ok, and_then, with_result}
use Rattle.meaning.specs.Typing as type
use Rattle.meaning.specs.Typing.{ExprType, Valued, Boolean, RowTypes, Typing, is_column_type, is_valued, has_type, arm_types}
use Rattle.meaning.specs.declared.expr.Arm as plan_arm
use Rattle.meaning.specs.declared.expr.Expr as plan
use Rattle.meaning.specs.declared.expr.Expr.TheVariants as expr
use Rattle.meaning.specs.declared.value.ColType.{ColType}
use Rattle.meaning.specs.declared.value.ColType.TheVariants as of_type
use Rattle.meaning.specs.declared.value.Value.TheVariants as value
use Rattle.meaning.proofs.Tests.{first_of as left_of, second_of as right_of, both, or_second, all_first, all_rest, all_filter, or_first}
use Rattle.sql_syntax.specs.declared.tree.Arm.{Arm}
use Rattle.sql_syntax.specs.declared.tree.Expr.{Expr}
use Rattle.sql_syntax.specs.declared.tree.Expr.TheOpen as node
use Rattle.sql_syntax.specs.declared.tree.Expr.TheOpen.{Expr-F, Arm-F}
use Rattle.sql_syntax.specs.declared.tree.Expr.TheFolds.{the_lemmas, ind-Expr, map-Expr, fold-roll-Expr, fold-roll-Arm}
use Rattle.sql_syntax.specs.declared.tree.Expr.TheViews.{roll-Expr, out-Expr}
use Rattle.sql_syntax.specs.Literals.{all_true, fitting_node, fitting_pair, has_fitting_literals, arm_has_fitting_literals}
use Rattle.planner_expressions.specs.declared.basis.Basis.TheVariants.{Rows}
use Rattle.planner_expressions.specs.declared.fault.PlanFault.{PlanFault}
use Rattle.planner_expressions.specs.declared.scope.ScopeColumn.{ScopeColumn}
use Rattle.planner_expressions.specs.declared.scope.Scope.{Scope}
use Rattle.planner_expressions.specs.declared.sort.Sort.{Sort}
use Rattle.planner_expressions.specs.declared.sort.Sort.TheVariants.{Integer, Text, Truth}
use Rattle.planner_expressions.specs.Given.{node_column, given_in, column_expr, column_in}
use Rattle.planner_expressions.specs.Judged.{Returned, Judgement, judge_node, judge_arm, judged, judged_arm, two, typed, each, each_arm, arm_sorts, else_sort, case_sort}
use Rattle.planner_expressions.specs.Results.{map_ok}
use Rattle.planner_expressions.specs.Scope.{is_meant, meant, one_of, stands_for, found}
use Rattle.planner_expressions.specs.Sorts.{sort_of_type, same_sort, is_value, are_alike, first_of, results}
use Rattle.planner_expressions.specs.Translated.{Made, made, translated, all_some, arm_of}
use Rattle.planner_expressions.specs.Typed.{type_of_sort, types_in, has_its_type, columns_have_types, RowsAreTyped}
use Rattle.planner_expressions.proofs.Accepted.{goes_there}
use Rattle.planner_expressions.proofs.HasTypes.{has-Column, has-Joined, has-Literal, has-Minus, has-Arithmetic, has-Compare, has-Not, has-And, has-Or, has-IsNull, has-Between, has-In, has-Like, has-Coalesce, has-Case, arm_types-record}
use Rattle.planner_expressions.proofs.Meaning.{one_there, two_there, three_there}
use Rattle.planner_expressions.proofs.Replaced.{parts_give, at_node}
use Rattle.planner_expressions.proofs.Impossible.{not_none}

-- ---- results that are there

pub typed_is : (test : Bool) (k z : Sort) → typed test k ≡ Ok z → (test ≡ true) × (k ≡ z)
typed_is true k z is = (refl, cc)
typed_is false k z is = absurd cc

pub same_is : (a b : Sort) → same_sort a b ≡ true → a ≡ b
same_is Integer Integer is = refl
same_is Integer Text is = absurd cc
same_is Integer Truth is = absurd cc
same_is Text Integer is = absurd cc
same_is Text Text is = refl
same_is Text Truth is = absurd cc
same_is Truth Integer is = absurd cc
same_is Truth Text is = absurd cc
same_is Truth Truth is = refl

pub both_sorts : (a b : Returned) (k : Sort → Sort → Returned) (z : Sort) → two a b k ≡ Ok z → (x : Sort) × ((y : Sort) × (a ≡ Ok x) × (b ≡ Ok y) × (k x y ≡ Ok z))
both_sorts a b k z is =
    let first = goes_there a (λ x. and_then b (λ y. k x y)) z is in
    let second = goes_there b (λ y. k first.0 y) z first.2 in
    (first.0, (second.0, first.1, second.1, second.2))

pub front : {X : Type 0} (r : Result X PlanFault) (rs : Result (List X) PlanFault) (zs : List X) → with_result r rs ≡ Ok zs
    → (x : X) × ((xs : List X) × (r ≡ Ok x) × (rs ≡ Ok xs) × (zs ≡ x ∷ xs))
front (Err e) rs zs is = absurd cc
front (Ok x) (Err e) zs is = absurd cc
front (Ok x) (Ok xs) zs is = (x, (xs, refl, refl, cc))

pub some_there : (r : Returned) (o : Option Sort) → map_ok (λ (x : Sort). Some x) r ≡ Ok o → (x : Sort) × (r ≡ Ok x) × (o ≡ Some x)
some_there (Err f) o is = absurd cc
some_there (Ok x) o is = (x, refl, cc)

-- ---- sorts that are alike

value_alike : (x : Sort) → is_value x ≡ true → are_alike (x ∷ []) ≡ true
value_alike Integer is = refl
value_alike Text is = refl
value_alike Truth is = absurd cc

itself : (x : Sort) → same_sort x x ≡ true
itself Integer = refl
itself Text = refl
itself Truth = refl

alike_first : (zs : List Sort) → are_alike zs ≡ true → (is_value (first_of zs) ≡ true) × (list_all (same_sort (first_of zs)) zs ≡ true)
alike_first [] is = (refl, refl)
alike_first (z ∷ zs) is = (left_of (is_value z) (list_all (same_sort z) zs) is, both (same_sort z z) (list_all (same_sort z) zs) (itself z) (right_of (is_value z) (list_all (same_sort z) zs) is))

value_valued : (k : Sort) → is_value k ≡ true → is_valued (type_of_sort k) ≡ true
value_valued Integer is = refl
value_valued Text is = refl
value_valued Truth is = absurd cc

module _ (types : RowTypes) where
  abbrev pub Has : plan.Expr → Sort → Type 0
  Has x z = has_type types x (type_of_sort z) ≡ true

  abbrev has : plan.Expr → Typing
  has = has_type types

  as_is : (x y : plan.Expr) (z k : Sort) → x ≡ y → k ≡ z → Has y k → Has x z
  as_is x y z k x_is z_is there = subst (λ (w : plan.Expr). Has w z) (sym x_is) (subst (λ (l : Sort). Has y l) z_is there)

  of_sort : (x : plan.Expr) (k z : Sort) → same_sort k z ≡ true → Has x z → Has x k
  of_sort x k z same there = subst (λ (l : Sort). Has x l) (sym (same_is k z same)) there

  abbrev Each : List plan.Expr → List Sort → Type 0
  Each [] [] = Unit {0}
  Each [] (z ∷ zs) = ⊥
  Each (x ∷ xs) [] = ⊥
  Each (x ∷ xs) (z ∷ zs) = Has x z × Each xs zs

  all_of : (k : Sort) (xs : List plan.Expr) (zs : List Sort) → Each xs zs → list_all (same_sort k) zs ≡ true
      → list_all (λ (part : Typing). part (type_of_sort k)) (map has xs) ≡ true
  all_of k [] [] each same = refl
  all_of k [] (z ∷ zs) each same = absurd each
  all_of k (x ∷ xs) [] each same = absurd each
  all_of k (x ∷ xs) (z ∷ zs) each same =
      both (has x (type_of_sort k)) (list_all (λ (part : Typing). part (type_of_sort k)) (map has xs))
      (of_sort x k z (all_first (same_sort k) z zs same) each.0) (all_of k xs zs each.1 (all_rest (same_sort k) z zs same))

  either : (k : Sort) (parts : List Typing) → is_value k ≡ true → list_all (λ (part : Typing). part (type_of_sort k)) parts ≡ true → type.are_alike parts ≡ true
  either Integer parts is all = or_first (list_all (λ (part : Typing). part (Valued of_type.Int)) parts) (list_all (λ (part : Typing). part (Valued of_type.Text)) parts) all
  either Text parts is all = or_second (list_all (λ (part : Typing). part (Valued of_type.Int)) parts) (list_all (λ (part : Typing). part (Valued of_type.Text)) parts) all
  either Truth parts is all = absurd cc

  all_alike : (xs : List plan.Expr) (zs : List Sort) → Each xs zs → are_alike zs ≡ true → type.are_alike (map has xs) ≡ true
  all_alike xs zs each alike =
      let first = alike_first zs alike in
      either (first_of zs) (map has xs) first.0 (all_of (first_of zs) xs zs each first.1)

  abbrev EachArm : List plan_arm.Arm → List (Sort × Sort) → Type 0
  EachArm [] [] = Unit {0}
  EachArm [] (p ∷ ps) = ⊥
  EachArm (x ∷ xs) [] = ⊥
  EachArm (x ∷ xs) (p ∷ ps) = (((arm_types types x).0 (type_of_sort p.0) ≡ true) × ((arm_types types x).1 (type_of_sort p.1) ≡ true)) × EachArm xs ps

  abbrev arm_fits : ExprType → Typing × Typing → Bool
  arm_fits t arm = arm.0 Boolean && arm.1 t

  arms_of : (k : Sort) (xs : List plan_arm.Arm) (ps : List (Sort × Sort)) (rest : List Sort) → EachArm xs ps
      → list_all (λ (arm : Sort × Sort). same_sort Truth arm.0) ps ≡ true → list_all (same_sort k) (map (λ (arm : Sort × Sort). arm.1) ps ++ rest) ≡ true
      → (list_all (λ (arm : Typing × Typing). arm.0 Boolean && arm.1 (type_of_sort k)) (map (arm_types types) xs) ≡ true) × (list_all (same_sort k) rest ≡ true)
  arms_of k [] [] rest each truths same = (refl, same)
  arms_of k [] (p ∷ ps) rest each truths same = absurd each
  arms_of k (x ∷ xs) [] rest each truths same = absurd each
  arms_of k (x ∷ xs) (p ∷ ps) rest each truths same =
      let more = arms_of k xs ps rest each.1 (all_rest (λ (arm : Sort × Sort). same_sort Truth arm.0) p ps truths) (all_rest (same_sort k) p.1 (map (λ (arm : Sort × Sort). arm.1) ps ++ rest) same) in
      let truth = same_is Truth p.0 (all_first (λ (arm : Sort × Sort). same_sort Truth arm.0) p ps truths) in
      let kind = same_is k p.1 (all_first (same_sort k) p.1 (map (λ (arm : Sort × Sort). arm.1) ps ++ rest) same) in
      let here = both ((arm_types types x).0 Boolean) ((arm_types types x).1 (type_of_sort k))
      (subst (λ (l : Sort). (arm_types types x).0 (type_of_sort l) ≡ true) (sym truth) each.0.0)
      (subst (λ (l : Sort). (arm_types types x).1 (type_of_sort l) ≡ true) (sym kind) each.0.1) in
      (both (arm_fits (type_of_sort k) (arm_types types x)) (list_all (arm_fits (type_of_sort k)) (map (arm_types types) xs)) here more.0, more.1)

  null_fits : (k : Sort) → is_value k ≡ true → Has (expr.Literal value.Null) k
  null_fits Integer is = has-Literal types value.Null (Valued of_type.Int)
  null_fits Text is = has-Literal types value.Null (Valued of_type.Text)
  null_fits Truth is = absurd cc

-- ---- trees

module _ (s : Scope) (types : RowTypes) (given : Expr → Option plan.Expr) (barred : Bool)
    (given_typed : (e : Expr) (x : plan.Expr) (z : Sort) → given e ≡ Some x → judged s e barred ≡ Ok z → Has types x z) where
  abbrev tr : Expr → Made
  tr = translated given

  abbrev some_given : Expr → Option Made
  some_given e = option_map (λ x. Some x) (given e)

  abbrev Typed : Expr → Type 0
  Typed e = (z : Sort) (x : plan.Expr) → has_fitting_literals e ≡ true → judged s e barred ≡ Ok z → tr e ≡ Some x → Has types x z

  abbrev TypedArm : Arm → Type 0
  TypedArm a = (p : Sort × Sort) (w t : plan.Expr) → arm_has_fitting_literals a ≡ true → arm_sorts barred (judged_arm s a) ≡ Ok p → tr a.condition ≡ Some w → tr a.value ≡ Some t
      → Has types w p.0 × Has types t p.1

  abbrev Typing_of : Type 0
  Typing_of = (e : Expr) × Typed e

  abbrev Arm_of : Type 0
  Arm_of = (a : Arm) × TypedArm a

  abbrev bare : Expr-F Typing_of Arm_of → Expr-F Expr Arm
  bare = map-Expr Typing_of Arm_of Expr Arm (λ e. e.0) (λ a. a.0)

  abbrev judge_at : Expr-F Expr Arm → Returned
  judge_at x = judge_node s (map-Expr Expr Arm Judgement (Judgement × Judgement) (judged s) (judged_arm s) x) barred

  abbrev fits_at : Expr-F Expr Arm → Bool
  fits_at x = fitting_node (map-Expr Expr Arm Bool Bool has_fitting_literals arm_has_fitting_literals x)

  abbrev made_of : Expr-F Expr Arm → Made
  made_of x = made (parts_give some_given made x)

  abbrev arm_tr : Arm → Made × Made
  arm_tr a = (tr a.condition, tr a.value)

  abbrev trees_of : List Typing_of → List Expr
  trees_of = map (λ (e : Typing_of). e.0)

  abbrev arms_in : List Arm_of → List Arm
  arms_in = map (λ (a : Arm_of). a.0)

  list_typed : (es : List Typing_of) (zs : List Sort) (xs : List plan.Expr) → all_true (map has_fitting_literals (trees_of es)) ≡ true
      → all_ok (each barred (map (judged s) (trees_of es))) ≡ Ok zs → all_some (map tr (trees_of es)) ≡ Some xs → Each types xs zs
  list_typed [] zs xs fits is there =
      let no_sorts : [] ≡ zs = cc in
      let none : [] ≡ xs = cc in
      subst (λ (ys : List plan.Expr). Each types ys zs) none (subst (λ (ks : List Sort). Each types [] ks) no_sorts tt)
  list_typed (e ∷ es) zs xs fits is there =
      let sorts = front (judged s e.0 barred) (all_ok (each barred (map (judged s) (trees_of es)))) zs is in
      let parts = two_there (λ (y : plan.Expr) (ys : List plan.Expr). y ∷ ys) (tr e.0) (all_some (map tr (trees_of es))) xs there in
      let here = e.1 sorts.0 parts.0 (all_first (λ (b : Bool). b) (has_fitting_literals e.0) (map has_fitting_literals (trees_of es)) fits) sorts.1.1 parts.1.1 in
      let rest = list_typed es sorts.1.0 parts.1.0 (all_rest (λ (b : Bool). b) (has_fitting_literals e.0) (map has_fitting_literals (trees_of es)) fits) sorts.1.2 parts.1.2 in
      subst (λ (ys : List plan.Expr). Each types ys zs) (sym parts.1.3)
      (subst (λ (ks : List Sort). Each types (parts.0 ∷ parts.1.0) ks) (sym sorts.1.3) (here, rest))

  arms_typed : (list : List Arm_of) (ps : List (Sort × Sort)) (xs : List plan_arm.Arm) → all_true (map arm_has_fitting_literals (arms_in list)) ≡ true
      → all_ok (each_arm barred (map (judged_arm s) (arms_in list))) ≡ Ok ps → all_some (map arm_of (map arm_tr (arms_in list))) ≡ Some xs → EachArm types xs ps
  arms_typed [] ps xs fits is there =
      let no_sorts : [] ≡ ps = cc in
      let none : [] ≡ xs = cc in
      subst (λ (ys : List plan_arm.Arm). EachArm types ys ps) none (subst (λ (ks : List (Sort × Sort)). EachArm types [] ks) no_sorts tt)
  arms_typed (a ∷ list) ps xs fits is there =
      let sorts = front (arm_sorts barred (judged_arm s a.0)) (all_ok (each_arm barred (map (judged_arm s) (arms_in list)))) ps is in
      let parts = two_there (λ (y : plan_arm.Arm) (ys : List plan_arm.Arm). y ∷ ys) (arm_of (arm_tr a.0)) (all_some (map arm_of (map arm_tr (arms_in list)))) xs there in
      let made_arm = two_there (λ (c v : plan.Expr). record { when = c; then = v }) (tr a.0.condition) (tr a.0.value) parts.0 parts.1.1 in
      let here = a.1 sorts.0 made_arm.0 made_arm.1.0 (all_first (λ (b : Bool). b) (arm_has_fitting_literals a.0) (map arm_has_fitting_literals (arms_in list)) fits) sorts.1.1 made_arm.1.1 made_arm.1.2 in
      let its_types : arm_types types parts.0 ≡ (has_type types made_arm.0, has_type types made_arm.1.0) = ap (arm_types types) made_arm.1.3 ∙ arm_types-record types made_arm.0 made_arm.1.0 in
      let rest = arms_typed list sorts.1.0 parts.1.0 (all_rest (λ (b : Bool). b) (arm_has_fitting_literals a.0) (map arm_has_fitting_literals (arms_in list)) fits) sorts.1.2 parts.1.2 in
      let first : ((arm_types types parts.0).0 (type_of_sort sorts.0.0) ≡ true) × ((arm_types types parts.0).1 (type_of_sort sorts.0.1) ≡ true) = (ap (λ (t : Typing × Typing). t.0 (type_of_sort sorts.0.0)) its_types ∙ here.0, ap (λ (t : Typing × Typing). t.1 (type_of_sort sorts.0.1)) its_types ∙ here.1) in
      subst (λ (ys : List plan_arm.Arm). EachArm types ys ps) (sym parts.1.3)
      (subst (λ (ks : List (Sort × Sort)). EachArm types (parts.0 ∷ parts.1.0) ks) (sym sorts.1.3) (first, rest))

  -- a CASE whose arms and last value have their types
  case_typed : (xs : List plan_arm.Arm) (y : plan.Expr) (ps : List (Sort × Sort)) (o : Option Sort) (z : Sort) → EachArm types xs ps → case_sort ps o ≡ Ok z
      → ((k : Sort) → is_value k ≡ true → list_all (same_sort k) (option_to_list o) ≡ true → Has types y k) → Has types (expr.Case xs y) z
  case_typed xs y ps o z each is last =
      let t = typed_is (list_all (λ (arm : Sort × Sort). same_sort Truth arm.0) ps && are_alike (results ps o)) (first_of (results ps o)) z is in
      let truths = left_of (list_all (λ (arm : Sort × Sort). same_sort Truth arm.0) ps) (are_alike (results ps o)) t.0 in
      let first = alike_first (results ps o) (right_of (list_all (λ (arm : Sort × Sort). same_sort Truth arm.0) ps) (are_alike (results ps o)) t.0) in
      let k = first_of (results ps o) in
      let arms = arms_of types k xs ps (option_to_list o) each truths first.1 in
      as_is types (expr.Case xs y) (expr.Case xs y) z k refl t.1
      (has-Case types xs y (type_of_sort k)
      ∙ both (is_valued (type_of_sort k)) _ (value_valued k first.0)
      (both (list_all (λ (arm : Typing × Typing). arm.0 Boolean && arm.1 (type_of_sort k)) (map (arm_types types) xs)) (has_type types y (type_of_sort k)) arms.0 (last k first.0 arms.1)))

  -- a node from its parts
  node_typed : (y : Expr-F Typing_of Arm_of) (z : Sort) (x : plan.Expr) → fits_at (bare y) ≡ true → judge_at (bare y) ≡ Ok z → made_of (bare y) ≡ Some x → Has types x z
  node_typed (node.Column table name) z x fits is there = not_none x there
  node_typed node.CountRows z x fits is there = not_none x there
  node_typed (node.Aggregate kind a) z x fits is there = not_none x there
  node_typed (node.Integer n) z x fits is there =
      let same : x ≡ expr.Literal (value.Int n) = cc in
      let sort : Integer ≡ z = cc in
      as_is types x (expr.Literal (value.Int n)) z Integer same sort (has-Literal types (value.Int n) (Valued of_type.Int) ∙ fits)
  node_typed (node.Text t) z x fits is there =
      let same : x ≡ expr.Literal (value.Text t) = cc in
      let sort : Text ≡ z = cc in
      as_is types x (expr.Literal (value.Text t)) z Text same sort (has-Literal types (value.Text t) (Valued of_type.Text) ∙ fits)
  node_typed (node.Minus a) z x fits is there =
      let p = one_there (λ (w : plan.Expr). expr.Minus w) (tr a.0) x there in
      let j = goes_there (judged s a.0 barred) (λ k. typed (same_sort Integer k) Integer) z is in
      let t = typed_is (same_sort Integer j.0) Integer z j.2 in
      as_is types x (expr.Minus p.0) z Integer p.2 t.1 (has-Minus types p.0 (Valued of_type.Int) ∙ of_sort types p.0 Integer j.0 t.0 (a.1 j.0 p.0 fits j.1 p.1))
  node_typed (node.Arithmetic op a b) z x fits is there =
      let p = two_there (λ (v w : plan.Expr). expr.Arithmetic op v w) (tr a.0) (tr b.0) x there in
      let j = both_sorts (judged s a.0 barred) (judged s b.0 barred) (λ k l. typed (same_sort Integer k && same_sort Integer l) Integer) z is in
      let t = typed_is (same_sort Integer j.0 && same_sort Integer j.1.0) Integer z j.1.3 in
      let first = of_sort types p.0 Integer j.0 (left_of (same_sort Integer j.0) (same_sort Integer j.1.0) t.0) (a.1 j.0 p.0 (left_of (has_fitting_literals a.0) (has_fitting_literals b.0) fits) j.1.1 p.1.1) in
      let second = of_sort types p.1.0 Integer j.1.0 (right_of (same_sort Integer j.0) (same_sort Integer j.1.0) t.0) (b.1 j.1.0 p.1.0 (right_of (has_fitting_literals a.0) (has_fitting_literals b.0) fits) j.1.2 p.1.2) in
      as_is types x (expr.Arithmetic op p.0 p.1.0) z Integer p.1.3 t.1
      (has-Arithmetic types op p.0 p.1.0 (Valued of_type.Int) ∙ both (has_type types p.0 (Valued of_type.Int)) (has_type types p.1.0 (Valued of_type.Int)) first second)
  node_typed (node.Compare op a b) z x fits is there =
      let p = two_there (λ (v w : plan.Expr). expr.Compare op v w) (tr a.0) (tr b.0) x there in
      let j = both_sorts (judged s a.0 barred) (judged s b.0 barred) (λ k l. typed (are_alike (k ∷ l ∷ [])) Truth) z is in
      let t = typed_is (are_alike (j.0 ∷ j.1.0 ∷ [])) Truth z j.1.3 in
      let first = a.1 j.0 p.0 (left_of (has_fitting_literals a.0) (has_fitting_literals b.0) fits) j.1.1 p.1.1 in
      let second = b.1 j.1.0 p.1.0 (right_of (has_fitting_literals a.0) (has_fitting_literals b.0) fits) j.1.2 p.1.2 in
      as_is types x (expr.Compare op p.0 p.1.0) z Truth p.1.3 t.1
      (has-Compare types op p.0 p.1.0 Boolean ∙ all_alike types (p.0 ∷ p.1.0 ∷ []) (j.0 ∷ j.1.0 ∷ []) (first, (second, tt)) t.0)
  node_typed (node.Not a) z x fits is there =
      let p = one_there (λ (w : plan.Expr). expr.Not w) (tr a.0) x there in
      let j = goes_there (judged s a.0 barred) (λ k. typed (same_sort Truth k) Truth) z is in
      let t = typed_is (same_sort Truth j.0) Truth z j.2 in
      as_is types x (expr.Not p.0) z Truth p.2 t.1 (has-Not types p.0 Boolean ∙ of_sort types p.0 Truth j.0 t.0 (a.1 j.0 p.0 fits j.1 p.1))
  node_typed (node.And a b) z x fits is there =
      let p = two_there (λ (v w : plan.Expr). expr.And v w) (tr a.0) (tr b.0) x there in
      let j = both_sorts (judged s a.0 barred) (judged s b.0 barred) (λ k l. typed (same_sort Truth k && same_sort Truth l) Truth) z is in
      let t = typed_is (same_sort Truth j.0 && same_sort Truth j.1.0) Truth z j.1.3 in
      let first = of_sort types p.0 Truth j.0 (left_of (same_sort Truth j.0) (same_sort Truth j.1.0) t.0) (a.1 j.0 p.0 (left_of (has_fitting_literals a.0) (has_fitting_literals b.0) fits) j.1.1 p.1.1) in
      let second = of_sort types p.1.0 Truth j.1.0 (right_of (same_sort Truth j.0) (same_sort Truth j.1.0) t.0) (b.1 j.1.0 p.1.0 (right_of (has_fitting_literals a.0) (has_fitting_literals b.0) fits) j.1.2 p.1.2) in
      as_is types x (expr.And p.0 p.1.0) z Truth p.1.3 t.1 (has-And types p.0 p.1.0 Boolean ∙ both (has_type types p.0 Boolean) (has_type types p.1.0 Boolean) first second)
  node_typed (node.Or a b) z x fits is there =
      let p = two_there (λ (v w : plan.Expr). expr.Or v w) (tr a.0) (tr b.0) x there in
      let j = both_sorts (judged s a.0 barred) (judged s b.0 barred) (λ k l. typed (same_sort Truth k && same_sort Truth l) Truth) z is in
      let t = typed_is (same_sort Truth j.0 && same_sort Truth j.1.0) Truth z j.1.3 in
      let first = of_sort types p.0 Truth j.0 (left_of (same_sort Truth j.0) (same_sort Truth j.1.0) t.0) (a.1 j.0 p.0 (left_of (has_fitting_literals a.0) (has_fitting_literals b.0) fits) j.1.1 p.1.1) in
      let second = of_sort types p.1.0 Truth j.1.0 (right_of (same_sort Truth j.0) (same_sort Truth j.1.0) t.0) (b.1 j.1.0 p.1.0 (right_of (has_fitting_literals a.0) (has_fitting_literals b.0) fits) j.1.2 p.1.2) in
      as_is types x (expr.Or p.0 p.1.0) z Truth p.1.3 t.1 (has-Or types p.0 p.1.0 Boolean ∙ both (has_type types p.0 Boolean) (has_type types p.1.0 Boolean) first second)
  node_typed (node.IsNull negated a) z x fits is there =
      let p = one_there (λ (w : plan.Expr). expr.IsNull negated w) (tr a.0) x there in
      let j = goes_there (judged s a.0 barred) (λ k. typed (is_value k) Truth) z is in
      let t = typed_is (is_value j.0) Truth z j.2 in
      as_is types x (expr.IsNull negated p.0) z Truth p.2 t.1
      (has-IsNull types negated p.0 Boolean ∙ all_alike types (p.0 ∷ []) (j.0 ∷ []) (a.1 j.0 p.0 fits j.1 p.1, tt) (value_alike j.0 t.0))
  node_typed (node.Between negated a low high) z x fits is there =
      let p = three_there (λ (u v w : plan.Expr). expr.Between negated u v w) (tr a.0) (tr low.0) (tr high.0) x there in
      let j = goes_there (judged s a.0 barred) (λ k. two (judged s low.0 barred) (judged s high.0 barred) (λ l m. typed (are_alike (k ∷ l ∷ m ∷ [])) Truth)) z is in
      let b = both_sorts (judged s low.0 barred) (judged s high.0 barred) (λ l m. typed (are_alike (j.0 ∷ l ∷ m ∷ [])) Truth) z j.2 in
      let t = typed_is (are_alike (j.0 ∷ b.0 ∷ b.1.0 ∷ [])) Truth z b.1.3 in
      let bounds = right_of (has_fitting_literals a.0) (has_fitting_literals low.0 && has_fitting_literals high.0) fits in
      let first = a.1 j.0 p.0 (left_of (has_fitting_literals a.0) (has_fitting_literals low.0 && has_fitting_literals high.0) fits) j.1 p.1.1.1 in
      let second = low.1 b.0 p.1.0 (left_of (has_fitting_literals low.0) (has_fitting_literals high.0) bounds) b.1.1 p.1.1.2 in
      let third = high.1 b.1.0 p.1.1.0 (right_of (has_fitting_literals low.0) (has_fitting_literals high.0) bounds) b.1.2 p.1.1.3 in
      as_is types x (expr.Between negated p.0 p.1.0 p.1.1.0) z Truth p.1.1.4 t.1
      (has-Between types negated p.0 p.1.0 p.1.1.0 Boolean ∙ all_alike types (p.0 ∷ p.1.0 ∷ p.1.1.0 ∷ []) (j.0 ∷ b.0 ∷ b.1.0 ∷ []) (first, (second, (third, tt))) t.0)
  node_typed (node.In negated a entries) z x fits is there =
      let p = two_there (λ (y : plan.Expr) (ys : List plan.Expr). expr.In negated y ys) (tr a.0) (all_some (map tr (trees_of entries))) x there in
      let j = goes_there (judged s a.0 barred) (λ k. and_then (all_ok (each barred (map (judged s) (trees_of entries)))) (λ ks. typed (are_alike (k ∷ ks)) Truth)) z is in
      let l = goes_there (all_ok (each barred (map (judged s) (trees_of entries)))) (λ ks. typed (are_alike (j.0 ∷ ks)) Truth) z j.2 in
      let t = typed_is (are_alike (j.0 ∷ l.0)) Truth z l.2 in
      let first = a.1 j.0 p.0 (left_of (has_fitting_literals a.0) (all_true (map has_fitting_literals (trees_of entries))) fits) j.1 p.1.1 in
      let rest = list_typed entries l.0 p.1.0 (right_of (has_fitting_literals a.0) (all_true (map has_fitting_literals (trees_of entries))) fits) l.1 p.1.2 in
      as_is types x (expr.In negated p.0 p.1.0) z Truth p.1.3 t.1 (has-In types negated p.0 p.1.0 Boolean ∙ all_alike types (p.0 ∷ p.1.0) (j.0 ∷ l.0) (first, rest) t.0)
  node_typed (node.Like negated a pattern) z x fits is there =
      let p = one_there (λ (w : plan.Expr). expr.Like negated w pattern) (tr a.0) x there in
      let j = goes_there (judged s a.0 barred) (λ k. typed (same_sort Text k) Truth) z is in
      let t = typed_is (same_sort Text j.0) Truth z j.2 in
      as_is types x (expr.Like negated p.0 pattern) z Truth p.2 t.1 (has-Like types negated p.0 pattern Boolean ∙ of_sort types p.0 Text j.0 t.0 (a.1 j.0 p.0 fits j.1 p.1))
  node_typed (node.Coalesce entries) z x fits is there =
      let p = one_there (λ (ys : List plan.Expr). expr.Coalesce ys) (all_some (map tr (trees_of entries))) x there in
      let l = goes_there (all_ok (each barred (map (judged s) (trees_of entries)))) (λ ks. typed (are_alike ks) (first_of ks)) z is in
      let t = typed_is (are_alike l.0) (first_of l.0) z l.2 in
      let first = alike_first l.0 t.0 in
      let all = list_typed entries l.0 p.0 fits l.1 p.1 in
      as_is types x (expr.Coalesce p.0) z (first_of l.0) p.2 t.1
      (has-Coalesce types p.0 (type_of_sort (first_of l.0))
      ∙ both (is_valued (type_of_sort (first_of l.0))) _ (value_valued (first_of l.0) first.0) (all_of types (first_of l.0) p.0 l.0 all first.1))
  node_typed (node.Case arms None) z x fits is there =
      let p = two_there (λ (ys : List plan_arm.Arm) (y : plan.Expr). expr.Case ys y) (all_some (map arm_of (map arm_tr (arms_in arms)))) (Some (expr.Literal value.Null)) x there in
      let l = goes_there (all_ok (each_arm barred (map (judged_arm s) (arms_in arms)))) (λ ps. and_then (else_sort barred None) (case_sort ps)) z is in
      let null : p.1.0 ≡ expr.Literal value.Null = cc in
      let all = arms_typed arms l.0 p.0 (left_of (all_true (map arm_has_fitting_literals (arms_in arms))) true fits) l.1 p.1.1 in
      as_is types x (expr.Case p.0 p.1.0) z z p.1.3 refl
      (case_typed p.0 p.1.0 l.0 None z all l.2 (λ k value same. subst (λ (w : plan.Expr). Has types w k) (sym null) (null_fits types k value)))
  node_typed (node.Case arms (Some e)) z x fits is there =
      let p = two_there (λ (ys : List plan_arm.Arm) (y : plan.Expr). expr.Case ys y) (all_some (map arm_of (map arm_tr (arms_in arms)))) (tr e.0) x there in
      let l = goes_there (all_ok (each_arm barred (map (judged_arm s) (arms_in arms)))) (λ ps. and_then (else_sort barred (Some (judged s e.0))) (case_sort ps)) z is in
      let o = goes_there (else_sort barred (Some (judged s e.0))) (case_sort l.0) z l.2 in
      let v = some_there (judged s e.0 barred) o.0 o.1 in
      let all = arms_typed arms l.0 p.0 (left_of (all_true (map arm_has_fitting_literals (arms_in arms))) (has_fitting_literals e.0) fits) l.1 p.1.1 in
      let last = e.1 v.0 p.1.0 (right_of (all_true (map arm_has_fitting_literals (arms_in arms))) (has_fitting_literals e.0) fits) v.1 p.1.2 in
      as_is types x (expr.Case p.0 p.1.0) z z p.1.3 refl
      (case_typed p.0 p.1.0 l.0 (Some v.0) z all (subst (λ (w : Option Sort). case_sort l.0 w ≡ Ok z) v.2 o.2)
      (λ k value same. of_sort types p.1.0 k v.0 (all_first (same_sort k) v.0 [] same) last))

  -- a node that is given, or isn't
  either_typed : (y : Expr-F Typing_of Arm_of) (g : Option plan.Expr) (z : Sort) (x : plan.Expr) → ((w : plan.Expr) → g ≡ Some w → Has types w z)
      → fits_at (bare y) ≡ true → judge_at (bare y) ≡ Ok z → unwrap_or (option_map (λ w. Some w) g) (made_of (bare y)) ≡ Some x → Has types x z
  either_typed y (Some w) z x known fits is there = let same : x ≡ w = cc in subst (λ (v : plan.Expr). Has types v z) (sym same) (known w refl)
  either_typed y None z x known fits is there = node_typed y z x fits is there

  judged_at : (x : Expr-F Expr Arm) → judged s (roll-Expr x) barred ≡ judge_at x
  judged_at x = ap (λ (j : Judgement). j barred) (fold-roll-Expr Judgement (Judgement × Judgement) (judge_node s) judge_arm x)

  abbrev Typed_at : Expr-F Expr Arm → Type 0
  Typed_at v = (z : Sort) (x : plan.Expr) → fits_at v ≡ true → judge_at v ≡ Ok z → unwrap_or (some_given (roll-Expr v)) (made_of v) ≡ Some x → Has types x z

  any_typed : (y : Expr-F Typing_of Arm_of) → Typed_at (bare y)
  any_typed y z x fits is there =
      either_typed y (given (roll-Expr (bare y))) z x (λ w g. given_typed (roll-Expr (bare y)) w z g (judged_at (bare y) ∙ is)) fits is there

  abbrev Arm_at : Arm-F Expr Arm → Type 0
  Arm_at v = (p : Sort × Sort) (w t : plan.Expr) → (has_fitting_literals v.condition && has_fitting_literals v.value) ≡ true → arm_sorts barred (judged s v.condition, judged s v.value) ≡ Ok p
      → tr v.condition ≡ Some w → tr v.value ≡ Some t → Has types w p.0 × Has types t p.1

  pair_is : (c v : Sort) (p : Sort × Sort) → ◌≡◌ {A = Result (Sort × Sort) PlanFault} (Ok (c, v)) (Ok p) → (c, v) ≡ p
  pair_is c v p is = cc

  any_arm : (y : Arm-F Typing_of Arm_of) (p : Sort × Sort) (w t : plan.Expr) → (has_fitting_literals y.condition.0 && has_fitting_literals y.value.0) ≡ true
      → arm_sorts barred (judged s y.condition.0, judged s y.value.0) ≡ Ok p
      → tr y.condition.0 ≡ Some w → tr y.value.0 ≡ Some t → Has types w p.0 × Has types t p.1
  any_arm y p w t fits is when_is then_is =
      let first = goes_there (judged s y.condition.0 barred) (λ c. and_then (judged s y.value.0 barred) (λ v. Ok (c, v))) p is in
      let second = goes_there (judged s y.value.0 barred) (λ v. Ok (first.0, v)) p first.2 in
      subst (λ (q : Sort × Sort). Has types w q.0 × Has types t q.1) (pair_is first.0 second.0 p second.2) (
        y.condition.1 first.0 w (left_of (has_fitting_literals y.condition.0) (has_fitting_literals y.value.0) fits) first.1 when_is,
        y.value.1 second.0 t (right_of (has_fitting_literals y.condition.0) (has_fitting_literals y.value.0) fits) second.1 then_is,
      )

  pub all_typed : (e : Expr) → Typed e
  all_typed = ind-Expr Typed TypedArm
      (λ v y is z x fits returned there.
      subst Typed_at is (any_typed y) z x (sym (fold-roll-Expr Bool Bool fitting_node fitting_pair v) ∙ fits) (sym (judged_at v) ∙ returned) (sym (at_node some_given made v) ∙ there))
      (λ v y is p w t fits returned when_is then_is.
      subst Arm_at is (any_arm y) p w t (sym (fold-roll-Arm Bool Bool fitting_node fitting_pair v) ∙ fits)
      (sym (ap (arm_sorts barred) (fold-roll-Arm Judgement (Judgement × Judgement) (judge_node s) judge_arm v)) ∙ returned) when_is then_is)

-- ---- rows

module _ (types : RowTypes) (s : Scope) (typed_columns : columns_have_types types s ≡ true) where
  column_typed : (p : ScopeColumn) (join : Option ℕ) → is_column_type (Rattle.std.specs.Prelude.slice_get (types_in types join) p.column) (Valued p.col_type) ≡ true
      → has_type types (column_in join p.column) (Valued p.col_type) ≡ true
  column_typed p None is = has-Column types p.column (Valued p.col_type) ∙ is
  column_typed p (Some j) is = has-Joined types j p.column (Valued p.col_type) ∙ is

  kind_of_type : (kind : ColType) → type_of_sort (sort_of_type kind) ≡ Valued kind
  kind_of_type of_type.Int = refl
  kind_of_type of_type.Text = refl

  the_one : (ps : List ScopeColumn) (p : ScopeColumn) (x : plan.Expr) (z : Sort) → list_all (has_its_type types) ps ≡ true → found (one_of ps) ≡ Some p → column_expr p ≡ x
      → and_then (one_of ps) (λ q. Ok (sort_of_type q.col_type)) ≡ Ok z → Has types x z
  the_one [] p x z all is x_is returned = absurd cc
  the_one (q ∷ []) p x z all is x_is returned =
      let same : q ≡ p = cc in
      let sort : sort_of_type q.col_type ≡ z = cc in
      let there = column_typed q q.join (all_first (has_its_type types) q [] all) in
      as_is types x (column_expr q) z (sort_of_type q.col_type) (sym x_is ∙ sym (ap column_expr same)) sort
      (ap (has_type types (column_expr q)) (kind_of_type q.col_type) ∙ there)
  the_one (q ∷ r ∷ ps) p x z all is x_is returned = absurd cc

  node_given : (v : Expr-F Expr Arm) (x : plan.Expr) (z : Sort) → option_map column_expr (node_column s v) ≡ Some x
      → judge_node s (map-Expr Expr Arm Judgement (Judgement × Judgement) (judged s) (judged_arm s) v) true ≡ Ok z → Has types x z
  node_given (node.Column table name) x z is returned =
      let p = one_there column_expr (stands_for s table name) x is in
      the_one (meant s table name) p.0 x z (all_filter (has_its_type types) (is_meant table name) s.columns typed_columns) p.1 (sym p.2) returned
  node_given _ x z is returned = not_none x is

  rows_given : (e : Expr) (x : plan.Expr) (z : Sort) → given_in s Rows e ≡ Some x → judged s e true ≡ Ok z → Has types x z
  rows_given e x z is returned = node_given (out-Expr e) x z is (sym (at_out e) ∙ returned)
    where
      at_out : (e : Expr) → judged s e true ≡ judge_node s (map-Expr Expr Arm Judgement (Judgement × Judgement) (judged s) (judged_arm s) (out-Expr e)) true
      at_out e = search (rules, the_lemmas)

pub rows_are_typed : RowsAreTyped
rows_are_typed types s e sort x columns fits is there = all_typed s types (given_in s Rows) true (rows_given types s columns) e sort x fits is there
