-- Where aggregates are allowed: the arguments of an expression's aggregates have no fault, and without aggregates it has none
-- where they are barred.
use Rattle.std.proofs.Common.{rules, ◌≡◌, Bool, true, false, List, [], ◌∷◌, ◌++◌, map, flat_map, Option, Some, None, Result, Ok, Err, refl, ap, ap₂, subst, sym, ◌∙◌}
use Rattle.std.proofs.lemmas.Grind.{flat_map-append}
use Rattle.meaning.specs.Results.{all_ok, and_then, with_result}
use Rattle.sql_syntax.specs.declared.tree.Arm.{Arm}
use Rattle.sql_syntax.specs.declared.tree.Expr.{Expr}
use Rattle.sql_syntax.specs.declared.tree.Expr.TheOpen as node
use Rattle.sql_syntax.specs.declared.tree.Expr.TheOpen.{Expr-F, Arm-F}
use Rattle.sql_syntax.specs.declared.tree.Expr.TheFolds.{the_lemmas, ind-Expr, map-Expr, fold-roll-Expr, fold-roll-Arm}
use Rattle.sql_syntax.specs.declared.tree.Expr.TheViews.{roll-Expr, out-Expr}
use Rattle.planner_expressions.specs.declared.fault.PlanFault.{PlanFault}
use Rattle.planner_expressions.specs.declared.scope.Scope.{Scope}
use Rattle.planner_expressions.specs.declared.sort.Sort.{Sort}
use Rattle.planner_expressions.specs.declared.sort.Sort.TheVariants.{Truth}
use Rattle.planner_expressions.specs.Sorts.{are_alike, first_of}
use Rattle.planner_expressions.specs.Results.{map_ok}
use Rattle.planner_expressions.specs.Judged.{Returned, Judgement, judge_node, judge_arm, judged, judged_arm, two, each, each_arm, arm_sorts, else_sort, over_part, typed, case_sort}
use Rattle.planner_expressions.proofs.Accepted.{goes_there, front_there}
use Rattle.planner_clauses.specs.Aggregates.{is_aggregate_node, is_aggregate, aggregates_in, arm_aggregates, arm_parts}
use Rattle.planner_clauses.proofs.Topmost.{of_parts, passes, below}
use Rattle.planner.specs.PlanOf.{argument_of, is_counted}

-- ---- lists of which nothing is

first_empty : {X : Type 0} (xs ys : List X) → xs ++ ys ≡ [] → xs ≡ []
first_empty [] ys is = refl
first_empty (x ∷ xs) ys is = absurd cc

second_empty : {X : Type 0} (xs ys : List X) → xs ++ ys ≡ [] → ys ≡ []
second_empty [] ys is = is
second_empty (x ∷ xs) ys is = absurd cc

some_there : (r : Returned) (o : Option Sort) → map_ok (λ (x : Sort). Some x) r ≡ Ok o → (x : Sort) × (r ≡ Ok x)
some_there (Err f) o is = absurd cc
some_there (Ok x) o is = (x, refl)

module _ (s : Scope) where
  abbrev IsCounted : Expr → Type 0
  IsCounted e = is_counted s e

  abbrev pub AreCounted : List Expr → Type 0
  AreCounted [] = Unit {0}
  AreCounted (e ∷ es) = IsCounted e × AreCounted es

  pub both_counted : (xs ys : List Expr) → AreCounted xs → AreCounted ys → AreCounted (xs ++ ys)
  both_counted [] ys counted rest = rest
  both_counted (x ∷ xs) ys counted rest = (counted.0, both_counted xs ys counted.1 rest)

  first_counted : (xs ys : List Expr) → AreCounted (xs ++ ys) → AreCounted xs
  first_counted [] ys all = tt
  first_counted (x ∷ xs) ys all = (all.0, first_counted xs ys all.1)

  second_counted : (xs ys : List Expr) → AreCounted (xs ++ ys) → AreCounted ys
  second_counted [] ys all = all
  second_counted (x ∷ xs) ys all = second_counted xs ys all.1

  both_empty : (xs ys : List Expr) → xs ≡ [] → ys ≡ [] → xs ++ (ys ++ []) ≡ []
  both_empty xs ys x_is y_is = ap₂ (λ (u v : List Expr). u ++ (v ++ [])) x_is y_is

  -- of these aggregates, and where there are none, barring them changes nothing
  abbrev Holds : List Expr → Returned → Sort → Type 0
  Holds counted barred z = AreCounted counted × (counted ≡ [] → barred ≡ Ok z)

  abbrev Judged : Expr → Type 0
  Judged e = (z : Sort) → judged s e false ≡ Ok z → Holds (aggregates_in e) (judged s e true) z

  abbrev pair_of : Arm → List Expr
  pair_of a = aggregates_in a.condition ++ (aggregates_in a.value ++ [])

  abbrev JudgedArm : Arm → Type 0
  JudgedArm a = (p : Sort × Sort) → arm_sorts false (judged_arm s a) ≡ Ok p → AreCounted (pair_of a) × (pair_of a ≡ [] → arm_sorts true (judged_arm s a) ≡ Ok p)

  abbrev Judging : Type 0
  Judging = (e : Expr) × Judged e

  abbrev JudgingArm : Type 0
  JudgingArm = (a : Arm) × JudgedArm a

  abbrev bare : Expr-F Judging JudgingArm → Expr-F Expr Arm
  bare = map-Expr Judging JudgingArm Expr Arm (λ e. e.0) (λ a. a.0)

  abbrev judge_at : Bool → Expr-F Expr Arm → Returned
  judge_at b x = judge_node s (map-Expr Expr Arm Judgement (Judgement × Judgement) (judged s) (judged_arm s) x) b

  rolled : (b : Bool) (x : Expr-F Expr Arm) → judged s (roll-Expr x) b ≡ judge_at b x
  rolled b x = ap (λ (j : Judgement). j b) (fold-roll-Expr Judgement (Judgement × Judgement) (judge_node s) judge_arm x)

  abbrev parts : Expr-F Expr Arm → List Expr
  parts = of_parts is_aggregate

  abbrev lists : List (List Expr) → List Expr
  lists = flat_map (λ part. part)

  -- ---- one part, and two

  one_holds : (a : Judging) (k : Sort → Returned) (z : Sort) → and_then (judged s a.0 false) k ≡ Ok z → Holds (aggregates_in a.0 ++ []) (and_then (judged s a.0 true) k) z
  one_holds a k z is =
      let part = goes_there (judged s a.0 false) k z is in
      let here = a.1 part.0 part.1 in (
        both_counted (aggregates_in a.0) [] here.0 tt,
        λ none. ap (λ (t : Returned). and_then t k) (here.1 (first_empty (aggregates_in a.0) [] none)) ∙ part.2,
      )

  two_hold : (a b : Judging) (k : Sort → Sort → Returned) (z : Sort) → two (judged s a.0 false) (judged s b.0 false) k ≡ Ok z
      → Holds (aggregates_in a.0 ++ (aggregates_in b.0 ++ [])) (two (judged s a.0 true) (judged s b.0 true) k) z
  two_hold a b k z is =
      let first = goes_there (judged s a.0 false) (λ x. and_then (judged s b.0 false) (λ y. k x y)) z is in
      let second = goes_there (judged s b.0 false) (λ y. k first.0 y) z first.2 in
      let left = a.1 first.0 first.1 in
      let right = b.1 second.0 second.1 in (
        both_counted (aggregates_in a.0) (aggregates_in b.0 ++ []) left.0 (both_counted (aggregates_in b.0) [] right.0 tt),
        λ none. ap₂ (λ (t u : Returned). two t u k) (left.1 (first_empty (aggregates_in a.0) (aggregates_in b.0 ++ []) none))
            (right.1 (first_empty (aggregates_in b.0) [] (second_empty (aggregates_in a.0) (aggregates_in b.0 ++ []) none))) ∙ second.2,
      )

  -- ---- lists

  list_holds : (es : List Judging) (zs : List Sort) → all_ok (each false (map (judged s) (map (λ e. e.0) es))) ≡ Ok zs
      → AreCounted (lists (map aggregates_in (map (λ e. e.0) es))) × (lists (map aggregates_in (map (λ e. e.0) es)) ≡ [] → all_ok (each true (map (judged s) (map (λ e. e.0) es))) ≡ Ok zs)
  list_holds [] zs is = (tt, λ none. is)
  list_holds (e ∷ es) zs is =
      let rest_of = lists (map aggregates_in (map (λ (d : Judging). d.0) es)) in
      let found = front_there (judged s e.0 false) (all_ok (each false (map (judged s) (map (λ (d : Judging). d.0) es)))) zs is in
      let here = e.1 found.0.0 found.0.1 in
      let rest = list_holds es found.1.0 found.1.1 in (
        both_counted (aggregates_in e.0) rest_of here.0 rest.0,
        λ none. ap₂ (λ (t : Returned) (ts : Result (List Sort) PlanFault). with_result t ts)
            (here.1 (first_empty (aggregates_in e.0) rest_of none) ∙ sym found.0.1) (rest.1 (second_empty (aggregates_in e.0) rest_of none) ∙ sym found.1.1) ∙ is,
      )

  abbrev arm_lists : List Arm → List Expr
  arm_lists arms = lists (arm_parts (map arm_aggregates arms))

  arms_hold : (list : List JudgingArm) (zs : List (Sort × Sort)) → all_ok (each_arm false (map (judged_arm s) (map (λ a. a.0) list))) ≡ Ok zs
      → AreCounted (arm_lists (map (λ a. a.0) list)) × (arm_lists (map (λ a. a.0) list) ≡ [] → all_ok (each_arm true (map (judged_arm s) (map (λ a. a.0) list))) ≡ Ok zs)
  arms_hold [] zs is = (tt, λ none. is)
  arms_hold (a ∷ list) zs is =
      let rest_of = arm_lists (map (λ (d : JudgingArm). d.0) list) in
      let cs = aggregates_in a.0.condition in
      let vs = aggregates_in a.0.value in
      let found = front_there (arm_sorts false (judged_arm s a.0)) (all_ok (each_arm false (map (judged_arm s) (map (λ (d : JudgingArm). d.0) list)))) zs is in
      let here = a.1 found.0.0 found.0.1 in
      let rest = arms_hold list found.1.0 found.1.1 in (
        both_counted cs (vs ++ rest_of) (first_counted cs (vs ++ []) here.0) (both_counted vs rest_of (first_counted vs [] (second_counted cs (vs ++ []) here.0)) rest.0),
        λ none. ap₂ (λ (t : Result (Sort × Sort) PlanFault) (ts : Result (List (Sort × Sort)) PlanFault). with_result t ts)
            (here.1 (both_empty cs vs (first_empty cs (vs ++ rest_of) none) (first_empty vs rest_of (second_empty cs (vs ++ rest_of) none))) ∙ sym found.0.1)
            (rest.1 (second_empty vs rest_of (second_empty cs (vs ++ rest_of) none)) ∙ sym found.1.1) ∙ is,
      )

  -- ---- nodes that are no aggregate

  abbrev Holds_at : Expr-F Expr Arm → Type 0
  Holds_at x = (z : Sort) → judge_at false x ≡ Ok z → Holds (parts x) (judge_at true x) z

  node_holds : (y : Expr-F Judging JudgingArm) → is_aggregate_node (bare y) ≡ false → Holds_at (bare y)
  node_holds (node.Column table name) other z is = (tt, λ none. is)
  node_holds (node.Integer n) other z is = (tt, λ none. is)
  node_holds (node.Text t) other z is = (tt, λ none. is)
  node_holds node.CountRows other z is = absurd cc
  node_holds (node.Aggregate kind a) other z is = absurd cc
  node_holds (node.Minus a) other z is = one_holds a _ z is
  node_holds (node.Arithmetic op a b) other z is = two_hold a b _ z is
  node_holds (node.Compare op a b) other z is = two_hold a b _ z is
  node_holds (node.Not a) other z is = one_holds a _ z is
  node_holds (node.And a b) other z is = two_hold a b _ z is
  node_holds (node.Or a b) other z is = two_hold a b _ z is
  node_holds (node.IsNull negated a) other z is = one_holds a _ z is
  node_holds (node.Like negated a pattern) other z is = one_holds a _ z is
  node_holds (node.Between negated a low high) other z is =
      let part = goes_there (judged s a.0 false) _ z is in
      let here = a.1 part.0 part.1 in
      let bounds = two_hold low high _ z part.2 in
      let rest_of = aggregates_in low.0 ++ (aggregates_in high.0 ++ []) in (
        both_counted (aggregates_in a.0) rest_of here.0 bounds.0,
        λ none. ap (λ (t : Returned). and_then t (λ x. two (judged s low.0 true) (judged s high.0 true) (λ y w. typed (are_alike (x ∷ y ∷ w ∷ [])) Truth))) (here.1 (first_empty (aggregates_in a.0) rest_of none)) ∙ bounds.1 (second_empty (aggregates_in a.0) rest_of none),
      )
  node_holds (node.In negated a entries) other z is =
      let part = goes_there (judged s a.0 false) _ z is in
      let list = goes_there (all_ok (each false (map (judged s) (map (λ (e : Judging). e.0) entries)))) _ z part.2 in
      let here = a.1 part.0 part.1 in
      let rest = list_holds entries list.0 list.1 in
      let rest_of = lists (map aggregates_in (map (λ (e : Judging). e.0) entries)) in (
        both_counted (aggregates_in a.0) rest_of here.0 rest.0,
        λ none. ap (λ (t : Returned). and_then t (λ x. and_then (all_ok (each true (map (judged s) (map (λ (e : Judging). e.0) entries)))) (λ xs. typed (are_alike (x ∷ xs)) Truth))) (here.1 (first_empty (aggregates_in a.0) rest_of none))
            ∙ ap (λ (t : Result (List Sort) PlanFault). and_then t (λ xs. typed (are_alike (part.0 ∷ xs)) Truth)) (rest.1 (second_empty (aggregates_in a.0) rest_of none)) ∙ list.2,
      )
  node_holds (node.Coalesce entries) other z is =
      let list = goes_there (all_ok (each false (map (judged s) (map (λ (e : Judging). e.0) entries)))) _ z is in
      let rest = list_holds entries list.0 list.1 in
      (rest.0, λ none. ap (λ (t : Result (List Sort) PlanFault). and_then t (λ xs. typed (are_alike xs) (first_of xs))) (rest.1 none) ∙ list.2)
  node_holds (node.Case arms None) other z is =
      let list = goes_there (all_ok (each_arm false (map (judged_arm s) (map (λ (a : JudgingArm). a.0) arms)))) _ z is in
      let found = arms_hold arms list.0 list.1 in
      let all = map (λ (a : JudgingArm). a.0) arms in
      let same : lists (arm_parts (map arm_aggregates all) ++ []) ≡ arm_lists all ++ [] = flat_map-append (λ part. part) (arm_parts (map arm_aggregates all)) [] in (
        subst AreCounted (sym same) (both_counted (arm_lists all) [] found.0 tt),
        λ none. ap (λ (t : Result (List (Sort × Sort)) PlanFault). and_then t (λ ps. case_sort ps None)) (found.1 (first_empty (arm_lists all) [] (sym same ∙ none))) ∙ list.2,
      )
  node_holds (node.Case arms (Some e)) other z is =
      let list = goes_there (all_ok (each_arm false (map (judged_arm s) (map (λ (a : JudgingArm). a.0) arms)))) _ z is in
      let last = goes_there (else_sort false (Some (judged s e.0))) _ z list.2 in
      let value = some_there (judged s e.0 false) last.0 last.1 in
      let found = arms_hold arms list.0 list.1 in
      let here = e.1 value.0 value.1 in
      let all = map (λ (a : JudgingArm). a.0) arms in
      let last_of = aggregates_in e.0 ++ [] in
      let same : lists (arm_parts (map arm_aggregates all) ++ aggregates_in e.0 ∷ []) ≡ arm_lists all ++ last_of = flat_map-append (λ part. part) (arm_parts (map arm_aggregates all)) (aggregates_in e.0 ∷ []) in (
        subst AreCounted (sym same) (both_counted (arm_lists all) last_of found.0 (both_counted (aggregates_in e.0) [] here.0 tt)),
        λ none. ap (λ (t : Result (List (Sort × Sort)) PlanFault). and_then t (λ ps. and_then (else_sort true (Some (judged s e.0))) (case_sort ps))) (found.1 (first_empty (arm_lists all) last_of (sym same ∙ none)))
            ∙ ap (λ (t : Returned). and_then (map_ok (λ (x : Sort). Some x) t) (case_sort list.0)) (here.1 (first_empty (aggregates_in e.0) [] (second_empty (arm_lists all) last_of (sym same ∙ none))) ∙ sym value.1) ∙ list.2,
      )

  -- ---- trees

  other_is : (x : Expr-F Expr Arm) → is_aggregate_node x ≡ false → is_aggregate (roll-Expr x) ≡ false
  other_is x is = search (rules, the_lemmas)

  there_is : (x : Expr-F Expr Arm) → is_aggregate_node x ≡ true → is_aggregate (roll-Expr x) ≡ true
  there_is x is = search (rules, the_lemmas)

  abbrev Judged_at : Expr-F Expr Arm → Type 0
  Judged_at x = (z : Sort) → judge_at false x ≡ Ok z → Holds (aggregates_in (roll-Expr x)) (judge_at true x) z

  by_parts : (y : Expr-F Judging JudgingArm) → is_aggregate_node (bare y) ≡ false → Judged_at (bare y)
  by_parts y other z is =
      subst (λ (xs : List Expr). Holds xs (judge_at true (bare y)) z) (sym (below is_aggregate (bare y) (roll-Expr (bare y)) refl (other_is (bare y) other))) (node_holds y other z is)

  abbrev Counted_at : Expr-F Expr Arm → Type 0
  Counted_at x = argument_of s x

  itself : (x : Expr-F Expr Arm) (z : Sort) → is_aggregate_node x ≡ true → IsCounted (roll-Expr x) → Holds (aggregates_in (roll-Expr x)) (judge_at true x) z
  itself x z there counted =
      let alone = passes is_aggregate (roll-Expr x) (there_is x there) in
      (subst AreCounted (sym alone) (counted, tt), λ none. absurd (no_one (roll-Expr x) (sym alone ∙ none)))
    where
      no_one : (e : Expr) → e ∷ [] ≡ [] → ⊥
      no_one e is = cc

  out_rolls : (x : Expr-F Expr Arm) → out-Expr (roll-Expr x) ≡ x
  out_rolls x = search (rules, the_lemmas)

  node_judged : (y : Expr-F Judging JudgingArm) → Judged_at (bare y)
  node_judged node.CountRows z is = itself node.CountRows z refl (subst Counted_at (sym (out_rolls node.CountRows)) tt)
  node_judged (node.Aggregate kind a) z is =
      let part = goes_there (judged s a.0 true) (over_part kind false) z is in
      itself (node.Aggregate kind a.0) z refl (subst Counted_at (sym (out_rolls (node.Aggregate kind a.0))) (part.0, part.1))
  node_judged (node.Column table name) z is = by_parts (node.Column table name) refl z is
  node_judged (node.Integer n) z is = by_parts (node.Integer n) refl z is
  node_judged (node.Text t) z is = by_parts (node.Text t) refl z is
  node_judged (node.Minus a) z is = by_parts (node.Minus a) refl z is
  node_judged (node.Arithmetic op a b) z is = by_parts (node.Arithmetic op a b) refl z is
  node_judged (node.Compare op a b) z is = by_parts (node.Compare op a b) refl z is
  node_judged (node.Not a) z is = by_parts (node.Not a) refl z is
  node_judged (node.And a b) z is = by_parts (node.And a b) refl z is
  node_judged (node.Or a b) z is = by_parts (node.Or a b) refl z is
  node_judged (node.IsNull negated a) z is = by_parts (node.IsNull negated a) refl z is
  node_judged (node.Between negated a low high) z is = by_parts (node.Between negated a low high) refl z is
  node_judged (node.In negated a entries) z is = by_parts (node.In negated a entries) refl z is
  node_judged (node.Like negated a pattern) z is = by_parts (node.Like negated a pattern) refl z is
  node_judged (node.Coalesce entries) z is = by_parts (node.Coalesce entries) refl z is
  node_judged (node.Case arms otherwise) z is = by_parts (node.Case arms otherwise) refl z is

  arm_judged : (y : Arm-F Judging JudgingArm) (p : Sort × Sort) → arm_sorts false (judged s y.condition.0, judged s y.value.0) ≡ Ok p
      → AreCounted (aggregates_in y.condition.0 ++ (aggregates_in y.value.0 ++ []))
      × (aggregates_in y.condition.0 ++ (aggregates_in y.value.0 ++ []) ≡ [] → arm_sorts true (judged s y.condition.0, judged s y.value.0) ≡ Ok p)
  arm_judged y p is =
      let first = goes_there (judged s y.condition.0 false) (λ c. and_then (judged s y.value.0 false) (λ v. Ok (c, v))) p is in
      let second = goes_there (judged s y.value.0 false) (λ v. Ok (first.0, v)) p first.2 in
      let left = y.condition.1 first.0 first.1 in
      let right = y.value.1 second.0 second.1 in
      let cs = aggregates_in y.condition.0 in
      let vs = aggregates_in y.value.0 in (
        both_counted cs (vs ++ []) left.0 (both_counted vs [] right.0 tt),
        λ none. ap₂ (λ (t u : Returned). arm_sorts true ((λ b. t), (λ b. u))) (left.1 (first_empty cs (vs ++ []) none)) (right.1 (first_empty vs [] (second_empty cs (vs ++ []) none))) ∙ second.2,
      )

  abbrev Arm_at : Arm-F Expr Arm → Type 0
  Arm_at x = (p : Sort × Sort) → arm_sorts false (judged s x.condition, judged s x.value) ≡ Ok p
      → AreCounted (aggregates_in x.condition ++ (aggregates_in x.value ++ []))
      × (aggregates_in x.condition ++ (aggregates_in x.value ++ []) ≡ [] → arm_sorts true (judged s x.condition, judged s x.value) ≡ Ok p)

  pub unbarred : (e : Expr) → Judged e
  unbarred = ind-Expr Judged JudgedArm
      (λ x y is z returned.
      let here = subst Judged_at is (node_judged y) z (sym (rolled false x) ∙ returned) in
      (here.0, λ none. rolled true x ∙ here.1 none))
      (λ x y is p returned.
      let folded = fold-roll-Arm Judgement (Judgement × Judgement) (judge_node s) judge_arm x in
      let here = subst Arm_at is (arm_judged y) p (sym (ap (arm_sorts false) folded) ∙ returned) in
      (here.0, λ none. ap (arm_sorts true) folded ∙ here.1 none))
