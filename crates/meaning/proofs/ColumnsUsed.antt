-- Evaluation reads only what the expression names.
use Rattle.std.proofs.Common.{◌≡◌, List, [], ◌∷◌, ◌++◌, map, refl, ap, ap₂, subst, ◌∙◌, sym}
use Rattle.std.specs.List.{AllByRecursion}
use Rattle.std.proofs.lemmas.List.Elements.{recursion_from_All}
use Rattle.meaning.specs.declared.expr.Arm.{Arm}
use Rattle.meaning.specs.declared.expr.Expr.{Expr}
use Rattle.meaning.specs.declared.expr.Expr.TheOpen as node
use Rattle.meaning.specs.declared.expr.Expr.TheOpen.{Expr-F, Arm-F}
use Rattle.meaning.specs.declared.expr.Expr.TheFolds.{fold-roll-Expr, fold-roll-Arm, ind-Expr, map-Expr}
use Rattle.meaning.specs.declared.outcome.Outcome.{Outcome}
use Rattle.meaning.specs.declared.outcome.Outcome.TheVariants as gives
use Rattle.meaning.specs.declared.joined_row.JoinedRow.{JoinedRow}
use Rattle.meaning.specs.Operators.{minus_of, arith_of, compare_of, not_of, and_of, or_of, not_if, is_null_of, like_of, between_of, one_of, first_of, cases_of}
use Rattle.meaning.specs.Expr.{Meaning, node_meaning, arm_meanings, at_row, arms_at, eval, eval_arm, with_value, values}
use Rattle.meaning.specs.References.{Reference, referenced, node_references, arm_references, all_references, columns_used, columns_used_in_arm, columns_used_in_all}
use Rattle.meaning.specs.ExpressionLaws.{ReadsColumnsUsed, JudgesColumnsUsed}
use Rattle.meaning.specs.declared.plan.Aggregate.{Aggregate}
use Rattle.meaning.specs.declared.plan.GroupingKey.{GroupingKey}
use Rattle.meaning.specs.Judge.{Judged, behind_condition, behind_conditions, keep}

module _ {X : Type 0} (P : X → Type 0) where
  pub first_part : (xs ys : List X) → AllByRecursion P (xs ++ ys) → AllByRecursion P xs
  first_part [] ys all = tt
  first_part (x ∷ xs) ys all = (all.0, first_part xs ys all.1)

  pub second_part : (xs ys : List X) → AllByRecursion P (xs ++ ys) → AllByRecursion P ys
  second_part [] ys all = all
  second_part (x ∷ xs) ys all = second_part xs ys all.1

module _ (r s : JoinedRow) where
  -- the two rows have the same there
  abbrev Same : Reference → Type 0
  Same u = referenced r u ≡ referenced s u

  abbrev AreSame : List Reference → Type 0
  AreSame us = AllByRecursion Same us

  abbrev Agrees : Expr → Type 0
  Agrees e = AreSame (columns_used e) → eval e r ≡ eval e s

  abbrev AgreesArm : Arm → Type 0
  AgreesArm a = AreSame (columns_used_in_arm a)
      → ((eval_arm a).0 r ≡ (eval_arm a).0 s) × ((eval_arm a).1 r ≡ (eval_arm a).1 s)

  abbrev Agreeing : Type 0
  Agreeing = (e : Expr) × Agrees e

  abbrev AgreeingArm : Type 0
  AgreeingArm = (a : Arm) × AgreesArm a

  abbrev bare : Expr-F Agreeing AgreeingArm → Expr-F Expr Arm
  bare = map-Expr Agreeing AgreeingArm Expr Arm (λ e. e.0) (λ a. a.0)

  abbrev meant : Expr-F Expr Arm → Meaning
  meant x = node_meaning (map-Expr Expr Arm Meaning (Meaning × Meaning) eval eval_arm x)

  abbrev used : Expr-F Expr Arm → List Reference
  used x = node_references (map-Expr Expr Arm (List Reference) (List Reference) columns_used columns_used_in_arm x)

  same_list : (es : List Agreeing) → AreSame (all_references (map columns_used (map (λ e. e.0) es)))
      → at_row r (map eval (map (λ e. e.0) es)) ≡ at_row s (map eval (map (λ e. e.0) es))
  same_list [] same = refl
  same_list (e ∷ es) same =
      let rest = all_references (map columns_used (map (λ (e : Agreeing). e.0) es)) in
      ap₂ (λ (o : Outcome) (os : List Outcome). o ∷ os) (e.1 (first_part Same (columns_used e.0) rest same))
      (same_list es (second_part Same (columns_used e.0) rest same))

  same_arms : (es : List AgreeingArm) → AreSame (all_references (map columns_used_in_arm (map (λ a. a.0) es)))
      → arms_at r (map eval_arm (map (λ a. a.0) es)) ≡ arms_at s (map eval_arm (map (λ a. a.0) es))
  same_arms [] same = refl
  same_arms (a ∷ es) same =
      let rest = all_references (map columns_used_in_arm (map (λ (a : AgreeingArm). a.0) es)) in
      let here = a.1 (first_part Same (columns_used_in_arm a.0) rest same) in
      ap₂ (λ (o : Outcome × Outcome) (os : List (Outcome × Outcome)). o ∷ os)
      (ap₂ (λ (c v : Outcome). (c, v)) here.0 here.1)
      (same_arms es (second_part Same (columns_used_in_arm a.0) rest same))

  same_node : (y : Expr-F Agreeing AgreeingArm) → AreSame (used (bare y)) → meant (bare y) r ≡ meant (bare y) s
  same_node (node.Column at) same = ap (λ v. gives.Value v) same.0
  same_node (node.Joined join at) same = ap (λ v. gives.Value v) same.0
  same_node (node.Key i) same = ap (λ v. gives.Value v) same.0
  same_node (node.Aggregate i) same = ap (λ v. gives.Value v) same.0
  same_node (node.Literal v) same = refl
  same_node (node.Minus a) same = ap minus_of (a.1 same)
  same_node (node.Arithmetic op a b) same =
      ap₂ (arith_of op) (a.1 (first_part Same _ _ same)) (b.1 (second_part Same (columns_used a.0) _ same))
  same_node (node.Compare op a b) same =
      ap₂ (compare_of op) (a.1 (first_part Same _ _ same)) (b.1 (second_part Same (columns_used a.0) _ same))
  same_node (node.Not a) same = ap not_of (a.1 same)
  same_node (node.And a b) same =
      ap₂ and_of (a.1 (first_part Same _ _ same)) (b.1 (second_part Same (columns_used a.0) _ same))
  same_node (node.Or a b) same = ap₂ or_of (a.1 (first_part Same _ _ same))
      (b.1 (second_part Same (columns_used a.0) _ same))
  same_node (node.IsNull negated x) same = ap (λ o. not_if negated (is_null_of o)) (x.1 same)
  same_node (node.Between negated x low high) same =
      let bounds = second_part Same (columns_used x.0) (columns_used low.0 ++ columns_used high.0) same in
      let here = x.1 (first_part Same _ _ same) in
      let below = low.1 (first_part Same _ _ bounds) in
      let above = high.1 (second_part Same (columns_used low.0) _ bounds) in
      λ i. not_if negated (between_of (here i) (below i) (above i))
  same_node (node.In negated x list) same =
      ap₂ (λ (o : Outcome) (os : List Outcome). not_if negated (one_of o os)) (x.1 (first_part Same _ _ same))
      (same_list list (second_part Same (columns_used x.0) _ same))
  same_node (node.Like negated x pattern) same = ap (λ o. not_if negated (like_of pattern o)) (x.1 same)
  same_node (node.Coalesce list) same = ap first_of (same_list list same)
  same_node (node.Case arms otherwise) same =
      let all = all_references (map columns_used_in_arm (map (λ (a : AgreeingArm). a.0) arms)) in
      ap₂ cases_of (same_arms arms (first_part Same all _ same)) (otherwise.1 (second_part Same all _ same))

  same_arm : (y : Arm-F Agreeing AgreeingArm) → AreSame (columns_used y.when.0 ++ columns_used y.then.0)
      → (eval y.when.0 r ≡ eval y.when.0 s) × (eval y.then.0 r ≡ eval y.then.0 s)
  same_arm y same = (y.when.1 (first_part Same _ _ same), y.then.1 (second_part Same (columns_used y.when.0) _ same))

  agrees : (e : Expr) → Agrees e
  agrees = ind-Expr Agrees AgreesArm
      (λ x y is same.
      let folded = fold-roll-Expr Meaning (Meaning × Meaning) node_meaning arm_meanings x in
      let named = subst AreSame (fold-roll-Expr (List Reference)
      (List Reference) node_references arm_references x) same in
      ap (λ (m : Meaning). m r) folded ∙ subst (λ z. AreSame (used z) → meant z r ≡ meant z s) is (same_node y) named
      ∙ sym (ap (λ (m : Meaning). m s) folded))
      (λ x y is same.
      let folded = fold-roll-Arm Meaning (Meaning × Meaning) node_meaning arm_meanings x in
      let named = subst AreSame (fold-roll-Arm (List Reference)
      (List Reference) node_references arm_references x) same in
      let parts = subst (λ (z : Arm-F Expr Arm). AreSame (columns_used z.when ++ columns_used z.then)
      → (eval z.when r ≡ eval z.when s) × (eval z.then r ≡ eval z.then s)) is (same_arm y) named in (
        ap (λ (m : Meaning × Meaning). m.0 r) folded ∙ parts.0
            ∙ sym (ap (λ (m : Meaning × Meaning). m.0 s) folded),
        ap (λ (m : Meaning × Meaning). m.1 r) folded ∙ parts.1
            ∙ sym (ap (λ (m : Meaning × Meaning). m.1 s) folded),
      ))

pub reads_columns_used : ReadsColumnsUsed
reads_columns_used e r s same = agrees r s e (recursion_from_All _ _ same)

-- ---- what becomes of a joined row

module _ (r s : JoinedRow) where
  same_conditions : (cs : List Expr) (a b : Judged) → AreSame r s (columns_used_in_all cs) → a ≡ b
      → behind_conditions cs r a ≡ behind_conditions cs s b
  same_conditions [] a b same e = e
  same_conditions (c ∷ cs) a b same e =
      ap₂ behind_condition (agrees r s c (first_part (Same r s) (columns_used c) (columns_used_in_all cs) same))
      (same_conditions cs a b (second_part (Same r s) (columns_used c) (columns_used_in_all cs) same) e)

  same_values : (es : List Expr) → AreSame r s (columns_used_in_all es) → values es r ≡ values es s
  same_values [] same = refl
  same_values (e ∷ es) same =
      ap₂ with_value (agrees r s e (first_part (Same r s) (columns_used e) (columns_used_in_all es) same))
      (same_values es (second_part (Same r s) (columns_used e) (columns_used_in_all es) same))

pub judges_columns_used : JudgesColumnsUsed
judges_columns_used plan r s same =
    let all = recursion_from_All _ _ same in
    let conditions = columns_used_in_all plan.conjuncts in
    let keys = columns_used_in_all (map (λ (k : GroupingKey). k.expr) plan.keys) in
    let arguments = columns_used_in_all (map (λ (a : Aggregate). a.argument) plan.aggs) in
    let rest = second_part (Same r s) conditions (keys ++ arguments) all in
    same_conditions r s plan.conjuncts _ _ (first_part (Same r s) conditions (keys ++ arguments) all)
    (ap₂ keep (same_values r s (map (λ (k : GroupingKey). k.expr) plan.keys)
    (first_part (Same r s) keys arguments rest))
    (same_values r s (map (λ (a : Aggregate). a.argument) plan.aggs) (second_part (Same r s) keys arguments rest)))
