-- A column of the fact is named just where it is among those that the expression names.
use Rattle.std.proofs.Common.{◌≡◌, ℕ, Bool, true, false, ◌||◌, List, [], ◌∷◌, ◌++◌, map, refl, ap, subst, sym, ◌∙◌}
use Rattle.std.specs.Prelude.{◌==◌}
use Rattle.std.specs.List.{list_any}
use Rattle.meaning.specs.declared.expr.Arm.{Arm}
use Rattle.meaning.specs.declared.expr.Expr.{Expr}
use Rattle.meaning.specs.declared.expr.Expr.TheOpen as node
use Rattle.meaning.specs.declared.expr.Expr.TheOpen.{Expr-F, Arm-F}
use Rattle.meaning.specs.declared.expr.Expr.TheFolds.{fold-roll-Expr, fold-roll-Arm, ind-Expr, map-Expr}
use Rattle.meaning.proofs.Tests.{or_false}
use Rattle.meaning.specs.References.{Reference, all_references, arm_references, columns_used, columns_used_in_arm, node_references}
use Rattle.pushdown.specs.Naming.{any_of, arm_names, is_fact_column, is_named, is_named_in_arm, node_names}

abbrev either : Bool → Bool → Bool
either a b = a || b

module _ (c : ℕ) where
  abbrev any_fact : List Reference → Bool
  any_fact us = list_any (is_fact_column c) us

  or_assoc : (a b d : Bool) → (a || (b || d)) ≡ ((a || b) || d)
  or_assoc true b d = refl
  or_assoc false b d = refl

  any_both : (us vs : List Reference) → any_fact (us ++ vs) ≡ (any_fact us || any_fact vs)
  any_both [] vs = refl
  any_both (u ∷ us) vs = ap (λ (b : Bool). is_fact_column c u || b) (any_both us vs) ∙ or_assoc (is_fact_column c u) (any_fact us) (any_fact vs)

  abbrev Finds : Expr → Type 0
  Finds e = is_named c e ≡ any_fact (columns_used e)

  abbrev FindsArm : Arm → Type 0
  FindsArm a = is_named_in_arm c a ≡ any_fact (columns_used_in_arm a)

  abbrev Part : Type 0
  Part = (e : Expr) × Finds e

  abbrev PartArm : Type 0
  PartArm = (a : Arm) × FindsArm a

  abbrev bare : Expr-F Part PartArm → Expr-F Expr Arm
  bare = map-Expr Part PartArm Expr Arm (λ e. e.0) (λ a. a.0)

  abbrev found : Expr-F Expr Arm → Bool
  found x = (node_names c) (map-Expr Expr Arm Bool Bool (is_named c) (is_named_in_arm c) x)

  abbrev used : Expr-F Expr Arm → List Reference
  used x = node_references (map-Expr Expr Arm (List Reference) (List Reference) columns_used columns_used_in_arm x)

  pair : (a b : Bool) (us vs : List Reference) → a ≡ any_fact us → b ≡ any_fact vs → either a b ≡ any_fact (us ++ vs)
  pair a b us vs one two = ap (λ (x : Bool). either x b) one ∙ ap (either (any_fact us)) two ∙ sym (any_both us vs)

  list : (es : List Part) → any_of (map (is_named c) (map (λ e. e.0) es)) ≡ any_fact (all_references (map columns_used (map (λ e. e.0) es)))
  list [] = refl
  list (e ∷ es) =
      pair (is_named c e.0) (any_of (map (is_named c) (map (λ (p : Part). p.0) es))) (columns_used e.0) (all_references (map columns_used (map (λ (p : Part). p.0) es))) e.1 (list es)

  arms_of : (es : List PartArm) → any_of (map (is_named_in_arm c) (map (λ a. a.0) es)) ≡ any_fact (all_references (map columns_used_in_arm (map (λ a. a.0) es)))
  arms_of [] = refl
  arms_of (a ∷ es) =
      pair (is_named_in_arm c a.0) (any_of (map (is_named_in_arm c) (map (λ (p : PartArm). p.0) es))) (columns_used_in_arm a.0) (all_references (map columns_used_in_arm (map (λ (p : PartArm). p.0) es))) a.1 (arms_of es)

  one_node : (y : Expr-F Part PartArm) → found (bare y) ≡ any_fact (used (bare y))
  one_node (node.Column at) = sym (or_false (at == c))
  one_node (node.Joined join at) = refl
  one_node (node.Key i) = refl
  one_node (node.Aggregate i) = refl
  one_node (node.Literal v) = refl
  one_node (node.Minus a) = a.1
  one_node (node.Arithmetic op a b) = pair (is_named c a.0) (is_named c b.0) (columns_used a.0) (columns_used b.0) a.1 b.1
  one_node (node.Compare op a b) = pair (is_named c a.0) (is_named c b.0) (columns_used a.0) (columns_used b.0) a.1 b.1
  one_node (node.Not a) = a.1
  one_node (node.And a b) = pair (is_named c a.0) (is_named c b.0) (columns_used a.0) (columns_used b.0) a.1 b.1
  one_node (node.Or a b) = pair (is_named c a.0) (is_named c b.0) (columns_used a.0) (columns_used b.0) a.1 b.1
  one_node (node.IsNull negated x) = x.1
  one_node (node.Between negated x low high) =
      pair (is_named c x.0) (either (is_named c low.0) (is_named c high.0)) (columns_used x.0) (columns_used low.0 ++ columns_used high.0) x.1
      (pair (is_named c low.0) (is_named c high.0) (columns_used low.0) (columns_used high.0) low.1 high.1)
  one_node (node.In negated x es) =
      pair (is_named c x.0) (any_of (map (is_named c) (map (λ (p : Part). p.0) es))) (columns_used x.0) (all_references (map columns_used (map (λ (p : Part). p.0) es))) x.1 (list es)
  one_node (node.Like negated x pattern) = x.1
  one_node (node.Coalesce es) = list es
  one_node (node.Case arms otherwise) =
      pair (any_of (map (is_named_in_arm c) (map (λ (p : PartArm). p.0) arms))) (is_named c otherwise.0)
      (all_references (map columns_used_in_arm (map (λ (p : PartArm). p.0) arms))) (columns_used otherwise.0) (arms_of arms) otherwise.1

  one_arm : (y : Arm-F Part PartArm) → either (is_named c y.when.0) (is_named c y.then.0) ≡ any_fact (columns_used y.when.0 ++ columns_used y.then.0)
  one_arm y = pair (is_named c y.when.0) (is_named c y.then.0) (columns_used y.when.0) (columns_used y.then.0) y.when.1 y.then.1

  pub finds : (e : Expr) → Finds e
  finds = ind-Expr Finds FindsArm
      (λ x y is.
      fold-roll-Expr Bool Bool (node_names c) (arm_names c) x ∙ subst (λ z. found z ≡ any_fact (used z)) is (one_node y)
      ∙ sym (ap any_fact (fold-roll-Expr (List Reference) (List Reference) node_references arm_references x)))
      (λ x y is.
      fold-roll-Arm Bool Bool (node_names c) (arm_names c) x
      ∙ subst (λ (z : Arm-F Expr Arm). either (is_named c z.when) (is_named c z.then) ≡ any_fact (columns_used z.when ++ columns_used z.then)) is (one_arm y)
      ∙ sym (ap any_fact (fold-roll-Arm (List Reference) (List Reference) node_references arm_references x)))
