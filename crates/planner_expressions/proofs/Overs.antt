-- A fold that keeps the tree beside what it gives has the tree.
use Rattle.std.proofs.Common.{rules, ◌≡◌, List, [], ◌∷◌, map, Some, None, refl, ap, ap₂, subst, ◌∙◌}
use Rattle.sql_syntax.specs.declared.tree.Expr.{Expr}
use Rattle.sql_syntax.specs.declared.tree.Arm.{Arm}
use Rattle.sql_syntax.specs.declared.tree.Expr.TheOpen as node
use Rattle.sql_syntax.specs.declared.tree.Expr.TheOpen.{Expr-F, Arm-F}
use Rattle.sql_syntax.specs.declared.tree.Expr.TheViews.{roll-Expr, roll-Arm}
use Rattle.sql_syntax.specs.declared.tree.Expr.TheFolds.{the_lemmas, fold-Expr, fold-Arm, fold-roll-Expr, fold-roll-Arm, ind-Expr, map-Expr, map-Arm}
use Rattle.planner_expressions.specs.Trees.{Node, over, tree_over, arm_tree}

module _ {X : Type 0} (step : Node (Expr × X) → X) where
  abbrev pub Beside : Type 0
  Beside = Expr × X

  abbrev pub step_beside : Node Beside → Beside
  step_beside n = (tree_over (λ p. p.0) n, step n)

  abbrev pub beside : Expr → Beside
  beside = fold-Expr Beside (Beside × Beside) step_beside (λ arm. (arm.condition, arm.value))

  abbrev pub beside_arm : Arm → Beside × Beside
  beside_arm = fold-Arm Beside (Beside × Beside) step_beside (λ arm. (arm.condition, arm.value))

  abbrev pub tree_beside : Expr → Expr
  tree_beside e = (beside e).0

  abbrev pub arm_beside : Arm → Arm
  arm_beside a = arm_tree (λ (p : Beside). p.0) (beside_arm a)

  abbrev pub Kept : Type 0
  Kept = (e : Expr) × (tree_beside e ≡ e)

  abbrev pub KeptArm : Type 0
  KeptArm = (a : Arm) × (arm_beside a ≡ a)

  kept_list : (es : List Kept) → map (λ (p : Beside). p.0) (map beside (map (λ e. e.0) es)) ≡ map (λ e. e.0) es
  kept_list [] = refl
  kept_list (e ∷ es) = ap₂ (λ (x : Expr) (xs : List Expr). x ∷ xs) e.1 (kept_list es)

  kept_arms : (es : List KeptArm) → map (arm_tree (λ (p : Beside). p.0)) (map beside_arm (map (λ a. a.0) es)) ≡ map (λ a. a.0) es
  kept_arms [] = refl
  kept_arms (a ∷ es) = ap₂ (λ (x : Arm) (xs : List Arm). x ∷ xs) a.1 (kept_arms es)

  abbrev bare : Expr-F Kept KeptArm → Expr-F Expr Arm
  bare = map-Expr Kept KeptArm Expr Arm (λ e. e.0) (λ a. a.0)

  abbrev again : Expr-F Expr Arm → Expr
  again x = tree_over (λ (p : Beside). p.0) (map-Expr Expr Arm Beside (Beside × Beside) beside beside_arm x)

  kept_node : (y : Expr-F Kept KeptArm) → again (bare y) ≡ roll-Expr (bare y)
  kept_node (node.Column table name) = refl
  kept_node (node.Integer n) = refl
  kept_node (node.Text t) = refl
  kept_node node.CountRows = refl
  kept_node (node.Aggregate kind a) = ap (λ (x : Expr). roll-Expr (node.Aggregate kind x)) a.1
  kept_node (node.Minus a) = ap (λ (x : Expr). roll-Expr (node.Minus x)) a.1
  kept_node (node.Arithmetic op a b) = ap₂ (λ (x y : Expr). roll-Expr (node.Arithmetic op x y)) a.1 b.1
  kept_node (node.Compare op a b) = ap₂ (λ (x y : Expr). roll-Expr (node.Compare op x y)) a.1 b.1
  kept_node (node.Not a) = ap (λ (x : Expr). roll-Expr (node.Not x)) a.1
  kept_node (node.And a b) = ap₂ (λ (x y : Expr). roll-Expr (node.And x y)) a.1 b.1
  kept_node (node.Or a b) = ap₂ (λ (x y : Expr). roll-Expr (node.Or x y)) a.1 b.1
  kept_node (node.IsNull negated a) = ap (λ (x : Expr). roll-Expr (node.IsNull negated x)) a.1
  kept_node (node.Between negated a low high) =
      ap₂ (λ (x y : Expr). roll-Expr (node.Between negated x y (tree_beside high.0))) a.1 low.1 ∙ ap (λ (z : Expr). roll-Expr (node.Between negated a.0 low.0 z)) high.1
  kept_node (node.In negated a entries) = ap₂ (λ (x : Expr) (xs : List Expr). roll-Expr (node.In negated x xs)) a.1 (kept_list entries)
  kept_node (node.Like negated a pattern) = ap (λ (x : Expr). roll-Expr (node.Like negated x pattern)) a.1
  kept_node (node.Coalesce entries) = ap (λ (xs : List Expr). roll-Expr (node.Coalesce xs)) (kept_list entries)
  kept_node (node.Case arms None) = ap (λ (xs : List Arm). roll-Expr (node.Case xs None)) (kept_arms arms)
  kept_node (node.Case arms (Some e)) = ap₂ (λ (xs : List Arm) (x : Expr). roll-Expr (node.Case xs (Some x))) (kept_arms arms) e.1

  abbrev arm_again : Arm-F Expr Arm → Arm
  arm_again x = record { condition = tree_beside x.condition; value = tree_beside x.value }

  kept_arm : (y : Arm-F Kept KeptArm) → arm_again (map-Arm Kept KeptArm Expr Arm (λ e. e.0) (λ a. a.0) y) ≡ roll-Arm (map-Arm Kept KeptArm Expr Arm (λ e. e.0) (λ a. a.0) y)
  kept_arm y = ap₂ (λ (c v : Expr). roll-Arm (record { condition = c; value = v })) y.condition.1 y.value.1

  pub beside-tree : (e : Expr) → tree_beside e ≡ e
  beside-tree = ind-Expr (λ e. tree_beside e ≡ e) (λ a. arm_beside a ≡ a)
      (λ x y is. ap (λ (p : Beside). p.0) (fold-roll-Expr Beside (Beside × Beside) step_beside (λ arm. (arm.condition, arm.value)) x) ∙ subst (λ z. again z ≡ roll-Expr z) is (kept_node y))
      (λ x y is. ap (arm_tree (λ (p : Beside). p.0)) (fold-roll-Arm Beside (Beside × Beside) step_beside (λ arm. (arm.condition, arm.value)) x) ∙ subst (λ z. arm_again z ≡ roll-Arm z) is (kept_arm y))

  abbrev pub with_tree : Expr → Beside
  with_tree e = (e, (beside e).1)

  abbrev pub arm_with_tree : Arm → Beside × Beside
  arm_with_tree a = (with_tree a.condition, with_tree a.value)

  pub beside-with_tree : (e : Expr) → beside e ≡ with_tree e
  beside-with_tree e = ap (λ (t : Expr). (t, (beside e).1)) (beside-tree e)

  pub beside_arm-parts : (a : Arm) → beside_arm a ≡ (beside a.condition, beside a.value)
  beside_arm-parts a = search (rules, the_lemmas)

  pub beside_arm-with_tree : (a : Arm) → beside_arm a ≡ arm_with_tree a
  beside_arm-with_tree a = beside_arm-parts a ∙ ap₂ (λ (c v : Beside). (c, v)) (beside-with_tree a.condition) (beside-with_tree a.value)

  -- what a tree gives, from its node over parts with their trees
  pub over-roll : (x : Expr-F Expr Arm) → over step (roll-Expr x) ≡ step (map-Expr Expr Arm Beside (Beside × Beside) with_tree arm_with_tree x)
  over-roll x =
      ap (λ (p : Beside). p.1) (fold-roll-Expr Beside (Beside × Beside) step_beside (λ arm. (arm.condition, arm.value)) x)
      ∙ (λ i. step (map-Expr Expr Arm Beside (Beside × Beside) (λ e. beside-with_tree e i) (λ a. beside_arm-with_tree a i) x))
