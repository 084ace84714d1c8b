-- What a tree gives is what is given to it, else what is made of its parts.
use Rattle.std.proofs.Common.{rules, ◌≡◌, List, [], ◌∷◌, map, Option, Some, None, unwrap_or, refl, ap, ap₂, ◌∙◌}
use Rattle.sql_syntax.specs.declared.tree.Arm.{Arm}
use Rattle.sql_syntax.specs.declared.tree.Expr.{Expr}
use Rattle.sql_syntax.specs.declared.tree.Expr.TheOpen as node
use Rattle.sql_syntax.specs.declared.tree.Expr.TheOpen.{Expr-F}
use Rattle.sql_syntax.specs.declared.tree.Expr.TheFolds.{the_lemmas, map-Expr}
use Rattle.sql_syntax.specs.declared.tree.Expr.TheViews.{roll-Expr, out-Expr}
use Rattle.planner_expressions.specs.Trees.{Node, arm_tree, tree_at, gifts, replaced}
use Rattle.planner_expressions.proofs.Overs.{with_tree, arm_with_tree, over-roll}

module _ {R : Type 0} (given : Expr → Option R) (make : Node R → R) where
  abbrev pub step : Node (Expr × R) → R
  step n = unwrap_or (given (tree_at n)) (make (gifts n))

  abbrev pub arm_gives : Arm → R × R
  arm_gives arm = (replaced given make arm.condition, replaced given make arm.value)

  -- a node over what its parts give
  abbrev pub parts_give : Expr-F Expr Arm → Node R
  parts_give = map-Expr Expr Arm R (R × R) (replaced given make) arm_gives

  abbrev beside : Expr-F Expr Arm → Node (Expr × R)
  beside = map-Expr Expr Arm (Expr × R) ((Expr × R) × (Expr × R)) (with_tree step) (arm_with_tree step)

  trees_again : (es : List Expr) → map (λ (p : Expr × R). p.0) (map (with_tree step) es) ≡ es
  trees_again [] = refl
  trees_again (e ∷ es) = ap (λ (xs : List Expr). e ∷ xs) (trees_again es)

  arms_again : (es : List Arm) → map (arm_tree (λ (p : Expr × R). p.0)) (map (arm_with_tree step) es) ≡ es
  arms_again [] = refl
  arms_again (a ∷ es) = ap (λ (xs : List Arm). a ∷ xs) (arms_again es)

  gifts_list : (es : List Expr) → map (λ (p : Expr × R). p.1) (map (with_tree step) es) ≡ map (replaced given make) es
  gifts_list [] = refl
  gifts_list (e ∷ es) = ap (λ (xs : List R). replaced given make e ∷ xs) (gifts_list es)

  gifts_arms : (es : List Arm) → map (λ (arm : (Expr × R) × (Expr × R)). (arm.0.1, arm.1.1)) (map (arm_with_tree step) es) ≡ map arm_gives es
  gifts_arms [] = refl
  gifts_arms (a ∷ es) = ap (λ (xs : List (R × R)). arm_gives a ∷ xs) (gifts_arms es)

  tree_again : (x : Expr-F Expr Arm) → tree_at (beside x) ≡ roll-Expr x
  tree_again (node.Column table name) = refl
  tree_again (node.Integer n) = refl
  tree_again (node.Text t) = refl
  tree_again node.CountRows = refl
  tree_again (node.Aggregate kind a) = refl
  tree_again (node.Minus a) = refl
  tree_again (node.Arithmetic op a b) = refl
  tree_again (node.Compare op a b) = refl
  tree_again (node.Not a) = refl
  tree_again (node.And a b) = refl
  tree_again (node.Or a b) = refl
  tree_again (node.IsNull negated a) = refl
  tree_again (node.Between negated a low high) = refl
  tree_again (node.In negated a entries) = ap (λ (xs : List Expr). roll-Expr (node.In negated a xs)) (trees_again entries)
  tree_again (node.Like negated a pattern) = refl
  tree_again (node.Coalesce entries) = ap (λ (xs : List Expr). roll-Expr (node.Coalesce xs)) (trees_again entries)
  tree_again (node.Case arms None) = ap (λ (xs : List Arm). roll-Expr (node.Case xs None)) (arms_again arms)
  tree_again (node.Case arms (Some e)) = ap (λ (xs : List Arm). roll-Expr (node.Case xs (Some e))) (arms_again arms)

  gifts_are : (x : Expr-F Expr Arm) → gifts (beside x) ≡ parts_give x
  gifts_are (node.Column table name) = refl
  gifts_are (node.Integer n) = refl
  gifts_are (node.Text t) = refl
  gifts_are node.CountRows = refl
  gifts_are (node.Aggregate kind a) = refl
  gifts_are (node.Minus a) = refl
  gifts_are (node.Arithmetic op a b) = refl
  gifts_are (node.Compare op a b) = refl
  gifts_are (node.Not a) = refl
  gifts_are (node.And a b) = refl
  gifts_are (node.Or a b) = refl
  gifts_are (node.IsNull negated a) = refl
  gifts_are (node.Between negated a low high) = refl
  gifts_are (node.In negated a entries) = ap (λ (xs : List R). node.In negated (replaced given make a) xs) (gifts_list entries)
  gifts_are (node.Like negated a pattern) = refl
  gifts_are (node.Coalesce entries) = ap (λ (xs : List R). node.Coalesce xs) (gifts_list entries)
  gifts_are (node.Case arms None) = ap (λ (xs : List (R × R)). node.Case xs None) (gifts_arms arms)
  gifts_are (node.Case arms (Some e)) = ap (λ (xs : List (R × R)). node.Case xs (Some (replaced given make e))) (gifts_arms arms)

  -- at any node
  pub at_node : (x : Expr-F Expr Arm) → replaced given make (roll-Expr x) ≡ unwrap_or (given (roll-Expr x)) (make (parts_give x))
  at_node x =
      over-roll step x
      ∙ ap₂ (λ (t : Expr) (n : Node R). unwrap_or (given t) (make n)) (tree_again x) (gifts_are x)

  -- of any tree
  pub at_tree : (e : Expr) → replaced given make e ≡ unwrap_or (given e) (make (parts_give (out-Expr e)))
  at_tree e = search (rules, the_lemmas, at_node (out-Expr e))
