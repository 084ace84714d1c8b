-- A tree is written out as the tree with full names is.
use Rattle.std.proofs.Common.{rules, ◌≡◌, true, List, [], ◌∷◌, ◌++◌, map, Option, Some, None, option_map, unwrap_or, refl, ap, ap₂, subst, sym, ◌∙◌}
use Rattle.sql_syntax.specs.declared.tree.Arm.{Arm}
use Rattle.sql_syntax.specs.declared.tree.Expr.{Expr}
use Rattle.sql_syntax.specs.declared.tree.Expr.TheOpen as node
use Rattle.sql_syntax.specs.declared.tree.Expr.TheOpen.{Expr-F, Arm-F}
use Rattle.sql_syntax.specs.declared.tree.Expr.TheFolds.{the_lemmas, fold-Expr, fold-Arm, fold-roll-Expr, ind-Expr, map-Expr}
use Rattle.sql_syntax.specs.declared.tree.Expr.TheVariants as tree
use Rattle.sql_syntax.specs.declared.tree.Expr.TheViews.{roll-Expr}
use Rattle.planner_expressions.specs.declared.marks.Mark.TheVariants as mark
use Rattle.planner_expressions.specs.declared.marks.Operator.TheVariants as operator
use Rattle.planner_expressions.specs.declared.scope.ScopeColumn.{ScopeColumn}
use Rattle.planner_expressions.specs.declared.scope.Scope.{Scope}
use Rattle.planner_expressions.specs.Alike.{full_name, with_parts, with_full_names, FoundAlike, SpelledAlike}
use Rattle.planner_expressions.specs.Scope.{stands_for}
use Rattle.planner_expressions.specs.Spelled.{Spelling, column_mark, list_marks, arms_marks, same_spelling, spell_node, spell_arm, spelled, spelled_arm}
use Rattle.planner_expressions.specs.Trees.{Node, arm_tree}
use Rattle.planner_expressions.proofs.AlikeTrees.{gives_same, step, steps}
use Rattle.planner_expressions.proofs.SameMarks.{spelling_is, spelling_itself}

module _ (s : Scope) where
  abbrev full : Expr → Expr
  full = with_full_names s

  abbrev full_arm : Arm → Expr × Expr
  full_arm a = (full a.condition, full a.value)

  abbrev full_step : Expr-F Expr Arm → Expr
  full_step = step s (λ o. option_map full_name o) with_parts (λ t u m n. refl)

  -- ---- a tree whose names are full, written out

  abbrev mark_node : Node Spelling → Spelling
  mark_node (node.Column (Some owner) name) = mark.Column owner name ∷ []
  mark_node (node.Column None name) = mark.Unknown ∷ []
  mark_node x = spell_node s x

  abbrev marked : Expr → Spelling
  marked = fold-Expr Spelling (Spelling × Spelling) mark_node spell_arm

  abbrev marked_arm : Arm → Spelling × Spelling
  marked_arm = fold-Arm Spelling (Spelling × Spelling) mark_node spell_arm

  rolled : (x : Expr-F Expr Arm) → marked (roll-Expr x) ≡ mark_node (map-Expr Expr Arm Spelling (Spelling × Spelling) marked marked_arm x)
  rolled x = fold-roll-Expr Spelling (Spelling × Spelling) mark_node spell_arm x

  arm_marked : (a : Arm) → marked_arm a ≡ (marked a.condition, marked a.value)
  arm_marked a = search (rules, the_lemmas)

  arm_spelled : (a : Arm) → spelled_arm s a ≡ (spelled s a.condition, spelled s a.value)
  arm_spelled a = search (rules, the_lemmas)

  name_marked : (o : Option ScopeColumn) → marked (unwrap_or (option_map full_name o) (tree.Column None [])) ≡ column_mark o ∷ []
  name_marked None = ap marked (sym (tree.rolls-Column None [])) ∙ rolled (node.Column None [])
  name_marked (Some p) = ap marked (sym (tree.rolls-Column (Some p.owner) p.name)) ∙ rolled (node.Column (Some p.owner) p.name)

  -- ---- node by node

  abbrev IsWritten : Expr → Type 0
  IsWritten e = marked (full e) ≡ spelled s e

  abbrev IsWrittenArm : Arm → Type 0
  IsWrittenArm a = IsWritten a.condition × IsWritten a.value

  abbrev Knowing : Type 0
  Knowing = (e : Expr) × IsWritten e

  abbrev KnowingArm : Type 0
  KnowingArm = (a : Arm) × IsWrittenArm a

  abbrev bare : Expr-F Knowing KnowingArm → Expr-F Expr Arm
  bare = map-Expr Knowing KnowingArm Expr Arm (λ e. e.0) (λ a. a.0)

  abbrev trees_of : List Knowing → List Expr
  trees_of = map (λ (e : Knowing). e.0)

  abbrev arms_in : List KnowingArm → List Arm
  arms_in = map (λ (a : KnowingArm). a.0)

  list_marked : (es : List Knowing) → map marked (map (λ (e : Expr). e) (map full (trees_of es))) ≡ map (spelled s) (trees_of es)
  list_marked [] = refl
  list_marked (e ∷ es) = ap₂ (λ (x : Spelling) (xs : List Spelling). x ∷ xs) e.1 (list_marked es)

  one_arm : (a : KnowingArm) → marked_arm (arm_tree (λ (e : Expr). e) (full_arm a.0)) ≡ spelled_arm s a.0
  one_arm a = arm_marked (arm_tree (λ (e : Expr). e) (full_arm a.0)) ∙ ap₂ (λ (c v : Spelling). (c, v)) a.1.0 a.1.1 ∙ sym (arm_spelled a.0)

  arms_marked : (list : List KnowingArm) → map marked_arm (map (arm_tree (λ (e : Expr). e)) (map full_arm (arms_in list))) ≡ map (spelled_arm s) (arms_in list)
  arms_marked [] = refl
  arms_marked (a ∷ list) = ap₂ (λ (x : Spelling × Spelling) (xs : List (Spelling × Spelling)). x ∷ xs) (one_arm a) (arms_marked list)

  abbrev spell_at : Expr-F Expr Arm → Spelling
  spell_at x = spell_node s (map-Expr Expr Arm Spelling (Spelling × Spelling) (spelled s) (spelled_arm s) x)

  node_marked : (y : Expr-F Knowing KnowingArm) → marked (full_step (bare y)) ≡ spell_at (bare y)
  node_marked (node.Column t n) = name_marked (stands_for s t n)
  node_marked (node.Integer n) = rolled (node.Integer n)
  node_marked (node.Text t) = rolled (node.Text t)
  node_marked node.CountRows = rolled node.CountRows
  node_marked (node.Aggregate k a) = rolled (node.Aggregate k (full a.0)) ∙ ap (λ (x : Spelling). mark.Operator (operator.Aggregate k) ∷ x) a.1
  node_marked (node.Minus a) = rolled (node.Minus (full a.0)) ∙ ap (λ (x : Spelling). mark.Operator operator.Minus ∷ x) a.1
  node_marked (node.Arithmetic k a b) = rolled (node.Arithmetic k (full a.0) (full b.0)) ∙ ap₂ (λ (x y : Spelling). mark.Operator (operator.Arithmetic k) ∷ x ++ y) a.1 b.1
  node_marked (node.Compare k a b) = rolled (node.Compare k (full a.0) (full b.0)) ∙ ap₂ (λ (x y : Spelling). mark.Operator (operator.Compare k) ∷ x ++ y) a.1 b.1
  node_marked (node.Not a) = rolled (node.Not (full a.0)) ∙ ap (λ (x : Spelling). mark.Operator operator.Not ∷ x) a.1
  node_marked (node.And a b) = rolled (node.And (full a.0) (full b.0)) ∙ ap₂ (λ (x y : Spelling). mark.Operator operator.And ∷ x ++ y) a.1 b.1
  node_marked (node.Or a b) = rolled (node.Or (full a.0) (full b.0)) ∙ ap₂ (λ (x y : Spelling). mark.Operator operator.Or ∷ x ++ y) a.1 b.1
  node_marked (node.IsNull k a) = rolled (node.IsNull k (full a.0)) ∙ ap (λ (x : Spelling). mark.Operator (operator.IsNull k) ∷ x) a.1
  node_marked (node.Between k a low high) =
      rolled (node.Between k (full a.0) (full low.0) (full high.0)) ∙ (λ i. mark.Operator (operator.Between k) ∷ a.1 i ++ (low.1 i ++ high.1 i))
  node_marked (node.In k a es) =
      rolled (node.In k (full a.0) (map (λ (e : Expr). e) (map full (trees_of es))))
      ∙ ap₂ (λ (x : Spelling) (xs : List Spelling). mark.Operator (operator.In k) ∷ x ++ list_marks xs) a.1 (list_marked es)
  node_marked (node.Like k a t) = rolled (node.Like k (full a.0) t) ∙ ap (λ (x : Spelling). mark.Operator (operator.Like k) ∷ x ++ mark.Text t ∷ []) a.1
  node_marked (node.Coalesce es) =
      rolled (node.Coalesce (map (λ (e : Expr). e) (map full (trees_of es)))) ∙ ap (λ (xs : List Spelling). mark.Operator operator.Coalesce ∷ list_marks xs) (list_marked es)
  node_marked (node.Case arms None) =
      rolled (node.Case (map (arm_tree (λ (e : Expr). e)) (map full_arm (arms_in arms))) None)
      ∙ ap (λ (xs : List (Spelling × Spelling)). mark.Operator operator.Case ∷ arms_marks xs ++ mark.End ∷ []) (arms_marked arms)
  node_marked (node.Case arms (Some e)) =
      rolled (node.Case (map (arm_tree (λ (e : Expr). e)) (map full_arm (arms_in arms))) (Some (full e.0)))
      ∙ ap₂ (λ (xs : List (Spelling × Spelling)) (x : Spelling). mark.Operator operator.Case ∷ arms_marks xs ++ mark.More ∷ x) (arms_marked arms) e.1

  abbrev IsWritten_at : Expr-F Expr Arm → Type 0
  IsWritten_at x = marked (full_step x) ≡ spell_at x

  written_at : (x : Expr-F Expr Arm) → IsWritten_at x → IsWritten (roll-Expr x)
  written_at x is =
      ap marked (steps s (λ o. option_map full_name o) with_parts (λ t u m n. refl) x)
      ∙ is ∙ sym (fold-roll-Expr Spelling (Spelling × Spelling) (spell_node s) spell_arm x)

  abbrev Arm_at : Arm-F Expr Arm → Type 0
  Arm_at x = IsWritten x.condition × IsWritten x.value

  is_written : (e : Expr) → IsWritten e
  is_written = ind-Expr IsWritten IsWrittenArm
      (λ x y is. written_at x (subst IsWritten_at is (node_marked y)))
      (λ x y is. subst Arm_at is (y.condition.1, y.value.1))

  pub spelled_as : (a b : Expr) → with_full_names s a ≡ with_full_names s b → spelled s a ≡ spelled s b
  spelled_as a b is = sym (is_written a) ∙ ap marked is ∙ is_written b

pub spelled_alike : SpelledAlike
spelled_alike s a b = (gives_same s (λ o. option_map full_name o) with_parts (λ t u m n. refl) a b, spelled_as s a b)

pub found_alike : FoundAlike
found_alike s a b = (
  λ same. (spelled_alike s a b).0 (spelling_is (spelled s a) (spelled s b) same),
  λ equal. subst (λ (x : Spelling). same_spelling (spelled s a) x ≡ true) ((spelled_alike s a b).1 equal) (spelling_itself (spelled s a)),
)
