-- The type of an expression depends on the types of the columns that it reads alone.
use Rattle.std.proofs.Common.{◌≡◌, ◌&&◌, List, [], ◌∷◌, ◌++◌, map, Option, slice_get, slice_index_or, refl, ap, ap₂, subst, ◌∙◌, sym}
use Rattle.std.specs.List.{list_all, AllByRecursion}
use Rattle.meaning.specs.declared.expr.Arm.{Arm}
use Rattle.meaning.specs.declared.expr.Expr.{Expr}
use Rattle.meaning.specs.declared.expr.Expr.TheOpen as node
use Rattle.meaning.specs.declared.expr.Expr.TheOpen.{Expr-F, Arm-F}
use Rattle.meaning.specs.declared.expr.Expr.TheFolds.{fold-roll-Expr, fold-roll-Arm, ind-Expr, map-Expr}
use Rattle.meaning.specs.declared.value.ColType.{ColType}
use Rattle.meaning.specs.declared.value.ColType.TheVariants as of_type
use Rattle.meaning.specs.References.{Reference, FactColumn, JoinColumn, GroupKey, GroupAggregate, node_references, arm_references, all_references, columns_used, columns_used_in_arm}
use Rattle.meaning.specs.Typing.{Valued, Boolean, RowTypes, Typing, is_integer, is_boolean, is_valued, is_column_type, are_alike, arm_typing, node_typing, has_type, arm_types}
use Rattle.meaning.proofs.ColumnsUsed.{first_part, second_part}

-- the type of what stands there
abbrev pub type_at : RowTypes → Reference → Option ColType
type_at types (FactColumn at) = slice_get types.fact at
type_at types (JoinColumn join at) = slice_get (slice_index_or types.joins join []) at
type_at types (GroupKey i) = slice_get types.key i
type_at types (GroupAggregate i) = slice_get types.aggregates i

module _ (r s : RowTypes) where
  -- both have the same type there
  abbrev pub Same : Reference → Type 0
  Same u = type_at r u ≡ type_at s u

  abbrev pub AreSame : List Reference → Type 0
  AreSame us = AllByRecursion Same us

  abbrev Agrees : Expr → Type 0
  Agrees e = AreSame (columns_used e) → has_type r e ≡ has_type s e

  abbrev AgreesArm : Arm → Type 0
  AgreesArm a = AreSame (columns_used_in_arm a) → arm_types r a ≡ arm_types s a

  abbrev Agreeing : Type 0
  Agreeing = (e : Expr) × Agrees e

  abbrev AgreeingArm : Type 0
  AgreeingArm = (a : Arm) × AgreesArm a

  abbrev bare : Expr-F Agreeing AgreeingArm → Expr-F Expr Arm
  bare = map-Expr Agreeing AgreeingArm Expr Arm (λ e. e.0) (λ a. a.0)

  abbrev typed : RowTypes → Expr-F Expr Arm → Typing
  typed t x = node_typing t (map-Expr Expr Arm Typing (Typing × Typing) (has_type t) (arm_types t) x)

  abbrev used : Expr-F Expr Arm → List Reference
  used x = node_references (map-Expr Expr Arm (List Reference) (List Reference) columns_used columns_used_in_arm x)

  same_list : (es : List Agreeing) → AreSame (all_references (map columns_used (map (λ e. e.0) es)))
      → map (has_type r) (map (λ e. e.0) es) ≡ map (has_type s) (map (λ e. e.0) es)
  same_list [] same = refl
  same_list (e ∷ es) same =
      let rest = all_references (map columns_used (map (λ (e : Agreeing). e.0) es)) in
      ap₂ (λ (t : Typing) (ts : List Typing). t ∷ ts) (e.1 (first_part Same (columns_used e.0) rest same))
      (same_list es (second_part Same (columns_used e.0) rest same))

  same_arms : (es : List AgreeingArm) → AreSame (all_references (map columns_used_in_arm (map (λ a. a.0) es)))
      → map (arm_types r) (map (λ a. a.0) es) ≡ map (arm_types s) (map (λ a. a.0) es)
  same_arms [] same = refl
  same_arms (a ∷ es) same =
      let rest = all_references (map columns_used_in_arm (map (λ (a : AgreeingArm). a.0) es)) in
      ap₂ (λ (t : Typing × Typing) (ts : List (Typing × Typing)). t ∷ ts) (a.1 (first_part Same (columns_used_in_arm a.0) rest same))
      (same_arms es (second_part Same (columns_used_in_arm a.0) rest same))

  -- one part, and two
  same_one : (f : Typing → Typing) (a : Agreeing) → AreSame (columns_used a.0) → f (has_type r a.0) ≡ f (has_type s a.0)
  same_one f a same = ap f (a.1 same)

  same_pair : (f : Typing → Typing → Typing) (a b : Agreeing) → AreSame (columns_used a.0 ++ columns_used b.0) → f (has_type r a.0) (has_type r b.0) ≡ f (has_type s a.0) (has_type s b.0)
  same_pair f a b same = ap₂ f (a.1 (first_part Same _ _ same)) (b.1 (second_part Same (columns_used a.0) _ same))

  same_node : (y : Expr-F Agreeing AgreeingArm) → AreSame (used (bare y)) → typed r (bare y) ≡ typed s (bare y)
  same_node (node.Column at) same = λ i type. is_column_type (same.0 i) type
  same_node (node.Joined join at) same = λ i type. is_column_type (same.0 i) type
  same_node (node.Key k) same = λ i type. is_column_type (same.0 i) type
  same_node (node.Aggregate k) same = λ i type. is_column_type (same.0 i) type
  same_node (node.Literal v) same = refl
  same_node (node.Minus a) same = same_one (λ t type. is_integer type && t (Valued of_type.Int)) a same
  same_node (node.Arithmetic op a b) same = same_pair (λ t u type. is_integer type && (t (Valued of_type.Int) && u (Valued of_type.Int))) a b same
  same_node (node.Compare op a b) same = same_pair (λ t u type. is_boolean type && are_alike (t ∷ u ∷ [])) a b same
  same_node (node.Not a) same = same_one (λ t type. is_boolean type && t Boolean) a same
  same_node (node.And a b) same = same_pair (λ t u type. is_boolean type && (t Boolean && u Boolean)) a b same
  same_node (node.Or a b) same = same_pair (λ t u type. is_boolean type && (t Boolean && u Boolean)) a b same
  same_node (node.IsNull negated x) same = same_one (λ t type. is_boolean type && are_alike (t ∷ [])) x same
  same_node (node.Between negated x low high) same =
      let bounds = second_part Same (columns_used x.0) (columns_used low.0 ++ columns_used high.0) same in
      let here = x.1 (first_part Same _ _ same) in
      let below = low.1 (first_part Same _ _ bounds) in
      let above = high.1 (second_part Same (columns_used low.0) _ bounds) in
      λ i type. is_boolean type && are_alike (here i ∷ below i ∷ above i ∷ [])
  same_node (node.In negated x list) same =
      let here = x.1 (first_part Same _ _ same) in
      let rest = same_list list (second_part Same (columns_used x.0) _ same) in
      λ i type. is_boolean type && are_alike (here i ∷ rest i)
  same_node (node.Like negated x pattern) same = same_one (λ t type. is_boolean type && t (Valued of_type.Text)) x same
  same_node (node.Coalesce list) same =
      let all = same_list list same in
      λ i type. is_valued type && list_all (λ part. part type) (all i)
  same_node (node.Case arms otherwise) same =
      let all = all_references (map columns_used_in_arm (map (λ (a : AgreeingArm). a.0) arms)) in
      let list = same_arms arms (first_part Same all _ same) in
      let last = otherwise.1 (second_part Same all _ same) in
      λ i type. is_valued type && (list_all (λ arm. arm.0 Boolean && arm.1 type) (list i) && last i type)

  same_arm : (y : Arm-F Agreeing AgreeingArm) → AreSame (columns_used y.when.0 ++ columns_used y.then.0) → ◌≡◌ {A = Typing × Typing} (has_type r y.when.0, has_type r y.then.0) (has_type s y.when.0, has_type s y.then.0)
  same_arm y same =
      ap₂ (λ (t u : Typing). (t, u)) (y.when.1 (first_part Same _ _ same)) (y.then.1 (second_part Same (columns_used y.when.0) _ same))

  pub typed_alike : (e : Expr) → Agrees e
  typed_alike = ind-Expr Agrees AgreesArm
      (λ x y is same.
      let named = subst AreSame (fold-roll-Expr (List Reference) (List Reference) node_references arm_references x) same in
      fold-roll-Expr Typing (Typing × Typing) (node_typing r) arm_typing x
      ∙ subst (λ z. AreSame (used z) → typed r z ≡ typed s z) is (same_node y) named
      ∙ sym (fold-roll-Expr Typing (Typing × Typing) (node_typing s) arm_typing x))
      (λ x y is same.
      let named = subst AreSame (fold-roll-Arm (List Reference) (List Reference) node_references arm_references x) same in
      fold-roll-Arm Typing (Typing × Typing) (node_typing r) arm_typing x
      ∙ subst (λ (z : Arm-F Expr Arm). AreSame (columns_used z.when ++ columns_used z.then) → ◌≡◌ {A = Typing × Typing} (has_type r z.when, has_type r z.then) (has_type s z.when, has_type s z.then)) is (same_arm y) named
      ∙ sym (fold-roll-Arm Typing (Typing × Typing) (node_typing s) arm_typing x))
