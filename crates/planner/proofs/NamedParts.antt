-- The parts of a tree name no more than the tree.
use Rattle.std.proofs.Common.{◌≡◌, Bool, true, false, ◌||◌, List, [], ◌∷◌, ◌++◌, map, flat_map, Some, None, refl, subst, sym, ◌∙◌}
use Rattle.std.specs.List.{list_any, AllByRecursion}
use Rattle.meaning.proofs.Tests.{or_second, or_first}
use Rattle.sql_syntax.specs.declared.tree.Arm.{Arm}
use Rattle.sql_syntax.specs.declared.tree.Expr.{Expr}
use Rattle.sql_syntax.specs.declared.tree.Expr.TheOpen as node
use Rattle.sql_syntax.specs.declared.tree.Expr.TheOpen.{Expr-F, Arm-F}
use Rattle.sql_syntax.specs.declared.tree.Expr.TheFolds.{ind-Expr, map-Expr, fold-roll-Expr, fold-roll-Arm}
use Rattle.sql_syntax.specs.declared.tree.Expr.TheViews.{roll-Expr}
use Rattle.planner_expressions.specs.declared.scope.ScopeColumn.{ScopeColumn}
use Rattle.planner_expressions.specs.Trees.{parts_of, topmost}
use Rattle.planner_expressions.specs.Uses.{names, names_arm, names_node, names_either}
use Rattle.planner_expressions.proofs.Replaced.{parts_give, arm_gives}
use Rattle.planner_clauses.proofs.Topmost.{given, joined, passes, below}
use Rattle.planner.proofs.TypedTrees.{both_all}

module _ (wanted : ScopeColumn → Bool) where
  -- each column of that name is wanted
  abbrev pub Named : (ScopeColumn → Bool) → Type 0
  Named namer = (p : ScopeColumn) → namer p ≡ true → wanted p ≡ true

  abbrev pub Covers : Expr → Type 0
  Covers e = Named (λ p. names p e)

  abbrev pub AllCovered : List Expr → Type 0
  AllCovered = AllByRecursion Covers

  pub left : (f g : ScopeColumn → Bool) → Named (λ p. f p || g p) → Named f
  left f g named p is = named p (or_first (f p) (g p) is)

  pub right : (f g : ScopeColumn → Bool) → Named (λ p. f p || g p) → Named g
  right f g named p is = named p (or_second (f p) (g p) is)

  pub all_covered : (es : List Expr) → Named (λ p. list_any (names p) es) → AllCovered es
  all_covered [] named = tt
  all_covered (e ∷ es) named = (left (λ p. names p e) (λ p. list_any (names p) es) named, all_covered es (right (λ p. names p e) (λ p. list_any (names p) es) named))

  flat : (xss : List (List Expr)) → AllByRecursion AllCovered xss → AllCovered (flat_map (λ part. part) xss)
  flat [] all = tt
  flat (xs ∷ xss) all = both_all Covers xs (flat_map (λ part. part) xss) all.0 (flat xss all.1)

  module _ (test : Expr → Bool) where
    abbrev Parted : Expr → Type 0
    Parted e = Covers e → AllCovered (topmost test e)

    abbrev PartedArm : Arm → Type 0
    PartedArm a = Named (λ p. names_arm p a) → AllCovered (topmost test a.condition) × AllCovered (topmost test a.value)

    abbrev Parting : Type 0
    Parting = (e : Expr) × Parted e

    abbrev PartingArm : Type 0
    PartingArm = (a : Arm) × PartedArm a

    abbrev bare : Expr-F Parting PartingArm → Expr-F Expr Arm
    bare = map-Expr Parting PartingArm Expr Arm (λ e. e.0) (λ a. a.0)

    abbrev trees_of : List Parting → List Expr
    trees_of = map (λ (e : Parting). e.0)

    abbrev arms_in : List PartingArm → List Arm
    arms_in = map (λ (a : PartingArm). a.0)

    abbrev named_at : Expr-F Expr Arm → ScopeColumn → Bool
    named_at x p = names_node p (map-Expr Expr Arm Bool Bool (names p) (names_arm p) x)

    abbrev parts_at : Expr-F Expr Arm → List (List Expr)
    parts_at x = parts_of (parts_give (given test) (joined test) x)

    list_covered : (es : List Parting) → Named (λ p. list_any (λ t. t) (map (names p) (trees_of es))) → AllByRecursion AllCovered (map (topmost test) (trees_of es))
    list_covered [] named = tt
    list_covered (e ∷ es) named = (
      e.1 (left (λ p. names p e.0) (λ p. list_any (λ t. t) (map (names p) (trees_of es))) named),
      list_covered es (right (λ p. names p e.0) (λ p. list_any (λ t. t) (map (names p) (trees_of es))) named),
    )

    arms_covered : (list : List PartingArm) (rest : List (List Expr)) → Named (λ p. list_any (λ t. t) (map (names_arm p) (arms_in list))) → AllByRecursion AllCovered rest
        → AllByRecursion AllCovered (flat_map (λ (arm : List Expr × List Expr). arm.0 ∷ arm.1 ∷ []) (map (arm_gives (given test) (joined test)) (arms_in list)) ++ rest)
    arms_covered [] rest named more = more
    arms_covered (a ∷ list) rest named more =
        let here = a.1 (left (λ p. names_arm p a.0) (λ p. list_any (λ t. t) (map (names_arm p) (arms_in list))) named) in
        (here.0, (here.1, arms_covered list rest (right (λ p. names_arm p a.0) (λ p. list_any (λ t. t) (map (names_arm p) (arms_in list))) named) more))

    pair_covered : (a b : Parting) → Named (λ p. names p a.0 || names p b.0) → AllByRecursion AllCovered (topmost test a.0 ∷ topmost test b.0 ∷ [])
    pair_covered a b named = (a.1 (left (λ p. names p a.0) (λ p. names p b.0) named), (b.1 (right (λ p. names p a.0) (λ p. names p b.0) named), tt))

    node_covered : (y : Expr-F Parting PartingArm) → Named (named_at (bare y)) → AllByRecursion AllCovered (parts_at (bare y))
    node_covered (node.Column table name) named = tt
    node_covered (node.Integer n) named = tt
    node_covered (node.Text t) named = tt
    node_covered node.CountRows named = tt
    node_covered (node.Aggregate kind a) named = (a.1 named, tt)
    node_covered (node.Minus a) named = (a.1 named, tt)
    node_covered (node.Arithmetic op a b) named = pair_covered a b named
    node_covered (node.Compare op a b) named = pair_covered a b named
    node_covered (node.Not a) named = (a.1 named, tt)
    node_covered (node.And a b) named = pair_covered a b named
    node_covered (node.Or a b) named = pair_covered a b named
    node_covered (node.IsNull negated a) named = (a.1 named, tt)
    node_covered (node.Between negated a low high) named = (
      a.1 (left (λ p. names p a.0) (λ p. names p low.0 || names p high.0) named),
      pair_covered low high (right (λ p. names p a.0) (λ p. names p low.0 || names p high.0) named),
    )
    node_covered (node.In negated a entries) named = (
      a.1 (left (λ p. names p a.0) (λ p. list_any (λ t. t) (map (names p) (trees_of entries))) named),
      list_covered entries (right (λ p. names p a.0) (λ p. list_any (λ t. t) (map (names p) (trees_of entries))) named),
    )
    node_covered (node.Like negated a pattern) named = (a.1 named, tt)
    node_covered (node.Coalesce entries) named = list_covered entries named
    node_covered (node.Case arms None) named = arms_covered arms [] (left (λ p. list_any (λ t. t) (map (names_arm p) (arms_in arms))) (λ p. false) named) tt
    node_covered (node.Case arms (Some e)) named =
        arms_covered arms (topmost test e.0 ∷ []) (left (λ p. list_any (λ t. t) (map (names_arm p) (arms_in arms))) (λ p. names p e.0) named)
        (e.1 (right (λ p. list_any (λ t. t) (map (names_arm p) (arms_in arms))) (λ p. names p e.0) named), tt)

    any_covered : (x : Expr-F Expr Arm) (t : Bool) → test (roll-Expr x) ≡ t → AllByRecursion AllCovered (parts_at x) → Covers (roll-Expr x) → AllCovered (topmost test (roll-Expr x))
    any_covered x true is parts covered = subst AllCovered (sym (passes test (roll-Expr x) is)) (covered, tt)
    any_covered x false is parts covered = subst AllCovered (sym (below test x (roll-Expr x) refl is)) (flat (parts_at x) parts)

    abbrev Parted_at : Expr-F Expr Arm → Type 0
    Parted_at x = Named (named_at x) → AllByRecursion AllCovered (parts_at x)

    abbrev Arm_at : Arm-F Expr Arm → Type 0
    Arm_at x = Named (λ p. names p x.condition || names p x.value) → AllCovered (topmost test x.condition) × AllCovered (topmost test x.value)

    arm_covered : (y : Arm-F Parting PartingArm) → Named (λ p. names p y.condition.0 || names p y.value.0) → AllCovered (topmost test y.condition.0) × AllCovered (topmost test y.value.0)
    arm_covered y named = (
      y.condition.1 (left (λ p. names p y.condition.0) (λ p. names p y.value.0) named),
      y.value.1 (right (λ p. names p y.condition.0) (λ p. names p y.value.0) named),
    )

    pub topmost_covered : (e : Expr) → Parted e
    topmost_covered = ind-Expr Parted PartedArm
        (λ x y is covered.
        any_covered x (test (roll-Expr x)) refl
        (subst Parted_at is (node_covered y) (λ p h. covered p (fold-roll-Expr Bool Bool (names_node p) names_either x ∙ h))) covered)
        (λ x y is named. subst Arm_at is (arm_covered y) (λ p h. named p (fold-roll-Arm Bool Bool (names_node p) names_either x ∙ h)))

    pub flat_covered : (es : List Expr) → AllCovered es → AllCovered (flat_map (topmost test) es)
    flat_covered [] all = tt
    flat_covered (e ∷ es) all = both_all Covers (topmost test e) (flat_map (topmost test) es) (topmost_covered e all.0) (flat_covered es all.1)
