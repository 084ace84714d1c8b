-- The column that is found is the first column of the fact among those that the condition names.
use Rattle.std.proofs.Common.{◌≡◌, ◌≢◌, ℕ, eqb, true, List, [], ◌∷◌, ◌++◌, map, Option, Some, None, refl, ap, subst, sym, ◌∙◌}
use Rattle.std.specs.Prelude.{All}
use Rattle.std.specs.List.{AllByRecursion}
use Rattle.std.proofs.lemmas.Bool.{eqb-true}
use Rattle.std.proofs.lemmas.List.Elements.{recursion_from_All}
use Rattle.meaning.specs.declared.expr.Arm.{Arm}
use Rattle.meaning.specs.declared.expr.Expr.{Expr}
use Rattle.meaning.specs.declared.expr.Expr.TheOpen as node
use Rattle.meaning.specs.declared.expr.Expr.TheOpen.{Expr-F, Arm-F}
use Rattle.meaning.specs.declared.expr.Expr.TheFolds.{fold-roll-Expr, fold-roll-Arm, ind-Expr, map-Expr}
use Rattle.meaning.specs.References.{Reference, FactColumn, JoinColumn, GroupKey, GroupAggregate, all_references, arm_references, columns_used, columns_used_in_arm, node_references}
use Rattle.pushdown.specs.declared.condition.Source.TheVariants as source
use Rattle.pushdown.specs.FactColumn.{StandsOn, arm_column, first_of, first_some, named_column, named_in_arm, node_column}
use Rattle.pushdown.specs.Pushdown.{is_of}

-- the first column of the fact among names
abbrev first_fact : List Reference → Option ℕ
first_fact [] = None
first_fact (FactColumn c ∷ us) = Some c
first_fact (JoinColumn join c ∷ us) = first_fact us
first_fact (GroupKey i ∷ us) = first_fact us
first_fact (GroupAggregate i ∷ us) = first_fact us

first_both : (us vs : List Reference) → first_fact (us ++ vs) ≡ first_of (first_fact us) (first_fact vs)
first_both [] vs = refl
first_both (FactColumn c ∷ us) vs = refl
first_both (JoinColumn join c ∷ us) vs = first_both us vs
first_both (GroupKey i ∷ us) vs = first_both us vs
first_both (GroupAggregate i ∷ us) vs = first_both us vs

abbrev Finds : Expr → Type 0
Finds e = named_column e ≡ first_fact (columns_used e)

abbrev FindsArm : Arm → Type 0
FindsArm a = named_in_arm a ≡ first_fact (columns_used_in_arm a)

abbrev Part : Type 0
Part = (e : Expr) × Finds e

abbrev PartArm : Type 0
PartArm = (a : Arm) × FindsArm a

abbrev bare : Expr-F Part PartArm → Expr-F Expr Arm
bare = map-Expr Part PartArm Expr Arm (λ e. e.0) (λ a. a.0)

abbrev found : Expr-F Expr Arm → Option ℕ
found x = node_column (map-Expr Expr Arm (Option ℕ) (Option ℕ) named_column named_in_arm x)

abbrev used : Expr-F Expr Arm → List Reference
used x = node_references (map-Expr Expr Arm (List Reference) (List Reference) columns_used columns_used_in_arm x)

pair : (a b : Option ℕ) (us vs : List Reference) → a ≡ first_fact us → b ≡ first_fact vs → first_of a b ≡ first_fact (us ++ vs)
pair a b us vs one two = ap (λ (x : Option ℕ). first_of x b) one ∙ ap (first_of (first_fact us)) two ∙ sym (first_both us vs)

list : (es : List Part) → first_some (map named_column (map (λ e. e.0) es)) ≡ first_fact (all_references (map columns_used (map (λ e. e.0) es)))
list [] = refl
list (e ∷ es) =
    pair (named_column e.0) (first_some (map named_column (map (λ (p : Part). p.0) es))) (columns_used e.0) (all_references (map columns_used (map (λ (p : Part). p.0) es))) e.1 (list es)

arms_of : (es : List PartArm) → first_some (map named_in_arm (map (λ a. a.0) es)) ≡ first_fact (all_references (map columns_used_in_arm (map (λ a. a.0) es)))
arms_of [] = refl
arms_of (a ∷ es) =
    pair (named_in_arm a.0) (first_some (map named_in_arm (map (λ (p : PartArm). p.0) es))) (columns_used_in_arm a.0) (all_references (map columns_used_in_arm (map (λ (p : PartArm). p.0) es))) a.1 (arms_of es)

one_node : (y : Expr-F Part PartArm) → found (bare y) ≡ first_fact (used (bare y))
one_node (node.Column at) = refl
one_node (node.Joined join at) = refl
one_node (node.Key i) = refl
one_node (node.Aggregate i) = refl
one_node (node.Literal v) = refl
one_node (node.Minus a) = a.1
one_node (node.Arithmetic op a b) = pair (named_column a.0) (named_column b.0) (columns_used a.0) (columns_used b.0) a.1 b.1
one_node (node.Compare op a b) = pair (named_column a.0) (named_column b.0) (columns_used a.0) (columns_used b.0) a.1 b.1
one_node (node.Not a) = a.1
one_node (node.And a b) = pair (named_column a.0) (named_column b.0) (columns_used a.0) (columns_used b.0) a.1 b.1
one_node (node.Or a b) = pair (named_column a.0) (named_column b.0) (columns_used a.0) (columns_used b.0) a.1 b.1
one_node (node.IsNull negated x) = x.1
one_node (node.Between negated x low high) =
    pair (named_column x.0) (first_of (named_column low.0) (named_column high.0)) (columns_used x.0) (columns_used low.0 ++ columns_used high.0) x.1
    (pair (named_column low.0) (named_column high.0) (columns_used low.0) (columns_used high.0) low.1 high.1)
one_node (node.In negated x es) =
    pair (named_column x.0) (first_some (map named_column (map (λ (p : Part). p.0) es))) (columns_used x.0) (all_references (map columns_used (map (λ (p : Part). p.0) es))) x.1 (list es)
one_node (node.Like negated x pattern) = x.1
one_node (node.Coalesce es) = list es
one_node (node.Case arms otherwise) =
    pair (first_some (map named_in_arm (map (λ (p : PartArm). p.0) arms))) (named_column otherwise.0)
    (all_references (map columns_used_in_arm (map (λ (p : PartArm). p.0) arms))) (columns_used otherwise.0) (arms_of arms) otherwise.1

one_arm : (y : Arm-F Part PartArm) → first_of (named_column y.when.0) (named_column y.then.0) ≡ first_fact (columns_used y.when.0 ++ columns_used y.then.0)
one_arm y = pair (named_column y.when.0) (named_column y.then.0) (columns_used y.when.0) (columns_used y.then.0) y.when.1 y.then.1

finds : (e : Expr) → Finds e
finds = ind-Expr Finds FindsArm
    (λ x y is.
    fold-roll-Expr (Option ℕ) (Option ℕ) node_column arm_column x ∙ subst (λ z. found z ≡ first_fact (used z)) is (one_node y)
    ∙ sym (ap first_fact (fold-roll-Expr (List Reference) (List Reference) node_references arm_references x)))
    (λ x y is.
    fold-roll-Arm (Option ℕ) (Option ℕ) node_column arm_column x
    ∙ subst (λ (z : Arm-F Expr Arm). first_of (named_column z.when) (named_column z.then) ≡ first_fact (columns_used z.when ++ columns_used z.then)) is (one_arm y)
    ∙ sym (ap first_fact (fold-roll-Arm (List Reference) (List Reference) node_references arm_references x)))

-- where a column is found, something is named
pub some_named : (e : Expr) (c : ℕ) → named_column e ≡ Some c → columns_used e ≢ []
some_named e c is none = let clash = sym is ∙ finds e ∙ ap first_fact none in cc

first_is : (c : ℕ) (us : List Reference) → us ≢ [] → AllByRecursion (λ u. is_of (source.FactColumn c) u ≡ true) us → first_fact us ≡ Some c
first_is c [] some of = absurd (some refl)
first_is c (FactColumn d ∷ us) some of = ap Some (sym (eqb-true c d of.0))
first_is c (JoinColumn join d ∷ us) some of = let h = of.0 in cc
first_is c (GroupKey i ∷ us) some of = let h = of.0 in cc
first_is c (GroupAggregate i ∷ us) some of = let h = of.0 in cc

-- a column that the condition stands on is found
pub stands_named : (e : Expr) (c : ℕ) → StandsOn c e → named_column e ≡ Some c
stands_named e c on = finds e ∙ first_is c (columns_used e) on.named (recursion_from_All (λ u. is_of (source.FactColumn c) u ≡ true) (columns_used e) on.pushable.reads)
