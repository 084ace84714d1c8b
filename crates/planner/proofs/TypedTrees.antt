-- The parts of trees that have no fault and literals that fit are such trees.
use Rattle.std.proofs.Common.{◌≡◌, Bool, true, false, ◌&&◌, List, [], ◌∷◌, ◌++◌, map, flat_map, Some, None, Ok, refl, ap, subst, sym, ◌∙◌}
use Rattle.std.specs.List.{AllByRecursion}
use Rattle.std.proofs.lemmas.List.{append-nil}
use Rattle.meaning.specs.Results.{all_ok, and_then}
use Rattle.meaning.proofs.Tests.{first_of as left_of, second_of as right_of, all_first, all_rest}
use Rattle.sql_syntax.specs.declared.tree.Arm.{Arm}
use Rattle.sql_syntax.specs.declared.tree.Expr.{Expr}
use Rattle.sql_syntax.specs.declared.tree.Expr.TheOpen as node
use Rattle.sql_syntax.specs.declared.tree.Expr.TheOpen.{Expr-F, Arm-F}
use Rattle.sql_syntax.specs.declared.tree.Expr.TheFolds.{ind-Expr, map-Expr, fold-roll-Expr, fold-roll-Arm}
use Rattle.sql_syntax.specs.declared.tree.Expr.TheViews.{roll-Expr}
use Rattle.sql_syntax.specs.Literals.{all_true, fitting_node, fitting_pair, has_fitting_literals, arm_has_fitting_literals}
use Rattle.planner_expressions.specs.declared.scope.Scope.{Scope}
use Rattle.planner_expressions.specs.declared.sort.Sort.{Sort}
use Rattle.planner_expressions.specs.declared.sort.Sort.TheVariants.{Truth}
use Rattle.planner_expressions.specs.Judged.{Returned, Judgement, judge_node, judge_arm, judged, judged_arm, two, typed, each, each_arm, arm_sorts, else_sort, case_sort, over_part}
use Rattle.planner_expressions.specs.Sorts.{same_sort}
use Rattle.planner_expressions.specs.Trees.{parts_of, topmost}
use Rattle.planner_expressions.proofs.Accepted.{goes_there, front_there}
use Rattle.planner_expressions.proofs.Replaced.{parts_give, arm_gives}
use Rattle.planner_expressions.proofs.TypedRows.{both_sorts, typed_is, same_is, some_there}
use Rattle.planner_clauses.specs.Conjuncts.{conjuncts_of, is_no_and, is_and_node}
use Rattle.planner_clauses.proofs.Topmost.{given, joined, passes, below}
use Rattle.planner.proofs.Conditions.{other_is, and_is}

pub both_all : {X : Type 0} (P : X → Type 0) (xs ys : List X) → AllByRecursion P xs → AllByRecursion P ys → AllByRecursion P (xs ++ ys)
both_all P [] ys all rest = rest
both_all P (x ∷ xs) ys all rest = (all.0, both_all P xs ys all.1 rest)

module _ (s : Scope) where
  abbrev fits_at : Expr-F Expr Arm → Bool
  fits_at x = fitting_node (map-Expr Expr Arm Bool Bool has_fitting_literals arm_has_fitting_literals x)

  pub fits_rolled : (x : Expr-F Expr Arm) → has_fitting_literals (roll-Expr x) ≡ fits_at x
  fits_rolled x = fold-roll-Expr Bool Bool fitting_node fitting_pair x

  abbrev judge_at : Bool → Expr-F Expr Arm → Returned
  judge_at b x = judge_node s (map-Expr Expr Arm Judgement (Judgement × Judgement) (judged s) (judged_arm s) x) b

  pub rolled : (b : Bool) (x : Expr-F Expr Arm) → judged s (roll-Expr x) b ≡ judge_at b x
  rolled b x = ap (λ (j : Judgement). j b) (fold-roll-Expr Judgement (Judgement × Judgement) (judge_node s) judge_arm x)

  -- its literals fit, and it has no fault
  abbrev pub Good : Expr → Type 0
  Good e = (has_fitting_literals e ≡ true) × ((b : Bool) × ((z : Sort) × (judged s e b ≡ Ok z)))

  abbrev pub AllGood : List Expr → Type 0
  AllGood = AllByRecursion Good

  flat : (xss : List (List Expr)) → AllByRecursion AllGood xss → AllGood (flat_map (λ part. part) xss)
  flat [] all = tt
  flat (xs ∷ xss) all = both_all Good xs (flat_map (λ part. part) xss) all.0 (flat xss all.1)

  module _ (test : Expr → Bool) where
    abbrev Parted : Expr → Type 0
    Parted e = Good e → AllGood (topmost test e)

    abbrev PartedArm : Arm → Type 0
    PartedArm a = (b : Bool) (p : Sort × Sort) → arm_has_fitting_literals a ≡ true → arm_sorts b (judged_arm s a) ≡ Ok p
        → AllGood (topmost test a.condition) × AllGood (topmost test a.value)

    abbrev Parting : Type 0
    Parting = (e : Expr) × Parted e

    abbrev PartingArm : Type 0
    PartingArm = (a : Arm) × PartedArm a

    abbrev bare : Expr-F Parting PartingArm → Expr-F Expr Arm
    bare = map-Expr Parting PartingArm Expr Arm (λ e. e.0) (λ a. a.0)

    abbrev trees_of : List Parting → List Expr
    trees_of = map (λ (e : Parting). e.0)

    abbrev arms_in : List PartingArm → List Arm
    arms_in = map (λ (a : PartingArm). a.0)

    abbrev parts_at : Expr-F Expr Arm → List (List Expr)
    parts_at x = parts_of (parts_give (given test) (joined test) x)

    list_good : (es : List Parting) (b : Bool) (zs : List Sort) → all_true (map has_fitting_literals (trees_of es)) ≡ true
        → all_ok (each b (map (judged s) (trees_of es))) ≡ Ok zs → AllByRecursion AllGood (map (topmost test) (trees_of es))
    list_good [] b zs fits is = tt
    list_good (e ∷ es) b zs fits is =
        let parts = front_there (judged s e.0 b) (all_ok (each b (map (judged s) (trees_of es)))) zs is in (
          e.1 (all_first (λ (t : Bool). t) (has_fitting_literals e.0) (map has_fitting_literals (trees_of es)) fits, (b, (parts.0.0, parts.0.1))),
          list_good es b parts.1.0 (all_rest (λ (t : Bool). t) (has_fitting_literals e.0) (map has_fitting_literals (trees_of es)) fits) parts.1.1,
        )

    arms_good : (list : List PartingArm) (b : Bool) (ps : List (Sort × Sort)) (rest : List (List Expr)) → all_true (map arm_has_fitting_literals (arms_in list)) ≡ true
        → all_ok (each_arm b (map (judged_arm s) (arms_in list))) ≡ Ok ps → AllByRecursion AllGood rest
        → AllByRecursion AllGood (flat_map (λ (arm : List Expr × List Expr). arm.0 ∷ arm.1 ∷ []) (map (arm_gives (given test) (joined test)) (arms_in list)) ++ rest)
    arms_good [] b ps rest fits is more = more
    arms_good (a ∷ list) b ps rest fits is more =
        let parts = front_there (arm_sorts b (judged_arm s a.0)) (all_ok (each_arm b (map (judged_arm s) (arms_in list)))) ps is in
        let here = a.1 b parts.0.0 (all_first (λ (t : Bool). t) (arm_has_fitting_literals a.0) (map arm_has_fitting_literals (arms_in list)) fits) parts.0.1 in
        (here.0, (here.1, arms_good list b parts.1.0 rest (all_rest (λ (t : Bool). t) (arm_has_fitting_literals a.0) (map arm_has_fitting_literals (arms_in list)) fits) parts.1.1 more))

    pair_good : (a c : Parting) (b : Bool) (z : Sort) (k : Sort → Sort → Returned) → (has_fitting_literals a.0 && has_fitting_literals c.0) ≡ true → two (judged s a.0 b) (judged s c.0 b) k ≡ Ok z
        → AllByRecursion AllGood (topmost test a.0 ∷ topmost test c.0 ∷ [])
    pair_good a c b z k fits is =
        let j = both_sorts (judged s a.0 b) (judged s c.0 b) k z is in (
          a.1 (left_of (has_fitting_literals a.0) (has_fitting_literals c.0) fits, (b, (j.0, j.1.1))),
          (c.1 (right_of (has_fitting_literals a.0) (has_fitting_literals c.0) fits, (b, (j.1.0, j.1.2))), tt),
        )

    one_good : (a : Parting) (b : Bool) (z : Sort) (k : Sort → Returned) → has_fitting_literals a.0 ≡ true → and_then (judged s a.0 b) k ≡ Ok z → AllByRecursion AllGood (topmost test a.0 ∷ [])
    one_good a b z k fits is = let j = goes_there (judged s a.0 b) k z is in (a.1 (fits, (b, (j.0, j.1))), tt)

    node_good : (y : Expr-F Parting PartingArm) (b : Bool) (z : Sort) → fits_at (bare y) ≡ true → judge_at b (bare y) ≡ Ok z → AllByRecursion AllGood (parts_at (bare y))
    node_good (node.Column table name) b z fits is = tt
    node_good (node.Integer n) b z fits is = tt
    node_good (node.Text t) b z fits is = tt
    node_good node.CountRows b z fits is = tt
    node_good (node.Aggregate kind a) b z fits is = one_good a true z (over_part kind b) fits is
    node_good (node.Minus a) b z fits is = one_good a b z _ fits is
    node_good (node.Arithmetic op a c) b z fits is = pair_good a c b z _ fits is
    node_good (node.Compare op a c) b z fits is = pair_good a c b z _ fits is
    node_good (node.Not a) b z fits is = one_good a b z _ fits is
    node_good (node.And a c) b z fits is = pair_good a c b z _ fits is
    node_good (node.Or a c) b z fits is = pair_good a c b z _ fits is
    node_good (node.IsNull negated a) b z fits is = one_good a b z _ fits is
    node_good (node.Between negated a low high) b z fits is =
        let j = goes_there (judged s a.0 b) _ z is in (
          a.1 (left_of (has_fitting_literals a.0) (has_fitting_literals low.0 && has_fitting_literals high.0) fits, (b, (j.0, j.1))),
          pair_good low high b z _ (right_of (has_fitting_literals a.0) (has_fitting_literals low.0 && has_fitting_literals high.0) fits) j.2,
        )
    node_good (node.In negated a entries) b z fits is =
        let j = goes_there (judged s a.0 b) _ z is in
        let l = goes_there (all_ok (each b (map (judged s) (trees_of entries)))) _ z j.2 in (
          a.1 (left_of (has_fitting_literals a.0) (all_true (map has_fitting_literals (trees_of entries))) fits, (b, (j.0, j.1))),
          list_good entries b l.0 (right_of (has_fitting_literals a.0) (all_true (map has_fitting_literals (trees_of entries))) fits) l.1,
        )
    node_good (node.Like negated a pattern) b z fits is = one_good a b z _ fits is
    node_good (node.Coalesce entries) b z fits is =
        let l = goes_there (all_ok (each b (map (judged s) (trees_of entries)))) _ z is in
        list_good entries b l.0 fits l.1
    node_good (node.Case arms None) b z fits is =
        let l = goes_there (all_ok (each_arm b (map (judged_arm s) (arms_in arms)))) _ z is in
        arms_good arms b l.0 [] (left_of (all_true (map arm_has_fitting_literals (arms_in arms))) true fits) l.1 tt
    node_good (node.Case arms (Some e)) b z fits is =
        let l = goes_there (all_ok (each_arm b (map (judged_arm s) (arms_in arms)))) _ z is in
        let o = goes_there (else_sort b (Some (judged s e.0))) (case_sort l.0) z l.2 in
        let v = some_there (judged s e.0 b) o.0 o.1 in
        arms_good arms b l.0 (topmost test e.0 ∷ []) (left_of (all_true (map arm_has_fitting_literals (arms_in arms))) (has_fitting_literals e.0) fits) l.1
        (e.1 (right_of (all_true (map arm_has_fitting_literals (arms_in arms))) (has_fitting_literals e.0) fits, (b, (v.0, v.1))), tt)

    any_good : (x : Expr-F Expr Arm) (t : Bool) → test (roll-Expr x) ≡ t → AllByRecursion AllGood (parts_at x) → Good (roll-Expr x) → AllGood (topmost test (roll-Expr x))
    any_good x true is parts good = subst AllGood (sym (passes test (roll-Expr x) is)) (good, tt)
    any_good x false is parts good = subst AllGood (sym (below test x (roll-Expr x) refl is)) (flat (parts_at x) parts)

    abbrev Parted_at : Expr-F Expr Arm → Type 0
    Parted_at x = Good (roll-Expr x) → AllByRecursion AllGood (parts_at x)

    abbrev Arm_at : Arm-F Expr Arm → Type 0
    Arm_at x = (b : Bool) (p : Sort × Sort) → (has_fitting_literals x.condition && has_fitting_literals x.value) ≡ true → arm_sorts b (judged s x.condition, judged s x.value) ≡ Ok p
        → AllGood (topmost test x.condition) × AllGood (topmost test x.value)

    arm_good : (y : Arm-F Parting PartingArm) (b : Bool) (p : Sort × Sort) → (has_fitting_literals y.condition.0 && has_fitting_literals y.value.0) ≡ true
        → arm_sorts b (judged s y.condition.0, judged s y.value.0) ≡ Ok p → AllGood (topmost test y.condition.0) × AllGood (topmost test y.value.0)
    arm_good y b p fits is =
        let first = goes_there (judged s y.condition.0 b) (λ c. and_then (judged s y.value.0 b) (λ v. Ok (c, v))) p is in
        let second = goes_there (judged s y.value.0 b) (λ v. Ok (first.0, v)) p first.2 in (
          y.condition.1 (left_of (has_fitting_literals y.condition.0) (has_fitting_literals y.value.0) fits, (b, (first.0, first.1))),
          y.value.1 (right_of (has_fitting_literals y.condition.0) (has_fitting_literals y.value.0) fits, (b, (second.0, second.1))),
        )

    pub topmost_good : (e : Expr) → Parted e
    topmost_good = ind-Expr Parted PartedArm
        (λ x y is good.
        any_good x (test (roll-Expr x)) refl
        (subst Parted_at is (λ g. node_good y g.1.0 g.1.1.0 (sym (fits_rolled (bare y)) ∙ g.0) (sym (rolled g.1.0 (bare y)) ∙ g.1.1.1)) good) good)
        (λ x y is b p fits returned.
        subst Arm_at is (arm_good y) b p (sym (fold-roll-Arm Bool Bool fitting_node fitting_pair x) ∙ fits)
        (sym (ap (arm_sorts b) (fold-roll-Arm Judgement (Judgement × Judgement) (judge_node s) judge_arm x)) ∙ returned))

  -- ---- conjuncts

  -- its literals fit, and it is a truth
  abbrev pub IsTrue : Expr → Type 0
  IsTrue e = (has_fitting_literals e ≡ true) × (judged s e true ≡ Ok Truth)

  abbrev Conjoined : Expr → Type 0
  Conjoined e = IsTrue e → AllByRecursion IsTrue (conjuncts_of e)

  abbrev Conjoining : Type 0
  Conjoining = (e : Expr) × Conjoined e

  abbrev Other : Type 0
  Other = (a : Arm) × Unit {0}

  abbrev plain : Expr-F Conjoining Other → Expr-F Expr Arm
  plain = map-Expr Conjoining Other Expr Arm (λ e. e.0) (λ a. a.0)

  abbrev Conjoined_at : Expr-F Expr Arm → Type 0
  Conjoined_at x = IsTrue (roll-Expr x) → AllByRecursion IsTrue (conjuncts_of (roll-Expr x))

  whole : (x : Expr-F Expr Arm) → is_and_node x ≡ false → Conjoined_at x
  whole x other true_is = subst (AllByRecursion IsTrue) (sym (passes is_no_and (roll-Expr x) (other_is s x other))) (true_is, tt)

  conjoined : (y : Expr-F Conjoining Other) → Conjoined_at (plain y)
  conjoined (node.And a c) true_is =
      let fits = sym (fits_rolled (node.And a.0 c.0)) ∙ true_is.0 in
      let j = both_sorts (judged s a.0 true) (judged s c.0 true) (λ k l. typed (same_sort Truth k && same_sort Truth l) Truth) Truth (sym (rolled true (node.And a.0 c.0)) ∙ true_is.1) in
      let t = typed_is (same_sort Truth j.0 && same_sort Truth j.1.0) Truth Truth j.1.3 in
      let first = same_is Truth j.0 (left_of (same_sort Truth j.0) (same_sort Truth j.1.0) t.0) in
      let second = same_is Truth j.1.0 (right_of (same_sort Truth j.0) (same_sort Truth j.1.0) t.0) in
      let list = below is_no_and (node.And a.0 c.0) (roll-Expr (node.And a.0 c.0)) refl (and_is s (node.And a.0 c.0) refl) ∙ ap (λ (xs : List Expr). conjuncts_of a.0 ++ xs) (append-nil (conjuncts_of c.0)) in
      subst (AllByRecursion IsTrue) (sym list)
      (both_all IsTrue (conjuncts_of a.0) (conjuncts_of c.0)
      (a.1 (left_of (has_fitting_literals a.0) (has_fitting_literals c.0) fits, j.1.1 ∙ ap (λ (z : Sort). Ok z) (sym first)))
      (c.1 (right_of (has_fitting_literals a.0) (has_fitting_literals c.0) fits, j.1.2 ∙ ap (λ (z : Sort). Ok z) (sym second))))
  conjoined (node.Column table name) is = whole (node.Column table name) refl is
  conjoined (node.Integer n) is = whole (node.Integer n) refl is
  conjoined (node.Text t) is = whole (node.Text t) refl is
  conjoined node.CountRows is = whole node.CountRows refl is
  conjoined (node.Aggregate kind a) is = whole (plain (node.Aggregate kind a)) refl is
  conjoined (node.Minus a) is = whole (plain (node.Minus a)) refl is
  conjoined (node.Arithmetic op a b) is = whole (plain (node.Arithmetic op a b)) refl is
  conjoined (node.Compare op a b) is = whole (plain (node.Compare op a b)) refl is
  conjoined (node.Not a) is = whole (plain (node.Not a)) refl is
  conjoined (node.Or a b) is = whole (plain (node.Or a b)) refl is
  conjoined (node.IsNull negated a) is = whole (plain (node.IsNull negated a)) refl is
  conjoined (node.Between negated a low high) is = whole (plain (node.Between negated a low high)) refl is
  conjoined (node.In negated a entries) is = whole (plain (node.In negated a entries)) refl is
  conjoined (node.Like negated a pattern) is = whole (plain (node.Like negated a pattern)) refl is
  conjoined (node.Coalesce entries) is = whole (plain (node.Coalesce entries)) refl is
  conjoined (node.Case arms otherwise) is = whole (plain (node.Case arms otherwise)) refl is

  pub conjuncts_true : (e : Expr) → Conjoined e
  conjuncts_true = ind-Expr Conjoined (λ a. Unit {0}) (λ x y is. subst Conjoined_at is (conjoined y)) (λ x y is. tt)
