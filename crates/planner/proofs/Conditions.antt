-- What the conjuncts of a query are; those of what has no fault have none.
use Rattle.std.proofs.Common.{rules, ◌≡◌, Bool, true, false, List, [], ◌∷◌, ◌++◌, map, filter, flat_map, cond, Option, Some, None, option_to_list, unwrap_or, Ok, refl, ap, subst, sym, ◌∙◌, append_assoc}
use Rattle.std.specs.List.{AllByRecursion}
use Rattle.std.specs.Option.{is_none}
use Rattle.std.proofs.lemmas.List.{append-nil}
use Rattle.meaning.specs.Expr.{eval}
use Rattle.meaning.specs.declared.expr.Expr as plan
use Rattle.meaning.specs.declared.expr.Expr.TheVariants as expr
use Rattle.meaning.specs.declared.plan.JoinType.TheVariants.{Inner, Left}
use Rattle.meaning.specs.declared.value.Value.TheVariants as value
use Rattle.sql_syntax.specs.Joins.{condition_of}
use Rattle.sql_syntax.specs.declared.tree.Arm.{Arm}
use Rattle.sql_syntax.specs.declared.tree.Expr.{Expr}
use Rattle.sql_syntax.specs.declared.tree.Expr.TheOpen as node
use Rattle.sql_syntax.specs.declared.tree.Expr.TheOpen.{Expr-F}
use Rattle.sql_syntax.specs.declared.tree.Expr.TheFolds.{the_lemmas, ind-Expr, map-Expr, fold-roll-Expr}
use Rattle.sql_syntax.specs.declared.tree.Expr.TheViews.{roll-Expr}
use Rattle.sql_syntax.specs.declared.tree.JoinKind.{JoinKind}
use Rattle.sql_syntax.specs.declared.tree.JoinKind.TheVariants as join_kind
use Rattle.sql_syntax.specs.declared.tree.Joined.{Joined}
use Rattle.sql_syntax.specs.declared.tree.Query.{Query}
use Rattle.planner_expressions.specs.declared.scope.Scope.{Scope}
use Rattle.planner_expressions.specs.declared.sort.Sort.{Sort}
use Rattle.planner_expressions.specs.Judged.{Returned, Judgement, judge_node, judge_arm, judged, judged_arm}
use Rattle.planner_expressions.specs.Meant.{SameOnRows}
use Rattle.planner_expressions.proofs.Accepted.{both_there, rows_translate}
use Rattle.planner_expressions.proofs.Meaning.{rows_mean}
use Rattle.planner_clauses.specs.declared.conjuncts.Conjuncts.{Conjuncts}
use Rattle.planner_clauses.specs.declared.conjuncts.Equality.{Equality}
use Rattle.planner_clauses.specs.Checked.{conditions, inner_on, inner_trees, on_trees, row_conditions}
use Rattle.planner_clauses.specs.Conjuncts.{conjuncts_of, is_no_and, is_and_node, inner_equality, row_expr, with_all, with_found, with_conjunct, with_conjuncts, with_on, with_ons}
use Rattle.planner.specs.PlanOf.{Pairwise, all_conjuncts, equalities_among, is_condition, row_conjuncts}
use Rattle.planner_clauses.proofs.Topmost.{flat_append, passes, below}

-- ---- equalities and conditions

abbrev pub of_both : List Equality → List plan.Expr → Conjuncts
of_both equalities plain = record { equalities = equalities; plain = plain }

module _ (s : Scope) where
  -- the conditions among conjuncts
  abbrev pub plain_among : List Expr → List plan.Expr
  plain_among es = map (row_expr s) (filter (is_condition s) es)

  one_found : (c : Conjuncts) (e : Expr) (es : List Expr) (o : Option Equality)
      → of_both ((with_found s Inner c e o).equalities ++ equalities_among s es) ((with_found s Inner c e o).plain ++ plain_among es)
      ≡ of_both (c.equalities ++ (option_to_list o ++ equalities_among s es))
      (c.plain ++ map (row_expr s) (cond (is_none o) (e ∷ filter (is_condition s) es) (filter (is_condition s) es)))
  one_found c e es None = ap (of_both (c.equalities ++ equalities_among s es)) (append_assoc c.plain (row_expr s e ∷ []) (plain_among es))
  one_found c e es (Some q) = ap (λ (xs : List Equality). of_both xs (c.plain ++ plain_among es)) (append_assoc c.equalities (q ∷ []) (equalities_among s es))

  found_all : (c : Conjuncts) (es : List Expr) → with_conjuncts s Inner c es ≡ of_both (c.equalities ++ equalities_among s es) (c.plain ++ plain_among es)
  found_all c [] = λ i. of_both (sym (append-nil c.equalities) i) (sym (append-nil c.plain) i)
  found_all c (e ∷ es) = found_all (with_conjunct s Inner c e) es ∙ one_found c e es (inner_equality s e)

  -- the ON of a LEFT join gives equalities alone

  left_one : (c : Conjuncts) (e : Expr) (es : List Expr) (o : Option Equality)
      → of_both ((with_found s Left c e o).equalities ++ equalities_among s es) (with_found s Left c e o).plain ≡ of_both (c.equalities ++ (option_to_list o ++ equalities_among s es)) c.plain
  left_one c e es None = refl
  left_one c e es (Some q) = ap (λ (xs : List Equality). of_both xs c.plain) (append_assoc c.equalities (q ∷ []) (equalities_among s es))

  left_all : (c : Conjuncts) (es : List Expr) → with_conjuncts s Left c es ≡ of_both (c.equalities ++ equalities_among s es) c.plain
  left_all c [] = λ i. of_both (sym (append-nil c.equalities) i) c.plain
  left_all c (e ∷ es) = left_all (with_conjunct s Left c e) es ∙ left_one c e es (inner_equality s e)

  -- some conditions and then others

  equalities_append : (xs ys : List Expr) → equalities_among s (xs ++ ys) ≡ equalities_among s xs ++ equalities_among s ys
  equalities_append [] ys = refl
  equalities_append (x ∷ xs) ys =
      ap (λ (zs : List Equality). option_to_list (inner_equality s x) ++ zs) (equalities_append xs ys) ∙ sym (append_assoc (option_to_list (inner_equality s x)) (equalities_among s xs) (equalities_among s ys))

  kept_append : (b : Bool) (x : Expr) (xs ys : List Expr) → plain_among (xs ++ ys) ≡ plain_among xs ++ plain_among ys
      → map (row_expr s) (cond b (x ∷ filter (is_condition s) (xs ++ ys)) (filter (is_condition s) (xs ++ ys)))
      ≡ map (row_expr s) (cond b (x ∷ filter (is_condition s) xs) (filter (is_condition s) xs)) ++ plain_among ys
  kept_append true x xs ys is = ap (λ (zs : List plan.Expr). row_expr s x ∷ zs) is
  kept_append false x xs ys is = is

  plain_append : (xs ys : List Expr) → plain_among (xs ++ ys) ≡ plain_among xs ++ plain_among ys
  plain_append [] ys = refl
  plain_append (x ∷ xs) ys = kept_append (is_condition s x) x xs ys (plain_append xs ys)

  abbrev parts : List Expr → List Expr
  parts es = flat_map conjuncts_of es

  more_equalities : (a : List Equality) (xs ys : List Expr) → (a ++ equalities_among s (parts xs)) ++ equalities_among s (parts ys) ≡ a ++ equalities_among s (parts (xs ++ ys))
  more_equalities a xs ys =
      append_assoc a (equalities_among s (parts xs)) (equalities_among s (parts ys))
      ∙ ap (λ (zs : List Equality). a ++ zs) (sym (equalities_append (parts xs) (parts ys)) ∙ ap (equalities_among s) (sym (flat_append xs ys)))

  more_plain : (a : List plan.Expr) (xs ys : List Expr) → (a ++ plain_among (parts xs)) ++ plain_among (parts ys) ≡ a ++ plain_among (parts (xs ++ ys))
  more_plain a xs ys =
      append_assoc a (plain_among (parts xs)) (plain_among (parts ys))
      ∙ ap (λ (zs : List plan.Expr). a ++ zs) (sym (plain_append (parts xs) (parts ys)) ∙ ap plain_among (sym (flat_append xs ys)))

  -- each ON, and then WHERE

  on_found : (c : Conjuncts) (kind : JoinKind)
      → with_on s c kind ≡ of_both (c.equalities ++ equalities_among s (parts (option_to_list (condition_of kind)))) (c.plain ++ plain_among (parts (option_to_list (inner_on kind))))
  on_found c join_kind.Comma = found_all c []
  on_found c (join_kind.Inner e) = found_all c (parts (e ∷ []))
  on_found c (join_kind.Left e) = left_all c (parts (e ∷ [])) ∙ ap (of_both (c.equalities ++ equalities_among s (parts (e ∷ [])))) (sym (append-nil c.plain))

  ons_found : (c : Conjuncts) (js : List Joined)
      → with_ons s c js ≡ of_both (c.equalities ++ equalities_among s (parts (on_trees js))) (c.plain ++ plain_among (parts (inner_trees js)))
  ons_found c [] = λ i. of_both (sym (append-nil c.equalities) i) (sym (append-nil c.plain) i)
  ons_found c (j ∷ js) =
      ons_found (with_on s c j.kind) js
      ∙ ap (λ (d : Conjuncts). of_both (d.equalities ++ equalities_among s (parts (on_trees js))) (d.plain ++ plain_among (parts (inner_trees js)))) (on_found c j.kind)
      ∙ (λ i. of_both (more_equalities c.equalities (option_to_list (condition_of j.kind)) (on_trees js) i) (more_plain c.plain (option_to_list (inner_on j.kind)) (inner_trees js) i))

  pub found_of_query : (c : Conjuncts) (q : Query) → with_all s c q ≡ of_both (c.equalities ++ equalities_among s (all_conjuncts q)) (c.plain ++ plain_among (row_conjuncts q))
  found_of_query c q =
      ap (λ (d : Conjuncts). with_conjuncts s Inner d (parts (option_to_list q.filter))) (ons_found c q.source.others)
      ∙ found_all (of_both (c.equalities ++ equalities_among s (parts (on_trees q.source.others))) (c.plain ++ plain_among (parts (inner_trees q.source.others)))) (parts (option_to_list q.filter))
      ∙ (λ i. of_both (more_equalities c.equalities (on_trees q.source.others) (option_to_list q.filter) i) (more_plain c.plain (inner_trees q.source.others) (option_to_list q.filter) i))

-- ---- the conditions but for those of LEFT joins

by_kind : (P : Expr → Type 0) (kind : JoinKind) (xs ys rest : List Expr) → (AllByRecursion P (xs ++ rest) → AllByRecursion P (ys ++ rest))
    → AllByRecursion P ((option_to_list (condition_of kind) ++ xs) ++ rest) → AllByRecursion P ((option_to_list (inner_on kind) ++ ys) ++ rest)
by_kind P join_kind.Comma xs ys rest more all = more all
by_kind P (join_kind.Inner e) xs ys rest more all = (all.0, more all.1)
by_kind P (join_kind.Left e) xs ys rest more all = more all.1

of_ons : (P : Expr → Type 0) (js : List Joined) (rest : List Expr) → AllByRecursion P (on_trees js ++ rest) → AllByRecursion P (inner_trees js ++ rest)
of_ons P [] rest all = all
of_ons P (j ∷ js) rest all = by_kind P j.kind (on_trees js) (inner_trees js) rest (of_ons P js rest) all

-- what holds of all conditions holds of these
pub of_rows : (P : Expr → Type 0) (q : Query) → AllByRecursion P (conditions q) → AllByRecursion P (row_conditions q)
of_rows P q all = of_ons P q.source.others (option_to_list q.filter) all

-- ---- conjuncts without faults

module _ (s : Scope) where
  abbrev pub IsFine : Expr → Type 0
  IsFine e = (z : Sort) × (judged s e true ≡ Ok z)

  abbrev pub AreFine : List Expr → Type 0
  AreFine = AllByRecursion IsFine

  pub both_fine : (xs ys : List Expr) → AreFine xs → AreFine ys → AreFine (xs ++ ys)
  both_fine [] ys fine rest = rest
  both_fine (x ∷ xs) ys fine rest = (fine.0, both_fine xs ys fine.1 rest)

  kept_fine : (x : Expr) (xs : List Expr) (b : Bool) → IsFine x → AreFine xs → AreFine (cond b (x ∷ xs) xs)
  kept_fine x xs true here rest = (here, rest)
  kept_fine x xs false here rest = rest

  pub filtered_fine : (test : Expr → Bool) (xs : List Expr) → AreFine xs → AreFine (filter test xs)
  filtered_fine test [] fine = tt
  filtered_fine test (x ∷ xs) fine = kept_fine x (filter test xs) (test x) fine.0 (filtered_fine test xs fine.1)

  abbrev Parted : Expr → Type 0
  Parted e = (z : Sort) → judged s e true ≡ Ok z → AreFine (conjuncts_of e)

  abbrev Parting : Type 0
  Parting = (e : Expr) × Parted e

  abbrev Arms : Type 0
  Arms = (a : Arm) × Unit {0}

  abbrev bare : Expr-F Parting Arms → Expr-F Expr Arm
  bare = map-Expr Parting Arms Expr Arm (λ e. e.0) (λ a. a.0)

  pub other_is : (x : Expr-F Expr Arm) → is_and_node x ≡ false → is_no_and (roll-Expr x) ≡ true
  other_is x is = search (rules, the_lemmas)

  pub and_is : (x : Expr-F Expr Arm) → is_and_node x ≡ true → is_no_and (roll-Expr x) ≡ false
  and_is x is = search (rules, the_lemmas)

  abbrev judge_at : Expr-F Expr Arm → Returned
  judge_at x = judge_node s (map-Expr Expr Arm Judgement (Judgement × Judgement) (judged s) (judged_arm s) x) true

  rolled : (x : Expr-F Expr Arm) → judged s (roll-Expr x) true ≡ judge_at x
  rolled x = ap (λ (j : Judgement). j true) (fold-roll-Expr Judgement (Judgement × Judgement) (judge_node s) judge_arm x)

  abbrev Parted_at : Expr-F Expr Arm → Type 0
  Parted_at x = (z : Sort) → judge_at x ≡ Ok z → AreFine (conjuncts_of (roll-Expr x))

  whole : (x : Expr-F Expr Arm) → is_and_node x ≡ false → Parted_at x
  whole x other z is = subst AreFine (sym (passes is_no_and (roll-Expr x) (other_is x other))) ((z, rolled x ∙ is), tt)

  parted_node : (y : Expr-F Parting Arms) → Parted_at (bare y)
  parted_node (node.And a b) z is =
      let parts = both_there (judged s a.0 true) (judged s b.0 true) _ z is in
      let below_it = below is_no_and (node.And a.0 b.0) (roll-Expr (node.And a.0 b.0)) refl (and_is (node.And a.0 b.0) refl) in
      let list = below_it ∙ ap (λ (xs : List Expr). conjuncts_of a.0 ++ xs) (append-nil (conjuncts_of b.0)) in
      subst AreFine (sym list) (both_fine (conjuncts_of a.0) (conjuncts_of b.0) (a.1 parts.0.0 parts.0.1) (b.1 parts.1.0 parts.1.1))
  parted_node (node.Column table name) z is = whole (node.Column table name) refl z is
  parted_node (node.Integer n) z is = whole (node.Integer n) refl z is
  parted_node (node.Text t) z is = whole (node.Text t) refl z is
  parted_node node.CountRows z is = whole node.CountRows refl z is
  parted_node (node.Aggregate kind a) z is = whole (bare (node.Aggregate kind a)) refl z is
  parted_node (node.Minus a) z is = whole (bare (node.Minus a)) refl z is
  parted_node (node.Arithmetic op a b) z is = whole (bare (node.Arithmetic op a b)) refl z is
  parted_node (node.Compare op a b) z is = whole (bare (node.Compare op a b)) refl z is
  parted_node (node.Not a) z is = whole (bare (node.Not a)) refl z is
  parted_node (node.Or a b) z is = whole (bare (node.Or a b)) refl z is
  parted_node (node.IsNull negated a) z is = whole (bare (node.IsNull negated a)) refl z is
  parted_node (node.Between negated a low high) z is = whole (bare (node.Between negated a low high)) refl z is
  parted_node (node.In negated a entries) z is = whole (bare (node.In negated a entries)) refl z is
  parted_node (node.Like negated a pattern) z is = whole (bare (node.Like negated a pattern)) refl z is
  parted_node (node.Coalesce entries) z is = whole (bare (node.Coalesce entries)) refl z is
  parted_node (node.Case arms otherwise) z is = whole (bare (node.Case arms otherwise)) refl z is

  pub parted : (e : Expr) → Parted e
  parted = ind-Expr Parted (λ a. Unit {0}) (λ x y is z returned. subst Parted_at is (parted_node y) z (sym (rolled x) ∙ returned)) (λ x y is. tt)

  pub all_parted : (es : List Expr) → AreFine es → AreFine (flat_map conjuncts_of es)
  all_parted [] fine = tt
  all_parted (e ∷ es) fine = both_fine (conjuncts_of e) (flat_map conjuncts_of es) (parted e fine.0.0 fine.0.1) (all_parted es fine.1)

  -- ---- expressions over rows

  pub row_means : (e : Expr) → IsFine e → SameOnRows s (row_expr s e) e
  row_means e fine r =
      let there = rows_translate s e fine.0 fine.1 in
      ap (λ (o : Option plan.Expr). eval (unwrap_or o (expr.Literal value.Null)) r) there.1 ∙ rows_mean s e there.0 there.1 r

  pub rows_mean_all : (es : List Expr) → AreFine es → Pairwise (SameOnRows s) (map (row_expr s) es) es
  rows_mean_all [] fine = tt
  rows_mean_all (e ∷ es) fine = (row_means e fine.0, rows_mean_all es fine.1)
