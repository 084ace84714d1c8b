-- Each join looks for the key of its dimension.
use Rattle.std.proofs.Common.{◌≡◌, ℕ, suc, ◌+◌, ◌==◌, Bool, true, false, ◌&&◌, ◌||◌, not, List, [], ◌∷◌, map, filter, cond, option_and_then, Option, Some, None, option_to_list, slice_get, Result, Ok, Err, refl, ap, subst, sym, ◌∙◌, arith}
use Rattle.std.specs.List.{list_all, enumerate_from}
use Rattle.std.specs.Option.{is_none}
use Rattle.meaning.specs.Results.{all_ok}
use Rattle.meaning.specs.declared.plan.Join.{Join}
use Rattle.meaning.specs.declared.plan.JoinType.{JoinType}
use Rattle.meaning.specs.declared.plan.JoinType.TheVariants.{Inner, Left}
use Rattle.meaning.proofs.Tests.{both, all_first, all_append, all_filter}
use Rattle.sql_syntax.specs.declared.tree.Arm.{Arm}
use Rattle.meaning.specs.declared.expr.ComparisonOperator.TheVariants as comparison
use Rattle.sql_syntax.specs.declared.tree.Expr.{Expr}
use Rattle.sql_syntax.specs.declared.tree.Expr.TheOpen as node
use Rattle.sql_syntax.specs.declared.tree.Expr.TheOpen.{Expr-F}
use Rattle.sql_syntax.specs.declared.tree.Expr.TheViews.{out-Expr}
use Rattle.sql_syntax.specs.declared.tree.Joined.{Joined}
use Rattle.sql_syntax.specs.declared.tree.Query.{Query}
use Rattle.planner_expressions.specs.declared.fault.PlanFault.{PlanFault}
use Rattle.planner_expressions.specs.declared.fault.PlanFault.TheVariants as fault
use Rattle.planner_expressions.specs.declared.scope.Dim.{Dim}
use Rattle.planner_expressions.specs.declared.scope.ScopeColumn.{ScopeColumn}
use Rattle.planner_expressions.specs.declared.scope.Scope.{Scope}
use Rattle.planner_expressions.specs.From.{is_at}
use Rattle.planner_expressions.specs.Given.{column_meant, node_column}
use Rattle.planner_expressions.specs.Scope.{is_meant, meant, one_of, found}
use Rattle.planner_expressions.specs.Typed.{is_key_column, has_its_key}
use Rattle.planner_expressions.proofs.Accepted.{goes_there}
use Rattle.planner_expressions.proofs.TypedRows.{front}
use Rattle.planner_clauses.specs.declared.conjuncts.Equality.{Equality}
use Rattle.planner_clauses.specs.Conjuncts.{joined_by, keyed, first_there, equality_of, node_equality, join_equality, inner_equality, joins_left, unless_left, one_equality, joins_dim, equality_for, left_on_of, if_own, left_equality_for}
use Rattle.planner.specs.Planned.{equality_by, join_of, join_with}
use Rattle.planner.specs.PlanOf.{equalities_among}

pub same_number : (m n : ℕ) → (m == n) ≡ true → m ≡ n
same_number m n is = grind arith

-- ---- the equality of a LEFT join

pub own_is : (n : ℕ) (o : Option Equality) (e : Equality) → if_own n o ≡ Ok e → (o ≡ Some e) × (joins_dim n e ≡ true)
own_is n None e is = absurd cc
own_is n (Some x) e is = by (joins_dim n x) refl is
  where
    by : (b : Bool) → joins_dim n x ≡ b → cond b (Ok x) (Err fault.LeftNotByEquality) ≡ Ok e → (Some x ≡ Some e) × (joins_dim n e ≡ true)
    by true test returned =
        let same : x ≡ e = cc in
        (ap (λ (y : Equality). Some y) same, subst (λ (y : Equality). joins_dim n y ≡ true) same test)
    by false test returned = absurd cc

pub there_then : {X Y : Type 0} (f : X → Option Y) (o : Option X) (y : Y) → option_and_then f o ≡ Some y → (x : X) × (o ≡ Some x) × (f x ≡ Some y)
there_then f None y is = absurd cc
there_then f (Some x) y is = (x, refl, is)

module _ (s : Scope) (keys : List ℕ) (all_keyed : list_all (has_its_key keys) s.columns ≡ true) where
  abbrev LooksFor : Equality → Bool
  LooksFor e = is_at e.key (slice_get keys e.join)

  abbrev OneLooks : Option Equality → Type 0
  OneLooks o = list_all LooksFor (option_to_list o) ≡ true

  abbrev Stands : Option ScopeColumn → Type 0
  Stands o = (p : ScopeColumn) → o ≡ Some p → has_its_key keys p ≡ true

  by_test : (x k : ScopeColumn) (j : ℕ) (is_key rest : Bool) → (not is_key || is_at k.column (slice_get keys j)) ≡ true
      → OneLooks (cond (is_key && rest) (Some (record { join = j; foreign = x.column; key = k.column })) None)
  by_test x k j true true is = both (is_at k.column (slice_get keys j)) true is refl
  by_test x k j true false is = refl
  by_test x k j false rest is = refl

  by_join : (x k : ScopeColumn) (join : Option ℕ) → (not k.is_key || is_key_column keys join k.column) ≡ true → OneLooks (joined_by (k.is_key && is_none x.join) x k join)
  by_join x k None is = refl
  by_join x k (Some j) is = by_test x k j k.is_key (is_none x.join) is

  either_looks : (a b : Option Equality) → OneLooks a → OneLooks b → OneLooks (first_there a b)
  either_looks (Some x) b first second = first
  either_looks None b first second = second

  of_columns : (a b : Option ScopeColumn) → Stands a → Stands b → OneLooks (equality_of a b)
  of_columns (Some x) (Some k) first second = either_looks (keyed x k) (keyed k x) (by_join x k k.join (second k refl)) (by_join k x x.join (first x refl))
  of_columns (Some x) None first second = refl
  of_columns None b first second = refl

  one_stands : (ps : List ScopeColumn) → list_all (has_its_key keys) ps ≡ true → Stands (found (one_of ps))
  one_stands [] all p is = absurd cc
  one_stands (q ∷ []) all p is = let same : q ≡ p = cc in subst (λ (r : ScopeColumn). has_its_key keys r ≡ true) same (all_first (has_its_key keys) q [] all)
  one_stands (q ∷ r ∷ ps) all p is = absurd cc

  at_node : (x : Expr-F Expr Arm) → Stands (node_column s x)
  at_node (node.Column table name) p is = one_stands (meant s table name) (all_filter (has_its_key keys) (is_meant table name) s.columns all_keyed) p is
  at_node _ p is = absurd cc

  node_looks : (x : Expr-F Expr Arm) → OneLooks (node_equality s x)
  node_looks (node.Compare comparison.Equal a b) = of_columns (column_meant s a) (column_meant s b) (at_node (out-Expr a)) (at_node (out-Expr b))
  node_looks _ = refl

  tree_looks : (e : Expr) → OneLooks (join_equality s e)
  tree_looks e = node_looks (out-Expr e)

  inner_looks : (o : Option Equality) → OneLooks o → OneLooks (unless_left s o)
  inner_looks None is = refl
  inner_looks (Some e) is = by (joins_left s e)
    where
      by : (b : Bool) → OneLooks (cond b None (Some e))
      by true = refl
      by false = is

  all_look : (es : List Expr) → list_all LooksFor (equalities_among s es) ≡ true
  all_look [] = refl
  all_look (e ∷ es) = all_append LooksFor (option_to_list (inner_equality s e)) (equalities_among s es) (inner_looks (join_equality s e) (tree_looks e)) (all_look es)

  one_is : (d : ℕ) (es : List Equality) (e : Equality) → list_all LooksFor es ≡ true → list_all (joins_dim d) es ≡ true → one_equality es ≡ Ok e → is_at e.key (slice_get keys d) ≡ true
  one_is d [] e all joins is = absurd cc
  one_is d (x ∷ []) e all joins is =
      let same : x ≡ e = cc in
      let at = same_number x.join d (all_first (joins_dim d) x [] joins) in
      subst (λ (y : Equality). is_at y.key (slice_get keys d) ≡ true) same (subst (λ (n : ℕ). is_at x.key (slice_get keys n) ≡ true) at (all_first LooksFor x [] all))
  one_is d (x ∷ y ∷ es) e all joins is = absurd cc

  passed_by : (d : ℕ) (x : Equality) (xs : List Equality) (b : Bool) → joins_dim d x ≡ b → list_all (joins_dim d) xs ≡ true → list_all (joins_dim d) (cond b (x ∷ xs) xs) ≡ true
  passed_by d x xs true is all = both (joins_dim d x) (list_all (joins_dim d) xs) is all
  passed_by d x xs false is all = all

  all_passed : (d : ℕ) (es : List Equality) → list_all (joins_dim d) (filter (joins_dim d) es) ≡ true
  all_passed d [] = refl
  all_passed d (e ∷ es) = passed_by d e (filter (joins_dim d) es) (joins_dim d e) refl (all_passed d es)

  of_inner : (trees : List Expr) (n : ℕ) (e : Equality) → equality_for (equalities_among s trees) n ≡ Ok e → is_at e.key (slice_get keys n) ≡ true
  of_inner trees n e is =
      one_is n (filter (joins_dim n) (equalities_among s trees)) e (all_filter LooksFor (joins_dim n) (equalities_among s trees) (all_look trees)) (all_passed n (equalities_among s trees)) is

  of_left : (js : List Joined) (n : ℕ) (d : Dim) (e : Equality) → left_equality_for s js (n, d) ≡ Ok e → is_at e.key (slice_get keys n) ≡ true
  of_left js n d e is =
      let own = own_is n (option_and_then (join_equality s) (left_on_of js d)) e is in
      let tree = there_then (join_equality s) (left_on_of js d) e own.0 in
      let looks = all_first LooksFor e [] (subst OneLooks tree.2 (tree_looks tree.0)) in
      subst (λ (m : ℕ). is_at e.key (slice_get keys m) ≡ true) (same_number e.join n own.1) looks

  looks_by : (by : JoinType) (js : List Joined) (trees : List Expr) (n : ℕ) (d : Dim) (e : Equality) → equality_by by s js (equalities_among s trees) (n, d) ≡ Ok e → is_at e.key (slice_get keys n) ≡ true
  looks_by Inner js trees n d e is = of_inner trees n e is
  looks_by Left js trees n d e is = of_left js n d e is

  is_there : (n k : ℕ) (o : Option ℕ) → is_at n o ≡ true → o ≡ Some k → n ≡ k
  is_there n k (Some m) is there = let same : m ≡ k = cc in same_number n m is ∙ same
  is_there n k None is there = absurd cc

  plus_zero : (n : ℕ) → n + 0 ≡ n
  plus_zero n = grind arith

  plus_next : (n i : ℕ) → n + suc i ≡ (n + 1) + i
  plus_next n i = grind arith

  pub joins_from : (q : Query) (trees : List Expr) (n : ℕ) (ds : List Dim) (js : List Join) → ((i : ℕ) → slice_get (map (λ d. d.key) ds) i ≡ slice_get keys (n + i))
      → all_ok (map (join_of s q (equalities_among s trees)) (enumerate_from n ds)) ≡ Ok js → map (λ (d : Dim). d.key) ds ≡ map (λ (j : Join). j.key) js
  joins_from q trees n [] js at is = let none : [] ≡ js = cc in ap (λ (xs : List Join). map (λ (j : Join). j.key) xs) none
  joins_from q trees n (d ∷ ds) js at is =
      let parts = front (join_of s q (equalities_among s trees) (n, d)) (all_ok (map (join_of s q (equalities_among s trees)) (enumerate_from (n + 1) ds))) js is in
      let e = goes_there (equality_by d.join_type s q.source.others (equalities_among s trees) (n, d)) (λ e. Ok (join_with s q (n, d) e)) parts.0 parts.1.1 in
      let looked = looks_by d.join_type q.source.others trees n d e.0 e.1 in
      let here : slice_get keys n ≡ Some d.key = sym (at 0 ∙ ap (slice_get keys) (plus_zero n)) in
      let found_key = is_there e.0.key d.key (slice_get keys n) looked here in
      let made : e.0.key ≡ parts.0.key = key_made (n, d) e.0 parts.0 e.2 in
      let rest = joins_from q trees (n + 1) ds parts.1.0 (λ i. at (suc i) ∙ ap (slice_get keys) (plus_next n i)) parts.1.2 in
      (λ i. (sym found_key ∙ made) i ∷ rest i) ∙ ap (λ (xs : List Join). map (λ (j : Join). j.key) xs) (sym parts.1.3)
    where
      key_made : (d : ℕ × Dim) (e : Equality) (j : Join) → ◌≡◌ {A = Result Join PlanFault} (Ok (join_with s q d e)) (Ok j) → e.key ≡ j.key
      key_made d e j is = let same : join_with s q d e ≡ j = cc in ap (λ (x : Join). x.key) same
