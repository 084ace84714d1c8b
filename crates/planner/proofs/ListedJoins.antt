-- A join equality compares two columns of FROM that the query names, of one type.
use Rattle.std.proofs.Common.{rules, ◌≡◌, ℕ, zero, suc, ◌+◌, ◌<◌, inl, inr, Bool, true, false, ◌&&◌, List, [], ◌∷◌, ◌++◌, map, filter, find, length, cond, Option, Some, None, option_and_then, option_to_list, slice_get, Result, Ok, refl, ap, subst, sym, ◌∙◌, arith}
use Rattle.std.specs.List.{list_all, enumerate_from, AllByRecursion}
use Rattle.std.specs.Option.{is_none}
use Rattle.meaning.specs.Results.{all_ok, and_then}
use Rattle.meaning.specs.declared.plan.Join.{Join}
use Rattle.meaning.specs.declared.plan.JoinType.{JoinType}
use Rattle.meaning.specs.declared.plan.JoinType.TheVariants.{Inner, Left}
use Rattle.meaning.specs.declared.value.ColType.{ColType}
use Rattle.meaning.specs.declared.value.ColType.TheVariants as of_type
use Rattle.meaning.proofs.Tests.{first_of as left_of, second_of as right_of}
use Rattle.sql_syntax.specs.declared.tree.Arm.{Arm}
use Rattle.meaning.specs.declared.expr.ComparisonOperator.TheVariants as comparison
use Rattle.sql_syntax.specs.declared.tree.Expr.{Expr}
use Rattle.sql_syntax.specs.declared.tree.Expr.TheOpen as node
use Rattle.sql_syntax.specs.declared.tree.Expr.TheOpen.{Expr-F}
use Rattle.sql_syntax.specs.declared.tree.Expr.TheFolds.{the_lemmas, map-Expr}
use Rattle.sql_syntax.specs.declared.tree.Expr.TheViews.{out-Expr}
use Rattle.sql_syntax.specs.declared.tree.JoinKind.{JoinKind}
use Rattle.sql_syntax.specs.declared.tree.JoinKind.TheVariants as join_kind
use Rattle.sql_syntax.specs.declared.tree.Joined.{Joined}
use Rattle.sql_syntax.specs.declared.tree.Query.{Query}
use Rattle.sql_syntax.specs.Joins.{condition_of}
use Rattle.planner_expressions.specs.declared.fault.PlanFault.{PlanFault}
use Rattle.planner_expressions.specs.declared.scope.Dim.{Dim}
use Rattle.planner_expressions.specs.declared.scope.ScopeColumn.{ScopeColumn}
use Rattle.planner_expressions.specs.declared.scope.Scope.{Scope}
use Rattle.planner_expressions.specs.declared.sort.Sort.{Sort}
use Rattle.planner_expressions.specs.declared.sort.Sort.TheVariants.{Truth}
use Rattle.planner_expressions.specs.Given.{column_meant, node_column}
use Rattle.planner_expressions.specs.Judged.{Returned, Judgement, judge_node, judged, judged_arm, typed}
use Rattle.planner_expressions.specs.Scope.{meant, one_of, found}
use Rattle.planner_expressions.specs.Sorts.{sort_of_type, same_sort, is_value, are_alike}
use Rattle.planner_expressions.specs.Uses.{names, names_arm, names_node}
use Rattle.planner_expressions.proofs.Accepted.{goes_there}
use Rattle.planner_expressions.proofs.TypedRows.{both_sorts, typed_is, same_is, front}
use Rattle.planner_clauses.specs.declared.conjuncts.Equality.{Equality}
use Rattle.planner_clauses.specs.Checked.{conditions, on_trees}
use Rattle.planner_clauses.specs.Conjuncts.{joined_by, keyed, first_there, equality_of, node_equality, join_equality, inner_equality, joins_left, unless_left, one_equality, joins_dim, equality_for, goes_by, left_on, left_on_of, left_equality_for}
use Rattle.planner.specs.Planned.{equality_by, join_of, join_with, is_named, is_read, use_of}
use Rattle.planner.specs.PlanOf.{equalities_among}
use Rattle.planner_expressions.proofs.Among.{Among, all_at, filter_among}
use Rattle.planner.proofs.Conditions.{AreFine, IsFine}
use Rattle.planner.proofs.NamedParts.{Named, Covers, AllCovered, left, right}
use Rattle.planner_expressions.proofs.Columns.{stands_among}
use Rattle.planner.proofs.TypedTrees.{both_all}
use Rattle.planner.proofs.JoinedKeys.{own_is, same_number, there_then}

-- ---- types

type_is : (a b : ColType) → sort_of_type a ≡ sort_of_type b → a ≡ b
type_is of_type.Int of_type.Int is = refl
type_is of_type.Int of_type.Text is = absurd cc
type_is of_type.Text of_type.Int is = absurd cc
type_is of_type.Text of_type.Text is = refl

module _ (s : Scope) (wanted : ScopeColumn → Bool) where
  -- the join equality is between a column of the fact and one of a dimension, both wanted and of one type
  pub record IsBetween (e : Equality) : Type 0 where
    pub x : ScopeColumn
    pub k : ScopeColumn
    pub x_there : Among s.columns x
    pub k_there : Among s.columns k
    pub x_wanted : wanted x ≡ true
    pub k_wanted : wanted k ≡ true
    pub x_join : x.join ≡ None
    pub k_join : k.join ≡ Some e.join
    pub same : x.col_type ≡ k.col_type
    pub foreign : e.foreign ≡ x.column
    pub key : e.key ≡ k.column

  abbrev pub AreBetween : List Equality → Type 0
  AreBetween = AllByRecursion IsBetween

  abbrev OneBetween : Option Equality → Type 0
  OneBetween o = AreBetween (option_to_list o)

  abbrev IsThere : ScopeColumn → Type 0
  IsThere p = Among s.columns p × (wanted p ≡ true)

  no_join : (o : Option ℕ) → is_none o ≡ true → o ≡ None
  no_join None is = refl
  no_join (Some j) is = absurd cc

  by_test : (x k : ScopeColumn) (j : ℕ) (b : Bool) → k.join ≡ Some j → IsThere x → IsThere k → x.col_type ≡ k.col_type → (k.is_key && is_none x.join) ≡ b
      → OneBetween (cond b (Some (record { join = j; foreign = x.column; key = k.column })) None)
  by_test x k j true joined x_is k_is same is = (
    record {
      x = x;
      k = k;
      x_there = x_is.0;
      k_there = k_is.0;
      x_wanted = x_is.1;
      k_wanted = k_is.1;
      x_join = no_join x.join (right_of k.is_key (is_none x.join) is);
      k_join = joined;
      same = same;
      foreign = refl;
      key = refl;
    },
    tt,
  )
  by_test x k j false joined x_is k_is same is = tt

  by_join : (x k : ScopeColumn) (join : Option ℕ) → k.join ≡ join → IsThere x → IsThere k → x.col_type ≡ k.col_type → OneBetween (joined_by (k.is_key && is_none x.join) x k join)
  by_join x k None joined x_is k_is same = tt
  by_join x k (Some j) joined x_is k_is same = by_test x k j (k.is_key && is_none x.join) joined x_is k_is same refl

  either_between : (a b : Option Equality) → OneBetween a → OneBetween b → OneBetween (first_there a b)
  either_between (Some x) b first second = first
  either_between None b first second = second

  abbrev Stands : Option ScopeColumn → Type 0
  Stands o = (p : ScopeColumn) → o ≡ Some p → IsThere p

  of_columns : (a b : Option ScopeColumn) → Stands a → Stands b → ((x k : ScopeColumn) → a ≡ Some x → b ≡ Some k → x.col_type ≡ k.col_type) → AreBetween (option_to_list (equality_of a b))
  of_columns (Some x) (Some k) first second alike =
      either_between (keyed x k) (keyed k x) (by_join x k k.join refl (first x refl) (second k refl) (alike x k refl refl))
      (by_join k x x.join refl (second k refl) (first x refl) (sym (alike x k refl refl)))
  of_columns (Some x) None first second alike = tt
  of_columns None b first second alike = tt

  -- ---- names

  abbrev named_at : Expr-F Expr Arm → ScopeColumn → Bool
  named_at x p = names_node p (map-Expr Expr Arm Bool Bool (names p) (names_arm p) x)

  names_out : (e : Expr) (p : ScopeColumn) → names p e ≡ named_at (out-Expr e) p
  names_out e p = search (rules, the_lemmas)

  abbrev judge_at : Expr-F Expr Arm → Returned
  judge_at x = judge_node s (map-Expr Expr Arm Judgement (Judgement × Judgement) (judged s) (judged_arm s) x) true

  judged_out : (e : Expr) → judged s e true ≡ judge_at (out-Expr e)
  judged_out e = search (rules, the_lemmas)

  node_stands : (x : Expr-F Expr Arm) → Named wanted (named_at x) → Stands (node_column s x)
  node_stands (node.Column table name) named p is = let there = stands_among s table name p is in (there.0, named p there.1)
  node_stands _ named p is = absurd cc

  tree_stands : (e : Expr) → Covers wanted e → Stands (column_meant s e)
  tree_stands e covered = node_stands (out-Expr e) (λ p h. covered p (names_out e p ∙ h))

  one_sort : (ps : List ScopeColumn) (p : ScopeColumn) → found (one_of ps) ≡ Some p → and_then (one_of ps) (λ q. Ok (sort_of_type q.col_type)) ≡ Ok (sort_of_type p.col_type)
  one_sort [] p is = absurd cc
  one_sort (q ∷ []) p is = let same : q ≡ p = cc in ap (λ (r : ScopeColumn). Ok (sort_of_type r.col_type)) same
  one_sort (q ∷ r ∷ ps) p is = absurd cc

  node_sort : (x : Expr-F Expr Arm) (p : ScopeColumn) → node_column s x ≡ Some p → judge_at x ≡ Ok (sort_of_type p.col_type)
  node_sort (node.Column table name) p is = one_sort (meant s table name) p is
  node_sort _ p is = absurd cc

  tree_sort : (e : Expr) (p : ScopeColumn) → column_meant s e ≡ Some p → judged s e true ≡ Ok (sort_of_type p.col_type)
  tree_sort e p is = judged_out e ∙ node_sort (out-Expr e) p is

  same_ok : (a b : Sort) → ◌≡◌ {A = Returned} (Ok a) (Ok b) → a ≡ b
  same_ok a b is = cc

  -- two names that are compared are of one type
  alike_types : (a b : Expr) (x k : ScopeColumn) (j l z : Sort) → judged s a true ≡ Ok j → judged s b true ≡ Ok l → typed (are_alike (j ∷ l ∷ [])) Truth ≡ Ok z
      → column_meant s a ≡ Some x → column_meant s b ≡ Some k → x.col_type ≡ k.col_type
  alike_types a b x k j l z a_is b_is is x_is k_is =
      let first : j ≡ sort_of_type x.col_type = same_ok j (sort_of_type x.col_type) (sym a_is ∙ tree_sort a x x_is) in
      let second : l ≡ sort_of_type k.col_type = same_ok l (sort_of_type k.col_type) (sym b_is ∙ tree_sort b k k_is) in
      let alike = (typed_is (are_alike (j ∷ l ∷ [])) Truth z is).0 in
      let rest : list_all (same_sort j) (l ∷ []) ≡ true = right_of (is_value j) (list_all (same_sort j) (l ∷ [])) alike in
      let here : same_sort j l ≡ true = left_of (same_sort j l) true rest in
      type_is x.col_type k.col_type (sym first ∙ same_is j l here ∙ second)

  node_between : (x : Expr-F Expr Arm) (z : Sort) → judge_at x ≡ Ok z → Named wanted (named_at x) → AreBetween (option_to_list (node_equality s x))
  node_between (node.Compare comparison.Equal a b) z is named =
      let sorts = both_sorts (judged s a true) (judged s b true) (λ j l. typed (are_alike (j ∷ l ∷ [])) Truth) z is in
      of_columns (column_meant s a) (column_meant s b)
      (tree_stands a (left wanted (λ p. names p a) (λ p. names p b) named))
      (tree_stands b (right wanted (λ p. names p a) (λ p. names p b) named))
      (λ x k. alike_types a b x k sorts.0 sorts.1.0 z sorts.1.1 sorts.1.2 sorts.1.3)
  node_between _ z is named = tt

  -- a tree's equality
  abbrev TreeBetween : Expr → Type 0
  TreeBetween e = OneBetween (join_equality s e)

  tree_between : (e : Expr) → IsFine s e → Covers wanted e → TreeBetween e
  tree_between e fine covered = node_between (out-Expr e) fine.0 (sym (judged_out e) ∙ fine.1) (λ p h. covered p (names_out e p ∙ h))

  inner_between : (o : Option Equality) → OneBetween o → OneBetween (unless_left s o)
  inner_between None is = tt
  inner_between (Some e) is = by (joins_left s e)
    where
      by : (b : Bool) → OneBetween (cond b None (Some e))
      by true = tt
      by false = is

  pub equality_between : (e : Expr) (f : Equality) → join_equality s e ≡ Some f → IsFine s e → Covers wanted e → IsBetween f
  equality_between e f is fine covered = let here : OneBetween (Some f) = subst OneBetween is (tree_between e fine covered) in here.0

  pub all_between : (es : List Expr) → AreFine s es → AllCovered wanted es → AreBetween (equalities_among s es)
  all_between [] fine covered = tt
  all_between (e ∷ es) fine covered =
      both_all IsBetween (option_to_list (inner_equality s e)) (equalities_among s es)
      (inner_between (join_equality s e) (tree_between e fine.0 covered.0))
      (all_between es fine.1 covered.1)

-- ---- the ON of a LEFT join

behind : (o : Option Expr) (es : List Expr) (e : Expr) → Among es e → Among (option_to_list o ++ es) e
behind None es e there = there
behind (Some x) es e there = inr there

its_own : (kind : JoinKind) (es : List Expr) (e : Expr) → left_on kind ≡ Some e → Among (option_to_list (condition_of kind) ++ es) e
its_own join_kind.Comma es e is = absurd cc
its_own (join_kind.Inner x) es e is = absurd cc
its_own (join_kind.Left x) es e is = let same : x ≡ e = cc in inl same

left_there : (name : List ℕ) (js : List Joined) (e : Expr) → option_and_then (λ j. left_on j.kind) (find (goes_by name) js) ≡ Some e → Among (on_trees js) e
left_there name [] e is = absurd cc
left_there name (j ∷ js) e is = by (goes_by name j) (left_there name js e) is
  where
    by : (b : Bool) → (option_and_then (λ (k : Joined). left_on k.kind) (find (goes_by name) js) ≡ Some e → Among (on_trees js) e)
        → option_and_then (λ (k : Joined). left_on k.kind) (cond b (Some j) (find (goes_by name) js)) ≡ Some e → Among (on_trees (j ∷ js)) e
    by true rest found = its_own j.kind (on_trees js) e found
    by false rest found = behind (condition_of j.kind) (on_trees js) e (rest found)

in_front : (xs ys : List Expr) (e : Expr) → Among xs e → Among (xs ++ ys) e
in_front [] ys e there = absurd there
in_front (x ∷ xs) ys e (inl same) = inl same
in_front (x ∷ xs) ys e (inr there) = inr (in_front xs ys e there)

-- ---- joins

module _ (s : Scope) (q : Query) where
  -- the join of the dimension of FROM of this index, by its equality
  pub record IsJoinAt (n : ℕ) (j : Join) : Type 0 where
    pub equality : Equality
    pub between : IsBetween s (is_named q) equality
    pub of_it : equality.join ≡ n
    pub foreign : j.foreign ≡ equality.foreign
    pub key : j.key ≡ equality.key
    pub columns : j.dim.columns ≡ map use_of (filter (is_read q (Some n)) s.columns)

  -- the joins are those of the dimensions from this index on
  abbrev pub AreJoinsFrom : ℕ → List Dim → List Join → Type 0
  AreJoinsFrom n [] [] = Unit {0}
  AreJoinsFrom n [] (j ∷ js) = ⊥
  AreJoinsFrom n (d ∷ ds) [] = ⊥
  AreJoinsFrom n (d ∷ ds) (j ∷ js) = IsJoinAt n j × AreJoinsFrom (n + 1) ds js

  less : (i n : ℕ) → suc i < suc n → i < n
  less i n is = omega (arith, is)

  none_less : (i : ℕ) → i < 0 → ⊥
  none_less i is = omega (arith, is)

  plus_zero : (n : ℕ) → n ≡ n + 0
  plus_zero n = grind arith

  plus_next : (n i : ℕ) → (n + 1) + i ≡ n + suc i
  plus_next n i = grind arith

  pub join_at : (n : ℕ) (ds : List Dim) (js : List Join) (i : ℕ) → AreJoinsFrom n ds js → i < length ds → (j : Join) × (slice_get js i ≡ Some j) × IsJoinAt (n + i) j
  join_at n [] js i are below = absurd (none_less i below)
  join_at n (d ∷ ds) [] i are below = absurd are
  join_at n (d ∷ ds) (j ∷ js) zero are below = (j, refl, subst (λ (m : ℕ). IsJoinAt m j) (plus_zero n) are.0)
  join_at n (d ∷ ds) (j ∷ js) (suc i) are below =
      let rest = join_at (n + 1) ds js i are.1 (less i (length ds) below) in
      (rest.0, rest.1, subst (λ (m : ℕ). IsJoinAt m rest.0) (plus_next n i) rest.2)

  pub all_joins : (P : Join → Type 0) (n : ℕ) (ds : List Dim) (js : List Join) → ((m : ℕ) (j : Join) → IsJoinAt m j → P j) → AreJoinsFrom n ds js → AllByRecursion P js
  all_joins P n [] [] made are = tt
  all_joins P n [] (j ∷ js) made are = absurd are
  all_joins P n (d ∷ ds) [] made are = absurd are
  all_joins P n (d ∷ ds) (j ∷ js) made are = (made n j are.0, all_joins P (n + 1) ds js made are.1)

  -- ---- the joins of a plan

  one_is : (es : List Equality) (e : Equality) → one_equality es ≡ Ok e → Among es e
  one_is [] e is = absurd cc
  one_is (x ∷ []) e is = let same : x ≡ e = cc in inl same
  one_is (x ∷ y ∷ es) e is = absurd cc

  module _ (equalities : List Equality) (are_between : AreBetween s (is_named q) equalities) (fine : AreFine s (conditions q)) (named : AllCovered (is_named q) (conditions q)) where
    abbrev Found : ℕ → Equality → Type 0
    Found n e = IsBetween s (is_named q) e × (e.join ≡ n)

    by_conjunct : (n : ℕ) (e : Equality) → equality_for equalities n ≡ Ok e → Found n e
    by_conjunct n e is =
        let there = filter_among (joins_dim n) equalities e (one_is (filter (joins_dim n) equalities) e is) in
        (all_at (IsBetween s (is_named q)) equalities e are_between there.0, same_number e.join n there.1)

    by_on : (n : ℕ) (d : Dim) (e : Equality) → left_equality_for s q.source.others (n, d) ≡ Ok e → Found n e
    by_on n d e is =
        let own = own_is n (option_and_then (join_equality s) (left_on_of q.source.others d)) e is in
        let tree = there_then (join_equality s) (left_on_of q.source.others d) e own.0 in
        let there = in_front (on_trees q.source.others) (option_to_list q.filter) tree.0 (left_there d.called q.source.others tree.0 tree.1) in (
          equality_between s (is_named q) tree.0 e tree.2 (all_at (IsFine s) (conditions q) tree.0 fine there) (all_at (Covers (is_named q)) (conditions q) tree.0 named there),
          same_number e.join n own.1,
        )

    found_by : (by : JoinType) (n : ℕ) (d : Dim) (e : Equality) → equality_by by s q.source.others equalities (n, d) ≡ Ok e → Found n e
    found_by Inner n d e is = by_conjunct n e is
    found_by Left n d e is = by_on n d e is

    made_join : (n : ℕ) (d : Dim) (j : Join) → join_of s q equalities (n, d) ≡ Ok j → IsJoinAt n j
    made_join n d j is =
        let e = goes_there (equality_by d.join_type s q.source.others equalities (n, d)) (λ e. Ok (join_with s q (n, d) e)) j is in
        let found = found_by d.join_type n d e.0 e.1 in
        let same : join_with s q (n, d) e.0 ≡ j = join_is (join_with s q (n, d) e.0) j e.2 in
        record {
          equality = e.0;
          between = found.0;
          of_it = found.1;
          foreign = sym (ap (λ (x : Join). x.foreign) same);
          key = sym (ap (λ (x : Join). x.key) same);
          columns = sym (ap (λ (x : Join). x.dim.columns) same);
        }
      where
        join_is : (i j : Join) → ◌≡◌ {A = Result Join PlanFault} (Ok i) (Ok j) → i ≡ j
        join_is i j is = cc

    pub made_joins : (n : ℕ) (ds : List Dim) (js : List Join) → all_ok (map (join_of s q equalities) (enumerate_from n ds)) ≡ Ok js → AreJoinsFrom n ds js
    made_joins n [] js is = let none : [] ≡ js = cc in subst (AreJoinsFrom n []) none tt
    made_joins n (d ∷ ds) js is =
        let parts = front (join_of s q equalities (n, d)) (all_ok (map (join_of s q equalities) (enumerate_from (n + 1) ds))) js is in
        subst (AreJoinsFrom n (d ∷ ds)) (sym parts.1.3) (made_join n d parts.0 parts.1.1, made_joins (n + 1) ds parts.1.0 parts.1.2)
