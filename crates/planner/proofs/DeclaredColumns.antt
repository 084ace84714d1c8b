-- The tables and the columns of a plan are those that the catalogue declares.
use Rattle.std.proofs.Common.{◌≡◌, ℕ, zero, suc, ◌+◌, Bool, true, false, List, [], ◌∷◌, ◌++◌, map, filter, find, length, cond, Option, Some, None, option_map, slice_get, Result, Ok, Err, refl, ap, subst, sym, ◌∙◌, arith}
use Rattle.std.specs.Prelude.{nat_lt, bytes_eq}
use Rattle.std.specs.List.{list_any, enumerate_from, AllByRecursion}
use Rattle.std.proofs.lemmas.List.Elements.{All-from_recursion}
use Rattle.std.proofs.lemmas.Slice.Eq.{bytes_eq-Decides}
use Rattle.meaning.specs.Limits.{max_joins}
use Rattle.meaning.specs.Results.{all_ok, and_then}
use Rattle.meaning.specs.declared.catalog.Catalog.{Catalog}
use Rattle.meaning.specs.declared.catalog.Column.{Column}
use Rattle.meaning.specs.declared.catalog.Dimension.{Dimension}
use Rattle.meaning.specs.declared.plan.ColumnUse.{ColumnUse}
use Rattle.meaning.specs.declared.plan.Join.{Join}
use Rattle.meaning.specs.declared.plan.JoinType.{JoinType}
use Rattle.meaning.specs.declared.plan.JoinType.TheVariants as join_type
use Rattle.meaning.specs.declared.plan.TableUse.{TableUse}
use Rattle.meaning.proofs.Tests.{first_of}
use Rattle.sql_syntax.specs.declared.tree.Joined.{Joined}
use Rattle.sql_syntax.specs.declared.tree.Query.{Query}
use Rattle.sql_syntax.specs.declared.tree.Source.{Source}
use Rattle.sql_syntax.specs.declared.tree.Table as written
use Rattle.planner_expressions.specs.declared.fault.PlanFault.{PlanFault}
use Rattle.planner_expressions.specs.declared.fault.PlanFault.TheVariants as fault
use Rattle.planner_expressions.specs.declared.scope.Dim.{Dim}
use Rattle.planner_expressions.specs.declared.scope.ScopeColumn.{ScopeColumn}
use Rattle.planner_expressions.specs.declared.scope.Scope.{Scope}
use Rattle.planner_expressions.specs.declared.scope.Times.{Times}
use Rattle.planner_expressions.specs.declared.scope.Times.TheVariants.{Never, Once, Often}
use Rattle.planner_expressions.specs.From.{called, enter, enter_all, if_behind, if_lefts_behind, if_new, is_before_lefts, join_type_of, no_tables, scope_column_of, scope_columns, scope_of, whole, with_dim, with_fact, with_table}
use Rattle.planner_expressions.proofs.Accepted.{goes_there}
use Rattle.planner_expressions.proofs.Meaning.{one_there}
use Rattle.planner_expressions.proofs.Tables.{scopes_are_tables}
use Rattle.planner_expressions.proofs.TypedRows.{front}
use Rattle.planner_clauses.specs.declared.conjuncts.Equality.{Equality}
use Rattle.planner.specs.DeclaredPlans.{IsDeclaredColumn, IsDeclaredJoin, PlansAreDeclared}
use Rattle.planner.specs.PlanOf.{all_conjuncts, equalities_among}
use Rattle.planner.specs.Planned.{equality_by, is_named, is_read, join_of, join_with, same_join, table_use, use_of}
use Rattle.planner.proofs.JoinedKeys.{joins_from, same_number}
use Rattle.planner.proofs.TypedPlans.{parts_of_plan}
use Rattle.planner.proofs.TypedTrees.{both_all}

-- ---- lists

plus_zero : (n : ℕ) → n + 0 ≡ n
plus_zero n = grind arith

plus_next : (n i : ℕ) → n + suc i ≡ (n + 1) + i
plus_next n i = grind arith

zero_plus : (n : ℕ) → n ≡ 0 + n
zero_plus n = grind arith

-- what is found passes the test
pub found_passes : {X : Type 0} (test : X → Bool) (xs : List X) (x : X) → find test xs ≡ Some x → test x ≡ true
found_passes test [] x is = absurd cc
found_passes {X = X} test (y ∷ ys) x is = by (test y) refl (found_passes test ys x) is
  where
    by : (b : Bool) → test y ≡ b → (find test ys ≡ Some x → test x ≡ true) → cond b (Some y) (find test ys) ≡ Some x → test x ≡ true
    by true passes rest found = let same : y ≡ x = cc in ap test (sym same) ∙ passes
    by false passes rest found = rest found

get_more : {X : Type 0} (xs ys : List X) (i : ℕ) (x : X) → slice_get xs i ≡ Some x → slice_get (xs ++ ys) i ≡ Some x
get_more [] ys i x is = absurd cc
get_more (y ∷ xs) ys zero x is = is
get_more (y ∷ xs) ys (suc i) x is = get_more xs ys i x is

get_last : {X : Type 0} (xs : List X) (x : X) → slice_get (xs ++ x ∷ []) (length xs) ≡ Some x
get_last [] x = refl
get_last (y ∷ xs) x = get_last xs x

all_weaker : {X : Type 0} (P Q : X → Type 0) → ((x : X) → P x → Q x) → (xs : List X) → AllByRecursion P xs → AllByRecursion Q xs
all_weaker P Q weaker [] all = tt
all_weaker P Q weaker (x ∷ xs) all = (weaker x all.0, all_weaker P Q weaker xs all.1)

-- what holds of each column of a table holds of each column of FROM that is made of one
each_column : (P : ScopeColumn → Type 0) (name : List ℕ) (join key : Option ℕ) (all : List Column)
    → ((n : ℕ) (c : Column) → slice_get all n ≡ Some c → P (scope_column_of name join key (n, c)))
    → (n : ℕ) (cs : List Column) → ((i : ℕ) → slice_get cs i ≡ slice_get all (n + i)) → AllByRecursion P (map (scope_column_of name join key) (enumerate_from n cs))
each_column P name join key all gives n [] at = tt
each_column P name join key all gives n (c ∷ cs) at = (
  gives n c (sym (at 0 ∙ ap (slice_get all) (plus_zero n))),
  each_column P name join key all gives (n + 1) cs (λ i. at (suc i) ∙ ap (slice_get all) (plus_next n i)),
)

-- ---- one table after the other

module _ (catalog : Catalog) where
  abbrev dimension_at : List ℕ → Option Dimension
  dimension_at name = find (λ d. bytes_eq d.table.name name) catalog.dims

  -- the catalogue has the dimension, under its key
  abbrev IsDimOf : Dim → Type 0
  IsDimOf d = (dimension : Dimension) × (dimension_at d.name ≡ Some dimension) × (d.key ≡ dimension.key)

  -- the column stands in the dimension of FROM with this index, or in the fact
  abbrev StandsAt : List Dim → ScopeColumn → Option ℕ → Type 0
  StandsAt ds c None = IsDeclaredColumn catalog.fact.columns (use_of c)
  StandsAt ds c (Some i) = (d : Dim) × (slice_get ds i ≡ Some d) × ((dimension : Dimension) × (dimension_at d.name ≡ Some dimension) × IsDeclaredColumn dimension.table.columns (use_of c))

  abbrev StandsIn : List Dim → ScopeColumn → Type 0
  StandsIn ds c = StandsAt ds c c.join

  abbrev Stands : Scope → Type 0
  Stands s = AllByRecursion IsDimOf s.dims × AllByRecursion (StandsIn s.dims) s.columns

  fact_stands : (s : Scope) (name : List ℕ) → Stands s → Stands (with_fact s name catalog.fact)
  fact_stands s name stands = (
    stands.0,
    both_all (StandsIn s.dims) s.columns (scope_columns name None None catalog.fact.columns) stands.1
        (each_column (StandsIn s.dims) name None None catalog.fact.columns (λ n c is. record { column = c; there = is; name = refl; type = refl })
        0 catalog.fact.columns (λ i. ap (slice_get catalog.fact.columns) (zero_plus i))),
  )

  still : (ds : List Dim) (new : Dim) (c : ScopeColumn) (join : Option ℕ) → StandsAt ds c join → StandsAt (ds ++ new ∷ []) c join
  still ds new c None at = at
  still ds new c (Some i) at = (at.0, get_more ds (new ∷ []) i at.0 at.1, at.2)

  -- a dimension that is found by a name has this name
  named_so : (name : List ℕ) (d : Dimension) → dimension_at name ≡ Some d → dimension_at d.table.name ≡ Some d
  named_so name d found =
      let same = (bytes_eq-Decides d.table.name name).0 (found_passes (λ (e : Dimension). bytes_eq e.table.name name) catalog.dims d found) in
      ap dimension_at same ∙ found

  dim_stands : (s : Scope) (name : List ℕ) (by : JoinType) (d : Dimension) → dimension_at d.table.name ≡ Some d → Stands s → Stands (with_dim s name by d)
  dim_stands s name by d found stands =
      let new : Dim = record { called = name; name = d.table.name; key = d.key; join_type = by } in
      let ds = s.dims ++ new ∷ [] in (
        both_all IsDimOf s.dims (new ∷ []) stands.0 ((d, found, refl), tt),
        both_all (StandsIn ds) s.columns (scope_columns name (Some (length s.dims)) (Some d.key) d.table.columns)
            (all_weaker (StandsIn s.dims) (StandsIn ds) (λ c. still s.dims new c c.join) s.columns stands.1)
            (each_column (StandsIn ds) name (Some (length s.dims)) (Some d.key) d.table.columns
            (λ n c is. (new, get_last s.dims new, (d, found, record { column = c; there = is; name = refl; type = refl })))
            0 d.table.columns (λ i. ap (slice_get d.table.columns) (zero_plus i))),
      )

  by_table : (s : Scope) (t : written.Table) (by : JoinType) (b : Bool) (new : Scope) → Stands s
      → cond b (Some (with_fact s (called t) catalog.fact)) (option_map (with_dim s (called t) by) (dimension_at t.name)) ≡ Some new → Stands new
  by_table s t by true new stands is = let same : with_fact s (called t) catalog.fact ≡ new = cc in subst Stands same (fact_stands s (called t) stands)
  by_table s t by false new stands is =
      let d = one_there (with_dim s (called t) by) (dimension_at t.name) new is in
      subst Stands (sym d.2) (dim_stands s (called t) by d.0 (named_so t.name d.0 d.1) stands)

  is_new : (taken : Bool) (o : Option Scope) (new : Scope) → if_new taken o ≡ Ok new → o ≡ Some new
  is_new taken None new is = absurd cc
  is_new true (Some x) new is = absurd cc
  is_new false (Some x) new is = let same : x ≡ new = cc in ap (λ (y : Scope). Some y) same

  entered : (s : Scope) (by : JoinType) (t : written.Table) (new : Scope) → Stands s → enter catalog s by t ≡ Ok new → Stands new
  entered s by t new stands is =
      by_table s t by (bytes_eq catalog.fact.name t.name) new stands (is_new (list_any (bytes_eq (called t)) s.names) (with_table catalog s by t) new is)

  all_entered : (s : Scope) (js : List Joined) (new : Scope) → Stands s → enter_all catalog s js ≡ Ok new → Stands new
  all_entered s [] new stands is = let same : s ≡ new = cc in subst Stands same stands
  all_entered s (j ∷ js) new stands is =
      let by = join_type_of j.kind in
      let one = goes_there (enter catalog s by j.table) (λ with_one. enter_all catalog with_one js) new is in
      all_entered one.0 js new (entered s by j.table one.0 stands one.1) one.2

  is_whole : (s : Scope) (times : Times) (new : Scope) → whole s times ≡ Ok new → s ≡ new
  is_whole s Never new is = absurd cc
  is_whole s Often new is = absurd cc
  is_whole s Once new is = by (nat_lt max_joins (length s.dims)) is
    where
      by : (b : Bool) → cond b (Err fault.OverLimit) (Ok s) ≡ Ok new → s ≡ new
      by true returned = absurd cc
      by false returned = cc

  is_behind : (b : Bool) (s new : Scope) → if_behind b s ≡ Ok new → s ≡ new
  is_behind true s new is = cc
  is_behind false s new is = absurd cc

  stand : (source : Source) (s : Scope) → scope_of catalog source ≡ Ok s → Stands s
  stand source s is =
      let last = if_lefts_behind catalog.fact.name source in
      let first = goes_there (enter catalog no_tables join_type.Inner source.first) (λ with_first. and_then (enter_all catalog with_first source.others) (λ all. and_then (whole all all.fact) last)) s is in
      let rest = goes_there (enter_all catalog first.0 source.others) (λ all. and_then (whole all all.fact) last) s first.2 in
      let all = goes_there (whole rest.0 rest.0.fact) last s rest.2 in
      let same = is_whole rest.0 rest.0.fact all.0 all.1 ∙ is_behind (is_before_lefts catalog.fact.name (source.first ∷ []) source.others) all.0 s all.2 in
      subst Stands same (all_entered first.0 source.others rest.0 (entered no_tables join_type.Inner source.first first.0 (tt, tt) first.1) rest.1)

  -- ---- the columns that a plan lists

  of_join : (join own : Option ℕ) → same_join join own ≡ true → own ≡ join
  of_join None None is = refl
  of_join None (Some j) is = absurd cc
  of_join (Some i) None is = absurd cc
  of_join (Some i) (Some j) is = ap (λ (n : ℕ). Some n) (sym (same_number i j is))

  module _ (q : Query) (s : Scope) where
    -- what each column of one table of FROM is, those are that the query reads of it
    kept : (join : Option ℕ) (P : ColumnUse → Type 0) → ((c : ScopeColumn) → StandsAt s.dims c join → P (use_of c)) → (cs : List ScopeColumn) → AllByRecursion (StandsIn s.dims) cs
        → AllByRecursion P (map use_of (filter (is_read q join) cs))
    kept join P gives [] all = tt
    kept join P gives (c ∷ cs) all = by (is_read q join c) refl (kept join P gives cs all.1)
      where
        by : (b : Bool) → is_read q join c ≡ b → AllByRecursion P (map use_of (filter (is_read q join) cs)) → AllByRecursion P (map use_of (cond b (c ∷ filter (is_read q join) cs) (filter (is_read q join) cs)))
        by true is rest =
            let own = of_join join c.join (first_of (same_join join c.join) (is_named q c) is) in
            (gives c (subst (StandsAt s.dims c) own all.0), rest)
        by false is rest = rest

    fact_columns : Stands s → AllByRecursion (IsDeclaredColumn catalog.fact.columns) (map use_of (filter (is_read q None) s.columns))
    fact_columns stands = kept None (IsDeclaredColumn catalog.fact.columns) (λ c at. at) s.columns stands.1

    join_columns : (n : ℕ) (d : Dim) (dimension : Dimension) → Stands s → slice_get s.dims n ≡ Some d → dimension_at d.name ≡ Some dimension
        → AllByRecursion (IsDeclaredColumn dimension.table.columns) (map use_of (filter (is_read q (Some n)) s.columns))
    join_columns n d dimension stands at found =
        kept (Some n) (IsDeclaredColumn dimension.table.columns) (λ c there.
        let same_dim : there.0 ≡ d = some_is there.0 d (sym there.1 ∙ at) in
        let same : there.2.0 ≡ dimension = some_is there.2.0 dimension (sym there.2.1 ∙ ap (λ (e : Dim). dimension_at e.name) same_dim ∙ found) in
        subst (λ (e : Dimension). IsDeclaredColumn e.table.columns (use_of c)) same there.2.2) s.columns stands.1
      where
        some_is : {X : Type 0} (x y : X) → ◌≡◌ {A = Option X} (Some x) (Some y) → x ≡ y
        some_is x y is = cc

    same_key : (d : Dim) (j : Join) (ds : List Dim) (js : List Join) → map (λ (e : Dim). e.key) (d ∷ ds) ≡ map (λ (k : Join). k.key) (j ∷ js) → (d.key ≡ j.key) × (map (λ (e : Dim). e.key) ds ≡ map (λ (k : Join). k.key) js)
    same_key d j ds js is = (cc is, cc is)

    -- the joins of the dimensions of FROM from this index on
    joins_declared : (equalities : List Equality) (n : ℕ) (ds : List Dim) (js : List Join) → Stands s → AllByRecursion IsDimOf ds → ((i : ℕ) → slice_get ds i ≡ slice_get s.dims (n + i))
        → map (λ (d : Dim). d.key) ds ≡ map (λ (j : Join). j.key) js → all_ok (map (join_of s q equalities) (enumerate_from n ds)) ≡ Ok js → AllByRecursion (IsDeclaredJoin catalog) js
    joins_declared equalities n ds [] stands are at keys is = tt
    joins_declared equalities n [] (j ∷ js) stands are at keys is = absurd cc
    joins_declared equalities n (d ∷ ds) (j ∷ js) stands are at keys is =
        let parts = front (join_of s q equalities (n, d)) (all_ok (map (join_of s q equalities) (enumerate_from (n + 1) ds))) (j ∷ js) is in
        let here : parts.0 ≡ j = cons_first parts.0 j parts.1.0 js (sym parts.1.3) in
        let behind : parts.1.0 ≡ js = cons_rest parts.0 j parts.1.0 js (sym parts.1.3) in
        let e = goes_there (equality_by d.join_type s q.source.others equalities (n, d)) (λ e. Ok (join_with s q (n, d) e)) parts.0 parts.1.1 in
        let made : j.dim ≡ table_use s q (Some n) d.name = sym (made_dim n d e.0 j (e.2 ∙ ap (λ (k : Join). Ok k) here)) in
        let (dimension, found, key) = are.0 in
        let first : slice_get s.dims n ≡ Some d = sym (at 0 ∙ ap (slice_get s.dims) (plus_zero n)) in
        let own = same_key d j ds js keys in (
          record {
            dimension = dimension;
            named = ap (λ (t : TableUse). dimension_at t.name) made ∙ found;
            key = sym own.0 ∙ key;
            columns = All-from_recursion _ _ (subst (λ (t : TableUse). AllByRecursion (IsDeclaredColumn dimension.table.columns) t.columns) (sym made) (join_columns n d dimension stands first found));
          },
          joins_declared equalities (n + 1) ds js stands are.1 (λ i. at (suc i) ∙ ap (slice_get s.dims) (plus_next n i)) own.1 (parts.1.2 ∙ ap (λ (ks : List Join). Ok ks) behind),
        )
      where
        cons_first : (a b : Join) (xs ys : List Join) → a ∷ xs ≡ b ∷ ys → a ≡ b
        cons_first a b xs ys is = cc

        cons_rest : (a b : Join) (xs ys : List Join) → a ∷ xs ≡ b ∷ ys → xs ≡ ys
        cons_rest a b xs ys is = cc

        made_dim : (n : ℕ) (d : Dim) (e : Equality) (j : Join) → ◌≡◌ {A = Result Join PlanFault} (Ok (join_with s q (n, d) e)) (Ok j) → table_use s q (Some n) d.name ≡ j.dim
        made_dim n d e j is = let same : join_with s q (n, d) e ≡ j = cc in ap (λ (x : Join). x.dim) same

pub plans_are_declared : PlansAreDeclared
plans_are_declared catalog q p is =
    let parts = parts_of_plan catalog q p is in
    let s = parts.s in
    let stands = stand catalog q.source s parts.scope in
    let known = scopes_are_tables catalog q.source s parts.scope in
    let keyed = joins_from s (map (λ d. d.key) s.dims) known.1.keyed q (all_conjuncts q) 0 s.dims p.joins (λ i. ap (slice_get (map (λ d. d.key) s.dims)) (zero_plus i)) parts.joins in
    record {
      fact = ap (λ (t : TableUse). t.name) parts.fact;
      columns = All-from_recursion _ _ (subst (λ (t : TableUse). AllByRecursion (IsDeclaredColumn catalog.fact.columns) t.columns) (sym parts.fact) (fact_columns catalog q s stands));
      joins = All-from_recursion _ _ (joins_declared catalog q s (equalities_among s (all_conjuncts q)) 0 s.dims p.joins stands stands.0 (λ i. ap (slice_get s.dims) (zero_plus i)) keyed parts.joins);
    }
