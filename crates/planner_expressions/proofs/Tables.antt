-- The columns of FROM stand where the catalogue's tables have them.
use Rattle.std.proofs.Common.{◌≡◌, ℕ, zero, suc, ◌+◌, ◌<◌, ◌==◌, Bool, true, false, not, ◌||◌, List, [], ◌∷◌, ◌++◌, map, find, length, cond, Option, Some, None, option_map, slice_get, slice_index_or, Ok, Err, refl, ap, ap₂, subst, sym, ◌∙◌, arith}
use Rattle.std.specs.Prelude.{nat_lt, bytes_eq, Contains}
use Rattle.std.specs.List.{list_all, list_any, enumerate_from, AllByRecursion}
use Rattle.std.proofs.lemmas.List.Elements.{All-from_recursion}
use Rattle.std.proofs.lemmas.List.{length-map}
use Rattle.meaning.specs.Limits.{max_joins}
use Rattle.meaning.specs.Results.{and_then}
use Rattle.meaning.specs.TableLaws.{column_types, joined_types}
use Rattle.meaning.specs.Typing.{Valued, RowTypes, is_column_type}
use Rattle.meaning.specs.declared.catalog.Catalog.{Catalog}
use Rattle.meaning.specs.declared.catalog.Column.{Column}
use Rattle.meaning.specs.declared.catalog.Dimension.{Dimension}
use Rattle.meaning.specs.declared.plan.JoinType.{JoinType}
use Rattle.meaning.specs.declared.plan.JoinType.TheVariants as join_type
use Rattle.meaning.specs.declared.value.ColType.{ColType}
use Rattle.meaning.proofs.Tests.{both, all_append, all_imply}
use Rattle.meaning.proofs.Typed.{type_itself}
use Rattle.sql_syntax.specs.declared.tree.Table as written
use Rattle.sql_syntax.specs.declared.tree.Joined.{Joined}
use Rattle.sql_syntax.specs.declared.tree.Source.{Source}
use Rattle.planner_expressions.specs.declared.fault.PlanFault.TheVariants as fault
use Rattle.planner_expressions.specs.declared.scope.Dim.{Dim}
use Rattle.planner_expressions.specs.declared.scope.ScopeColumn.{ScopeColumn}
use Rattle.planner_expressions.specs.declared.scope.Scope.{Scope}
use Rattle.planner_expressions.specs.declared.scope.Times.{Times}
use Rattle.planner_expressions.specs.declared.scope.Times.TheVariants.{Never, Once, Often}
use Rattle.planner_expressions.specs.From.{called, join_type_of, is_before_lefts, if_behind, if_lefts_behind, is_at, scope_column_of, scope_columns, with_fact, with_dim, with_table, if_new, enter, enter_all, no_tables, whole, scope_of}
use Rattle.planner_expressions.specs.Typed.{types_in, has_its_type, columns_have_types, is_key_column, has_its_key, ScopesAreTables}
use Rattle.planner_expressions.proofs.Accepted.{goes_there}
use Rattle.planner_expressions.proofs.Meaning.{one_there}

-- ---- lists

plus_zero : (n : ℕ) → n + 0 ≡ n
plus_zero n = grind arith

plus_next : (n i : ℕ) → n + suc i ≡ (n + 1) + i
plus_next n i = grind arith

zero_first : (n : ℕ) → 0 < suc n
zero_first n = omega arith

zero_plus : (n : ℕ) → n ≡ 0 + n
zero_plus n = grind arith

contains_more : {X : Type 0} (x y : X) (xs : List X) → Contains xs x → Contains (y ∷ xs) x
contains_more x y xs there = let below = there.1 in (suc there.0, omega (arith, below), there.2)

either_found : {X : Type 0} (y x : X) (xs : List X) (o : Option X) (b : Bool) → (o ≡ Some x → Contains xs x) → cond b (Some y) o ≡ Some x → Contains (y ∷ xs) x
either_found y x xs o true rest is = let same : y ≡ x = cc in (0, zero_first (length xs), same)
either_found y x xs o false rest is = contains_more x y xs (rest is)

found_in : {X : Type 0} (p : X → Bool) (xs : List X) (x : X) → find p xs ≡ Some x → Contains xs x
found_in p [] x is = absurd cc
found_in {X = X} p (y ∷ xs) x is = either_found y x xs (find p xs) (p y) (found_in p xs x) is

all_last : {X : Type 0} (P : X → Type 0) (xs : List X) (x : X) → AllByRecursion P xs → P x → AllByRecursion P (xs ++ x ∷ [])
all_last P [] x all here = (here, tt)
all_last P (y ∷ xs) x all here = (all.0, all_last P xs x all.1 here)

map_last : {X Y : Type 0} (f : X → Y) (xs : List X) (x : X) → map f (xs ++ x ∷ []) ≡ map f xs ++ f x ∷ []
map_last f [] x = refl
map_last {Y = Y} f (y ∷ xs) x = ap (λ (zs : List Y). f y ∷ zs) (map_last f xs x)

get_last : {X : Type 0} (xs : List X) (x : X) → slice_get (xs ++ x ∷ []) (length xs) ≡ Some x
get_last [] x = refl
get_last (y ∷ xs) x = get_last xs x

index_last : {X : Type 0} (xs : List X) (x d : X) → slice_index_or (xs ++ x ∷ []) (length xs) d ≡ x
index_last [] x d = refl
index_last (y ∷ xs) x d = index_last xs x d

no_key : (at : ℕ) → is_at at None ≡ true → ⊥
no_key at is = cc

key_more : (keys more : List ℕ) (j at : ℕ) → is_at at (slice_get keys j) ≡ true → is_at at (slice_get (keys ++ more) j) ≡ true
key_more [] more j at is = absurd (no_key at is)
key_more (k ∷ keys) more zero at is = is
key_more (k ∷ keys) more (suc j) at is = key_more keys more j at is

type_more : (types more : List (List ColType)) (j at : ℕ) (kind : ColType) → is_column_type (slice_get (slice_index_or types j []) at) (Valued kind) ≡ true
    → is_column_type (slice_get (slice_index_or (types ++ more) j []) at) (Valued kind) ≡ true
type_more [] more j at kind is = absurd cc
type_more (t ∷ types) more zero at kind is = is
type_more (t ∷ types) more (suc j) at kind is = type_more types more j at kind is

-- ---- the columns of one table

types_stand : (types : RowTypes) (name : List ℕ) (join key : Option ℕ) (all : List ColType) (n : ℕ) (cs : List Column) → types_in types join ≡ all
    → ((i : ℕ) → slice_get (column_types cs) i ≡ slice_get all (n + i)) → list_all (has_its_type types) (map (scope_column_of name join key) (enumerate_from n cs)) ≡ true
types_stand types name join key all n [] is at = refl
types_stand types name join key all n (c ∷ cs) is at =
    let here : slice_get (types_in types join) n ≡ Some c.col_type = ap (λ (ts : List ColType). slice_get ts n) is ∙ sym (at 0 ∙ ap (slice_get all) (plus_zero n)) in
    let rest = types_stand types name join key all (n + 1) cs is (λ i. at (suc i) ∙ ap (slice_get all) (plus_next n i)) in
    both (is_column_type (slice_get (types_in types join) n) (Valued c.col_type)) _
    (ap (λ (o : Option ColType). is_column_type o (Valued c.col_type)) here ∙ type_itself c.col_type) rest

no_keys_stand : (keys name : List ℕ) (n : ℕ) (cs : List Column) → list_all (has_its_key keys) (map (scope_column_of name None None) (enumerate_from n cs)) ≡ true
no_keys_stand keys name n [] = refl
no_keys_stand keys name n (c ∷ cs) = no_keys_stand keys name (n + 1) cs

not_or : (b : Bool) → (not b || b) ≡ true
not_or true = refl
not_or false = refl

keys_stand : (keys name : List ℕ) (j key n : ℕ) (cs : List Column) → slice_get keys j ≡ Some key
    → list_all (has_its_key keys) (map (scope_column_of name (Some j) (Some key)) (enumerate_from n cs)) ≡ true
keys_stand keys name j key n [] is = refl
keys_stand keys name j key n (c ∷ cs) is =
    both (not (n == key) || is_at n (slice_get keys j)) _ (ap (λ (o : Option ℕ). not (n == key) || is_at n o) is ∙ not_or (n == key)) (keys_stand keys name j key (n + 1) cs is)

-- ---- one table after the other

module _ (catalog : Catalog) where
  abbrev key_in : Dimension → ℕ
  key_in d = d.key

  abbrev key_of : Dim → ℕ
  key_of d = d.key

  abbrev types_of : Dimension → List ColType
  types_of d = column_types d.table.columns

  abbrev Stand : List Dimension → Scope → Type 0
  Stand ds s = AllByRecursion (Contains catalog.dims) ds × (map key_in ds ≡ map key_of s.dims) × (columns_have_types (joined_types catalog ds) s ≡ true) × (list_all (has_its_key (map key_of s.dims)) s.columns ≡ true)

  fact_stands : (ds : List Dimension) (s : Scope) (name : List ℕ) → Stand ds s → Stand ds (with_fact s name catalog.fact)
  fact_stands ds s name stand = (
    stand.0,
    stand.1,
    all_append (has_its_type (joined_types catalog ds)) s.columns (scope_columns name None None catalog.fact.columns) stand.2
        (types_stand (joined_types catalog ds) name None None (column_types catalog.fact.columns) 0 catalog.fact.columns refl (λ i. ap (slice_get (column_types catalog.fact.columns)) (zero_plus i))),
    all_append (has_its_key (map key_of s.dims)) s.columns (scope_columns name None None catalog.fact.columns) stand.3 (no_keys_stand (map key_of s.dims) name 0 catalog.fact.columns),
  )

  more_typed : (ds : List Dimension) (d : Dimension) (p : ScopeColumn) (join : Option ℕ) → is_column_type (slice_get (types_in (joined_types catalog ds) join) p.column) (Valued p.col_type) ≡ true
      → is_column_type (slice_get (types_in (joined_types catalog (ds ++ d ∷ [])) join) p.column) (Valued p.col_type) ≡ true
  more_typed ds d p None is = is
  more_typed ds d p (Some j) is =
      ap (λ (ts : List (List ColType)). is_column_type (slice_get (slice_index_or ts j []) p.column) (Valued p.col_type)) (map_last types_of ds d)
      ∙ type_more (map types_of ds) (types_of d ∷ []) j p.column p.col_type is

  more_key_column : (keys : List ℕ) (k : ℕ) (join : Option ℕ) (at : ℕ) → is_key_column keys join at ≡ true → is_key_column (keys ++ k ∷ []) join at ≡ true
  more_key_column keys k None at is = refl
  more_key_column keys k (Some j) at is = key_more keys (k ∷ []) j at is

  more_keyed : (keys : List ℕ) (k : ℕ) (p : ScopeColumn) (b : Bool) → (not b || is_key_column keys p.join p.column) ≡ true → (not b || is_key_column (keys ++ k ∷ []) p.join p.column) ≡ true
  more_keyed keys k p true is = more_key_column keys k p.join p.column is
  more_keyed keys k p false is = refl

  dim_stands : (ds : List Dimension) (s : Scope) (name : List ℕ) (by : JoinType) (d : Dimension) → Contains catalog.dims d → Stand ds s → Stand (ds ++ d ∷ []) (with_dim s name by d)
  dim_stands ds s name by d there stand =
      let new : Dim = record { called = name; name = d.table.name; key = d.key; join_type = by } in
      let counted : length s.dims ≡ length ds = sym (length-map s.dims key_of) ∙ sym (ap length stand.1) ∙ length-map ds key_in in
      let keys_are : map key_of (s.dims ++ new ∷ []) ≡ map key_of s.dims ++ d.key ∷ [] = map_last key_of s.dims new in
      let old = all_imply (has_its_type (joined_types catalog ds)) (has_its_type (joined_types catalog (ds ++ d ∷ []))) (λ p. more_typed ds d p p.join) s.columns stand.2 in
      let type_at : slice_index_or (map types_of (ds ++ d ∷ [])) (length s.dims) [] ≡ types_of d =
      ap₂ (λ (ts : List (List ColType)) (n : ℕ). slice_index_or ts n []) (map_last types_of ds d) (counted ∙ sym (length-map ds types_of)) ∙ index_last (map types_of ds) (types_of d) [] in
      let key_at : slice_get (map key_of s.dims ++ d.key ∷ []) (length s.dims) ≡ Some d.key =
      ap (slice_get (map key_of s.dims ++ d.key ∷ [])) (sym (length-map s.dims key_of)) ∙ get_last (map key_of s.dims) d.key in
      let old_keys = all_imply (has_its_key (map key_of s.dims)) (has_its_key (map key_of s.dims ++ d.key ∷ [])) (λ p. more_keyed (map key_of s.dims) d.key p p.is_key) s.columns stand.3 in
      let all_keys = all_append (has_its_key (map key_of s.dims ++ d.key ∷ [])) s.columns (scope_columns name (Some (length s.dims)) (Some d.key) d.table.columns) old_keys
      (keys_stand (map key_of s.dims ++ d.key ∷ []) name (length s.dims) d.key 0 d.table.columns key_at) in (
        all_last (Contains catalog.dims) ds d stand.0 there,
        map_last key_in ds d ∙ ap (λ (ks : List ℕ). ks ++ d.key ∷ []) stand.1 ∙ sym keys_are,
        all_append (has_its_type (joined_types catalog (ds ++ d ∷ []))) s.columns (scope_columns name (Some (length s.dims)) (Some d.key) d.table.columns) old
            (types_stand (joined_types catalog (ds ++ d ∷ [])) name (Some (length s.dims)) (Some d.key) (types_of d) 0 d.table.columns type_at (λ i. ap (slice_get (types_of d)) (zero_plus i))),
        subst (λ (ks : List ℕ). list_all (has_its_key ks) (s.columns ++ scope_columns name (Some (length s.dims)) (Some d.key) d.table.columns) ≡ true) (sym keys_are) all_keys,
      )

  abbrev Stands : Scope → Type 0
  Stands s = (ds : List Dimension) × Stand ds s

  by_table : (s : Scope) (name : List ℕ) (by : JoinType) (b : Bool) (o : Option Dimension) (new : Scope) → Stands s → ((d : Dimension) → o ≡ Some d → Contains catalog.dims d)
      → cond b (Some (with_fact s name catalog.fact)) (option_map (with_dim s name by) o) ≡ Some new → Stands new
  by_table s name by true o new stands there is = let same : with_fact s name catalog.fact ≡ new = cc in subst Stands same (stands.0, fact_stands stands.0 s name stands.1)
  by_table s name by false o new stands there is =
      let d = one_there (with_dim s name by) o new is in
      subst Stands (sym d.2) (stands.0 ++ d.0 ∷ [], dim_stands stands.0 s name by d.0 (there d.0 d.1) stands.1)

  is_new : (taken : Bool) (o : Option Scope) (new : Scope) → if_new taken o ≡ Ok new → o ≡ Some new
  is_new taken None new is = absurd cc
  is_new true (Some x) new is = absurd cc
  is_new false (Some x) new is = let same : x ≡ new = cc in ap (λ (y : Scope). Some y) same

  entered : (s : Scope) (by : JoinType) (t : written.Table) (new : Scope) → Stands s → enter catalog s by t ≡ Ok new → Stands new
  entered s by t new stands is =
      by_table s (called t) by (bytes_eq catalog.fact.name t.name) (find (λ d. bytes_eq d.table.name t.name) catalog.dims) new stands
      (λ d found. found_in (λ (e : Dimension). bytes_eq e.table.name t.name) catalog.dims d found)
      (is_new (list_any (bytes_eq (called t)) s.names) (with_table catalog s by t) new is)

  all_entered : (s : Scope) (js : List Joined) (new : Scope) → Stands s → enter_all catalog s js ≡ Ok new → Stands new
  all_entered s [] new stands is = let same : s ≡ new = cc in subst Stands same stands
  all_entered s (j ∷ js) new stands is =
      let by = join_type_of j.kind in
      let one = goes_there (enter catalog s by j.table) (λ with_one. enter_all catalog with_one js) new is in
      all_entered one.0 js new (entered s by j.table one.0 stands one.1) one.2

  is_whole : (s : Scope) (times : Times) (new : Scope) → whole s times ≡ Ok new → s ≡ new
  is_whole s Never new is = absurd cc
  is_whole s Often new is = absurd cc
  is_whole s Once new is = by (nat_lt max_joins (length s.dims)) is
    where
      by : (b : Bool) → cond b (Err fault.OverLimit) (Ok s) ≡ Ok new → s ≡ new
      by true returned = absurd cc
      by false returned = cc

  is_behind : (b : Bool) (s new : Scope) → if_behind b s ≡ Ok new → s ≡ new
  is_behind true s new is = cc
  is_behind false s new is = absurd cc

  pub stands : (source : Source) (s : Scope) → scope_of catalog source ≡ Ok s → Stands s
  stands source s is =
      let last = if_lefts_behind catalog.fact.name source in
      let first = goes_there (enter catalog no_tables join_type.Inner source.first) (λ with_first. and_then (enter_all catalog with_first source.others) (λ all. and_then (whole all all.fact) last)) s is in
      let rest = goes_there (enter_all catalog first.0 source.others) (λ all. and_then (whole all all.fact) last) s first.2 in
      let all = goes_there (whole rest.0 rest.0.fact) last s rest.2 in
      let same = is_whole rest.0 rest.0.fact all.0 all.1 ∙ is_behind (is_before_lefts catalog.fact.name (source.first ∷ []) source.others) all.0 s all.2 in
      subst Stands same (all_entered first.0 source.others rest.0 (entered no_tables join_type.Inner source.first first.0 ([], (tt, refl, refl, refl)) first.1) rest.1)

pub scopes_are_tables : ScopesAreTables
scopes_are_tables catalog source s is =
    let found = stands catalog source s is in
    (found.0, record { declared = All-from_recursion _ _ found.1.0; keys = found.1.1; typed = found.1.2; keyed = found.1.3 })
