-- Over tables that load, a typed plan is typed on every fragment, and every fragment's own answer fits.
use Rattle.std.proofs.Common.{◌≡◌, ℕ, zero, suc, ◌+◌, Bool, true, false, ◌&&◌, not, List, [], ◌∷◌, map, take, drop, length, refl, sym, ap, subst, ◌∙◌, arith}
use Rattle.std.specs.Prelude.{filter, zip, Contains, sum, Some, None, Ok}
use Rattle.std.specs.List.{list_all, AllByRecursion, enumerate_from}
use Rattle.std.specs.Cmp.Lexicographic.{pointwise}
use Rattle.std.proofs.lemmas.List.Elements.{recursion_from_All, All-from_recursion}
use Rattle.std.proofs.lemmas.List.{length-map}
use Rattle.meaning.specs.declared.value.Value.{Value}
use Rattle.meaning.specs.declared.value.ColType.{ColType}
use Rattle.meaning.specs.declared.catalog.Column.{Column}
use Rattle.meaning.specs.declared.catalog.Dimension.{Dimension}
use Rattle.meaning.specs.declared.catalog.Catalog.{Catalog}
use Rattle.meaning.specs.declared.outcome.Outcome.{Outcome}
use Rattle.meaning.specs.declared.outcome.Outcome.TheVariants as gives
use Rattle.meaning.specs.declared.joined_row.JoinedRow.{JoinedRow}
use Rattle.meaning.specs.declared.plan.AggregateKind.{AggregateKind}
use Rattle.meaning.specs.declared.plan.AggregateKind.TheVariants.{CountRows, Count, Sum, Min, Max, Avg, CountDistinct, SumDistinct}
use Rattle.meaning.specs.declared.plan.Aggregate.{Aggregate}
use Rattle.meaning.specs.declared.plan.GroupingKey.{GroupingKey}
use Rattle.meaning.specs.declared.plan.Join.{Join}
use Rattle.meaning.specs.declared.plan.JoinType.{JoinType}
use Rattle.meaning.specs.declared.plan.JoinType.TheVariants.{Inner, Left}
use Rattle.meaning.specs.declared.plan.Plan.{Plan}
use Rattle.meaning.specs.Limits.{max_rows}
use Rattle.meaning.specs.Catalog.{IsWellFormed, IsWellFormedTable}
use Rattle.meaning.specs.Order.{Row, is_null}
use Rattle.meaning.specs.Expr.{eval}
use Rattle.meaning.specs.Joined.{choices, combos, is_joined, joined_row, matches, unless_none}
use Rattle.meaning.specs.Cut.{Cut, numbered, first_row, fragment}
use Rattle.meaning.specs.Dimensions.{IsUniqueIn, AreDimensionsOf}
use Rattle.meaning.specs.Typing.{gives_type, is_taken_by, gives_argument, is_typed_at, is_typed_on, Valued, RowTypes, are_beside_of_types, are_of_types, fits_row_types, gives_expr_type, has_type}
use Rattle.meaning.specs.Records.{Record, dimension_of}
use Rattle.meaning.specs.TableLaws.{is_value_of, are_rows_of, column_types, joined_types, AreJoined, IsTypedAggregate, IsTypedPlan, AreLoaded, LoadedTablesServe}
use Rattle.meaning.proofs.Tests.{first_of, second_of, both, all_first, all_rest, all_imply, all_filter, all_map, all_flat_map}
use Rattle.meaning.proofs.Evaluation.{eval-Literal}
use Rattle.meaning.proofs.Typed.{typed}
use Rattle.meaning_laws.proofs.LoadedTables.{rows_typed, rows_counted, keys_unique}
use Rattle.meaning_laws.proofs.OwnFits.{own_fits}
use Rattle.meaning_laws.proofs.UniqueKeys.{matched}

-- ---- a plan on one joined row

pub given_type : (kind : ColType) (o : Outcome) → gives_expr_type (Valued kind) o ≡ true → gives_type kind o ≡ true
given_type kind (gives.Value v) e = e
given_type kind (gives.Truth t) e = e
given_type kind (gives.Fault f) e = refl

taken_by : (kind : AggregateKind) (v : Value) → (kind ≡ CountRows → is_null v ≡ false) → is_taken_by kind v ≡ true
taken_by CountRows v counted = ap not (counted refl)
taken_by Count v counted = refl
taken_by Sum v counted = refl
taken_by Min v counted = refl
taken_by Max v counted = refl
taken_by Avg v counted = refl
taken_by CountDistinct v counted = refl
taken_by SumDistinct v counted = refl

pub given_argument : (a : Aggregate) (o : Outcome) → gives_expr_type (Valued a.col_type) o
    ≡ true → (a.kind ≡ CountRows → (v : Value) × (o ≡ gives.Value v) × (is_null v ≡ false)) → gives_argument a o ≡ true
given_argument a (gives.Value v) e counted =
    both _ _ e (taken_by a.kind v (λ is. let literal = counted is in let same : v ≡ literal.0 = cc in
    ap is_null same ∙ literal.2))
given_argument a (gives.Truth t) e counted = e
given_argument a (gives.Fault f) e counted = refl

module _ (types : RowTypes) (s : JoinedRow) (fits : fits_row_types types s ≡ true) where
  keys_typed : (keys : List GroupingKey) → AllByRecursion (λ k. has_type types k.expr (Valued k.col_type) ≡ true) keys
      → list_all (λ k. gives_type k.col_type (eval k.expr s)) keys ≡ true
  keys_typed [] all = refl
  keys_typed (k ∷ keys) all = both _ _
      (given_type k.col_type (eval k.expr s) (typed types s fits k.expr (Valued k.col_type) all.0))
      (keys_typed keys all.1)

  arguments_typed : (aggs : List Aggregate) → AllByRecursion (IsTypedAggregate types) aggs
      → list_all (λ a. gives_argument a (eval a.argument s)) aggs ≡ true
  arguments_typed [] all = refl
  arguments_typed (a ∷ aggs) all =
      both _ _ (given_argument a (eval a.argument s) (typed types s fits a.argument (Valued a.col_type) all.0.typed)
      (λ is. let literal = all.0.counted is in
      (literal.0, ap (λ e. eval e s) literal.1 ∙ eval-Literal literal.0 s, literal.2)))
      (arguments_typed aggs all.1)

  plan_typed : (plan : Plan) → IsTypedPlan types plan → is_typed_at plan s ≡ true
  plan_typed plan is = both _ _ (keys_typed plan.keys (recursion_from_All _ _ is.keys))
      (arguments_typed plan.aggs (recursion_from_All _ _ is.aggregates))

-- ---- joined rows of typed tables

types_of_values : (columns : List Column) (row : Row) → pointwise is_value_of columns row
    ≡ true → are_of_types (column_types columns) row ≡ true
types_of_values [] [] e = refl
types_of_values [] (v ∷ row) e = cc
types_of_values (c ∷ columns) [] e = cc
types_of_values (c ∷ columns) (v ∷ row) e =
    both _ _ (first_of _ _ (first_of (is_value_of c v) (pointwise is_value_of columns row) e))
    (types_of_values columns row (second_of (is_value_of c v) (pointwise is_value_of columns row) e))

types_of_rows : (columns : List Column) (rows : List Row) → are_rows_of columns rows
    ≡ true → list_all (are_of_types (column_types columns)) rows ≡ true
types_of_rows columns rows e = all_imply (pointwise is_value_of columns) (are_of_types (column_types columns))
    (types_of_values columns) rows e

abbrev AreTables : List (List ColType) → List (List Row) → Type 0
AreTables types dims = pointwise (λ ts rows. list_all (are_of_types ts) rows) types dims ≡ true

-- the same of what joins put beside a fact row
abbrev AreBeside : List (List ColType) → List (List Row) → Type 0
AreBeside types lists = pointwise (λ ts rows. list_all (are_beside_of_types ts) rows) types lists ≡ true

beside_typed : (ts : List ColType) (row : Row) → are_of_types ts row ≡ true → are_beside_of_types ts row ≡ true
beside_typed ts [] e = refl
beside_typed ts (v ∷ row) e = e

unless_none_typed : (ts : List ColType) (type : JoinType) (rows : List Row) → list_all (are_beside_of_types ts) rows
    ≡ true → list_all (are_beside_of_types ts) (unless_none type rows) ≡ true
unless_none_typed ts Inner rows e = e
unless_none_typed ts Left [] e = refl
unless_none_typed ts Left (row ∷ rows) e = e

matches_typed : (ts : List ColType) (fact : Row) (p : Join × List Row) → list_all (are_of_types ts) p.1
    ≡ true → list_all (are_beside_of_types ts) (matches fact p) ≡ true
matches_typed ts fact p e =
    unless_none_typed ts p.0.join_type (filter (λ row. is_joined fact (p.0, row)) p.1)
    (all_filter (are_beside_of_types ts) (λ row. is_joined fact (p.0, row)) p.1
    (all_imply (are_of_types ts) (are_beside_of_types ts) (beside_typed ts) p.1 e))

all_matches_typed : (types : List (List ColType)) (js : List Join) (dims : List (List Row)) (fact : Row) → length dims
    ≡ length js → AreTables types dims → AreBeside types (map (matches fact) (zip js dims))
all_matches_typed [] [] [] fact each e = refl
all_matches_typed [] js (rows ∷ dims) fact each e = absurd cc
all_matches_typed (ts ∷ types) js [] fact each e = absurd cc
all_matches_typed [] (j ∷ js) [] fact each e = absurd (omega arith)
all_matches_typed (ts ∷ types) [] (rows ∷ dims) fact each e = absurd (omega arith)
all_matches_typed (ts ∷ types) (j ∷ js) (rows ∷ dims) fact each e =
    both _ _ (matches_typed ts fact (j, rows) (first_of (list_all (are_of_types ts) rows) _ e))
    (all_matches_typed types js dims fact (omega arith)
    (second_of (list_all (are_of_types ts) rows) (pointwise (λ ts rows. list_all (are_of_types ts) rows) types dims) e))

choices_typed : (types : List (List ColType)) (lists : List (List Row)) → AreBeside types lists
    → list_all (pointwise are_beside_of_types types) (choices lists) ≡ true
choices_typed [] [] e = refl
choices_typed [] (rows ∷ lists) e = cc
choices_typed (ts ∷ types) [] e = cc
choices_typed (ts ∷ types) (rows ∷ lists) e =
    let rest = choices_typed types lists
    (second_of (list_all (are_beside_of_types ts) rows)
    (pointwise (λ ts rows. list_all (are_beside_of_types ts) rows) types lists) e) in
    all_flat_map (pointwise are_beside_of_types (ts ∷ types)) (λ row. map (λ c. row ∷ c) (choices lists)) rows
    (all_imply (are_beside_of_types ts) (λ row. list_all (pointwise are_beside_of_types (ts ∷ types))
    (map (λ c. row ∷ c) (choices lists)))
    (λ row fits. all_map (pointwise are_beside_of_types (ts ∷ types)) (λ c. row ∷ c) (choices lists)
    (all_imply (pointwise are_beside_of_types types) (λ c. are_beside_of_types ts row && pointwise are_beside_of_types types c)
    (λ c is. both _ _ fits is) (choices lists) rest))
    rows (first_of _ _ e))

module _ {X : Type 0} (p : X → Bool) where
  all_take : (n : ℕ) (xs : List X) → list_all p xs ≡ true → list_all p (take n xs) ≡ true
  all_take zero xs e = refl
  all_take (suc n) [] e = refl
  all_take (suc n) (x ∷ xs) e = both _ _ (all_first p x xs e) (all_take n xs (all_rest p x xs e))

  all_drop : (n : ℕ) (xs : List X) → list_all p xs ≡ true → list_all p (drop n xs) ≡ true
  all_drop zero xs e = e
  all_drop (suc n) [] e = refl
  all_drop (suc n) (x ∷ xs) e = all_drop n xs (all_rest p x xs e)

  all_numbered : (n : ℕ) (xs : List X) → list_all p xs ≡ true → list_all (λ (r : ℕ × X). p r.1) (enumerate_from n xs)
      ≡ true
  all_numbered n [] e = refl
  all_numbered n (x ∷ xs) e = both _ _ (all_first p x xs e) (all_numbered (n + 1) xs (all_rest p x xs e))

module _ (types : RowTypes) (no_key : types.key ≡ []) (no_aggregates : types.aggregates ≡ []) (plan : Plan)
    (is : IsTypedPlan types plan) (dims : List (List Row)) (many : length dims ≡ length plan.joins) (tables : AreTables types.joins dims) where
  row_fits : (fact : Row) (chosen : List Row) → are_of_types types.fact fact
      ≡ true → pointwise are_beside_of_types types.joins chosen ≡ true → fits_row_types types (joined_row fact chosen) ≡ true
  row_fits fact chosen a b = both _ _ a
      (both _ _ b (both _ _ (ap (λ ts. are_of_types ts []) no_key) (ap (λ ts. are_of_types ts []) no_aggregates)))

  combos_typed : (fact : Row) → are_of_types types.fact fact
      ≡ true → list_all (is_typed_at plan) (combos plan dims fact) ≡ true
  combos_typed fact a =
      let found = map (matches fact) (zip plan.joins dims) in
      let typed_choices = choices_typed types.joins found (all_matches_typed types.joins plan.joins dims fact many tables) in
      subst (λ rows. list_all (is_typed_at plan) rows ≡ true) (sym (matched plan dims fact))
      (all_map (is_typed_at plan) (joined_row fact) (choices found)
      (all_imply (pointwise are_beside_of_types types.joins) (λ c. is_typed_at plan (joined_row fact c))
      (λ c b. plan_typed types (joined_row fact c) (row_fits fact c a b) plan is) (choices found) typed_choices))

  fragment_typed : (cut : Cut) (rows : List Row) → list_all (are_of_types types.fact) rows
      ≡ true → (k : ℕ) → is_typed_on plan dims (fragment cut k rows) ≡ true
  fragment_typed cut rows all k =
      all_imply (λ (r : ℕ × Row). are_of_types types.fact r.1)
      (λ (r : ℕ × Row). list_all (is_typed_at plan) (combos plan dims r.1)) (λ r a. combos_typed r.1 a)
      (fragment cut k rows)
      (all_take _ _ (drop (first_row cut k) (numbered rows))
      (all_drop _ (first_row cut k) (numbered rows) (all_numbered (are_of_types types.fact) 0 rows all)))

-- ---- the dimensions

abbrev IsLoaded : Dimension × List Row → Type 0
IsLoaded p = (records : List Record) × (dimension_of p.0 records ≡ Ok p.1)

unique_keys : (ds : List Dimension) (js : List Join) (dims : List (List Row)) → map (λ d. d.key) ds
    ≡ map (λ j. j.key) js → AllByRecursion IsLoaded (zip ds dims)
    → AllByRecursion (λ (p : Join × List Row). IsUniqueIn p.0.key p.1) (zip js dims)
unique_keys ds [] dims keys all = tt
unique_keys [] (j ∷ js) dims keys all = cc
unique_keys (d ∷ ds) (j ∷ js) [] keys all = tt
unique_keys (d ∷ ds) (j ∷ js) (rows ∷ dims) keys all =
    let here : d.key ≡ j.key = cc in
    let later : map (λ (d : Dimension). d.key) ds ≡ map (λ (j : Join). j.key) js = cc in (
      subst (λ k. IsUniqueIn k rows) here
          (keys_unique d.table.columns d.key 0 max_rows all.0.0 rows all.0.1),
      unique_keys ds js dims later all.1,
    )

tables_typed : (ds : List Dimension) (dims : List (List Row)) → length dims
    ≡ length ds → AllByRecursion (λ d. IsWellFormedTable d.table) ds → AllByRecursion IsLoaded (zip ds dims)
    → AreTables (map (λ d. column_types d.table.columns) ds) dims
tables_typed [] [] each well all = refl
tables_typed [] (rows ∷ dims) each well all = absurd (omega arith)
tables_typed (d ∷ ds) [] each well all = absurd (omega arith)
tables_typed (d ∷ ds) (rows ∷ dims) each well all =
    both _ _ (types_of_rows d.table.columns rows
    (rows_typed d.table (Some d.key) 0 max_rows all.0.0 rows well.0 all.0.1))
    (tables_typed ds dims (omega arith) well.1 all.1)

declared_well : (catalog : Catalog) → IsWellFormed catalog → (ds : List Dimension)
    → AllByRecursion (Contains catalog.dims) ds → AllByRecursion (λ d. IsWellFormedTable d.table) ds
declared_well catalog is [] all = tt
declared_well catalog is (d ∷ ds) all = (
  subst (λ (x : Dimension). IsWellFormedTable x.table) all.0.2
      (is.dims all.0.0 d all.0.1),
  declared_well catalog is ds all.1,
)

-- ---- all tables

pub loaded_tables : (catalog : Catalog) (plan : Plan) (cut : Cut) (dimensions : List Dimension) (rows : List Row)
    (dims : List (List Row))
    → IsWellFormed catalog → AreJoined catalog plan dimensions → IsTypedPlan (joined_types catalog dimensions) plan
    → AreLoaded catalog cut dimensions rows dims → LoadedTablesServe catalog plan cut dimensions rows dims
loaded_tables catalog plan cut dimensions rows dims well joined is loaded =
    let types = joined_types catalog dimensions in
    let each = recursion_from_All _ _ loaded.loaded in
    let many : length dimensions ≡ length plan.joins = sym (length-map dimensions (λ d. d.key)) ∙ ap length joined.keys
    ∙ length-map plan.joins (λ j. j.key) in
    let unique : AreDimensionsOf plan dims =
    record {
      each = loaded.each ∙ many;
      unique =
          All-from_recursion _ _ (unique_keys dimensions plan.joins dims joined.keys each);
    } in
    let tables = tables_typed dimensions dims loaded.each
    (declared_well catalog well dimensions (recursion_from_All _ _ joined.declared)) each in
    let fact = types_of_rows catalog.fact.columns rows
    (rows_typed catalog.fact None (sum cut) (sum cut) loaded.fact.0 rows well.fact loaded.fact.1) in
    let on_fragment = fragment_typed types refl refl plan is dims (loaded.each ∙ many) tables cut rows fact in
    record {
      whole = rows_counted catalog.fact.columns None (sum cut) loaded.fact.0 rows loaded.fact.1;
      unique = unique;
      typed = on_fragment;
      fit = λ k below. own_fits plan dims cut rows k below unique (on_fragment k);
    }
