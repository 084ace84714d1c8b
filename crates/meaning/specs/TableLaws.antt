-- Laws on tables that load, each of them the contract of a function of the crate `meaning_laws`.
use Rattle.std.specs.Prelude.{◌≡◌, ℕ, ◌<◌, Bool, true, false, ◌&&◌, ◌||◌, not, List, [], map, length, sum, zip, Option, Some, Ok, All, Contains}
use Rattle.std.specs.List.{list_all}
use Rattle.std.specs.Cmp.Lexicographic.{pointwise}
use Rattle.meaning.specs.declared.value.Value.{Value}
use Rattle.meaning.specs.declared.value.ColType.{ColType}
use Rattle.meaning.specs.declared.catalog.Column.{Column}
use Rattle.meaning.specs.declared.catalog.Table.{Table}
use Rattle.meaning.specs.declared.catalog.Dimension.{Dimension}
use Rattle.meaning.specs.declared.catalog.Catalog.{Catalog}
use Rattle.meaning.specs.declared.expr.Expr.TheVariants as node
use Rattle.meaning.specs.declared.plan.AggregateKind.TheVariants.{CountRows}
use Rattle.meaning.specs.declared.plan.Aggregate.{Aggregate}
use Rattle.meaning.specs.declared.plan.Plan.{Plan}
use Rattle.meaning.specs.Order.{Row, is_null}
use Rattle.meaning.specs.Catalog.{IsWellFormedTable, IsWellFormed}
use Rattle.meaning.specs.Records.{Record, table_of, fact_of, dimension_of}
use Rattle.meaning.specs.Cut.{Cut, fragment}
use Rattle.meaning.specs.Answer.{own}
use Rattle.meaning.specs.Typing.{is_of_type, Valued, Boolean, RowTypes, has_type, is_typed_on}
use Rattle.meaning.specs.Fitting.{fits}
use Rattle.meaning.specs.Dimensions.{IsUniqueIn, AreDimensionsOf}

-- ---- one table

-- a value that the column takes: of its type, and NULL only where the column is nullable
abbrev pub is_value_of : Column → Value → Bool
is_value_of c v = is_of_type c.col_type v && (c.nullable || not (is_null v))

-- each row has a value for each column
abbrev pub are_rows_of : List Column → List Row → Bool
are_rows_of columns rows = list_all (pointwise is_value_of columns) rows

-- a table that loads has a value for each column in each row
abbrev pub TablesAreTyped : Type 0
TablesAreTyped = (table : Table) (key : Option ℕ) (fewest most : ℕ) (records : List Record) (rows : List Row)
    → IsWellFormedTable table
    → table_of table.columns key fewest most records ≡ Ok rows
    → are_rows_of table.columns rows ≡ true

-- a table that loads under a key has no key twice
abbrev pub KeysAreUnique : Type 0
KeysAreUnique = (columns : List Column) (key fewest most : ℕ) (records : List Record) (rows : List Row)
    → table_of columns (Some key) fewest most records ≡ Ok rows
    → IsUniqueIn key rows

-- ---- all tables of a query

-- dimensions of the catalogue, one for each join of the plan, with the key that the join looks for
pub record AreJoined (catalog : Catalog) (plan : Plan) (dimensions : List Dimension) : Type 0 where
  pub declared : All (Contains catalog.dims) dimensions
  pub keys : map (λ d. d.key) dimensions ≡ map (λ j. j.key) plan.joins

abbrev pub column_types : List Column → List ColType
column_types columns = map (λ c. c.col_type) columns

-- the types of what an expression over joined rows reads
abbrev pub joined_types : Catalog → List Dimension → RowTypes
joined_types catalog dimensions =
    record {
      fact = column_types catalog.fact.columns;
      joins = map (λ d. column_types d.table.columns) dimensions;
      key = [];
      aggregates = [];
    }

-- the argument has its type, and that of COUNT(*) is a literal that isn't NULL
pub record IsTypedAggregate (types : RowTypes) (a : Aggregate) : Type 0 where
  pub typed : has_type types a.argument (Valued a.col_type) ≡ true
  pub counted : a.kind ≡ CountRows → (v : Value) × (a.argument ≡ node.Literal v) × (is_null v ≡ false)

-- conditions are truths, and keys and arguments have the types that the plan gives them
pub record IsTypedPlan (types : RowTypes) (plan : Plan) : Type 0 where
  pub conditions : All (λ c. has_type types c Boolean ≡ true) plan.conjuncts
  pub keys : All (λ k. has_type types k.expr (Valued k.col_type) ≡ true) plan.keys
  pub aggregates : All (IsTypedAggregate types) plan.aggs

-- records give the rows of the fact table, and those of each dimension
pub record AreLoaded (catalog : Catalog) (cut : Cut) (dimensions : List Dimension) (rows : List Row)
    (dims : List (List Row)) : Type 0 where
  pub fact : (records : List Record) × (fact_of catalog cut records ≡ Ok rows)
  pub each : length dims ≡ length dimensions
  pub loaded : All (λ p. (records : List Record) × (dimension_of p.0 records ≡ Ok p.1)) (zip dimensions dims)

-- tables that load are such as the other laws ask for: the cut is of the fact table, the dimensions' keys are unique,
-- the plan is typed on each fragment, and so each fragment's own answer fits
pub record LoadedTablesServe (catalog : Catalog) (plan : Plan) (cut : Cut) (dimensions : List Dimension)
    (rows : List Row) (dims : List (List Row)) : Type 0 where
  pub whole : sum cut ≡ length rows
  pub unique : AreDimensionsOf plan dims
  pub typed : (k : ℕ) → is_typed_on plan dims (fragment cut k rows) ≡ true
  pub fit : (k : ℕ) → k < length cut → fits plan cut (own plan dims cut rows k) ≡ true

abbrev pub LoadedTablesFit : Type 0
LoadedTablesFit = (catalog : Catalog) (plan : Plan) (cut : Cut) (dimensions : List Dimension) (rows : List Row)
    (dims : List (List Row))
    → IsWellFormed catalog
    → AreJoined catalog plan dimensions
    → IsTypedPlan (joined_types catalog dimensions) plan
    → AreLoaded catalog cut dimensions rows dims
    → LoadedTablesServe catalog plan cut dimensions rows dims
