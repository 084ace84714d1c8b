-- The types of a plan's expressions.
use Rattle.std.specs.Prelude.{◌≡◌, ℕ, Bool, true, not, ◌||◌, List, [], map, Option, Some, None, slice_get, slice_index_or, Ok, All, Contains}
use Rattle.std.specs.List.{list_all}
use Rattle.meaning.specs.declared.catalog.Catalog.{Catalog}
use Rattle.meaning.specs.declared.catalog.Dimension.{Dimension}
use Rattle.meaning.specs.declared.expr.Expr as plan
use Rattle.meaning.specs.declared.value.ColType.{ColType}
use Rattle.meaning.specs.declared.value.ColType.TheVariants as of_type
use Rattle.meaning.specs.Typing.{ExprType, Valued, Boolean, RowTypes, is_column_type, has_type}
use Rattle.meaning.specs.TableLaws.{joined_types}
use Rattle.sql_syntax.specs.declared.tree.Expr.{Expr}
use Rattle.sql_syntax.specs.declared.tree.Source.{Source}
use Rattle.sql_syntax.specs.Literals.{has_fitting_literals}
use Rattle.planner_expressions.specs.declared.basis.Basis.TheVariants.{Rows}
use Rattle.planner_expressions.specs.declared.scope.ScopeColumn.{ScopeColumn}
use Rattle.planner_expressions.specs.declared.scope.Scope.{Scope}
use Rattle.planner_expressions.specs.declared.sort.Sort.{Sort}
use Rattle.planner_expressions.specs.declared.sort.Sort.TheVariants.{Integer, Text, Truth}
use Rattle.planner_expressions.specs.From.{is_at, scope_of}
use Rattle.planner_expressions.specs.Given.{given_in}
use Rattle.planner_expressions.specs.Judged.{judged}
use Rattle.planner_expressions.specs.Translated.{translated}

abbrev pub type_of_sort : Sort → ExprType
type_of_sort Integer = Valued of_type.Int
type_of_sort Text = Valued of_type.Text
type_of_sort Truth = Boolean

-- the types of the fact's columns, or of those of a dimension of FROM
abbrev pub types_in : RowTypes → Option ℕ → List ColType
types_in types None = types.fact
types_in types (Some j) = slice_index_or types.joins j []

-- its table has the column's type where it has the column
abbrev pub has_its_type : RowTypes → ScopeColumn → Bool
has_its_type types p = is_column_type (slice_get (types_in types p.join) p.column) (Valued p.col_type)

abbrev pub columns_have_types : RowTypes → Scope → Bool
columns_have_types types s = list_all (has_its_type types) s.columns

-- over rows whose columns have their types, what has no fault and has literals that fit becomes an expression that has
-- the type of its sort
abbrev pub RowsAreTyped : Type 0
RowsAreTyped = (types : RowTypes) (s : Scope) (e : Expr) (sort : Sort) (x : plan.Expr)
    → columns_have_types types s ≡ true
    → has_fitting_literals e ≡ true
    → judged s e true ≡ Ok sort
    → translated (given_in s Rows) e ≡ Some x
    → has_type types x (type_of_sort sort) ≡ true

-- ---- the tables of FROM

-- this column is the key of the dimension; the fact has none
abbrev pub is_key_column : List ℕ → Option ℕ → ℕ → Bool
is_key_column keys None at = true
is_key_column keys (Some j) at = is_at at (slice_get keys j)

-- a column that is marked as its dimension's key is that key
abbrev pub has_its_key : List ℕ → ScopeColumn → Bool
has_its_key keys p = not p.is_key || is_key_column keys p.join p.column

-- the scope's dimensions are these ones of the catalogue, and its columns have their types
pub record AreTables (catalog : Catalog) (dimensions : List Dimension) (s : Scope) : Type 0 where
  pub declared : All (Contains catalog.dims) dimensions
  pub keys : map (λ d. d.key) dimensions ≡ map (λ d. d.key) s.dims
  pub typed : columns_have_types (joined_types catalog dimensions) s ≡ true
  pub keyed : list_all (has_its_key (map (λ d. d.key) s.dims)) s.columns ≡ true

-- the columns of FROM are those of the catalogue's tables
abbrev pub ScopesAreTables : Type 0
ScopesAreTables = (catalog : Catalog) (source : Source) (s : Scope) → scope_of catalog source ≡ Ok s → (dimensions : List Dimension) × AreTables catalog dimensions s
