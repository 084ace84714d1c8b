-- The columns of fragments and of dimensions, and what a column takes.
use Rattle.std.specs.Prelude.{◌≡◌, ◌≤◌, ◌+◌, ◌-◌, ℕ, Bool, None, Some, length, List, [], ◌∷◌, map, zip, take, drop, Option, is_none, find, slice_index_or, Result, Ok}
use Rattle.std.specs.Str.{bytes_eq}
use Rattle.std.specs.Cmp.Lexicographic.{pointwise}
use Rattle.meaning.specs.declared.value.ColType.{ColType}
use Rattle.meaning.specs.declared.value.Value.{Value}
use Rattle.meaning.specs.declared.value.Value.TheVariants.{Null}
use Rattle.meaning.specs.declared.catalog.Column.{Column}
use Rattle.meaning.specs.declared.catalog.Catalog.{Catalog}
use Rattle.meaning.specs.declared.catalog.Dimension.{Dimension}
use Rattle.meaning.specs.declared.table.TableFault.{TableFault}
use Rattle.meaning.specs.Order.{Row}
use Rattle.meaning.specs.Records.{Record, fact_of, dimension_of}
use Rattle.meaning.specs.Results.{and_then}
use Rattle.meaning.specs.Cut.{Cut}
use Rattle.columns.specs.Column.{ColumnSpec, with_value, refusal}
use Rattle.columns.specs.Rows.{columns_of}

-- a column's type, and whether NULL may stand in it
abbrev pub Kind : Type 0
Kind = ColType × Bool

abbrev pub kind_of : ColumnSpec → Kind
kind_of c = (c.col_type, c.nullable)

abbrev pub declared_kind : Column → Kind
declared_kind d = (d.col_type, d.nullable)

-- the columns are of the declared kinds, in the order of the catalogue
abbrev pub AreDeclared : List Column → List ColumnSpec → Type 0
AreDeclared declared columns = map kind_of columns ≡ map declared_kind declared

-- how many rows each column has
abbrev pub row_counts : List ColumnSpec → List ℕ
row_counts columns = map (λ c. length c.values) columns

-- the columns are of the declared kinds, and each has so many rows
abbrev pub AreRowsOf : List Column → ℕ → List ColumnSpec → Type 0
AreRowsOf declared n columns = AreDeclared declared columns × (row_counts columns ≡ map (λ _. n) declared)

-- a value may stand in the column, and each value of a row in its own
abbrev pub takes : ColumnSpec → Value → Bool
takes c v = is_none (refusal c.col_type c.nullable v)

abbrev pub take_row : List ColumnSpec → Row → Bool
take_row columns row = pointwise takes columns row

-- a declared column without rows
abbrev pub no_rows : Column → ColumnSpec
no_rows c = record { col_type = c.col_type; nullable = c.nullable; values = [] }

-- the kinds of columns and their numbers of rows, and those of columns of `n` rows as they are declared
abbrev pub shape_of : List ColumnSpec → List Kind × List ℕ
shape_of columns = (map kind_of columns, row_counts columns)

abbrev pub declared_shape : List Column → ℕ → List Kind × List ℕ
declared_shape declared n = (map declared_kind declared, map (λ _. n) declared)

-- each fragment has the declared columns, and as many rows as the cut says
abbrev pub AreFragmentsOf : List Column → Cut → List (List ColumnSpec) → Type 0
AreFragmentsOf declared cut fragments = map shape_of fragments ≡ map (declared_shape declared) cut

-- the columns are of the declared kinds, and have as many rows as each other, at most so many
abbrev pub AreAtMost : List Column → ℕ → List ColumnSpec → Type 0
AreAtMost declared most columns = (n : ℕ) × (n ≤ most) × AreRowsOf declared n columns

-- each column has as many rows more, at most so many
abbrev pub HaveMore : ℕ → List ColumnSpec → List ColumnSpec → Type 0
HaveMore most before after = (n : ℕ) × (n ≤ most) × (row_counts after ≡ map (λ k. k + n) (row_counts before))

-- the last value of a column, and NULL where there is none
abbrev pub last_in : Option ColumnSpec → Value
last_in None = Null
last_in (Some c) = slice_index_or c.values (length c.values - 1) Null

-- each fragment's columns, where the rows are cut
abbrev pub fragments_of : List Column → Cut → List Row → List (List ColumnSpec)
fragments_of declared [] rows = []
fragments_of declared (n ∷ cut) rows = columns_of declared (take n rows) ∷ fragments_of declared cut (drop n rows)

-- the fact table's columns, fragment by fragment, or the first fault
abbrev pub fact_fragments : Catalog → Cut → List Record → Result (List (List ColumnSpec)) TableFault
fact_fragments catalog cut records = and_then (fact_of catalog cut records) (λ rows. Ok (fragments_of catalog.fact.columns cut rows))

-- the first dimension of a name
abbrev pub dimension_named : Catalog → List ℕ → Option Dimension
dimension_named catalog name = find (λ d. bytes_eq d.table.name name) catalog.dims

-- the catalogue has a dimension of a name
abbrev pub HasDimension : Catalog → List ℕ → Type 0
HasDimension catalog name = (d : Dimension) × (dimension_named catalog name ≡ Some d)

-- a dimension's columns, or the first fault
abbrev pub dimension_columns : Dimension → List Record → Result (List ColumnSpec) TableFault
dimension_columns d records = and_then (dimension_of d records) (λ rows. Ok (columns_of d.table.columns rows))

-- the columns with a row behind their last
abbrev pub with_row : List ColumnSpec → Row → List ColumnSpec
with_row columns row = map (λ p. with_value p.0 p.1) (zip columns row)
