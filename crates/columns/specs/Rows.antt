-- The columns that rows are kept in.
use Rattle.std.specs.Prelude.{ℕ, List, map}
use Rattle.std.specs.List.{enumerate_from}
use Rattle.meaning.specs.declared.catalog.Column.{Column}
use Rattle.meaning.specs.Order.{Row, column}
use Rattle.columns.specs.Column.{ColumnSpec}

-- a declared column with its values from row to row
abbrev pub column_of : List Row → ℕ × Column → ColumnSpec
column_of rows p = record { col_type = p.1.col_type; nullable = p.1.nullable; values = map (λ row. column row p.0) rows }

-- the declared columns with the values of rows
abbrev pub columns_of : List Column → List Row → List ColumnSpec
columns_of declared rows = map (column_of rows) (enumerate_from 0 declared)
