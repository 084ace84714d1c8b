-- When an expression fits a batch: in the types of its columns, and in which columns are there.
use Rattle.std.specs.Prelude.{◌≡◌, Bool, true, List, [], All, Option, slice_get, slice_index_or}
use Rattle.std.specs.List.{list_any}
use Rattle.meaning.specs.declared.value.ColType.{ColType}
use Rattle.meaning.specs.declared.expr.Expr.{Expr}
use Rattle.meaning.specs.declared.joined_row.JoinedRow.{JoinedRow}
use Rattle.meaning.specs.References.{Reference, FactColumn, JoinColumn, GroupKey, GroupAggregate, columns_used}
use Rattle.meaning.specs.Typing.{ExprType, RowTypes, is_column_type, fits_row_types, has_type}
use Rattle.vectors.specs.declared.batch.ColumnReference.{ColumnReference}
use Rattle.vectors.specs.declared.batch.ColumnReference.TheVariants as reference
use Rattle.vectors.specs.declared.batch.BatchColumn.{BatchColumn}
use Rattle.vectors.specs.Vector.{BatchSpec, AreRowsOf, reference_of, same_reference}
use Rattle.vector_operators.specs.Given.{type_of_lanes}

-- the type of what stands there, if the rows have it
abbrev pub referenced_type : RowTypes → Reference → Option ColType
referenced_type types (FactColumn at) = slice_get types.fact at
referenced_type types (JoinColumn join at) = slice_get (slice_index_or types.joins join []) at
referenced_type types (GroupKey i) = slice_get types.key i
referenced_type types (GroupAggregate i) = slice_get types.aggregates i

-- the column's lanes are of the type that its reference has
abbrev pub is_typed_column : RowTypes → BatchColumn → Bool
is_typed_column types column = is_column_type (referenced_type types (reference_of column.reference)) (type_of_lanes column.lanes)

-- rows that the batch has the columns of, each value of its type, a text in UTF-8 among it
pub record AreTypedRows (types : RowTypes) (batch : BatchSpec) (rows : List JoinedRow) : Type 0 where
  pub are_rows : AreRowsOf batch rows
  pub values : All (λ r. fits_row_types types r ≡ true) rows
  pub columns : All (λ column. is_typed_column types column ≡ true) batch.columns

-- where a batch has what an expression reads
abbrev pub column_reference : Reference → ColumnReference
column_reference (FactColumn at) = reference.Fact at
column_reference (JoinColumn join at) = reference.Join join at
column_reference (GroupKey i) = reference.Key i
column_reference (GroupAggregate i) = reference.Aggregate i

abbrev pub has_column : List BatchColumn → Reference → Bool
has_column columns u = list_any (λ column. same_reference column.reference (column_reference u)) columns

-- the expression has the type, and each column that it names is there
pub record Fits (types : RowTypes) (columns : List BatchColumn) (e : Expr) (type : ExprType) : Type 0 where
  pub typed : has_type types e type ≡ true
  pub present : All (λ u. has_column columns u ≡ true) (columns_used e)
