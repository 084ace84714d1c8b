-- Vectors of any kind, and batches of them.
use Rattle.std.specs.Prelude.{◌≡◌, ℕ, Bool, false, ◌&&◌, nat_eq, List, [], map, length, All}
use Rattle.meaning.specs.declared.outcome.Outcome.{Outcome}
use Rattle.meaning.specs.declared.outcome.Outcome.TheVariants as gives
use Rattle.meaning.specs.declared.joined_row.JoinedRow.{JoinedRow}
use Rattle.meaning.specs.declared.value.ColType.{ColType}
use Rattle.meaning.specs.declared.value.ColType.TheVariants as of_type
use Rattle.meaning.specs.declared.value.Value.{Value}
use Rattle.meaning.specs.References.{Reference, FactColumn, JoinColumn, GroupKey, GroupAggregate, referenced}
use Rattle.vectors.specs.declared.vector.Vector.{Vector}
use Rattle.vectors.specs.declared.vector.Vector.TheVariants as vector
use Rattle.vectors.specs.declared.batch.ColumnReference.{ColumnReference}
use Rattle.vectors.specs.declared.batch.ColumnReference.TheVariants as reference
use Rattle.vectors.specs.declared.batch.BatchColumn.{BatchColumn}

-- what each lane gives: a value or a truth
abbrev pub outcomes_of : Vector → List Outcome
outcomes_of (vector.Ints lanes) = map gives.Value lanes
outcomes_of (vector.Texts lanes) = map gives.Value lanes
outcomes_of (vector.Truths lanes) = map gives.Truth lanes

-- the values of a vector's lanes; truths are none
abbrev pub values_of : Vector → List Value
values_of (vector.Ints lanes) = lanes
values_of (vector.Texts lanes) = lanes
values_of (vector.Truths lanes) = []

-- lanes of a column of this type
abbrev pub HasLanesOf : ColType → Vector → Type 0
HasLanesOf of_type.Int (vector.Ints lanes) = Unit {0}
HasLanesOf of_type.Text (vector.Texts lanes) = Unit {0}
HasLanesOf _ _ = ⊥

-- ---- batches

-- the reference by which expressions name the column
abbrev pub reference_of : ColumnReference → Reference
reference_of (reference.Fact column) = FactColumn column
reference_of (reference.Join join column) = JoinColumn join column
reference_of (reference.Key key) = GroupKey key
reference_of (reference.Aggregate aggregate) = GroupAggregate aggregate

abbrev pub same_reference : ColumnReference → ColumnReference → Bool
same_reference (reference.Fact c) (reference.Fact d) = nat_eq c d
same_reference (reference.Join i c) (reference.Join j d) = nat_eq i j && nat_eq c d
same_reference (reference.Key i) (reference.Key j) = nat_eq i j
same_reference (reference.Aggregate i) (reference.Aggregate j) = nat_eq i j
same_reference _ _ = false

-- how many rows there are, and the columns of them that are there
pub record BatchSpec : Type 0 where
  pub rows : ℕ
  pub columns : List BatchColumn

-- each lane of the column is the value that its row has under the reference
abbrev pub IsColumnOf : List JoinedRow → BatchColumn → Type 0
IsColumnOf rows column = outcomes_of column.lanes ≡ map (λ row. gives.Value (referenced row (reference_of column.reference))) rows

-- rows that the batch has the columns of; what else they hold is open
pub record AreRowsOf (batch : BatchSpec) (rows : List JoinedRow) : Type 0 where
  pub counted : length rows ≡ batch.rows
  pub columns : All (IsColumnOf rows) batch.columns
