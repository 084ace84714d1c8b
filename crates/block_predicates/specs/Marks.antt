-- What a condition is of the entries of a block, and of its rows.
use Rattle.std.specs.Prelude.{◌≡◌, ℕ, ◌<◌, Bool, true, false, if◌then◌else◌, List, [], ◌∷◌, get_or, map, Some, slice_get}
use Rattle.std.specs.List.{range_with_len}
use Rattle.meaning.specs.declared.expr.Expr.{Expr}
use Rattle.meaning.specs.declared.joined_row.JoinedRow.{JoinedRow}
use Rattle.meaning.specs.declared.value.Value.{Value}
use Rattle.meaning.specs.declared.value.Value.TheVariants.{Null}
use Rattle.meaning.specs.Expr.{eval}
use Rattle.meaning.specs.Order.{column}
use Rattle.meaning.specs.Typing.{Boolean, RowTypes, has_type}
use Rattle.blocks.specs.declared.kind.Kind.{Kind}
use Rattle.blocks.specs.declared.kind.Kind.TheVariants as kind
use Rattle.blocks.specs.Block.{Block, nulls_of, values_of}
use Rattle.blocks.specs.DictionaryView.{dictionary_in}
use Rattle.pushdown.specs.FactColumn.{StandsOn}
use Rattle.vectors.specs.declared.batch.ColumnReference.TheVariants as reference
use Rattle.vectors.specs.declared.vector.Vector.{Vector}
use Rattle.vectors.specs.Vector.{BatchSpec}
use Rattle.vector_operators.specs.Given.{is_true_lane}
use Rattle.block_predicates.specs.declared.marks.EntryMarks.{EntryMarks}
use Rattle.block_predicates.specs.Entries.{has_entries, lane_count}

-- on each joined row with this value in the column of the fact, the condition is TRUE just where it is marked
abbrev pub IsMarkOf : Expr → ℕ → Value → Bool → Type 0
IsMarkOf e at v mark = (s : JoinedRow) → column s.fact at ≡ v → is_true_lane (eval e s) ≡ mark

-- the same of each of a list's values
abbrev pub AreMarksOf : Expr → ℕ → List Value → List Bool → ℕ → Type 0
AreMarksOf e at vs marks count = (i : ℕ) → i < count → IsMarkOf e at (get_or vs i Null) (get_or marks i false)

-- the condition is a truth over a column of the block's type
pub record IsTypedOn (types : RowTypes) (e : Expr) (at : ℕ) (b : Block) : Type 0 where
  pub condition : has_type types e Boolean ≡ true
  pub column_is : slice_get types.fact at ≡ Some b.col_type

-- ---- lanes

-- a batch of lanes of one column of the fact
abbrev pub one_column : ℕ → ℕ → Vector → BatchSpec
one_column at rows lanes = record { rows = rows; columns = record { reference = reference.Fact at; lanes = lanes } ∷ [] }

-- ---- rows

-- which mark a row that isn't NULL has: that of its entry in a dictionary, one of its own among runs
abbrev pub place_by : Kind → Block → ℕ → ℕ
place_by kind.Plain b row = row
place_by kind.Dict b row = get_or (dictionary_in b).codes row 0
place_by kind.Runs b row = row
place_by kind.Frame b row = row

abbrev pub mark_at : Block → EntryMarks → ℕ → Bool
mark_at b m row = if get_or (nulls_of b) row false then m.null else get_or m.marks.items (place_by b.kind b row) false

-- which rows of the block are marked
abbrev pub kept_of : Block → EntryMarks → List Bool
kept_of b m = map (mark_at b m) (range_with_len 0 b.rows)

-- marks of a condition on the rows of a block, whatever else stands in a joined row
pub record AreMarksFor (e : Expr) (b : Block) (m : EntryMarks) : Type 0 where
  pub stands : StandsOn m.column e
  pub entries : has_entries b.kind ≡ true
  pub counted : m.count ≡ lane_count b
  pub marked : (types : RowTypes) → IsTypedOn types e m.column b → (row : ℕ) → row < b.rows
      → IsMarkOf e m.column (get_or (values_of b) row Null) (mark_at b m row)
