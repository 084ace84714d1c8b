-- The first rows of a table's file as comma-separated values.
use Rattle.std.specs.Prelude.{◌≡◌, ℕ, false, List, ◌∷◌, map, take, flat_map, slice_index_or}
use Rattle.std.specs.List.{range_with_len}
use Rattle.csv.specs.Writing.{default_writer, fields_written, has_written, row_text, writer_setup}
use Rattle.csv.specs.declared.writer.Writer.{Writer}
use Rattle.meaning.specs.Print.{value_text}
use Rattle.meaning.specs.declared.value.Value.TheVariants.{Null}
use Rattle.blocks.specs.Block.{Block, values_of}
use Rattle.table_text.specs.TableText.{GroupLayout, TableLayout}

-- a writer of records that stands before a record
pub record IsBetween {W : Type 0} (writer : Writer W) : Type 0 where
  pub setup : writer_setup writer ≡ default_writer
  pub fields : fields_written writer ≡ 0
  pub blank : has_written writer ≡ false

-- the text of records
abbrev pub records_text : List (List (List ℕ)) → List ℕ
records_text records = flat_map (row_text default_writer) records

-- the field that shows a row of a block
abbrev pub field_at : ℕ → Block → List ℕ
field_at row b = value_text (slice_index_or (values_of b) row Null)

-- a row of a row group: a field of each block
abbrev pub row_of : List Block → ℕ → List (List ℕ)
row_of blocks row = map (field_at row) blocks

-- the rows of a row group
abbrev pub group_rows : GroupLayout → List (List (List ℕ))
group_rows g = map (row_of g.blocks) (range_with_len 0 g.rows)

-- the rows of row groups, one behind the other
abbrev pub rows_in : List GroupLayout → List (List (List ℕ))
rows_in groups = flat_map group_rows groups

-- a header, and the first rows, as many as are asked for or all that there are
abbrev pub rows_text : ℕ → TableLayout → List ℕ
rows_text most t = records_text (map (λ c. c.name) t.header.columns ∷ take most (rows_in t.groups))
