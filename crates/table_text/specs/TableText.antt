-- How the file of a fragment or of a dimension is read, and what is printed of it.
use Rattle.std.specs.Prelude.{ℕ, ◌+◌, ◌-◌, ◌==◌, List, [], ◌∷◌, ◌++◌, length, map, zip, codes, decimal, Ok}
use Rattle.std.specs.List.{enumerate_from, flat_map}
use Rattle.meaning.specs.declared.catalog.Column.{Column}
use Rattle.blocks.specs.Block.{Block}
use Rattle.wire.specs.Reading.{◌>>=◌, Read, number_at}
use Rattle.answer_fields.specs.Fault.{from_wire}
use Rattle.answer_fields.specs.declared.fault.DecodeFault.{DecodeFault}
use Rattle.fragment_file.specs.Fragment.{FragmentSpec, group_sizes}
use Rattle.fragment_file.specs.declared.header.Header.{Header}
use Rattle.answer_text.specs.Reading.{capped, seal_at}
use Rattle.answer_text.specs.Shares.{share_text}
use Rattle.table_text.specs.BlockText.{block_at, block_line, column_blocks, total_line, total_of}
use Rattle.table_text.specs.Fields.{formed}
use Rattle.table_text.specs.HeaderText.{Front, all_columns_at, columns_text, front_at, front_text, header_of}

-- ---- what is read

-- a row group: how many bytes of the file stand before it, its rows, and a block of each column
pub record GroupLayout : Type 0 where
  pub before : ℕ
  pub rows : ℕ
  pub blocks : List Block

pub record TableLayout : Type 0 where
  pub header : Header
  pub groups : List GroupLayout

-- the header and the blocks alone
abbrev pub fragment_of : TableLayout → FragmentSpec
fragment_of t = record { header = t.header; groups = map (λ g. g.blocks) t.groups }

-- the number of a row group's rows, which is this one
abbrev pub group_rows_at : ℕ → List ℕ → Read DecodeFault ℕ
group_rows_at rows bytes = from_wire (number_at 4 bytes) >>= λ n. formed (n.0 == rows) n

-- a block of each column
unfoldable pub blocks_at : List Column → ℕ → List ℕ → Read DecodeFault (List Block)
blocks_at [] rows bytes = Ok ([], bytes)
blocks_at (c ∷ columns) rows bytes = do
  b ← block_at c rows bytes
  others ← blocks_at columns rows b.1
  Ok (b.0 ∷ others.0, others.1)

abbrev pub group_of : ℕ → ℕ → List Block → GroupLayout
group_of before rows blocks = record { before = before; rows = rows; blocks = blocks }

-- a row group of so many rows
abbrev pub group_at : List ℕ → List Column → ℕ → List ℕ → Read DecodeFault GroupLayout
group_at whole columns rows bytes = do
  n ← group_rows_at rows bytes
  blocks ← blocks_at columns n.0 n.1
  Ok (group_of (length whole - length bytes) n.0 blocks.0, blocks.1)

-- row groups of these sizes
unfoldable pub groups_at : List ℕ → List Column → List ℕ → List ℕ → Read DecodeFault (List GroupLayout)
groups_at whole columns [] bytes = Ok ([], bytes)
groups_at whole columns (rows ∷ sizes) bytes = do
  g ← group_at whole columns rows bytes
  others ← groups_at whole columns sizes g.1
  Ok (g.0 ∷ others.0, others.1)

-- the row groups of so many rows, and the seal of all bytes of the file
abbrev pub sealed_groups_at : List ℕ → List Column → ℕ → List ℕ → Read DecodeFault (List GroupLayout)
sealed_groups_at whole columns rows bytes = do
  groups ← groups_at whole columns (group_sizes rows) bytes
  seal ← seal_at whole groups.1
  Ok (groups.0, seal.1)

-- what stands behind the front
abbrev pub columns_and_groups_at : List ℕ → ℕ → List ℕ → Read DecodeFault (List Column × List GroupLayout)
columns_and_groups_at whole rows bytes = do
  columns ← all_columns_at bytes
  groups ← sealed_groups_at whole columns.0 rows columns.1
  Ok ((columns.0, groups.0), groups.1)

abbrev pub table_of : Front → List Column × List GroupLayout → TableLayout
table_of front behind = record { header = header_of front behind.0; groups = behind.1 }

-- a table's file behind its magic
abbrev pub table_at : List ℕ → List ℕ → Read DecodeFault TableLayout
table_at whole bytes = do
  front ← front_at bytes
  behind ← columns_and_groups_at whole front.0.place.rows front.1
  Ok (table_of front.0 behind.0, behind.1)

-- ---- what is printed

abbrev pub group_line : ℕ → ℕ → ℕ → List ℕ
group_line k at rows = codes "row group " ++ decimal k ++ codes " at byte " ++ decimal at ++ codes ": " ++ decimal rows ++ codes " rows\n"

-- a line for the block of each column
abbrev pub blocks_text : List Column → List Block → List ℕ
blocks_text columns blocks = flat_map (λ p. block_line p.0.name p.1) (zip columns blocks)

-- the row group of this number, in a file of which so many bytes stand before the ones that were read
abbrev pub group_text : List Column → ℕ → ℕ → GroupLayout → List ℕ
group_text columns first k g = group_line k (capped (first + g.before)) g.rows ++ blocks_text columns g.blocks

unfoldable pub groups_text : List Column → ℕ → List GroupLayout → List ℕ
groups_text columns first groups = flat_map (λ p. group_text columns first p.0 p.1) (enumerate_from 0 groups)

-- what the blocks of each column come to, in a file of so many rows
abbrev pub each_total_text : ℕ → List (List Block) → List Column → List ℕ
each_total_text rows groups columns = flat_map (λ p. total_line rows p.1.name (total_of (column_blocks p.0 groups))) (enumerate_from 0 columns)

abbrev pub totals_text : ℕ → List (List Block) → List Column → List ℕ
totals_text rows groups columns = codes "columns in all\n" ++ each_total_text rows groups columns

abbrev pub all_groups_text : List Column → ℕ → ℕ → List GroupLayout → List ℕ
all_groups_text columns first rows groups = groups_text columns first groups ++ totals_text rows (map (λ g. g.blocks) groups) columns

-- the size of the file, of so many rows
abbrev pub size_line : ℕ → ℕ → List ℕ
size_line size rows = codes "file: " ++ decimal size ++ (codes " bytes" ++ (share_text size rows ++ codes "\n"))

abbrev pub sized_groups_text : List Column → ℕ → ℕ → ℕ → List GroupLayout → List ℕ
sized_groups_text columns first size rows groups = all_groups_text columns first rows groups ++ size_line size rows

abbrev pub columns_and_groups_text : ℕ → ℕ → ℕ → List Column × List GroupLayout → List ℕ
columns_and_groups_text first size rows p = columns_text p.0 ++ sized_groups_text p.0 first size rows p.1

-- what stands before the columns
abbrev pub front_in : Header → Front
front_in h = record { load = h.load; table = h.table; place = record { fragment = h.fragment; first_row = h.first_row; rows = h.rows } }

-- all that is printed of a table's file of so many bytes
abbrev pub table_text : ℕ → ℕ → TableLayout → List ℕ
table_text first size t = front_text (front_in t.header) ++ columns_and_groups_text first size t.header.rows (t.header.columns, t.groups)
