-- How the header of a table's file is read, and what is printed of it.
use Rattle.std.specs.Prelude.{ℕ, zero, suc, nat_le, Bool, true, false, ◌&&◌, not, List, [], ◌∷◌, ◌++◌, codes, decimal, Ok}
use Rattle.std.specs.List.{enumerate_from, flat_map}
use Rattle.meaning.specs.declared.value.ColType.{ColType}
use Rattle.meaning.specs.declared.catalog.Column.{Column}
use Rattle.meaning.specs.Catalog.{is_name}
use Rattle.meaning.specs.Limits.{max_columns, max_name_bytes, max_rows}
use Rattle.wire.specs.Reading.{◌>>=◌, Read, bytes_at, number_at}
use Rattle.answer_fields.specs.Fault.{from_wire}
use Rattle.answer_fields.specs.declared.fault.DecodeFault.{DecodeFault}
use Rattle.fragment_file.specs.FragmentReading.{flag_of, is_named, type_of}
use Rattle.fragment_file.specs.declared.header.Header.{Header}
use Rattle.answer_text.specs.Texts.{type_word}
use Rattle.table_text.specs.Fields.{formed, limited, number_line, said}

-- ---- what is read

-- the length of a name
abbrev pub name_length_at : List ℕ → Read DecodeFault ℕ
name_length_at bytes = from_wire (number_at 2 bytes) >>= λ n. limited (nat_le 1 n.0 && nat_le n.0 max_name_bytes) n

-- a name behind its length
unfoldable pub name_at : List ℕ → Read DecodeFault (List ℕ)
name_at bytes = do
  n ← name_length_at bytes
  name ← from_wire (bytes_at n.0 n.1)
  formed (is_name name.0) name

-- a name that no earlier column has
abbrev pub new_name_at : List Column → List ℕ → Read DecodeFault (List ℕ)
new_name_at earlier bytes = name_at bytes >>= λ name. formed (not (is_named name.0 earlier)) name

abbrev pub type_at : List ℕ → Read DecodeFault ColType
type_at bytes = from_wire (number_at 1 bytes) >>= λ n. said (type_of n.0) n.1

-- whether a column may have NULL
abbrev pub flag_at : List ℕ → Read DecodeFault Bool
flag_at bytes = from_wire (number_at 1 bytes) >>= λ n. said (flag_of n.0) n.1

-- a column behind those that were read
unfoldable pub column_at : List Column → List ℕ → Read DecodeFault Column
column_at earlier bytes = do
  name ← new_name_at earlier bytes
  t ← type_at name.1
  f ← flag_at t.1
  Ok (record { name = name.0; col_type = t.0; nullable = f.0 }, f.1)

-- so many more columns
unfoldable pub columns_at : ℕ → List Column → List ℕ → Read DecodeFault (List Column)
columns_at zero earlier bytes = Ok (earlier, bytes)
columns_at (suc n) earlier bytes = do
  c ← column_at earlier bytes
  columns_at n (earlier ++ c.0 ∷ []) c.1

-- how many columns there are
abbrev pub column_count_at : List ℕ → Read DecodeFault ℕ
column_count_at bytes = from_wire (number_at 2 bytes) >>= λ n. limited (nat_le 1 n.0 && nat_le n.0 max_columns) n

-- columns behind their number
abbrev pub all_columns_at : List ℕ → Read DecodeFault (List Column)
all_columns_at bytes = column_count_at bytes >>= λ n. columns_at n.0 [] n.1

-- which fragment it is, and which rows it has
pub record Place : Type 0 where
  pub fragment : ℕ
  pub first_row : ℕ
  pub rows : ℕ

abbrev pub row_count_at : List ℕ → Read DecodeFault ℕ
row_count_at bytes = from_wire (number_at 4 bytes) >>= λ n. limited (nat_le n.0 max_rows) n

abbrev pub place_at : List ℕ → Read DecodeFault Place
place_at bytes = do
  k ← from_wire (number_at 4 bytes)
  first ← from_wire (number_at 8 k.1)
  rows ← row_count_at first.1
  Ok (record { fragment = k.0; first_row = first.0; rows = rows.0 }, rows.1)

-- what stands before the columns
pub record Front : Type 0 where
  pub load : ℕ
  pub table : List ℕ
  pub place : Place

abbrev pub named_place_at : List ℕ → Read DecodeFault (List ℕ × Place)
named_place_at bytes = do
  table ← name_at bytes
  place ← place_at table.1
  Ok ((table.0, place.0), place.1)

abbrev pub front_at : List ℕ → Read DecodeFault Front
front_at bytes = do
  load ← from_wire (number_at 8 bytes)
  behind ← named_place_at load.1
  Ok (record { load = load.0; table = behind.0.0; place = behind.0.1 }, behind.1)

abbrev pub header_of : Front → List Column → Header
header_of front columns = record {
  load = front.load;
  table = front.table;
  fragment = front.place.fragment;
  first_row = front.place.first_row;
  rows = front.place.rows;
  columns = columns;
}

-- ---- what is printed

abbrev pub table_line : List ℕ → List ℕ
table_line name = codes "table " ++ name ++ codes "\n"

abbrev pub place_text : Place → List ℕ
place_text p = number_line (codes "fragment") p.fragment ++ (number_line (codes "first row") p.first_row ++ number_line (codes "rows") p.rows)

abbrev pub named_place_text : List ℕ × Place → List ℕ
named_place_text p = table_line p.0 ++ place_text p.1

abbrev pub front_text : Front → List ℕ
front_text f = number_line (codes "load") f.load ++ named_place_text (f.table, f.place)

abbrev pub null_word : Bool → List ℕ
null_word true = codes " null"
null_word false = []

abbrev pub column_words : ℕ → List ℕ → List ℕ → List ℕ → List ℕ
column_words at name word null = codes "column " ++ decimal at ++ codes ": " ++ name ++ codes " " ++ word ++ null ++ codes "\n"

-- the line of the column of this number
abbrev pub column_line : ℕ → Column → List ℕ
column_line at c = column_words at c.name (type_word c.col_type) (null_word c.nullable)

unfoldable pub columns_text : List Column → List ℕ
columns_text columns = flat_map (λ p. column_line p.0 p.1) (enumerate_from 0 columns)
