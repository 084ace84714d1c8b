-- The catalogue that a text declares, or the first refusal that fits it.
use Rattle.std.specs.Prelude.{ℕ, ◌==◌, Bool, ◌&&◌, ◌||◌, not, nat_lt, if◌then◌else◌, Option, Some, None, is_none, is_some, option_map, option_and_then, Result, Ok, Err, List, [], ◌∷◌, length, map, position, bytes_eq}
use Rattle.std.specs.List.{list_any, filter_map}
use Rattle.std.specs.Char.{to_ascii_lowercase}
use Rattle.std.specs.Str.{is_utf8}
use Rattle.std.specs.Str.Lines.{lines}
use Rattle.meaning.specs.Limits.{max_name_bytes, max_columns, max_dimensions}
use Rattle.meaning.specs.declared.catalog.Column.{Column}
use Rattle.meaning.specs.declared.catalog.Table.{Table}
use Rattle.meaning.specs.declared.catalog.Dimension.{Dimension}
use Rattle.meaning.specs.declared.catalog.Catalog.{Catalog}
use Rattle.meaning.specs.declared.catalog.CatalogFault.{CatalogFault}
use Rattle.meaning.specs.declared.catalog.CatalogFault.TheVariants.{NotUtf8, NotOneFact, UnfitKey, OverLimit}
use Rattle.catalog_reader.specs.declared.catalog_line.Line.{Line}
use Rattle.catalog_reader.specs.declared.catalog_tables.Declared.{Declared}
use Rattle.catalog_reader.specs.CatalogLine.{line_of}
use Rattle.catalog_reader.specs.CatalogTables.{statements, tables_of, first_line_fault}

-- which column has the key's name and isn't nullable
abbrev pub key_column : List Column → List ℕ → Option ℕ
key_column columns key = position (λ column. bytes_eq column.name key && not column.nullable) columns

-- the fact table that a table is, if it is one
abbrev pub declared_fact : Declared → Option Table
declared_fact declared = if is_none declared.key then Some declared.table else None

-- the dimension that a table is, if it is one and has its key column
abbrev pub keyed : Declared → Option Dimension
keyed declared =
    option_and_then (λ key. option_map (λ k. record { table = declared.table; key = k })
    (key_column declared.table.columns key)) declared.key

-- the fact tables, in the order of the text
abbrev pub facts : List Declared → List Table
facts tables = filter_map declared_fact tables

-- the dimensions that have their key columns, in the order of the text
abbrev pub dims : List Declared → List Dimension
dims tables = filter_map keyed tables

-- a dimension whose key column is missing or nullable
abbrev pub lacks_key : Declared → Bool
lacks_key declared = is_some declared.key && is_none (keyed declared)

-- one of the columns has a name of over 64 bytes
abbrev pub has_long_name : List Column → Bool
has_long_name columns = list_any (λ column. nat_lt max_name_bytes (length column.name)) columns

-- no column or over 64, or a name of over 64 bytes
abbrev pub exceeds_limits : Table → Bool
exceeds_limits table =
    length table.columns == 0 || nat_lt max_columns (length table.columns) || nat_lt max_name_bytes (length table.name)
    || has_long_name table.columns

-- over 16 dimensions, or a table over its limits
abbrev pub exceed_limits : List Declared → Bool
exceed_limits tables =
    list_any (λ declared. exceeds_limits declared.table) tables || nat_lt max_dimensions (length (dims tables))

-- the catalogue of the tables, where just one of them is the fact table
abbrev pub catalog_with : List Table → List Declared → Result Catalog CatalogFault
catalog_with (fact ∷ []) tables =
    if list_any lacks_key tables then Err UnfitKey
    else if exceed_limits tables then Err OverLimit
    else Ok (record { fact = fact; dims = dims tables })
catalog_with others tables = Err NotOneFact

-- the catalogue of declared tables
abbrev pub catalog_from : List Declared → Result Catalog CatalogFault
catalog_from tables = catalog_with (facts tables) tables

-- the catalogue of lines, which have this first fault or none
abbrev pub catalog_unless : Option CatalogFault → List Line → Result Catalog CatalogFault
catalog_unless (Some fault) lines = Err fault
catalog_unless None lines = catalog_from (tables_of (statements lines))

-- what the lines of a text say, whatever the case of its letters
abbrev pub lines_of : List ℕ → List Line
lines_of text = map line_of (lines (map to_ascii_lowercase text))

-- the catalogue of a text in UTF-8
abbrev pub catalog_of_text : List ℕ → Result Catalog CatalogFault
catalog_of_text text = catalog_unless (first_line_fault [] (lines_of text)) (lines_of text)

-- the catalogue of the bytes of a file
abbrev pub catalog_of : List ℕ → Result Catalog CatalogFault
catalog_of bytes = if is_utf8 bytes then catalog_of_text bytes else Err NotUtf8
