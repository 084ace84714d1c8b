-- What the lines of a catalogue declare together.
use Rattle.std.specs.Prelude.{◌≡◌, ℕ, ◌+◌, Bool, if◌then◌else◌, Option, Some, None, List, [], ◌∷◌, ◌++◌, length, bytes_eq}
use Rattle.std.specs.Option.{option_or}
use Rattle.std.specs.List.{list_any, filter_map}
use Rattle.meaning.specs.declared.catalog.Column.{Column}
use Rattle.meaning.specs.declared.catalog.CatalogFault.{CatalogFault}
use Rattle.meaning.specs.declared.catalog.CatalogFault.TheVariants.{UnknownLine, NameTwice}
use Rattle.catalog_reader.specs.declared.catalog_line.Statement.{Statement}
use Rattle.catalog_reader.specs.declared.catalog_line.Statement.TheVariants.{Fact, Dim, Col}
use Rattle.catalog_reader.specs.declared.catalog_line.Line.{Line}
use Rattle.catalog_reader.specs.declared.catalog_line.Line.TheVariants.{Passed, Unknown, Declares}
use Rattle.catalog_reader.specs.declared.catalog_tables.Declared.{Declared}

-- one of the columns has the name
abbrev pub has_column : List Column → List ℕ → Bool
has_column columns name = list_any (λ column. bytes_eq column.name name) columns

-- one of the tables has the name
abbrev pub is_declared : List Declared → List ℕ → Bool
is_declared tables name = list_any (λ declared. bytes_eq declared.table.name name) tables

-- the statement of a line that has one
abbrev pub statement : Line → Option Statement
statement Passed = None
statement Unknown = None
statement (Declares s) = Some s

-- the statements of lines, in their order
abbrev pub statements : List Line → List Statement
statements lines = filter_map statement lines

-- the columns up to the next table
abbrev pub leading_columns : List Statement → List Column
leading_columns [] = []
leading_columns (Fact name ∷ more) = []
leading_columns (Dim name key ∷ more) = []
leading_columns (Col column ∷ more) = column ∷ leading_columns more

-- each table with the columns behind it
abbrev pub tables_of : List Statement → List Declared
tables_of [] = []
tables_of (Fact name ∷ more) =
    record { table = record { name = name; columns = leading_columns more }; key = None } ∷ tables_of more
tables_of (Dim name key ∷ more) =
    record { table = record { name = name; columns = leading_columns more }; key = Some key } ∷ tables_of more
tables_of (Col column ∷ more) = tables_of more

-- a column before any table, or one whose name a column of the table begun last has
abbrev pub column_fault : List Declared → ℕ → Column → Option CatalogFault
column_fault [] line column = Some (UnknownLine line)
column_fault (declared ∷ []) line column =
    if has_column declared.table.columns column.name then Some (NameTwice line) else None
column_fault (declared ∷ next ∷ more) line column = column_fault (next ∷ more) line column

-- a table whose name one of these has
abbrev pub table_fault : List Declared → ℕ → List ℕ → Option CatalogFault
table_fault tables line name = if is_declared tables name then Some (NameTwice line) else None

-- what is wrong with a statement in this line, behind these tables
abbrev pub statement_fault : List Declared → ℕ → Statement → Option CatalogFault
statement_fault tables line (Fact name) = table_fault tables line name
statement_fault tables line (Dim name key) = table_fault tables line name
statement_fault tables line (Col column) = column_fault tables line column

-- what is wrong with the line of this number, behind these tables
abbrev pub fault_at : List Declared → ℕ → Line → Option CatalogFault
fault_at tables line Passed = None
fault_at tables line Unknown = Some (UnknownLine line)
fault_at tables line (Declares s) = statement_fault tables line s

-- what is wrong with a line behind those before it
abbrev pub line_fault : List Line → Line → Option CatalogFault
line_fault before line = fault_at (tables_of (statements before)) (length before + 1) line

-- the fault of the least line that has one, behind the lines before
abbrev pub first_line_fault : List Line → List Line → Option CatalogFault
first_line_fault before [] = None
first_line_fault before (line ∷ more) = option_or (line_fault before line) (first_line_fault (before ++ line ∷ []) more)

-- no line has a fault, each behind the lines before it
abbrev pub AreFaultless : List Line → Type 0
AreFaultless lines =
    (before : List Line) (line : Line) (after : List Line) → lines ≡ before ++ line ∷ after
    → line_fault before line ≡ None

-- the fault of a line, where no line before it has one
pub record IsFirstFault (lines : List Line) (fault : CatalogFault) : Type 0 where
  pub before : List Line
  pub line : Line
  pub after : List Line
  pub whole : lines ≡ before ++ line ∷ after
  pub here : line_fault before line ≡ Some fault
  pub earlier : AreFaultless before

-- a table with no column yet
abbrev pub new_table : List ℕ → Option (List ℕ) → Declared
new_table name key = record { table = record { name = name; columns = [] }; key = key }

-- the tables with one more column of the last
abbrev pub with_column : List Declared → Column → List Declared
with_column [] column = []
with_column (declared ∷ []) column =
    record declared { table = record declared.table { columns = declared.table.columns ++ column ∷ [] } } ∷ []
with_column (declared ∷ next ∷ more) column = declared ∷ with_column (next ∷ more) column

-- the tables with one more statement
abbrev pub with_statement : List Declared → Statement → List Declared
with_statement tables (Fact name) = tables ++ new_table name None ∷ []
with_statement tables (Dim name key) = tables ++ new_table name (Some key) ∷ []
with_statement tables (Col column) = with_column tables column

-- the tables with one more line
abbrev pub with_line : List Declared → Line → List Declared
with_line tables Passed = tables
with_line tables Unknown = tables
with_line tables (Declares s) = with_statement tables s
