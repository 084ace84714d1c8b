-- The limits of names, tables, cuts and queries, each named once.
use Rattle.std.specs.Prelude.{ℕ}

-- the most bytes of a name
abbrev pub max_name_bytes : ℕ
max_name_bytes = 64

-- the most columns of a table
abbrev pub max_columns : ℕ
max_columns = 64

-- the most dimensions of a catalogue
abbrev pub max_dimensions : ℕ
max_dimensions = 16

-- the most bytes of a text value
abbrev pub max_text_bytes : ℕ
max_text_bytes = 65535

-- the most fragments of a cut
abbrev pub max_fragments : ℕ
max_fragments = 4096

-- the most rows of a fragment or of a dimension
abbrev pub max_rows : ℕ
max_rows = 1048576

-- the rows of each row group of a file but the last
abbrev pub row_group_rows : ℕ
row_group_rows = 8192

-- the most rows of a vector
abbrev pub max_vector_rows : ℕ
max_vector_rows = 4096

-- the most bytes of a query's text, and of its canonical text
abbrev pub max_query_bytes : ℕ
max_query_bytes = 65535

-- the greatest depth of a query's tree
abbrev pub max_tree_depth : ℕ
max_tree_depth = 128

-- the most brackets, CASE, NOT and unary minus that are open together in a query's text
abbrev pub max_open : ℕ
max_open = 256

-- the most joins of a query
abbrev pub max_joins : ℕ
max_joins = 16

-- the most grouping keys of a query
abbrev pub max_keys : ℕ
max_keys = 64

-- the most different aggregates of a query
abbrev pub max_aggregates : ℕ
max_aggregates = 64
