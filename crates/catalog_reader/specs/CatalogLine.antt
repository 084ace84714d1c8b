-- What one line of a catalogue says.
use Rattle.std.specs.Prelude.{ℕ, ◌==◌, Bool, true, false, ◌&&◌, ◌||◌, not, if◌then◌else◌, Option, Some, None, option_map, option_and_then, List, [], ◌∷◌, length, filter, codes, bytes_eq}
use Rattle.std.specs.List.{slice_split}
use Rattle.meaning.specs.declared.value.ColType.{ColType}
use Rattle.meaning.specs.declared.value.ColType.TheVariants as types
use Rattle.catalog_reader.specs.declared.catalog_line.Statement.{Statement}
use Rattle.catalog_reader.specs.declared.catalog_line.Statement.TheVariants.{Fact, Dim, Col}
use Rattle.catalog_reader.specs.declared.catalog_line.Line.{Line}
use Rattle.catalog_reader.specs.declared.catalog_line.Line.TheVariants.{Passed, Unknown, Declares}
use Rattle.meaning.specs.Catalog.{is_name}

-- a space or a tab
abbrev pub is_blank : ℕ → Bool
is_blank b = b == 32 || b == 9

-- the runs between blanks
abbrev pub words : List ℕ → List (List ℕ)
words line = filter (λ word. not (length word == 0)) (slice_split is_blank line)

-- the type that a word names
abbrev pub type_of : List ℕ → Option ColType
type_of word =
    if bytes_eq word (codes "int") then Some types.Int
    else if bytes_eq word (codes "text") then Some types.Text
    else None

-- the word, if it can be a name
abbrev pub name_of : List ℕ → Option (List ℕ)
name_of word = if is_name word then Some word else None

-- `fact N`
abbrev pub fact_line : List ℕ → Option Statement
fact_line name = option_map Fact (name_of name)

-- `dim N key C`
abbrev pub dimension_line : List ℕ → List ℕ → Option Statement
dimension_line name key = option_and_then (λ n. option_map (Dim n) (name_of key)) (name_of name)

-- `col N T`, and the same with `null` behind it
abbrev pub column_of : List ℕ → List ℕ → Bool → Option Statement
column_of name type nullable =
    option_and_then (λ n. option_map (λ t. Col (record { name = n; col_type = t; nullable = nullable }))
    (type_of type)) (name_of name)

-- what two words declare
abbrev pub two_words : List ℕ → List ℕ → Option Statement
two_words keyword name = if bytes_eq keyword (codes "fact") then fact_line name else None

-- what three words declare
abbrev pub three_words : List ℕ → List ℕ → List ℕ → Option Statement
three_words keyword name type = if bytes_eq keyword (codes "col") then column_of name type false else None

-- what four words declare
abbrev pub four_words : List ℕ → List ℕ → List ℕ → List ℕ → Option Statement
four_words keyword name third fourth =
    if bytes_eq keyword (codes "dim") && bytes_eq third (codes "key") then dimension_line name fourth
    else if bytes_eq keyword (codes "col") && bytes_eq fourth (codes "null") then column_of name third true
    else None

-- what the words of a line declare
abbrev pub statement_of : List (List ℕ) → Option Statement
statement_of (a ∷ b ∷ []) = two_words a b
statement_of (a ∷ b ∷ c ∷ []) = three_words a b c
statement_of (a ∷ b ∷ c ∷ d ∷ []) = four_words a b c d
statement_of others = None

-- a line whose first byte is `#`
abbrev pub is_comment : List ℕ → Bool
is_comment [] = false
is_comment (b ∷ bs) = b == 35

-- what words that declare something, or not, make of their line
abbrev pub declared_by : Option Statement → Line
declared_by None = Unknown
declared_by (Some statement) = Declares statement

-- what a line in lower case says
abbrev pub line_of : List ℕ → Line
line_of line =
    if is_comment line then Passed
    else if length (words line) == 0 then Passed
    else declared_by (statement_of (words line))
