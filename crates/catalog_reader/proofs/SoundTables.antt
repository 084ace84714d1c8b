-- Lines without a fault declare tables whose names can be names, each once.
use Rattle.std.proofs.Common.{◌≡◌, ◌≢◌, ℕ, ◌+◌, ◌==◌, ◌&&◌, codes, Bool, true, false, if◌then◌else◌, Option, Some, None, List, [], ◌∷◌, ◌++◌, length, map, append_assoc, refl, ap, sym, subst}
use Rattle.std.proofs.lemmas.Bool.{or_parts}
use Rattle.std.proofs.lemmas.List.{append-nil}
use Rattle.std.proofs.lemmas.Slice.Eq.{bytes_eq-Decides}
use Rattle.std.specs.List.{AllByRecursion, list_any}
use Rattle.std.specs.Option.{option_or, option_map, option_and_then}
use Rattle.std.specs.Str.{bytes_eq}
use Rattle.meaning.specs.declared.value.ColType.{ColType}
use Rattle.meaning.specs.declared.catalog.Column.{Column}
use Rattle.meaning.specs.declared.catalog.CatalogFault.TheVariants.{NameTwice}
use Rattle.catalog_reader.specs.declared.catalog_line.Statement.{Statement}
use Rattle.catalog_reader.specs.declared.catalog_line.Statement.TheVariants.{Fact, Dim, Col}
use Rattle.catalog_reader.specs.declared.catalog_line.Line.{Line}
use Rattle.catalog_reader.specs.declared.catalog_line.Line.TheVariants.{Passed, Unknown, Declares}
use Rattle.catalog_reader.specs.declared.catalog_tables.Declared.{Declared}
use Rattle.meaning.specs.Catalog.{is_name}
use Rattle.catalog_reader.specs.CatalogLine.{name_of, type_of, fact_line, dimension_line, column_of, two_words, three_words, four_words, statement_of, words, is_comment, declared_by, line_of}
use Rattle.catalog_reader.specs.CatalogTables.{has_column, is_declared, table_fault, column_fault, fault_at, line_fault, first_line_fault, statements, tables_of, new_table, with_column, with_line}
use Rattle.catalog_reader.proofs.CatalogSteps.{tables_of-line}

-- ---- names that differ

-- no two are equal
abbrev pub AreApart : List (List ℕ) → Type 0
AreApart [] = Unit {0}
AreApart (x ∷ xs) = AllByRecursion (λ y. x ≢ y) xs × AreApart xs

All-push : {X : Type 0} (P : X → Type 0) (xs : List X) (y : X) → AllByRecursion P xs → P y
    → AllByRecursion P (xs ++ y ∷ [])
All-push P [] y all here = (here, tt)
All-push P (x ∷ xs) y all here = (all.0, All-push P xs y all.1 here)

AreApart-push : (xs : List (List ℕ)) (y : List ℕ) → AreApart xs → AllByRecursion (λ x. x ≢ y) xs
    → AreApart (xs ++ y ∷ [])
AreApart-push [] y apart new = (tt, tt)
AreApart-push (x ∷ xs) y apart new = (All-push (λ z. x ≢ z) xs y apart.0 new.0, AreApart-push xs y apart.1 new.1)

different : (a b : List ℕ) → bytes_eq a b ≡ false → a ≢ b
different a b unequal same = let equal = (bytes_eq-Decides a b).1 same in cc

-- a name that no element has
none_named : {X : Type 0} (f : X → List ℕ) (xs : List X) (name : List ℕ) → list_any (λ x. bytes_eq (f x) name) xs
    ≡ false → AllByRecursion (λ y. y ≢ name) (map f xs)
none_named f [] name none = tt
none_named f (x ∷ xs) name none =
    let parts = or_parts _ _ none in (different (f x) name parts.0, none_named f xs name parts.1)

map-push : {X Y : Type 0} (f : X → Y) (xs : List X) (y : X) → map f (xs ++ y ∷ []) ≡ map f xs ++ f y ∷ []
map-push f [] y = refl
map-push f (x ∷ xs) y = ap (λ ys. f x ∷ ys) (map-push f xs y)

-- ---- what a line says has names

abbrev IsSoundStatement : Statement → Type 0
IsSoundStatement (Fact name) = is_name name ≡ true
IsSoundStatement (Dim name key) = is_name name ≡ true
IsSoundStatement (Col column) = is_name column.name ≡ true

abbrev IsSoundFound : Option Statement → Type 0
IsSoundFound None = Unit {0}
IsSoundFound (Some s) = IsSoundStatement s

abbrev pub IsSoundLine : Line → Type 0
IsSoundLine Passed = Unit {0}
IsSoundLine Unknown = Unit {0}
IsSoundLine (Declares s) = IsSoundStatement s

fact_line-sound : (name : List ℕ) → IsSoundFound (fact_line name)
fact_line-sound name =
    elim (is_name name) as (λ b. is_name name ≡ b → IsSoundFound (option_map Fact (if b then Some name else None))) [
      | true ↦ λ named. named
      | false ↦ λ _. tt
    ] refl

dimension_line-sound : (name key : List ℕ) → IsSoundFound (dimension_line name key)
dimension_line-sound name key =
    elim (is_name name) as (λ b. is_name name
    ≡ b → IsSoundFound (option_and_then (λ n. option_map (Dim n) (name_of key)) (if b then Some name else None))) [
      | true ↦ λ named. elim (name_of key) as
          (λ o. IsSoundFound (option_map (Dim name) o)) [ None ↦ tt | Some k ↦ named ]
      | false ↦ λ _. tt
    ] refl

column_of-sound : (name type : List ℕ) (nullable : Bool) → IsSoundFound (column_of name type nullable)
column_of-sound name type nullable =
    let column : List ℕ → ColType → Statement = λ n t. Col (record { name = n; col_type = t; nullable = nullable }) in
    elim (is_name name) as (λ b. is_name name
    ≡ b → IsSoundFound (option_and_then (λ n. option_map (column n) (type_of type))
    (if b then Some name else None))) [
      | true ↦ λ named. elim (type_of type) as
          (λ o. IsSoundFound (option_map (column name) o)) [ None ↦ tt | Some t ↦ named ]
      | false ↦ λ _. tt
    ] refl

found_if : (b : Bool) (x y : Option Statement) → IsSoundFound x → IsSoundFound y → IsSoundFound (if b then x else y)
found_if true x y there here = there
found_if false x y there here = here

two_words-sound : (a b : List ℕ) → IsSoundFound (two_words a b)
two_words-sound a b = found_if (bytes_eq a (codes "fact")) (fact_line b) None (fact_line-sound b) tt

three_words-sound : (a b c : List ℕ) → IsSoundFound (three_words a b c)
three_words-sound a b c = found_if (bytes_eq a (codes "col")) (column_of b c false) None (column_of-sound b c false) tt

four_words-sound : (a b c d : List ℕ) → IsSoundFound (four_words a b c d)
four_words-sound a b c d =
    let is_dim = bytes_eq a (codes "dim") && bytes_eq c (codes "key") in
    let is_col = bytes_eq a (codes "col") && bytes_eq d (codes "null") in
    found_if is_dim (dimension_line b d) (if is_col then column_of b c true else None) (dimension_line-sound b d)
    (found_if is_col (column_of b c true) None (column_of-sound b c true) tt)

statement_of-sound : (ws : List (List ℕ)) → IsSoundFound (statement_of ws)
statement_of-sound [] = tt
statement_of-sound (a ∷ []) = tt
statement_of-sound (a ∷ b ∷ []) = two_words-sound a b
statement_of-sound (a ∷ b ∷ c ∷ []) = three_words-sound a b c
statement_of-sound (a ∷ b ∷ c ∷ d ∷ []) = four_words-sound a b c d
statement_of-sound (a ∷ b ∷ c ∷ d ∷ e ∷ more) = tt

declared_by-sound : (found : Option Statement) → IsSoundFound found → IsSoundLine (declared_by found)
declared_by-sound None sound = tt
declared_by-sound (Some s) sound = sound

line_if : (b : Bool) (line : Line) → IsSoundLine line → IsSoundLine (if b then Passed else line)
line_if true line sound = tt
line_if false line sound = sound

line_of-sound : (line : List ℕ) → IsSoundLine (line_of line)
line_of-sound line =
    let said = declared_by (statement_of (words line)) in
    line_if (is_comment line) (if length (words line) == 0 then Passed else said)
    (line_if (length (words line) == 0) said
    (declared_by-sound (statement_of (words line)) (statement_of-sound (words line))))

pub lines-sound : (texts : List (List ℕ)) → AllByRecursion IsSoundLine (map line_of texts)
lines-sound [] = tt
lines-sound (text ∷ texts) = (line_of-sound text, lines-sound texts)

-- ---- the tables of sound lines

abbrev pub column_name : Column → List ℕ
column_name column = column.name

abbrev pub table_name : Declared → List ℕ
table_name declared = declared.table.name

pub record IsSoundTable (declared : Declared) : Type 0 where
  pub name : is_name declared.table.name ≡ true
  pub columns : AllByRecursion (λ column. is_name (column_name column) ≡ true) declared.table.columns
  pub apart : AreApart (map column_name declared.table.columns)

pub record AreSound (tables : List Declared) : Type 0 where
  pub apart : AreApart (map table_name tables)
  pub each : AllByRecursion IsSoundTable tables

one_more_table : (tables : List Declared) (line : ℕ) (name : List ℕ) (key : Option (List ℕ)) → AreSound tables
    → is_name name ≡ true → table_fault tables line name ≡ None → AreSound (tables ++ new_table name key ∷ [])
one_more_table tables line name key sound named well =
    let new : is_declared tables name ≡ false =
    elim (is_declared tables name) as
    (λ b. (if b then Some (NameTwice line) else None) ≡ None → b
    ≡ false) [ true ↦ λ h. cc | false ↦ λ h. refl ] well in
    record {
      apart = subst AreApart (sym (map-push table_name tables (new_table name key)))
          (AreApart-push (map table_name tables) name sound.apart (none_named table_name tables name new));
      each = All-push IsSoundTable tables (new_table name key) sound.each
          (record { name = named; columns = tt; apart = tt });
    }

names-with_column : (tables : List Declared) (column : Column) → map table_name (with_column tables column)
    ≡ map table_name tables
names-with_column [] column = refl
names-with_column (d ∷ []) column = refl
names-with_column (d ∷ next ∷ more) column = ap (λ names. d.table.name ∷ names) (names-with_column (next ∷ more) column)

one_more_column : (tables : List Declared) (line : ℕ) (column : Column) → AllByRecursion IsSoundTable tables
    → is_name column.name ≡ true → column_fault tables line column
    ≡ None → AllByRecursion IsSoundTable (with_column tables column)
one_more_column [] line column each named well = tt
one_more_column (d ∷ []) line column each named well =
    let new : has_column d.table.columns column.name ≡ false =
    elim (has_column d.table.columns column.name) as
    (λ b. (if b then Some (NameTwice line) else None) ≡ None → b
    ≡ false) [ true ↦ λ h. cc | false ↦ λ h. refl ] well in (
      record {
        name = each.0.name;
        columns = All-push (λ c. is_name (column_name c) ≡ true) d.table.columns column each.0.columns named;
        apart = subst AreApart (sym (map-push column_name d.table.columns column))
            (AreApart-push (map column_name d.table.columns) column.name each.0.apart
            (none_named column_name d.table.columns column.name new));
      },
      tt,
    )
one_more_column (d ∷ next ∷ more) line column each named well =
    (each.0, one_more_column (next ∷ more) line column each.1 named well)

one_more_line : (tables : List Declared) (n : ℕ) (line : Line) → AreSound tables → IsSoundLine line
    → fault_at tables n line ≡ None → AreSound (with_line tables line)
one_more_line tables n Passed sound named well = sound
one_more_line tables n Unknown sound named well = cc
one_more_line tables n (Declares (Fact name)) sound named well = one_more_table tables n name None sound named well
one_more_line tables n (Declares (Dim name key)) sound named well =
    one_more_table tables n name (Some key) sound named well
one_more_line tables n (Declares (Col column)) sound named well = record {
  apart = subst AreApart (sym (names-with_column tables column)) sound.apart;
  each = one_more_column tables n column sound.each named well;
}

neither : {X : Type 0} (a b : Option X) → option_or a b ≡ None → (a ≡ None) × (b ≡ None)
neither None b none = (refl, none)
neither (Some x) b none = cc

more_lines : (before lines : List Line) → AllByRecursion IsSoundLine lines → AreSound (tables_of (statements before))
    → first_line_fault before lines ≡ None → AreSound (tables_of (statements (before ++ lines)))
more_lines before [] named sound none =
    let P : List Line → Type 0 = λ ls. AreSound (tables_of (statements ls)) in subst P (sym (append-nil before)) sound
more_lines before (line ∷ lines) named sound none =
    let parts = neither (line_fault before line) (first_line_fault (before ++ line ∷ []) lines) none in
    let P : List Line → Type 0 = λ ls. AreSound (tables_of (statements ls)) in
    let next : AreSound (tables_of (statements (before ++ line ∷ []))) =
    subst AreSound (sym (tables_of-line before line))
    (one_more_line _ (length before + 1) line sound named.0 parts.0) in
    subst P (append_assoc before (line ∷ []) lines) (more_lines (before ++ line ∷ []) lines named.1 next parts.1)

-- lines with no fault
pub tables_of-sound : (lines : List Line) → AllByRecursion IsSoundLine lines → first_line_fault [] lines
    ≡ None → AreSound (tables_of (statements lines))
tables_of-sound lines named none = more_lines [] lines named (record { apart = tt; each = tt }) none
