-- What one more line adds.
use Rattle.std.proofs.Common.{◌≡◌, ℕ, suc, ◌+◌, ◌<◌, ◌≤◌, Option, Some, None, List, [], ◌∷◌, ◌++◌, length, take, drop, get_or, append_assoc, drop-cons, refl, ap, sym, ◌∙◌, arith}
use Rattle.std.proofs.lemmas.List.{append-nil, take_more, take-append-drop, length-take-le}
use Rattle.std.specs.Option.{option_or}
use Rattle.meaning.specs.declared.catalog.Column.{Column}
use Rattle.meaning.specs.declared.catalog.CatalogFault.{CatalogFault}
use Rattle.catalog_reader.specs.declared.catalog_line.Statement.{Statement}
use Rattle.catalog_reader.specs.declared.catalog_line.Statement.TheVariants.{Fact, Dim, Col}
use Rattle.catalog_reader.specs.declared.catalog_line.Line.{Line}
use Rattle.catalog_reader.specs.declared.catalog_line.Line.TheVariants.{Passed, Unknown, Declares}
use Rattle.catalog_reader.specs.declared.catalog_tables.Declared.{Declared}
use Rattle.catalog_reader.specs.CatalogTables.{leading_columns, tables_of, statements, fault_at, line_fault, first_line_fault, new_table, with_column, with_statement, with_line}

-- a table ends the columns before it
leading_columns-fact : (before : List Statement) (name : List ℕ) → leading_columns (before ++ Fact name ∷ [])
    ≡ leading_columns before
leading_columns-fact [] name = refl
leading_columns-fact (Fact n ∷ more) name = refl
leading_columns-fact (Dim n k ∷ more) name = refl
leading_columns-fact (Col c ∷ more) name = ap (λ cs. c ∷ cs) (leading_columns-fact more name)

leading_columns-dim : (before : List Statement) (name key : List ℕ) → leading_columns (before ++ Dim name key ∷ [])
    ≡ leading_columns before
leading_columns-dim [] name key = refl
leading_columns-dim (Fact n ∷ more) name key = refl
leading_columns-dim (Dim n k ∷ more) name key = refl
leading_columns-dim (Col c ∷ more) name key = ap (λ cs. c ∷ cs) (leading_columns-dim more name key)

-- a column is one of the leading ones where no table is before it
leading_columns-col : (before : List Statement) (column : Column) → tables_of before
    ≡ [] → leading_columns (before ++ Col column ∷ []) ≡ leading_columns before ++ column ∷ []
leading_columns-col [] column none = refl
leading_columns-col (Fact n ∷ more) column none = cc
leading_columns-col (Dim n k ∷ more) column none = cc
leading_columns-col (Col c ∷ more) column none = ap (λ cs. c ∷ cs) (leading_columns-col more column none)

leading_columns-later : (before : List Statement) (column : Column) (t : Declared) (ts : List Declared)
    → tables_of before ≡ t ∷ ts → leading_columns (before ++ Col column ∷ []) ≡ leading_columns before
leading_columns-later [] column t ts some = cc
leading_columns-later (Fact n ∷ more) column t ts some = refl
leading_columns-later (Dim n k ∷ more) column t ts some = refl
leading_columns-later (Col c ∷ more) column t ts some = ap (λ cs. c ∷ cs) (leading_columns-later more column t ts some)

tables_of-fact : (before : List Statement) (name : List ℕ) → tables_of (before ++ Fact name ∷ [])
    ≡ tables_of before ++ new_table name None ∷ []
tables_of-fact [] name = refl
tables_of-fact (Fact n ∷ more) name = rw (leading_columns-fact more name, tables_of-fact more name) refl
tables_of-fact (Dim n k ∷ more) name = rw (leading_columns-fact more name, tables_of-fact more name) refl
tables_of-fact (Col c ∷ more) name = tables_of-fact more name

tables_of-dim : (before : List Statement) (name key : List ℕ) → tables_of (before ++ Dim name key ∷ [])
    ≡ tables_of before ++ new_table name (Some key) ∷ []
tables_of-dim [] name key = refl
tables_of-dim (Fact n ∷ more) name key = rw (leading_columns-dim more name key, tables_of-dim more name key) refl
tables_of-dim (Dim n k ∷ more) name key = rw (leading_columns-dim more name key, tables_of-dim more name key) refl
tables_of-dim (Col c ∷ more) name key = tables_of-dim more name key

-- a table and those behind it, with one more column
first_with_column : (before : List Statement) (column : Column) (name : List ℕ) (key : Option (List ℕ))
    (ts : List Declared) → tables_of before ≡ ts → tables_of (before ++ Col column ∷ []) ≡ with_column ts column
    → record { table = record { name = name; columns = leading_columns (before ++ Col column ∷ []) }; key = key }
    ∷ tables_of (before ++ Col column ∷ [])
    ≡ with_column (record { table = record { name = name; columns = leading_columns before }; key = key } ∷ ts) column
first_with_column before column name key [] is rest = rw (leading_columns-col before column is, rest) refl
first_with_column before column name key (t ∷ ts) is rest = rw (leading_columns-later before column t ts is, rest) refl

tables_of-col : (before : List Statement) (column : Column) → tables_of (before ++ Col column ∷ [])
    ≡ with_column (tables_of before) column
tables_of-col [] column = refl
tables_of-col (Fact n ∷ more) column =
    first_with_column more column n None (tables_of more) refl (tables_of-col more column)
tables_of-col (Dim n k ∷ more) column =
    first_with_column more column n (Some k) (tables_of more) refl (tables_of-col more column)
tables_of-col (Col c ∷ more) column = tables_of-col more column

tables_of-push : (before : List Statement) (s : Statement) → tables_of (before ++ s ∷ [])
    ≡ with_statement (tables_of before) s
tables_of-push before (Fact name) = tables_of-fact before name
tables_of-push before (Dim name key) = tables_of-dim before name key
tables_of-push before (Col column) = tables_of-col before column

statements-append : (xs ys : List Line) → statements (xs ++ ys) ≡ statements xs ++ statements ys
statements-append [] ys = refl
statements-append (Passed ∷ xs) ys = statements-append xs ys
statements-append (Unknown ∷ xs) ys = statements-append xs ys
statements-append (Declares s ∷ xs) ys = ap (λ ss. s ∷ ss) (statements-append xs ys)

-- one more line
pub tables_of-line : (before : List Line) (line : Line) → tables_of (statements (before ++ line ∷ []))
    ≡ with_line (tables_of (statements before)) line
tables_of-line before Passed = ap tables_of (statements-append before (Passed ∷ []) ∙ append-nil (statements before))
tables_of-line before Unknown = ap tables_of (statements-append before (Unknown ∷ []) ∙ append-nil (statements before))
tables_of-line before (Declares s) = ap tables_of (statements-append before (Declares s ∷ []))
    ∙ tables_of-push (statements before) s

option_or-assoc : {X : Type 0} (a b c : Option X) → option_or a (option_or b c) ≡ option_or (option_or a b) c
option_or-assoc None b c = refl
option_or-assoc (Some x) b c = refl

option_or-None : {X : Type 0} (a : Option X) → option_or a None ≡ a
option_or-None None = refl
option_or-None (Some x) = refl

-- the faults of lines and of those behind them
pub first_line_fault-append : (before xs ys : List Line) → first_line_fault before (xs ++ ys)
    ≡ option_or (first_line_fault before xs) (first_line_fault (before ++ xs) ys)
first_line_fault-append before [] ys = ap (λ lines. first_line_fault lines ys) (sym (append-nil before))
first_line_fault-append before (x ∷ xs) ys =
    ap (option_or (line_fault before x)) (first_line_fault-append (before ++ x ∷ []) xs ys
    ∙ ap (λ lines. option_or (first_line_fault (before ++ x ∷ []) xs) (first_line_fault lines ys))
    (append_assoc before (x ∷ []) xs))
    ∙ option_or-assoc (line_fault before x) (first_line_fault (before ++ x ∷ []) xs)
    (first_line_fault (before ++ x ∷ xs) ys)

-- behind lines with no fault, the next line's fault comes first
pub first_line_fault-next : (before : List Line) (line : Line) (after : List Line) → first_line_fault [] before
    ≡ None → first_line_fault [] (before ++ line ∷ after)
    ≡ option_or (line_fault before line) (first_line_fault (before ++ line ∷ []) after)
first_line_fault-next before line after none =
    first_line_fault-append [] before (line ∷ after)
    ∙ ap (λ f. option_or f (first_line_fault before (line ∷ after))) none

-- a line, by its number
line_fault-at : (lines : List Line) (i : ℕ) (line : Line) → i < length lines → line_fault (take i lines) line
    ≡ fault_at (tables_of (statements (take i lines))) (i + 1) line
line_fault-at lines i line within =
    let short : i ≤ length lines = omega arith in
    ap (λ n. fault_at (tables_of (statements (take i lines))) (n + 1) line) (length-take-le i lines short)

-- one more line with no fault
pub first_line_fault-more : (lines : List Line) (i : ℕ) (line : Line) → i < length lines → get_or lines i line
    ≡ line → first_line_fault [] (take i lines) ≡ None → fault_at (tables_of (statements (take i lines))) (i + 1) line
    ≡ None → first_line_fault [] (take (i + 1) lines) ≡ None
first_line_fault-more lines i line within is none well =
    ap (first_line_fault []) (take_more lines i line within ∙ ap (λ y. take i lines ++ y ∷ []) is)
    ∙ first_line_fault-next (take i lines) line [] none
    ∙ ap (λ f. option_or f None) (line_fault-at lines i line within ∙ well)

-- the tables of one more line
pub tables_of-more : (lines : List Line) (i : ℕ) (line : Line) → i < length lines → get_or lines i line
    ≡ line → tables_of (statements (take (i + 1) lines)) ≡ with_line (tables_of (statements (take i lines))) line
tables_of-more lines i line within is =
    ap (λ ls. tables_of (statements ls)) (take_more lines i line within ∙ ap (λ y. take i lines ++ y ∷ []) is)
    ∙ tables_of-line (take i lines) line

-- the first line with a fault
pub first_line_fault-stop : (lines : List Line) (i : ℕ) (line : Line) (fault : CatalogFault) → i < length lines
    → get_or lines i line ≡ line → first_line_fault [] (take i lines)
    ≡ None → fault_at (tables_of (statements (take i lines))) (i + 1) line ≡ Some fault → first_line_fault [] lines
    ≡ Some fault
first_line_fault-stop lines i line fault within is none found =
    ap (first_line_fault []) (sym (take-append-drop i lines)
    ∙ ap (λ rest. take i lines ++ rest) (drop-cons lines i line within ∙ ap (λ y. y ∷ drop (suc i) lines) is))
    ∙ first_line_fault-next (take i lines) line (drop (suc i) lines) none
    ∙ ap (λ f. option_or f (first_line_fault (take i lines ++ line ∷ []) (drop (suc i) lines)))
    (line_fault-at lines i line within ∙ found)
