-- The tables' only faults: a file is missing, or a table can't be loaded.
use Rattle.std.specs.Prelude.{◌≡◌, ◌≢◌, ℕ, List, [], ◌∷◌, map, zip, find, Option, Some, None, Result, Ok, Err, IfErr, ⊤}
use Rattle.std.specs.Str.{bytes_eq}
use Rattle.std.proofs.Common.{subst}
use Rattle.meaning.specs.declared.catalog.Catalog.{Catalog}
use Rattle.meaning.specs.declared.catalog.Dimension.{Dimension}
use Rattle.meaning.specs.declared.plan.Plan.{Plan}
use Rattle.meaning.specs.declared.table.TableFault.{TableFault}
use Rattle.meaning.specs.Cut.{Cut}
use Rattle.meaning.specs.Order.{Row}
use Rattle.meaning.specs.Records.{Record, fact_of, dimension_of}
use Rattle.meaning.specs.Results.{all_ok, and_then, with_result}
use Rattle.loader.specs.Source.{csv_records}
use Rattle.coordinator.specs.declared.fault.WholeFault.{WholeFault}
use Rattle.coordinator.specs.declared.fault.WholeFault.TheVariants as fault
use Rattle.coordinator.specs.Whole.{Files, IsTablesRefused, csv_of, found_csv, joined_csvs, joined_table, rows_of_dimension, table_from, tables_of}

abbrev IsTableFault : WholeFault → Type 0
IsTableFault (fault.MissingCsv table) = ⊤
IsTableFault (fault.Load e) = ⊤
IsTableFault _ = ⊥

abbrev Faults : {X : Type 0} → Result X WholeFault → Type 0
Faults r = IfErr r IsTableFault

found : (name : List ℕ) (file : Option (List ℕ × List ℕ)) → Faults (found_csv name file)
found name None = tt
found name (Some file) = tt

loaded : (r : Result (List Row) TableFault) → Faults (table_from r)
loaded (Ok rows) = tt
loaded (Err e) = tt

dimension : (d : Option Dimension) (records : List Record) → Faults (rows_of_dimension d records)
dimension None records = tt
dimension (Some d) records = loaded (dimension_of d records)

then : {X Y : Type 0} (r : Result X WholeFault) (next : X → Result Y WholeFault) → Faults r → ((x : X) → Faults (next x)) → Faults (and_then r next)
then (Ok x) next first behind = behind x
then (Err e) next first behind = first

before : {X : Type 0} (r : Result X WholeFault) (others : Result (List X) WholeFault) → Faults r → Faults others → Faults (with_result r others)
before (Err e) others first behind = first
before (Ok x) (Err e) first behind = behind
before (Ok x) (Ok xs) first behind = tt

all : {A X : Type 0} (f : A → Result X WholeFault) → ((a : A) → Faults (f a)) → (items : List A) → Faults (all_ok (map f items))
all f each [] = tt
all f each (a ∷ items) = before (f a) (all_ok (map f items)) (each a) (all f each items)

faults : (catalog : Catalog) (files : Files) (cut : Cut) (plan : Plan) → Faults (tables_of catalog files cut plan)
faults catalog files cut plan =
    then (csv_of files plan.fact.name) _ (found plan.fact.name (find (λ file. bytes_eq file.0 plan.fact.name) files)) (λ fact_csv.
    then (joined_csvs files plan.joins) _ (all _ (λ j. found j.dim.name (find (λ file. bytes_eq file.0 j.dim.name) files)) plan.joins) (λ csvs.
    then (table_from (fact_of catalog cut (csv_records fact_csv))) _ (loaded (fact_of catalog cut (csv_records fact_csv))) (λ rows.
    then (all_ok (map (joined_table catalog) (zip plan.joins csvs))) _
    (all (joined_table catalog) (λ p. dimension (find (λ d. bytes_eq d.table.name p.0.dim.name) catalog.dims) (csv_records p.1)) (zip plan.joins csvs)) (λ dims. tt))))

-- a fault of the tables that isn't one of memory is one of these two
pub tables_refused : (catalog : Catalog) (files : Files) (cut : Cut) (plan : Plan) (vector_len : ℕ) (e : WholeFault)
    → (e ≢ fault.Memory → tables_of catalog files cut plan ≡ Err e) → IsTablesRefused catalog files cut plan vector_len e
tables_refused catalog files cut plan vector_len fault.Memory given = tt
tables_refused catalog files cut plan vector_len (fault.MissingCsv table) given = given (λ is. cc is)
tables_refused catalog files cut plan vector_len (fault.Load e) given = given (λ is. cc is)
tables_refused catalog files cut plan vector_len (fault.Catalog e) given = subst (λ r. Faults r) (given (λ is. cc is)) (faults catalog files cut plan)
tables_refused catalog files cut plan vector_len (fault.Sql e) given = subst (λ r. Faults r) (given (λ is. cc is)) (faults catalog files cut plan)
tables_refused catalog files cut plan vector_len (fault.Plan e) given = subst (λ r. Faults r) (given (λ is. cc is)) (faults catalog files cut plan)
tables_refused catalog files cut plan vector_len fault.VectorLength given = absurd (subst (λ r. Faults r) (given (λ is. cc is)) (faults catalog files cut plan))
tables_refused catalog files cut plan vector_len fault.Writer given = subst (λ r. Faults r) (given (λ is. cc is)) (faults catalog files cut plan)
