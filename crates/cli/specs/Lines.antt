-- The line that says why a command was refused.
use Rattle.std.specs.Prelude.{ℕ, List, [], ◌∷◌, ◌++◌, codes, decimal}
use Rattle.meaning.specs.Catalog.{number_of}
use Rattle.meaning.specs.declared.catalog.CatalogFault.{CatalogFault}
use Rattle.meaning.specs.declared.catalog.CatalogFault.TheVariants as catalog_fault
use Rattle.meaning.specs.Cut as cut
use Rattle.meaning.specs.Records as records
use Rattle.meaning.specs.declared.table.TableFault.{TableFault}
use Rattle.meaning.specs.declared.table.TableFault.TheVariants as table_fault
use Rattle.sql_reader.specs.Faults as sql
use Rattle.sql_reader.specs.declared.fault.SqlFault.{SqlFault}
use Rattle.sql_reader.specs.declared.fault.SqlFault.TheVariants as sql_fault
use Rattle.planner_expressions.specs.Numbers as planning
use Rattle.planner_expressions.specs.declared.fault.PlanFault.{PlanFault}
use Rattle.fragment_file.specs.Fault as file
use Rattle.fragment_file.specs.declared.fault.FileFault.{FileFault}
use Rattle.fragment_file.specs.declared.fault.FileFault.TheVariants as file_fault
use Rattle.job_files.specs.Fault as work
use Rattle.job_files.specs.declared.fault.WorkFault.{WorkFault}
use Rattle.job_files.specs.declared.fault.WorkFault.TheVariants as work_fault
use Rattle.folders.specs.JournalRefusal as journal
use Rattle.folders.specs.declared.journal_refusal.JournalRefusal.{JournalRefusal}
use Rattle.folders.specs.Lines.{numbered_line}
use Rattle.folders.specs.declared.refusal.Refusal.{Refusal}
use Rattle.folders.specs.declared.refusal.Refusal.TheVariants as refusal

-- ---- the details of a layer's refusal, in the order that its type carries them

abbrev pub catalog_details : CatalogFault → List (List ℕ)
catalog_details (catalog_fault.UnknownLine line) = decimal line ∷ []
catalog_details (catalog_fault.NameTwice line) = decimal line ∷ []
catalog_details _ = []

abbrev pub sql_details : SqlFault → List (List ℕ)
sql_details (sql_fault.UnknownCharacter offset) = decimal offset ∷ []
sql_details (sql_fault.TextNotClosed offset) = decimal offset ∷ []
sql_details (sql_fault.IntegerOutOfRange offset) = decimal offset ∷ []
sql_details (sql_fault.UnexpectedToken offset) = decimal offset ∷ []
sql_details (sql_fault.LeftOut offset word) = decimal offset ∷ word ∷ []
sql_details _ = []

abbrev pub table_details : TableFault → List (List ℕ)
table_details (table_fault.FieldCount row) = decimal row ∷ []
table_details (table_fault.NotAnInteger row column) = decimal row ∷ decimal column ∷ []
table_details (table_fault.NullNotAllowed row column) = decimal row ∷ decimal column ∷ []
table_details (table_fault.TextTooLong row column) = decimal row ∷ decimal column ∷ []
table_details (table_fault.NotUtf8 row column) = decimal row ∷ decimal column ∷ []
table_details (table_fault.KeyTwice row) = decimal row ∷ []
table_details _ = []

abbrev pub file_details : FileFault → List (List ℕ)
file_details (file_fault.Block group column) = decimal group ∷ decimal column ∷ []
file_details _ = []

-- a file's error code and details stand behind
abbrev pub work_details : WorkFault → List (List ℕ)
work_details (work_fault.File e) = decimal (file.number_of e) ∷ file_details e
work_details _ = []

-- ---- the line

abbrev pub catalog_line : CatalogFault → List ℕ
catalog_line e = numbered_line (codes "catalog") (number_of e) (catalog_details e)

abbrev pub sql_line : SqlFault → List ℕ
sql_line e = numbered_line (codes "sql") (sql.number_of e) (sql_details e)

abbrev pub table_line : TableFault → List ℕ
table_line e = numbered_line (codes "load") (records.number_of e) (table_details e)

abbrev pub plan_line : PlanFault → List ℕ
plan_line e = numbered_line (codes "plan") (planning.number_of e) []

abbrev pub cut_file_line : FileFault → List ℕ
cut_file_line e = numbered_line (codes "file") (file.number_of e) (file_details e)

abbrev pub work_line : WorkFault → List ℕ
work_line e = numbered_line (codes "work") (work.number_of e) (work_details e)

abbrev pub journal_line : JournalRefusal → List ℕ
journal_line e = numbered_line (codes "journal") (journal.number_of e) []

-- words alone
abbrev pub plain_line : List ℕ → List ℕ
plain_line words = codes "xcols: " ++ words ++ 10 ∷ []

-- what can't be done, and the path of the file
abbrev pub file_line : List ℕ → List ℕ → List ℕ
file_line lacks path = codes "xcols: " ++ (lacks ++ 32 ∷ path) ++ 10 ∷ []

abbrev pub line_of : Refusal → List ℕ
line_of refusal.Memory = plain_line (codes "memory")
line_of (refusal.CannotRead path) = file_line (codes "cannot read") path
line_of (refusal.CannotWrite path) = file_line (codes "cannot write") path
line_of refusal.CannotPrint = plain_line (codes "cannot write standard output")
line_of refusal.CannotReport = plain_line (codes "cannot write standard error")
line_of (refusal.Catalog e) = catalog_line e
line_of (refusal.Cut e) = numbered_line (codes "cut") (cut.number_of e) []
line_of (refusal.File e) = cut_file_line e
line_of (refusal.Sql e) = sql_line e
line_of (refusal.Plan e) = plan_line e
line_of (refusal.Load e) = table_line e
line_of (refusal.Work e) = work_line e
line_of (refusal.Journal e) = journal_line e
