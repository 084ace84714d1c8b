-- A refusal's line is made of its number and details.
use Rattle.std.proofs.Common.{◌≡◌, ℕ, List, [], codes, refl, sym, ap, ◌∙◌}
use Rattle.fragment_file.specs.declared.fault.FileFault.{FileFault}
use Rattle.fragment_file.specs.declared.fault.FileFault.TheVariants as fault_is
use Rattle.meaning.specs.Records.{number_of}
use Rattle.meaning.specs.declared.table.TableFault.{TableFault}
use Rattle.job_files.specs.declared.fault.WorkFault.{WorkFault}
use Rattle.job_files.specs.declared.fault.WorkFault.TheVariants as work_fault
use Rattle.folders.specs.Lines.{numbered_line}
use Rattle.cli.specs.Lines.{file_details, table_details, table_line, work_details}

-- a line of a table's refusal is made of its number and details
pub table_line_from : (fault : TableFault) (n : ℕ) (details : List (List ℕ)) → n ≡ number_of fault → table_details fault ≡ details
    → numbered_line (codes "load") n details ≡ table_line fault
table_line_from fault n details number shown =
    ap (λ m. numbered_line (codes "load") m details) number ∙ ap (numbered_line (codes "load") (number_of fault)) (sym shown)

-- so is any line
pub line_from : (word : List ℕ) (n m : ℕ) (details shown : List (List ℕ)) → n ≡ m → details ≡ shown → numbered_line word n details ≡ numbered_line word m shown
line_from word n m details shown number same = λ i. numbered_line word (number i) (same i)

-- only a block has details
pub no_details : (fault : FileFault) → ((group column : ℕ) → fault ≡ fault_is.Block group column → ⊥) → [] ≡ file_details fault
no_details fault_is.Memory none = refl
no_details fault_is.Magic none = refl
no_details fault_is.Truncated none = refl
no_details fault_is.TrailingBytes none = refl
no_details fault_is.Seal none = refl
no_details (fault_is.Block group column) none = absurd (none group column refl)
no_details fault_is.Header none = refl
no_details fault_is.Limit none = refl
no_details fault_is.Device none = refl

-- only a file's fault has details
pub no_work_details : (fault : WorkFault) → ((file : FileFault) → fault ≡ work_fault.File file → ⊥) → [] ≡ work_details fault
no_work_details work_fault.Memory none = refl
no_work_details work_fault.OtherFile none = refl
no_work_details work_fault.OtherColumn none = refl
no_work_details (work_fault.File file) none = absurd (none file refl)
no_work_details work_fault.VectorLength none = refl
no_work_details work_fault.KeyTwice none = refl
