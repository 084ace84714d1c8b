-- The refusal of a command by which a query over the files of a folder was not answered.
use Rattle.std.specs.Prelude.{ℕ, List, ⊤}
use Rattle.coordinator.specs.declared.fault.WholeFault.{WholeFault}
use Rattle.coordinator.specs.declared.fault.WholeFault.TheVariants as whole_fault
use Rattle.job_files.specs.declared.fault.WorkFault.TheVariants as work_fault
use Rattle.folders.specs.Folder.{csv_path}
use Rattle.folders.specs.declared.refusal.Refusal.{Refusal}
use Rattle.folders.specs.declared.refusal.Refusal.TheVariants as refusal

abbrev pub refusal_of : List ℕ → WholeFault → Refusal
refusal_of folder whole_fault.Memory = refusal.Memory
refusal_of folder (whole_fault.Catalog e) = refusal.Catalog e
refusal_of folder (whole_fault.Sql e) = refusal.Sql e
refusal_of folder (whole_fault.Plan e) = refusal.Plan e
refusal_of folder (whole_fault.MissingCsv table) = refusal.CannotRead (csv_path folder table)
refusal_of folder (whole_fault.Load e) = refusal.Load e
refusal_of folder whole_fault.VectorLength = refusal.Work work_fault.VectorLength
refusal_of folder whole_fault.Writer = refusal.CannotPrint

-- no path is copied for it
abbrev pub IsPathless : WholeFault → Type 0
IsPathless (whole_fault.MissingCsv table) = ⊥
IsPathless _ = ⊤
