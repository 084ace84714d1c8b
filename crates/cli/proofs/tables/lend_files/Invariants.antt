-- Loop invariants of `lend_files` (`tables`).
use Rattle.std.proofs.Common.{◌≡◌, take, map}
use Rattle.coordinator.specs.Whole.{files_in}
use Rattle.cli.specs.Running.{files_read}
use Rattle.cli.proofs.tables.lend_files.Given as goal

abbrev pub invariant-loop-file : goal.invariant-loop-file
invariant-loop-file l = files_in l.csvs.items ≡ map (λ file. (file.table, file.bytes.items)) (files_read l.tables.fact (take l.file-index l.tables.dims.items))
