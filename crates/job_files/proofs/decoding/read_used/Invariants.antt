-- Loop invariants of `read_used` (`decoding`).
use Rattle.std.proofs.Common.{take}
use Rattle.std.specs.List.{AllZip}
use Rattle.job_files.specs.Dimensions.{IsColumnIn}
use Rattle.job_files.proofs.decoding.read_used.Given as goal

abbrev pub invariant-loop-used : goal.invariant-loop-used
invariant-loop-used l = AllZip (IsColumnIn l.file) (take l.used-index l.used) l.columns.items
