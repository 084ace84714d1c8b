-- Loop invariants of `lend_files` (`lending`).
use Rattle.std.proofs.Common.{◌≡◌, map, take}
use Rattle.job_files.proofs.lending.lend_files.Given as goal

abbrev pub invariant-loop-file : goal.invariant-loop-file
invariant-loop-file l = map (λ file. file.now) l.lent.items ≡ take l.file-index l.files
