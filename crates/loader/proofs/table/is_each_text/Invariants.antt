-- Loop invariants of `is_each_text` (`table`).
use Rattle.std.proofs.Common.{take}
use Rattle.csv.specs.Records.{AllText, fields_of}
use Rattle.loader.proofs.table.is_each_text.Given as goal

abbrev pub invariant-loop-i : goal.invariant-loop-i
invariant-loop-i l = AllText (take l.i (fields_of l.fields))
