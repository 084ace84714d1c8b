-- Loop invariants of `names_in` (`reading`).
use Rattle.std.proofs.Common.{◌≡◌, [], length, drop}
use Rattle.csv.specs.Records.{fields_of}
use Rattle.init.specs.Shown.{names_from}
use Rattle.init.proofs.reading.names_in.Given as goal

abbrev pub invariant-loop-index : goal.invariant-loop-index
invariant-loop-index l = (length l.names.items ≡ l.index) × (names_from [] (fields_of l.fn.header) ≡ names_from l.names.items (drop l.index (fields_of l.fn.header)))
