-- Loop invariants of `take_fields` (`reading`).
use Rattle.std.proofs.Common.{◌≡◌, List, length}
use Rattle.csv.specs.Records.{fields_of}
use Rattle.meaning.specs.Records.{Record}
use Rattle.init.specs.Shown.{found_in}
use Rattle.init.proofs.Showing.{IsTaken}
use Rattle.init.proofs.reading.take_fields.Given as goal

abbrev pub invariant-loop-index : goal.invariant-loop-index
invariant-loop-index l = (length l.findings ≡ length l.fn.findings)
    × ((rows : List Record) → l.fn.findings ≡ found_in (length l.fn.findings) rows → IsTaken (length l.fn.findings) l.index rows (fields_of l.row) l.findings)
