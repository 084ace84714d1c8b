-- Loop invariants of `take_records` (`reading`).
use Rattle.std.proofs.Common.{◌≡◌, List, [], ◌++◌, length}
use Rattle.meaning.specs.Records.{Record}
use Rattle.loader.specs.Source.{IsLeft}
use Rattle.init.specs.Shown.{found_in}
use Rattle.init.proofs.reading.take_records.Given as goal

abbrev pub invariant-loop : goal.invariant-loop
invariant-loop g l = (length l.findings ≡ length l.fn.findings)
    × ((rows : List Record) → IsLeft g.R.Read.remaining l.fn.reader rows → l.fn.findings ≡ found_in (length l.fn.findings) []
    → (seen : List Record) × (rest : List Record) × (rows ≡ seen ++ rest) × IsLeft g.R.Read.remaining l.reader rest × (l.findings ≡ found_in (length l.fn.findings) seen))
