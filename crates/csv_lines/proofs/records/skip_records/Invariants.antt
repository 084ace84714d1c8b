-- Loop invariants of `skip_records` (`records`).
use Rattle.std.proofs.Common.{List, drop, ◌≤◌}
use Rattle.meaning.specs.Records.{Record}
use Rattle.loader.specs.Source.{IsLeft}
use Rattle.csv_lines.proofs.records.skip_records.Given as goal

abbrev pub invariant-loop : goal.invariant-loop
invariant-loop g l = (l.counter ≤ l.count) × ((rest : List Record) → IsLeft g.R.Read.remaining l.fn.reader rest → IsLeft g.R.Read.remaining l.reader (drop l.counter rest))
