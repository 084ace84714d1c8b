-- Loop invariants of `Rows::next_rows` (`table`).
use Rattle.std.proofs.Common.{◌≡◌, ◌+◌, List, ◌++◌, length, map, Ok}
use Rattle.meaning.specs.Order.{Row}
use Rattle.meaning.specs.Records.{Record}
use Rattle.loader.specs.Columns.{AreDeclared, row_counts}
use Rattle.loader.specs.Source.{IsLeft}
use Rattle.loader.specs.Steps.{rows_of, with_rows}
use Rattle.loader.proofs.table.Rows.next_rows.Given as goal

abbrev pub invariant-loop-i : goal.invariant-loop-i
invariant-loop-i g l = (l.self.declared.now ≡ l.fn.self.declared.now) × (l.self.order ≡ l.fn.self.order) × AreDeclared l.fn.self.declared.now l.columns
    × (row_counts l.columns ≡ map (λ n. n + l.i) (row_counts l.fn.columns))
    × ((rest : List Record) → IsLeft g.R.Read.remaining l.fn.self.reader rest
    → (before : List Record) × (behind : List Record) × (rows : List Row) × (rest ≡ before ++ behind) × (length before ≡ l.i)
    × (rows_of l.fn.self.declared.now l.fn.self.order.columns.items l.first before ≡ Ok rows) × (l.columns ≡ with_rows l.fn.columns rows) × IsLeft g.R.Read.remaining l.self.reader behind)
