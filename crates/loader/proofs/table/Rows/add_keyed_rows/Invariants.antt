-- Loop invariants of `Rows::add_keyed_rows` (`table`).
use Rattle.std.proofs.Common.{◌≡◌, ◌+◌, List, ◌++◌, map, length, Ok, Some}
use Rattle.std.specs.List.{enumerate_from}
use Rattle.meaning.specs.Order.{Row, column}
use Rattle.meaning.specs.Records.{Record, judged_record}
use Rattle.meaning.specs.Results.{all_ok}
use Rattle.loader.specs.Keys.{HoldsKeys}
use Rattle.loader.specs.Columns.{AreDeclared, row_counts}
use Rattle.loader.specs.Source.{IsLeft}
use Rattle.loader.specs.Steps.{rows_of, with_rows}
use Rattle.loader.proofs.table.Rows.add_keyed_rows.Given as goal

abbrev pub invariant-loop-row : goal.invariant-loop-row
invariant-loop-row g l = (l.self.declared.now ≡ l.fn.self.declared.now) × (l.self.order ≡ l.fn.self.order) × AreDeclared l.fn.self.declared.now l.columns
    × (row_counts l.columns ≡ map (λ n. n + l.row) (row_counts l.fn.columns))
    × ((rest : List Record) → IsLeft g.R.Read.remaining l.fn.self.reader rest
    → (before : List Record) × (later : List Record) × (rows : List Row) × (rest ≡ before ++ later) × (length before ≡ l.row)
    × (rows_of l.fn.self.declared.now l.fn.self.order.columns.items 0 before ≡ Ok rows)
    × (all_ok (map (judged_record l.fn.self.declared.now (Some l.key) l.most l.fn.self.order.columns.items rest) (enumerate_from 0 before)) ≡ Ok rows)
    × (l.columns ≡ with_rows l.fn.columns rows) × HoldsKeys l.keys.present (map (λ r. column r l.key) rows) × IsLeft g.R.Read.remaining l.self.reader later)
