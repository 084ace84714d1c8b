-- Proofs of the goals of `totals_of` (`totals`).
use Rattle.std.proofs.lemmas.Result.{IfOk-weaker}
use Rattle.gathering.specs.Faults.{least_fault}
use Rattle.gathering.specs.Merging.{all_groups}
use Rattle.gathering.specs.Totals.{AreTotalsOf, AreTotalsWith}
use Rattle.gathering.proofs.LiveTotals.{fresh_totals}
use Rattle.gathering.proofs.totals.totals_of.Goals as goal

pub returns-clause-totals : goal.returns-clause-totals
returns-clause-totals c =
    let cells = c.args.cells.now in
    let first = c.in_ok-none.none in
    let (table, least, earlier) = c.in_ok-none.ensures in
    IfOk-weaker c.with_cells.result (AreTotalsWith first (all_groups cells) (least_fault cells)) (AreTotalsOf c.args.plan.now cells)
    (λ t more. fresh_totals c.args.plan.now cells first t table least more) c.with_cells.ensures
