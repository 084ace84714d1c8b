-- Proofs of the goals of `Totals::with_deltas` (`totals`).
use Rattle.std.proofs.Common.{sym, ◌∙◌}
use Rattle.std.proofs.lemmas.Result.{IfOk-weaker}
use Rattle.gathering.specs.Faults.{least_fault}
use Rattle.gathering.specs.Merging.{all_groups}
use Rattle.gathering.specs.Totals.{AreTotalsOf, AreTotalsWith, all_behind}
use Rattle.gathering.proofs.LiveTotals.{live_more, takes_more}
use Rattle.gathering.proofs.totals.Totals.with_deltas.Goals as goal

pub with_cells-requires : goal.with_cells-requires
with_cells-requires c =
    takes_more c.args.plan.now c.args.cells.now c.args.deltas.now c.requires.deltas.each (sym c.has_conflict.ensures ∙ c.if-has_conflict.false)
    c.args.self.now c.requires.totals c.requires.mergeable c.requires.handed

pub returns-else-has_conflict-clause-totals : goal.returns-else-has_conflict-clause-totals
returns-else-has_conflict-clause-totals c =
    let deltas = c.args.deltas.now in
    IfOk-weaker c.with_cells.result (AreTotalsWith c.args.self.now (all_groups deltas) (least_fault deltas)) (AreTotalsOf c.args.plan.now (all_behind c.args.cells.now deltas))
    (λ t more. live_more c.args.plan.now c.args.cells.now deltas c.requires.deltas.each (sym c.has_conflict.ensures ∙ c.if-has_conflict.false) c.args.self.now t c.requires.totals more)
    c.with_cells.ensures
