-- Proofs of the goals of `Totals::anew` (`totals`).
use Rattle.std.proofs.Common.{◌∙◌}
use Rattle.gathering.specs.Totals.{all_behind}
use Rattle.gathering.proofs.LiveTotals.{made}
use Rattle.gathering.proofs.totals.Totals.anew.Goals as goal

pub returns-clause-totals : goal.returns-clause-totals
returns-clause-totals c = made c.args.plan.now (all_behind c.args.cells.now c.args.deltas.now) _ (c.of.ensures ∙ c.in_ok-table.ensures) c.least_behind.ensures
