-- Proofs of the goals of `GroupView::rows` (`group_view`).
use Rattle.std.proofs.Common.{◌<◌, length, sym, arith}
use Rattle.std.proofs.lemmas.Bool.{eqb-false}
use Rattle.fragment_file.proofs.Locations.{rows_first}
use Rattle.fragment_file.proofs.group_view.GroupView.rows.Goals as goal

pub returns-else-is_empty-clause-value : goal.returns-else-is_empty-clause-value
returns-else-is_empty-clause-value c =
    let bytes = c.args.self.now.bytes.now in
    let locations = c.args.self.now.locations.now in
    let some = eqb-false (length locations) 0 (sym c.if-is_empty.ensures) in
    let lt : 0 < length locations = omega (arith, some) in
    rows_first bytes locations _ lt
