-- Loop invariants of `read_out` (`row_groups`).
use Rattle.std.proofs.Common.{◌≡◌}
use Rattle.group_reader.specs.Coming.{Coming}
use Rattle.scan_select.proofs.row_groups.read_out.Given as goal

abbrev pub invariant-loop : goal.invariant-loop
invariant-loop g l = (left : Coming) → g.G.RowGroups.is_coming l.groups left → (c : Coming) × g.G.RowGroups.is_coming l.fn.groups c × (c.end ≡ left.end)

abbrev pub decreases-loop : goal.decreases-loop
decreases-loop g l = g.G.RowGroups.rows_left l.groups
