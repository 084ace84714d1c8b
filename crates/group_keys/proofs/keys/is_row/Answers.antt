-- Proofs of the goals of `is_row` (`keys`).
use Rattle.std.proofs.Common.{◌≡◌, true, subst, sym, ◌∙◌}
use Rattle.std.specs.Ordering.{eq_by_cmp}
use Rattle.meaning.specs.Order.{Row, row_cmp}
use Rattle.group_keys.proofs.KeyRows.{one_row, row_itself}
use Rattle.group_keys.proofs.keys.is_row.Goals as goal

pub returns-clause-same : goal.returns-clause-same
returns-clause-same c = λ e. one_row c.args.one.now c.args.other.now (sym c.are_equal.ensures ∙ e)

pub returns-clause-apart : goal.returns-clause-apart
returns-clause-apart c = λ same. c.are_equal.ensures ∙ subst (λ (row : Row). eq_by_cmp row_cmp c.args.one.now row ≡ true) same (row_itself c.args.one.now)
