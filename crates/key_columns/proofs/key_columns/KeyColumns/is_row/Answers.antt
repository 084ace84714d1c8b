-- Proofs of the goals of `is_row` (`key_columns`).
use Rattle.std.proofs.Common.{rules, ◌≡◌, ◌≤◌, ◌∙◌, ap, sym, length, get_or, []}
use Rattle.meaning.specs.Order.{Row}
use Rattle.key_columns.proofs.ColumnOrder.{same_columns}
use Rattle.key_columns.proofs.KeyRows.{wide}
use Rattle.key_columns.proofs.key_columns.KeyColumns.is_row.Goals as goal

pub returns-then-key-len-clause-apart : goal.returns-then-key-len-clause-apart
returns-then-key-len-clause-apart c =
    let inside = c.self.inside in
    let long = wide inside.many inside.columns.items c.args.self.now c.self.view_is c.args.group_index 0 c.requires in
    let apart : (length c.args.key.now ≡ length inside.columns.items) → ⊥ = search rules in
    λ same. absurd (apart (sym (ap (λ (row : Row). length row) same) ∙ long))

pub returns-clause-same : goal.returns-clause-same
returns-clause-same c =
    let inside = c.self.inside in
    let row = get_or c.args.self.now c.args.group_index [] in
    let long = wide inside.many inside.columns.items c.args.self.now c.self.view_is c.args.group_index 0 c.requires in
    let width : length c.args.key.now ≡ length inside.columns.items = search rules in
    let past : length c.args.key.now ≤ c.loop-at.at = search rules in
    λ is. same_columns row c.args.key.now c.loop-at.at (long ∙ sym width) past c.loop-at.invariant
