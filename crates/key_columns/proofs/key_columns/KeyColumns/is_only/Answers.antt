-- Proofs of the goals of `is_only` (`key_columns`).
use Rattle.std.proofs.Common.{rules, ◌≡◌, ◌∙◌, [], ap, sym, length, get_or}
use Rattle.meaning.specs.Order.{Row, value_in}
use Rattle.key_columns.proofs.ColumnOrder.{only_column}
use Rattle.key_columns.proofs.KeyRows.{wide}
use Rattle.key_columns.proofs.key_columns.KeyColumns.is_only.Goals as goal

pub returns-then-len-ne1-clause-apart : goal.returns-then-len-ne1-clause-apart
returns-then-len-ne1-clause-apart c =
    let inside = c.self.inside in
    let long = wide inside.many inside.columns.items c.args.self.now c.self.view_is c.args.group_index 0 c.requires in
    let apart : (length inside.columns.items ≡ 1) → ⊥ = search rules in
    λ same. absurd (apart (sym long ∙ ap (λ (row : Row). length row) same))

pub returns-clause-same : goal.returns-clause-same
returns-clause-same c =
    let inside = c.self.inside in
    let row = get_or c.args.self.now c.args.group_index [] in
    let long = wide inside.many inside.columns.items c.args.self.now c.self.view_is c.args.group_index 0 c.requires in
    let one : length inside.columns.items ≡ 1 = search rules in
    λ is. only_column row (value_in c.args.value) (long ∙ one) (sym c.value.ensures.value ∙ c.is_same.ensures.same is)
