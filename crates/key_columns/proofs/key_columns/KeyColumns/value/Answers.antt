-- Proofs of the goals of `value` (`key_columns`).
use Rattle.std.proofs.Common.{rules, ◌≤◌, ◌<◌, ◌∙◌, ap, sym, subst, length, get_or}
use Rattle.meaning.specs.declared.value.Value.TheVariants.{Null}
use Rattle.columns.specs.Column.{ColumnSpec}
use Rattle.key_columns.proofs.KeyRows.{below, column_full, in_key, past}
use Rattle.key_columns.proofs.key_columns.KeyColumns.value.Goals as goal

pub returns-then-at-len-clause-value : goal.returns-then-at-len-clause-value
returns-then-at-len-clause-value c =
    let l : length c.self.inside.columns.items ≤ c.args.at = search rules in
    past c.self.inside.many c.self.inside.columns.items c.args.self.now c.self.view_is c.args.group_index c.args.at c.requires l

pub cell-requires : goal.cell-requires
cell-requires c =
    let inside = c.self.inside in
    let l : c.args.at < length inside.columns.items = search rules in
    let here = below inside.many inside.columns.items c.args.self.now c.self.view_is c.args.group_index c.args.at c.requires in
    let full = column_full inside.many inside.columns.items c.args.group_index c.args.at c.index.result.now c.self.invariant here l in
    subst (λ (column : ColumnSpec). c.args.group_index < length column.values) (sym c.index.ensures) full

pub returns-clause-value : goal.returns-clause-value
returns-clause-value c =
    let inside = c.self.inside in
    let l : c.args.at < length inside.columns.items = search rules in
    c.cell.ensures.value
    ∙ ap (λ (column : ColumnSpec). get_or column.values c.args.group_index Null) c.index.ensures
    ∙ in_key inside.many inside.columns.items c.args.self.now c.self.view_is c.args.group_index c.args.at c.requires c.index.result.now l
