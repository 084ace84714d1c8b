-- Proofs of the goals of `comes_before` (`key_columns`).
use Rattle.std.proofs.Common.{rules, ◌≡◌, ◌<◌, ◌∙◌, ap, sym, subst, length, get_or, [], ℕ, true, false}
use Rattle.std.specs.Ordering.{is_eq, is_lt}
use Rattle.meaning.specs.Order.{column, value_cmp}
use Rattle.key_columns.proofs.ColumnOrder.{column_decides, column_ties}
use Rattle.key_columns.proofs.KeyRows.{wide}
use Rattle.key_columns.proofs.key_columns.KeyColumns.comes_before.Goals as goal

pub returns-then-not-is_eq : goal.returns-then-not-is_eq
returns-then-not-is_eq c =
    let inside = c.self.inside in
    let a = get_or c.args.self.now c.args.group_index [] in
    let b = c.args.row.now in
    let at = c.loop-at.at in
    let here : at < length b = search rules in
    let width : length b ≡ length inside.columns.items = search rules in
    let long = wide inside.many inside.columns.items c.args.self.now c.self.view_is c.args.group_index at c.requires in
    let is : c.order_in-order.result ≡ value_cmp (column a at) (column b at) = search rules in
    let apart : is_eq c.order_in-order.result ≡ false = search rules in
    λ before.
    let lt : is_lt c.order_in-order.result ≡ true = search rules in
    ap is_lt (sym (column_decides a b at (subst (λ (n : ℕ). at < n) (width ∙ sym long) here) here c.loop-at.invariant c.order_in-order.result is apart)) ∙ lt

pub loop-at-preserved : goal.loop-at-preserved
loop-at-preserved c =
    let inside = c.self.inside in
    let a = get_or c.args.self.now c.args.group_index [] in
    let b = c.args.row.now in
    let at = c.loop-at.at in
    let here : at < length b = search rules in
    let width : length b ≡ length inside.columns.items = search rules in
    let long = wide inside.many inside.columns.items c.args.self.now c.self.view_is c.args.group_index at c.requires in
    let is : c.order_in-order.result ≡ value_cmp (column a at) (column b at) = search rules in
    let same : is_eq c.order_in-order.result ≡ true = search rules in
    column_ties a b at (subst (λ (n : ℕ). at < n) (width ∙ sym long) here) here c.loop-at.invariant c.order_in-order.result is same
