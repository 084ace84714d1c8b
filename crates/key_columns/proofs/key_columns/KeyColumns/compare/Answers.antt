-- Proofs of the goals of `compare` (`key_columns`).
use Rattle.std.proofs.Common.{rules, ◌≡◌, ◌≤◌, ◌<◌, sym, subst, length, get_or, [], ℕ, true, false}
use Rattle.std.specs.Ordering.{is_eq}
use Rattle.meaning.specs.Order.{column, value_cmp}
use Rattle.key_columns.proofs.ColumnOrder.{column_decides, column_ties, no_column_left}
use Rattle.key_columns.proofs.KeyRows.{wide}
use Rattle.key_columns.proofs.key_columns.KeyColumns.compare.Goals as goal

pub returns-then-not-is_eq : goal.returns-then-not-is_eq
returns-then-not-is_eq c =
    let inside = c.self.inside in
    let a = get_or c.args.self.now c.args.one [] in
    let b = get_or c.args.self.now c.args.other [] in
    let at = c.loop-at.at in
    let here : at < length inside.columns.items = search rules in
    let long_a = wide inside.many inside.columns.items c.args.self.now c.self.view_is c.args.one at c.requires.one in
    let long_b = wide inside.many inside.columns.items c.args.self.now c.self.view_is c.args.other at c.requires.other in
    let is : c.order_of-order.result ≡ value_cmp (column a at) (column b at) = search rules in
    let apart : is_eq c.order_of-order.result ≡ false = search rules in
    column_decides a b at (subst (λ (n : ℕ). at < n) (sym long_a) here) (subst (λ (n : ℕ). at < n) (sym long_b) here) c.loop-at.invariant c.order_of-order.result is apart

pub loop-at-preserved : goal.loop-at-preserved
loop-at-preserved c =
    let inside = c.self.inside in
    let a = get_or c.args.self.now c.args.one [] in
    let b = get_or c.args.self.now c.args.other [] in
    let at = c.loop-at.at in
    let here : at < length inside.columns.items = search rules in
    let long_a = wide inside.many inside.columns.items c.args.self.now c.self.view_is c.args.one at c.requires.one in
    let long_b = wide inside.many inside.columns.items c.args.self.now c.self.view_is c.args.other at c.requires.other in
    let is : c.order_of-order.result ≡ value_cmp (column a at) (column b at) = search rules in
    let same : is_eq c.order_of-order.result ≡ true = search rules in
    column_ties a b at (subst (λ (n : ℕ). at < n) (sym long_a) here) (subst (λ (n : ℕ). at < n) (sym long_b) here) c.loop-at.invariant c.order_of-order.result is same

pub returns : goal.returns
returns c =
    let inside = c.self.inside in
    let a = get_or c.args.self.now c.args.one [] in
    let b = get_or c.args.self.now c.args.other [] in
    let at = c.loop-at.at in
    let past : length inside.columns.items ≤ at = search rules in
    let long_a = wide inside.many inside.columns.items c.args.self.now c.self.view_is c.args.one at c.requires.one in
    let long_b = wide inside.many inside.columns.items c.args.self.now c.self.view_is c.args.other at c.requires.other in
    no_column_left a b at (subst (λ (n : ℕ). n ≤ at) (sym long_a) past) (subst (λ (n : ℕ). n ≤ at) (sym long_b) past) c.loop-at.invariant
