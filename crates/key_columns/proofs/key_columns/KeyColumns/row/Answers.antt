-- Proofs of the goals of `row` (`key_columns`).
use Rattle.std.proofs.Common.{rules, ◌≡◌, ◌≤◌, ◌<◌, ◌∙◌, sym, subst, length, get_or, [], ℕ}
use Rattle.std.proofs.lemmas.List.{take_all}
use Rattle.key_columns.proofs.KeyRows.{row_more, wide}
use Rattle.key_columns.proofs.key_columns.KeyColumns.row.Goals as goal

pub loop-at-preserved : goal.loop-at-preserved
loop-at-preserved c =
    let inside = c.self.inside in
    let row = get_or c.args.self.now c.args.group_index [] in
    let at = c.loop-at.at in
    let long : length row ≡ length inside.columns.items = wide inside.many inside.columns.items c.args.self.now c.self.view_is c.args.group_index at c.requires in
    let in_columns : at < length inside.columns.items = search rules in
    let here : at < length row = subst (λ (n : ℕ). at < n) (sym long) in_columns in
    row_more row c.loop-at.key.items c.push.new.self.items c.in_ok-owned.field-0 at here (c.in_ok-owned.ensures ∙ c.value.ensures.value) c.loop-at.invariant c.in_ok-push.ensures.items

pub returns : goal.returns
returns c =
    let inside = c.self.inside in
    let row = get_or c.args.self.now c.args.group_index [] in
    let long : length row ≡ length inside.columns.items = wide inside.many inside.columns.items c.args.self.now c.self.view_is c.args.group_index 0 c.requires in
    let all : length inside.columns.items ≤ c.loop-at.at = search rules in
    c.from_vec.ensures ∙ c.loop-at.invariant ∙ take_all c.loop-at.at row (subst (λ (n : ℕ). n ≤ c.loop-at.at) (sym long) all)
