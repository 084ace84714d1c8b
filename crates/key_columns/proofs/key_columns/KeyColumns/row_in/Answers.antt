-- Proofs of the goals of `row_in` (`key_columns`).
use Rattle.std.proofs.Common.{rules, ◌≡◌, ◌≤◌, ◌<◌, ◌+◌, ◌∙◌, ◌++◌, ◌∷◌, List, sym, ap, subst, length, take, get_or, [], ℕ, arith}
use Rattle.std.proofs.lemmas.List.{take_all, take_more}
use Rattle.meaning.specs.declared.value.Value.{Value}
use Rattle.meaning.specs.declared.value.Value.TheVariants.{Null}
use Rattle.key_columns.proofs.KeyRows.{wide}
use Rattle.key_columns.proofs.key_columns.KeyColumns.row_in.Goals as goal

pub loop-at-preserved : goal.loop-at-preserved
loop-at-preserved c =
    let inside = c.self.inside in
    let row = get_or c.args.self.now c.args.group_index [] in
    let at = c.loop-at.at in
    let values = c.refill_at.new.values.items in
    let long : length row ≡ length inside.columns.items = wide inside.many inside.columns.items c.args.self.now c.self.view_is c.args.group_index at c.requires in
    let in_columns : at < length inside.columns.items = search rules in
    let here : at < length row = subst (λ (n : ℕ). at < n) (sym long) in_columns in
    let reached : at < length values = search rules in
    let before : take at values ≡ take at row = search rules in
    let is : get_or values at Null ≡ get_or row at Null = search rules in
    record {
      reached = omega (arith, reached);
      are = take_more values at Null reached ∙ (λ i. before i ++ is i ∷ []) ∙ sym (take_more row at Null here);
    }

pub returns : goal.returns
returns c =
    let inside = c.self.inside in
    let row = get_or c.args.self.now c.args.group_index [] in
    let at = c.loop-at.at in
    let long : length row ≡ length inside.columns.items = wide inside.many inside.columns.items c.args.self.now c.self.view_is c.args.group_index 0 c.requires in
    let all : length inside.columns.items ≤ at = search rules in
    let many : at ≡ c.len.result = search rules in
    c.from_vec.ensures ∙ c.truncate.ensures.items ∙ ap (λ (n : ℕ). take n c.loop-at.values.items) (sym many) ∙ c.loop-at.invariant.are ∙ take_all at row (subst (λ (n : ℕ). n ≤ at) (sym long) all)
