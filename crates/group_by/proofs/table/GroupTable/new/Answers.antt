-- Proofs of the goals of `new` (`table`).
use Rattle.std.proofs.Common.{◌≡◌, rules, length, map, replicate, ◌∙◌}
use Rattle.group_by.specs.Groups.{fresh}
use Rattle.group_by.specs.GroupIndexes.{AreFresh}
use Rattle.group_by.proofs.Fresh.{fresh_table}
use Rattle.group_by.proofs.table.GroupTable.new.Goals as goal

pub returns-in-Ok : goal.returns-in-Ok
returns-in-Ok c =
    let plan = c.args.plan.now in
    let keys = c.in_ok-index.index.keys in
    let kinds = map (λ a. a.kind) plan.aggs in
    let none : c.in-Ok.rows.items ≡ replicate (length keys) 0 = search rules in
    let are : AreFresh (length keys) kinds c.in-Ok.columns.items = search rules in
    fresh_table c.has_certain_key-is_certain.result keys c.in-Ok.rows.items c.in-Ok.columns.items kinds c.in_ok-index.ensures none are
    ∙ (λ i. fresh (record { certain = c.has_certain_key-is_certain.ensures i; kinds = kinds }))
