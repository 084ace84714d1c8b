-- Proofs of the goals of `add` (`table`).
use Rattle.std.proofs.Common.{◌≡◌, ◌+◌, ◌≤◌, List, length, ap, sym, arith, ◌∙◌}
use Rattle.std.specs.List.{zip}
use Rattle.meaning.specs.Order.{Row}
use Rattle.aggregate_states.specs.State.{most_entries}
use Rattle.group_by.specs.Shape.{GroupsSpec}
use Rattle.group_by.specs.Groups.{with_rows}
use Rattle.group_keys.specs.Rows.{rows_at}
use Rattle.group_keys.proofs.KeyRows.{rows_long}
use Rattle.group_by.proofs.Adding.{added_well_formed, table_added, kept_zip}
use Rattle.group_by.proofs.table.GroupTable.add.Goals as goal

pub invariant_of-result : goal.invariant_of-result
invariant_of-result c =
    let t = c.self.inside in
    let list = c.args.selection.now.list in
    let many : length list ≡ c.len-many.result = sym c.len-many.ensures.value in
    let taken : t.taken ≡ c.args.self.rows = ap (λ (s : GroupsSpec). s.rows) c.self.view_is in
    let few : t.taken + c.len-many.result ≤ most_entries = let h = c.requires.few in omega (arith, h, many, taken) in
    added_well_formed t.is_certain t.index.keys t.rows.items t.columns.items t.taken c.len-many.result (rows_at c.args.keys.now list) (rows_at c.args.arguments.now list)
    c.add_rows.new.index.keys c.add_rows.new.rows.items c.add_rows.new.columns.items c.self.invariant c.in-Ok.ensures
    (rows_long c.args.keys.now list ∙ many) (rows_long c.args.arguments.now list ∙ many) few

pub returns-in-Ok : goal.returns-in-Ok
returns-in-Ok c =
    let t = c.self.inside in
    let list = c.args.selection.now.list in
    let many : length list ≡ c.len-many.result = sym c.len-many.ensures.value in
    table_added t.is_certain t.index.keys t.rows.items t.columns.items t.taken c.len-many.result (rows_at c.args.keys.now list) (rows_at c.args.arguments.now list)
    c.add_rows.new.index.keys c.add_rows.new.rows.items c.add_rows.new.columns.items c.self.invariant c.in-Ok.ensures
    (rows_long c.args.keys.now list ∙ many) (rows_long c.args.arguments.now list ∙ many) t.handed
    ∙ ap (λ (s : GroupsSpec). with_rows s (zip (rows_at c.args.keys.now list) (rows_at c.args.arguments.now list))) c.self.view_is
    ∙ ap (λ (kept : List (Row × Row)). with_rows c.args.self kept) (kept_zip c.args.keys.now c.args.arguments.now list)
