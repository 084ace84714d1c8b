-- Proofs of the goals of `update_filled` (`state_columns`).
use Rattle.std.specs.List.{zip}
use Rattle.std.proofs.Common.{◌≡◌, List, OnOk, length, subst, sym, ◌∙◌}
use Rattle.meaning.specs.declared.answer.Statistics.{Statistics}
use Rattle.accumulators.specs.Columns.{of_states}
use Rattle.aggregate_states.specs.Entries.{with_entries}
use Rattle.aggregate_states.specs.Values.{selected}
use Rattle.vectors.specs.Vector.{values_of}
use Rattle.accumulators.proofs.GroupLoops.{selected_long}
use Rattle.group_index.specs.declared.row_groups.RowGroups.{RowGroups}
use Rattle.group_index.specs.RowGroups.{listed}
use Rattle.group_by.proofs.OneGroup.{entries_once}
use Rattle.group_by.proofs.state_columns.update_filled.Goals as goal

pub returns-in-One : goal.returns-in-One
returns-in-One c =
    let column = c.args.column.now in
    let list = c.args.selection.now.list in
    let values = selected (values_of c.args.lanes.now) list in
    let long = subst (λ (group_indexes : RowGroups). length (listed group_indexes) ≡ length list) c.in-One.is c.requires.group_indexes ∙ sym (selected_long (values_of c.args.lanes.now) list) in
    subst (λ (ss : List Statistics). OnOk c.update_at.result (c.update_at.new.self ≡ of_states column ss))
    (entries_once column.kind c.in-One.group_index c.in-One.behind values column.states long
    ∙ (λ i. with_entries column.kind column.states (zip (listed (sym c.in-One.is i)) values)))
    c.update_at.ensures.ok
