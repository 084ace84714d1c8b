-- Proofs of the goals of `update_one` (`state_column`).
use Rattle.std.proofs.Common.{◌≡◌, List, OnOk, sym, subst, ◌∙◌}
use Rattle.meaning.specs.declared.answer.Statistics.{Statistics}
use Rattle.accumulators.specs.Columns.{kind_of_cells, states_in}
use Rattle.aggregate_states.specs.Values.{selected}
use Rattle.vectors.specs.Vector.{values_of}
use Rattle.accumulators.proofs.GroupLoops.{entries_at_one, selected_long}
use Rattle.accumulators.proofs.state_column.update_one.Goals as goal

pub returns-clause-ok : goal.returns-clause-ok
returns-clause-ok c =
    let a = c.args in
    let list = a.selection.now.list in
    let values = values_of a.lanes.now in
    subst (λ (ss : List Statistics). OnOk c.update_at.result (states_in c.update_at.new.self ≡ ss))
    (entries_at_one (kind_of_cells a.cells.now) a.group_indexes.now (selected values list) a.group_index (states_in a.cells.now) (c.requires.group_indexes ∙ sym (selected_long values list)) (λ j l. c.requires.same j 0 l))
    c.update_at.ensures.ok
