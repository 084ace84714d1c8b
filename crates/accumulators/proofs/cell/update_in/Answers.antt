-- Proofs of the goals of `update_in` (`cell`).
use Rattle.std.proofs.Common.{◌≡◌, OnOk, get_or, subst}
use Rattle.meaning.specs.declared.plan.AggregateKind.{AggregateKind}
use Rattle.meaning.specs.Aggregate.{merge}
use Rattle.aggregate_states.specs.Entries.{state_of}
use Rattle.aggregate_states.specs.Values.{selected}
use Rattle.vectors.specs.Vector.{values_of}
use Rattle.accumulators.proofs.CellStates.{merged_on_ok, stays_on_err}
use Rattle.accumulators.proofs.cell.update_in.Goals as goal

pub returns-clause-ok : goal.returns-clause-ok
returns-clause-ok g c =
    let a = c.args in
    let held = g.A.Accumulator.held in
    let cell = get_or a.cells.now a.group_index c.index-cells-group_index.result in
    let said = subst (λ (k : AggregateKind). OnOk c.update_batch.result (held c.update_batch.new.self ≡ merge (held cell) (state_of k (selected (values_of a.lanes.now) a.selection.now.list))))
    (g.met.A.Cell.one_kind cell) c.update_batch.ensures.ok in
    merged_on_ok g.A.Accumulator.held g.A.Cell.states g.met.A.Cell.each a.cells.now a.group_index c.index-cells-group_index.result c.requires.group_index c.update_batch.result c.update_batch.new.self (state_of g.A.Cell.keeps (selected (values_of a.lanes.now) a.selection.now.list)) said

pub returns-clause-err : goal.returns-clause-err
returns-clause-err g c =
    let a = c.args in
    stays_on_err g.A.Accumulator.held g.A.Cell.states g.met.A.Cell.each a.cells.now a.group_index c.index-cells-group_index.result c.requires.group_index c.update_batch.result c.update_batch.new.self c.update_batch.ensures.err
