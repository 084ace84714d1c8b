-- Proofs of the goals of `add_state_to` (`cell`).
use Rattle.meaning.specs.Aggregate.{kept_by}
use Rattle.accumulators.proofs.CellStates.{merged_on_ok, stays_on_err}
use Rattle.accumulators.proofs.cell.add_state_to.Goals as goal

pub returns-clause-ok : goal.returns-clause-ok
returns-clause-ok g c =
    let a = c.args in
    merged_on_ok g.A.Accumulator.held g.A.Cell.states g.met.A.Cell.each a.cells.now a.group_index c.index-cells-group_index.result c.requires.group_index c.take_state.result c.take_state.new.self (kept_by g.A.Cell.keeps a.state.now) c.take_state.ensures.ok

pub returns-clause-err : goal.returns-clause-err
returns-clause-err g c =
    let a = c.args in
    stays_on_err g.A.Accumulator.held g.A.Cell.states g.met.A.Cell.each a.cells.now a.group_index c.index-cells-group_index.result c.requires.group_index c.take_state.result c.take_state.new.self c.take_state.ensures.err
