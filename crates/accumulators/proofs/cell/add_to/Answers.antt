-- Proofs of the goals of `add_to` (`cell`).
use Rattle.std.proofs.Common.{◌∷◌, []}
use Rattle.meaning.specs.Order.{value_in}
use Rattle.aggregate_states.specs.Entries.{state_of}
use Rattle.accumulators.proofs.CellStates.{merged_on_ok, stays_on_err}
use Rattle.accumulators.proofs.cell.add_to.Goals as goal

pub returns-clause-ok : goal.returns-clause-ok
returns-clause-ok g c =
    let a = c.args in
    merged_on_ok g.A.Accumulator.held g.A.Cell.states g.met.A.Cell.each a.cells.now a.group_index c.index-cells-group_index.result c.requires.group_index c.take.result c.take.new.self (state_of g.A.Cell.keeps (value_in a.value ∷ [])) c.take.ensures.ok

pub returns-clause-err : goal.returns-clause-err
returns-clause-err g c =
    let a = c.args in
    stays_on_err g.A.Accumulator.held g.A.Cell.states g.met.A.Cell.each a.cells.now a.group_index c.index-cells-group_index.result c.requires.group_index c.take.result c.take.new.self c.take.ensures.err
