-- Proofs of the goals of `value` (`unmade_groups`).
use Rattle.std.proofs.Common.{◌<◌, length, sym, subst}
use Rattle.meaning.specs.Aggregate.{value}
use Rattle.meaning.specs.Order.{value_in}
use Rattle.meaning.specs.Wanting.{ReportsIfMemory}
use Rattle.aggregate_states.specs.Fault.{fault_returned}
use Rattle.group_by.proofs.Slices.{columns_there, in_keys, state_there}
use Rattle.group_by.proofs.unmade_groups.UnmadeSlice.value.Goals as goal

pub value_at-requires-clause-aggregate : goal.value_at-requires-clause-aggregate
value_at-requires-clause-aggregate c =
    let t = c.self.inside in
    columns_there t.keys.now t.rows.now t.columns.now c.args.self.now t.order.now c.self.invariant c.self.view_is c.args.group c.group_index_of-group_index.result c.requires.group c.group_index_of-group_index.ensures c.args.aggregate c.requires.aggregate

pub value_at-requires-clause-heights : goal.value_at-requires-clause-heights
value_at-requires-clause-heights c = λ k d below.
    let t = c.self.inside in
    let height = c.self.invariant.heights k d below in
    subst (λ n. c.group_index_of-group_index.result < n) (sym height) (in_keys t.keys.now t.rows.now t.columns.now c.args.self.now t.order.now c.self.invariant c.self.view_is c.args.group c.group_index_of-group_index.result c.requires.group c.group_index_of-group_index.ensures)

pub returns-clause-value : goal.returns-clause-value
returns-clause-value c = λ d.
    let t = c.self.inside in
    let below = columns_there t.keys.now t.rows.now t.columns.now c.args.self.now t.order.now c.self.invariant c.self.view_is c.args.group c.group_index_of-group_index.result c.requires.group c.group_index_of-group_index.ensures c.args.aggregate c.requires.aggregate in
    subst (λ s. ReportsIfMemory fault_returned value_in c.value_at.result (value c.args.kind s))
    (state_there t.keys.now t.rows.now t.columns.now c.args.self.now t.order.now c.self.invariant c.self.view_is c.args.group c.group_index_of-group_index.result c.requires.group c.group_index_of-group_index.ensures c.args.aggregate below d)
    c.value_at.ensures.value
