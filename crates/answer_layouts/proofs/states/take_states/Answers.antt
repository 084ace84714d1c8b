-- Proofs of the goals of `take_states` (`states`).
use Rattle.std.proofs.lemmas.Result.{err_from_is_err_and}
use Rattle.answer_fields.specs.LayoutReading.{states_at}
use Rattle.answer_layouts.proofs.KeptParts.{states_go_on, states_fail, states_finish}
use Rattle.answer_layouts.proofs.states.take_states.Goals as goal

pub returns-in_err-state : goal.returns-in_err-state
returns-in_err-state c =
    let p = err_from_is_err_and c.from_residual.result c.from_residual.ensures.1 in
    rw (p.1, p.2) (λ not_memory. states_fail c.loop-aggregate.states.items c.loop-aggregate.are_possible c.args.aggregates.now c.loop-aggregate.aggregate-index _ c.loop-aggregate.rest.now c.in_err-state.field-0.0
    (states_at c.args.aggregates.now c.args.bytes.now) c.loop-aggregate-test.true (c.in_err-state.ensures not_memory) c.loop-aggregate.invariant)

pub loop-aggregate-preserved : goal.loop-aggregate-preserved
loop-aggregate-preserved c =
    rw c.in_ok-push.ensures.items
    (states_go_on c.loop-aggregate.states.items c.loop-aggregate.are_possible c.args.aggregates.now c.loop-aggregate.aggregate-index _ c.loop-aggregate.rest.now c.in_ok-state.state c.in_ok-state.is_possible c.in_ok-state.behind.now
    (states_at c.args.aggregates.now c.args.bytes.now) c.loop-aggregate-test.true c.in_ok-state.ensures c.loop-aggregate.invariant)

pub returns : goal.returns
returns c =
    rw c.from_vec.ensures (states_finish c.loop-aggregate.states.items c.loop-aggregate.are_possible c.args.aggregates.now c.loop-aggregate.aggregate-index c.loop-aggregate.rest.now
    (states_at c.args.aggregates.now c.args.bytes.now) c.loop-aggregate-test.false c.loop-aggregate.invariant)
