-- Proofs of the goals of `take_all_states` (`group`).
use Rattle.std.proofs.lemmas.Result.{err_from_is_err_and}
use Rattle.packed_groups.specs.Reading.{state_at}
use Rattle.wire.specs.Reading.{repeat_at}
use Rattle.wire.proofs.Loops.{goes_on, fails, finishes}
use Rattle.packed_groups.proofs.group.take_all_states.Goals as goal

pub returns-in_err-state : goal.returns-in_err-state
returns-in_err-state c =
    let p = err_from_is_err_and c.from_residual.result c.from_residual.ensures.1 in
    rw (p.1, p.2) (λ not_memory. fails state_at c.loop.states.items c.args.width c.loop.counter c.loop.rest.now c.in_err-state.field-0.0 (repeat_at state_at c.args.width c.args.bytes.now) c.loop-test.true (c.in_err-state.ensures not_memory) c.loop.invariant)

pub loop-preserved : goal.loop-preserved
loop-preserved c =
    rw c.in_ok-push.ensures.items
    (goes_on state_at c.loop.states.items c.args.width c.loop.counter c.loop.rest.now c.in_ok-state.state c.in_ok-state.behind.now (repeat_at state_at c.args.width c.args.bytes.now) c.loop-test.true c.in_ok-state.ensures c.loop.invariant)

pub returns : goal.returns
returns c = rw c.from_vec.ensures (finishes state_at c.loop.states.items c.args.width c.loop.counter c.loop.rest.now (repeat_at state_at c.args.width c.args.bytes.now) c.loop-test.false c.loop.invariant)
