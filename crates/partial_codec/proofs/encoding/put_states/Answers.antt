-- Proofs of the goals of `put_states` (`encoding`).
use Rattle.std.proofs.Common.{◌++◌, map, get_or, ap, ◌∙◌}
use Rattle.meaning.specs.declared.answer.Statistics.{Statistics}
use Rattle.answer_fields.specs.Shape.{shape_of_aggregate}
use Rattle.partial_codec.specs.Spelling.{state_bytes, states_bytes}
use Rattle.partial_codec.proofs.WrittenStates.{written, all_written}
use Rattle.partial_codec.proofs.encoding.put_states.Goals as goal

pub loop-i-preserved : goal.loop-i-preserved
loop-i-preserved c =
    written c.args.aggregates.now c.args.states.now c.loop-i.i c.index-aggregates-i.result c.index-states-i.result c.loop-i.out.items (c.args.out.now.items ++ states_bytes (map shape_of_aggregate c.args.aggregates.now) c.args.states.now) c.loop-i.invariant c.loop-i-test.true
    c.put_state.new.out.items (c.in_ok-put_state.ensures ∙ ap (λ (s : Statistics). c.loop-i.out.items ++ state_bytes (get_or c.args.aggregates.now c.loop-i.i c.index-aggregates-i.result).kind s) c.index-states-i.is)

pub returns : goal.returns
returns c =
    all_written c.args.aggregates.now c.args.states.now c.loop-i.i c.loop-i.out.items (c.args.out.now.items ++ states_bytes (map shape_of_aggregate c.args.aggregates.now) c.args.states.now) c.loop-i.invariant c.loop-i-test.false
