-- Proofs of the goals of `judge_state` (`state`).
use Rattle.std.proofs.Common.{rules}
use Rattle.partial_codec.specs.Holding.{state_held_by}
use Rattle.partial_codec.specs.State.{judged_state}
use Rattle.answer_fields.specs.declared.fault.DecodeFault.TheVariants.{Memory}
use Rattle.partial_codec.proofs.Layouts.{if_memory}
use Rattle.partial_codec.proofs.StateLayouts.{as_many, judged_state_returned}
use Rattle.partial_codec.proofs.state.judge_state.Goals as goal

pub hold_state_against-requires-clause-cells : goal.hold_state_against-requires-clause-cells
hold_state_against-requires-clause-cells c = (as_many c.args.bytes.now c.in_ok-layout.rest.now c.in_ok-layout.layout c.in_ok-layout.ensures.read).0

pub hold_state_against-requires-clause-returned : goal.hold_state_against-requires-clause-returned
hold_state_against-requires-clause-returned c = (as_many c.args.bytes.now c.in_ok-layout.rest.now c.in_ok-layout.layout c.in_ok-layout.ensures.read).1

pub returns-clause-exact : goal.returns-clause-exact
returns-clause-exact c =
    if_memory Memory (λ cells. cells.items) c.hold_state_against.result (judged_state c.args.job.now c.args.bytes.now) (state_held_by c.args.job.now c.in_ok-layout.layout)
    (judged_state_returned c.args.job.now c.args.bytes.now c.in_ok-layout.rest.now c.in_ok-seal.seal.now c.in_ok-seal.rest.now c.in_ok-check_seal.field-0.now c.in_ok-layout.layout c.in_ok-layout.ensures.read (search rules) (search rules))
    (search rules)
