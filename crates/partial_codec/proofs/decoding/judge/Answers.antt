-- Proofs of the goals of `judge` (`decoding`).
use Rattle.std.proofs.Common.{rules}
use Rattle.partial_codec.specs.Answer.{judged}
use Rattle.partial_codec.specs.Holding.{layout_held_by}
use Rattle.answer_fields.specs.declared.fault.DecodeFault.TheVariants.{Memory}
use Rattle.partial_codec.proofs.Layouts.{if_memory, judged_returned}
use Rattle.partial_codec.proofs.decoding.judge.Goals as goal

pub returns-clause-exact : goal.returns-clause-exact
returns-clause-exact c =
    if_memory Memory (λ a. a) c.hold_against.result (judged c.args.job.now c.args.bytes.now) (layout_held_by c.args.job.now c.in_ok-layout.layout)
    (judged_returned c.args.job.now c.args.bytes.now c.in_ok-layout.rest.now c.in_ok-seal.seal.now c.in_ok-seal.rest.now c.in_ok-check_seal.field-0.now c.in_ok-layout.layout (search rules) (search rules) (search rules))
    (search rules)
