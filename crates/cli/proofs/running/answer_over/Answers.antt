-- Proofs of the goals of `answer_over` (`running`).
use Rattle.std.proofs.Common.{ap, ◌∙◌}
use Rattle.coordinator.specs.Whole.{IsAnswered, IsRefused, files_in}
use Rattle.cli.specs.Running.{input_over}
use Rattle.cli.proofs.AskedFiles.{unread_of}
use Rattle.cli.proofs.Refusals.{input_refused, over}
use Rattle.cli.proofs.running.answer_over.Goals as goal

pub returns-in-Ok-answer_plan-clause-answered : goal.returns-in-Ok-answer_plan-clause-answered
returns-in-Ok-answer_plan-clause-answered g c = λ text declared planned.
    let question = c.args.question.now in
    let ended = c.in-Ok-answer_plan.ended in
    let gather = c.in-Ok-answer_plan.gather in (
      gather,
      over (λ input. IsAnswered input (g.O.Write.contents c.args.out.now) (g.O.Write.contents c.answer_plan.new.out) ended gather) text c.as_slice.result.now c.args.tables.now question.query.now question.vector
          (ap files_in c.as_slice.ensures.value ∙ c.in-Ok.ensures) (c.in-Ok-answer_plan.ensures.answered text question.query.now declared planned),
    )

pub returns-clause-refused : goal.returns-clause-refused
returns-clause-refused g c = λ text declared planned.
    let question = c.args.question.now in
    let tables = c.args.tables.now in
    let fault = c.in-Err-answer_plan.fault in
    input_refused question.directory.now (input_over text tables question.query.now question.vector) fault c.refusal_of.result
    (over (λ input. IsRefused input fault) text c.as_slice.result.now tables question.query.now question.vector
    (ap files_in c.as_slice.ensures.value ∙ c.in-Ok.ensures) (c.in-Err-answer_plan.ensures.refused text question.query.now declared planned))
    c.refusal_of.ensures.returned

pub returns-clause-missing : goal.returns-clause-missing
returns-clause-missing g c = λ text declared planned.
    let question = c.args.question.now in
    let tables = c.args.tables.now in
    let fault = c.in-Err-answer_plan.fault in
    unread_of question.directory.now question.catalog.now (input_over text tables question.query.now question.vector) c.args.plan declared planned fault c.refusal_of.result
    (over (λ input. IsRefused input fault) text c.as_slice.result.now tables question.query.now question.vector
    (ap files_in c.as_slice.ensures.value ∙ c.in-Ok.ensures) (c.in-Err-answer_plan.ensures.refused text question.query.now declared planned))
    c.refusal_of.ensures.returned
