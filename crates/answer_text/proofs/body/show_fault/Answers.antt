-- Proofs of the goals of `show_fault` (`body`).
use Rattle.std.proofs.Common.{refl}
use Rattle.std.proofs.lemmas.Result.{err_from_is_err_and}
use Rattle.meaning.specs.declared.answer.Body.TheVariants.{Fault}
use Rattle.answer_fields.specs.LayoutReading.{fault_at}
use Rattle.answer_text.proofs.body.show_fault.Goals as goal

pub returns-clause-shown : goal.returns-clause-shown
unfolding fault_at
returns-clause-shown c = λ shape. (Fault (record { row = c.in_ok-row.row; code = c.in_ok-code.code }), rw (c.in_ok-row.ensures.read, c.in_ok-code.ensures.read) refl, c.in_ok-put_fault.ensures)

pub returns-in_err-row-clause-shown : goal.returns-in_err-row-clause-shown
unfolding fault_at
returns-in_err-row-clause-shown c =
    let p = err_from_is_err_and c.from_residual.result c.from_residual.ensures.1 in
    rw (p.1, p.2) (λ shape other. rw c.in_err-row.ensures.read refl)

pub returns-in_err-code-clause-shown : goal.returns-in_err-code-clause-shown
unfolding fault_at
returns-in_err-code-clause-shown c =
    let p = err_from_is_err_and c.from_residual-in_err-code.result c.from_residual-in_err-code.ensures.1 in
    rw (p.1, p.2) (λ shape other. rw (c.in_ok-row.ensures.read, c.in_err-code.ensures.read) refl)
