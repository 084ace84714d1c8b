-- Proofs of the goals of `batch_text` (`texts`).
use Rattle.std.proofs.Common.{List, [], ℕ, take, ap, sym, subst, ◌∙◌}
use Rattle.std.specs.Prelude.{Result}
use Rattle.meaning.specs.declared.answer.Group.{Group}
use Rattle.meaning.specs.Wanting.{ReportsIfMemory}
use Rattle.last_step.specs.Given.{fault_returned}
use Rattle.last_step.specs.Printing.{best_text}
use Rattle.last_step.specs.Runs.{rows_after}
use Rattle.last_step.proofs.Outcomes.{text_then}
use Rattle.last_step.proofs.texts.batch_text.Goals as goal

pub returns : goal.returns
returns c =
    let plan = c.args.plan.now in
    let front = c.in_ok-front.front in
    subst (λ (meaning : Result (List ℕ) ℕ). ReportsIfMemory fault_returned (λ text. text.items) c.unless_fault.result meaning)
    (sym (ap (best_text plan) (c.in_ok-front.ensures.behind [])
    ∙ text_then plan (rows_after plan [] (take front.count c.args.groups.now)) front.fault c.in_ok-text.text.items
    (ap (λ (gs : List Group). best_text plan (rows_after plan [] gs)) (sym c.first-sound.ensures) ∙ c.in_ok-text.ensures)))
    c.unless_fault.ensures
