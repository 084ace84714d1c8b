-- Proofs of the goals of `show_state` (`states`).
use Rattle.std.proofs.Common.{◌++◌, ◌∙◌, ap, append_assoc, length, refl, string_bytes, subst}
use Rattle.std.proofs.lemmas.Result.{err_from_is_err_and}
use Rattle.answer_fields.specs.LayoutReading.{job_at}
use Rattle.answer_fields.specs.StateSpelling.{state_laid_out}
use Rattle.answer_text.specs.Reading.{Shows, shaped_cells_at}
use Rattle.answer_text.specs.StateTexts.{first_state_line, held_state_text, shaped_cells_text}
use Rattle.answer_text.specs.Texts.{job_text}
use Rattle.answer_text.proofs.Showing.{shows_next}
use Rattle.answer_text.proofs.states.show_state.Goals as goal

pub returns-clause-shown : goal.returns-clause-shown
returns-clause-shown c =
    let whole = c.args.cursor.now.bytes.now in
    let format = c.args.format in
    let detail = c.args.detail in
    let front = first_state_line format c.args.size in
    let (job, read, are) = c.in_ok-head.ensures.read in
    let r = c.show_shaped.result in
    let old = string_bytes c.args.out.now in
    let mid = string_bytes c.put_head.new.out in
    let new = string_bytes c.show_shaped.new.out in
    let between = c.take_head.new.cursor.rest.now in
    let rest = c.show_shaped.new.cursor.rest.now in
    let shown = subst (λ all. Shows (shaped_cells_text detail) r mid new rest (shaped_cells_at format c.in_ok-head.head.fragments all between)) c.in_ok-head.ensures.part.1 c.show_shaped.ensures.shown in
    shows_next (job_at c.args.cursor.now.rest.now) (λ j bytes. shaped_cells_at format (length j.cut) whole bytes) (λ j b. state_laid_out format j b.0 b.1) (λ j. front ++ job_text j) (λ j b. shaped_cells_text detail b)
    (held_state_text detail c.args.size) job between read r old mid new rest
    (c.in_ok-put_head.ensures job are ∙ ap (λ t. t ++ job_text job) c.in_ok-put_first_line.ensures ∙ append_assoc old front (job_text job))
    (λ b there. refl)
    (subst (λ n. Shows (shaped_cells_text detail) r mid new rest (shaped_cells_at format n whole between)) are.count shown)

pub returns-in_err-head-clause-shown : goal.returns-in_err-head-clause-shown
returns-in_err-head-clause-shown c =
    let p = err_from_is_err_and c.from_residual-in_err-head.result c.from_residual-in_err-head.ensures.1 in
    rw (p.1, p.2) (λ other. rw c.in_err-head.ensures.read refl)
