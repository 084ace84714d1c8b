-- Proofs of the goals of `show_answer` (`answers`).
use Rattle.std.proofs.Common.{◌++◌, ◌∙◌, ap, append_assoc, refl, string_bytes, subst, sym}
use Rattle.std.proofs.lemmas.Result.{err_from_is_err_and}
use Rattle.answer_fields.specs.LayoutReading.{job_at, laid_out}
use Rattle.answer_text.specs.Reading.{Shows, from_fragment_at}
use Rattle.answer_text.specs.Texts.{answer_text, first_line, fragment_line, job_text, shaped_text}
use Rattle.answer_text.proofs.Showing.{shows_next}
use Rattle.answer_text.proofs.answers.show_answer.Goals as goal

pub returns-clause-shown : goal.returns-clause-shown
returns-clause-shown c =
    let whole = c.args.cursor.now.bytes.now in
    let format = c.args.format in
    let detail = c.args.detail in
    let front = first_line format c.args.size in
    let (job, read, more) = c.in_ok-show_job.ensures.shown in
    let r = c.show_from_fragment.result in
    let old = string_bytes c.args.out.now in
    let mid = string_bytes c.show_job.new.out in
    let new = string_bytes c.show_from_fragment.new.out in
    let between = c.show_job.new.cursor.rest.now in
    let rest = c.show_from_fragment.new.cursor.rest.now in
    shows_next (job_at c.args.cursor.now.rest.now) (λ j bytes. from_fragment_at format whole bytes) (λ j b. laid_out format j b.0 b.1.0 b.1.1) (λ j. front ++ job_text j) (λ j b. fragment_line b.0 ++ shaped_text detail b.1)
    (answer_text detail c.args.size) job between read r old mid new rest (more ∙ ap (λ t. t ++ job_text job) c.in_ok-put_first_line.ensures ∙ append_assoc old front (job_text job))
    (λ b there. append_assoc (front ++ job_text job) (fragment_line b.0) (shaped_text detail b.1))
    (subst (λ all. Shows (λ b. fragment_line b.0 ++ shaped_text detail b.1) r mid new rest (from_fragment_at format all between)) c.in_ok-show_job.ensures.part.1 c.show_from_fragment.ensures.shown)

pub returns-in_err-show_job-clause-shown : goal.returns-in_err-show_job-clause-shown
returns-in_err-show_job-clause-shown c =
    let p = err_from_is_err_and c.from_residual-in_err-show_job.result c.from_residual-in_err-show_job.ensures.1 in
    rw (p.1, p.2) (λ other. rw (c.in_err-show_job.ensures.shown other) refl)
