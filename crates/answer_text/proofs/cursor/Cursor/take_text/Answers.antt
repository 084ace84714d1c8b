-- Proofs of the goals of `take_text` (`cursor`).
use Rattle.std.proofs.Common.{ap, sym, ◌∙◌}
use Rattle.std.specs.Prelude.{Err}
use Rattle.answer_text.proofs.Took.{of_no_utf8, of_utf8, text_refused, text_taken}
use Rattle.answer_text.proofs.cursor.Cursor.take_text.Goals as goal

pub returns-in-Ok-clause-read : goal.returns-in-Ok-clause-read
returns-in-Ok-clause-read c =
    let bytes = c.in_ok-bytes.bytes.now in
    text_taken c.args.count c.args.self.now.rest.now bytes c.take_bytes.new.self.rest.now c.in-Ok.text.now c.in_ok-bytes.ensures.read (of_utf8 bytes c.in-Ok.text.now c.in-Ok.ensures.cases.1 c.in-Ok.ensures.cases.0)

pub returns-in-Err-clause-read : goal.returns-in-Err-clause-read
returns-in-Err-clause-read c =
    let bytes = c.in_ok-bytes.bytes.now in
    text_refused c.args.count c.args.self.now.rest.now bytes c.take_bytes.new.self.rest.now c.in_ok-bytes.ensures.read (of_no_utf8 bytes c.in-Err.ensures.cases.0)
    ∙ ap (λ f. Err f) (sym c.refuse.ensures.fault)
