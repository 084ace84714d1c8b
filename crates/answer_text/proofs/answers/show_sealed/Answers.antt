-- Proofs of the goals of `show_sealed` (`answers`).
use Rattle.std.proofs.Common.{◌++◌, ◌∙◌, ap, append_assoc, refl, string_bytes, subst}
use Rattle.std.proofs.lemmas.Result.{err_from_is_err_and}
use Rattle.answer_fields.specs.Fields.{shape_in}
use Rattle.answer_fields.specs.LayoutReading.{body_at}
use Rattle.answer_text.specs.Reading.{Takes, seal_at}
use Rattle.answer_text.specs.Texts.{body_text, shape_text, shaped_text}
use Rattle.answer_text.proofs.SealShown.{shows_sealed}
use Rattle.answer_text.proofs.answers.show_sealed.Goals as goal

pub returns-clause-shown : goal.returns-clause-shown
returns-clause-shown c =
    let shape = shape_in c.args.shape.now in
    let detail = c.args.detail in
    let (body, read, more) = c.in_ok-show_body.ensures.shown in
    let between = c.show_body.new.cursor.rest.now in
    let rest = c.take_seal.new.self.rest.now in
    shows_sealed c.args.cursor.now.bytes.now (body_at shape c.args.cursor.now.rest.now) (λ b. shaped_text detail (shape, b)) body between read c.take_seal.result (string_bytes c.args.out.now) (string_bytes c.show_body.new.out) rest
    (more ∙ ap (λ t. t ++ body_text detail shape body) c.in_ok-put_shape.ensures ∙ append_assoc (string_bytes c.args.out.now) (shape_text shape) (body_text detail shape body))
    (subst (λ whole. Takes (λ u. u) c.take_seal.result rest (seal_at whole between)) c.in_ok-show_body.ensures.part.1 c.take_seal.ensures.read)

pub returns-in_err-show_body-clause-shown : goal.returns-in_err-show_body-clause-shown
returns-in_err-show_body-clause-shown c =
    let p = err_from_is_err_and c.from_residual-in_err-show_body.result c.from_residual-in_err-show_body.ensures.1 in
    rw (p.1, p.2) (λ other. rw (c.in_err-show_body.ensures.shown other) refl)
