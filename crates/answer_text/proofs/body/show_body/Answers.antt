-- Proofs of the goals of `show_body` (`body`).
use Rattle.std.proofs.Common.{◌∙◌, ap, string_bytes, sym}
use Rattle.std.specs.Prelude.{Err}
use Rattle.std.proofs.lemmas.Result.{err_from_is_err_and}
use Rattle.answer_fields.specs.Fields.{shape_in}
use Rattle.answer_text.specs.Reading.{fault_in}
use Rattle.answer_text.specs.Texts.{body_text}
use Rattle.answer_text.proofs.BodyShown.{counted_shown, fault_shown, other_shown, untagged}
use Rattle.answer_text.proofs.body.show_body.Goals as goal

pub returns-in_err-tag-clause-shown : goal.returns-in_err-tag-clause-shown
returns-in_err-tag-clause-shown c =
    let p = err_from_is_err_and c.from_residual.result c.from_residual.ensures.1 in
    rw (p.1, p.2) (λ other. untagged (shape_in c.args.shape.now) c.args.cursor.now.rest.now (fault_in c.in_err-tag.field-0.0) c.in_err-tag.ensures.read)

pub returns-then-tag-eq0-clause-shown : goal.returns-then-tag-eq0-clause-shown
returns-then-tag-eq0-clause-shown c =
    let shape = shape_in c.args.shape.now in
    fault_shown shape c.args.cursor.now.rest.now c.in_ok-tag.tag c.take_u8.new.self.rest.now c.in_ok-tag.ensures.read c.if-tag-eq0.true (body_text c.args.detail shape) c.show_fault.result
    (string_bytes c.args.out.now) (string_bytes c.show_fault.new.out) c.show_fault.new.cursor.rest.now (c.show_fault.ensures.shown shape)

pub returns-then-tag-eq1-clause-shown : goal.returns-then-tag-eq1-clause-shown
returns-then-tag-eq1-clause-shown c =
    let shape = shape_in c.args.shape.now in
    counted_shown shape c.args.cursor.now.rest.now c.in_ok-tag.tag c.take_u8.new.self.rest.now c.in_ok-tag.ensures.read c.if-tag-eq1.true (body_text c.args.detail shape) c.show_counted.result
    (string_bytes c.args.out.now) (string_bytes c.show_counted.new.out) c.show_counted.new.cursor.rest.now c.show_counted.ensures.shown

pub returns-clause-shown : goal.returns-clause-shown
returns-clause-shown c = λ other.
    other_shown (shape_in c.args.shape.now) c.args.cursor.now.rest.now c.in_ok-tag.tag c.take_u8.new.self.rest.now c.in_ok-tag.ensures.read c.if-tag-eq0.false c.if-tag-eq1.false ∙ ap (λ f. Err f) (sym c.refuse.ensures.fault)
