-- Proofs of the goals of `show_sealed` (`journals`).
use Rattle.std.proofs.Common.{◌++◌, ◌∙◌, ap, append_assoc, string_bytes, subst}
use Rattle.answer_fields.specs.Fields.{shape_in}
use Rattle.answer_fields.specs.Format as formats
use Rattle.answer_fields.specs.LayoutReading.{body_at, laid_out}
use Rattle.answer_text.specs.Journals.{first_text, record_answer_text, record_line}
use Rattle.answer_text.specs.Reading.{Takes, seal_at}
use Rattle.answer_text.specs.Texts.{body_text}
use Rattle.answer_text.proofs.SealShown.{shows_sealed}
use Rattle.answer_text.proofs.journals.show_sealed.Goals as goal

pub returns-clause-shown : goal.returns-clause-shown
returns-clause-shown c = λ job are.
    let shape = shape_in c.args.shape.now in
    let head = c.args.head.now in
    let detail = c.args.detail in
    let old = string_bytes c.args.out.now in
    let (body, read, more) = c.in_ok-show_body.ensures.shown in
    let between = c.show_body.new.cursor.rest.now in
    let rest = c.take_seal.new.self.rest.now in
    let first = first_text head.place.number job shape in
    let line = record_line head.place.number head.place.at head.place.size (formats.number head.format) head.fragment in
    shows_sealed c.args.cursor.now.bytes.now (body_at shape c.args.cursor.now.rest.now) (λ b. record_answer_text detail head.place.number head.place.at head.place.size (laid_out head.format job head.fragment shape b)) body between read c.take_seal.result old (string_bytes c.show_body.new.out) rest
    (more ∙ ap (λ t. t ++ body_text detail shape body) (c.in_ok-put_record.ensures ∙ ap (λ t. t ++ line) (c.in_ok-put_job.ensures job are) ∙ append_assoc old first line) ∙ append_assoc old (first ++ line) (body_text detail shape body))
    (subst (λ whole. Takes (λ u. u) c.take_seal.result rest (seal_at whole between)) c.in_ok-show_body.ensures.part.1 c.take_seal.ensures.read)
