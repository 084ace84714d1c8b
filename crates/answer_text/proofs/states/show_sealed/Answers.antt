-- Proofs of the goals of `show_sealed` (`states`).
use Rattle.std.proofs.Common.{◌++◌, ◌∙◌, ap, append_assoc, refl, string_bytes, subst}
use Rattle.std.proofs.lemmas.Result.{err_from_is_err_and}
use Rattle.wire.specs.Reading.{repeat_at}
use Rattle.answer_fields.specs.Fields.{shape_in}
use Rattle.answer_fields.specs.StateSpelling.{cell_at}
use Rattle.answer_text.specs.Reading.{Takes, seal_at}
use Rattle.answer_text.specs.StateTexts.{cells_text, shaped_cells_text}
use Rattle.answer_text.specs.Texts.{shape_text}
use Rattle.answer_text.proofs.SealShown.{shows_sealed}
use Rattle.answer_text.proofs.states.show_sealed.Goals as goal

pub returns-clause-shown : goal.returns-clause-shown
returns-clause-shown c =
    let shape = shape_in c.args.shape.now in
    let detail = c.args.detail in
    let (cells, read, more) = c.in_ok-show_fragments.ensures.shown in
    let between = c.show_fragments.new.cursor.rest.now in
    let rest = c.take_seal.new.self.rest.now in
    shows_sealed c.args.cursor.now.bytes.now (repeat_at (cell_at shape) c.args.count c.args.cursor.now.rest.now) (λ x. shaped_cells_text detail (shape, x)) cells between read c.take_seal.result (string_bytes c.args.out.now) (string_bytes c.show_fragments.new.out) rest
    (more ∙ ap (λ t. t ++ cells_text detail shape cells) c.in_ok-put_shape.ensures ∙ append_assoc (string_bytes c.args.out.now) (shape_text shape) (cells_text detail shape cells))
    (subst (λ whole. Takes (λ u. u) c.take_seal.result rest (seal_at whole between)) c.in_ok-show_fragments.ensures.part.1 c.take_seal.ensures.read)

pub returns-in_err-show_fragments-clause-shown : goal.returns-in_err-show_fragments-clause-shown
returns-in_err-show_fragments-clause-shown c =
    let p = err_from_is_err_and c.from_residual-in_err-show_fragments.result c.from_residual-in_err-show_fragments.ensures.1 in
    rw (p.1, p.2) (λ other. rw (c.in_err-show_fragments.ensures.shown other) refl)
