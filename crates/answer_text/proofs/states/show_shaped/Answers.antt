-- Proofs of the goals of `show_shaped` (`states`).
use Rattle.std.proofs.Common.{[], append-nil, refl, string_bytes, subst, sym}
use Rattle.std.proofs.lemmas.Result.{err_from_is_err_and}
use Rattle.answer_fields.specs.Fields.{shape_in}
use Rattle.answer_fields.specs.LayoutReading.{shape_at}
use Rattle.answer_text.specs.Reading.{Shows, sealed_cells_at}
use Rattle.answer_text.specs.StateTexts.{shaped_cells_text}
use Rattle.answer_text.proofs.Showing.{shows_next}
use Rattle.answer_text.proofs.states.show_shaped.Goals as goal

pub returns-clause-shown : goal.returns-clause-shown
returns-clause-shown c =
    let whole = c.args.cursor.now.bytes.now in
    let detail = c.args.detail in
    let count = c.args.count in
    let shape = shape_in c.in_ok-shape.shape in
    let r = c.show_sealed-shown.result in
    let old = string_bytes c.args.out.now in
    let new = string_bytes c.show_sealed-shown.new.out in
    let between = c.take_shape.new.cursor.rest.now in
    let rest = c.show_sealed-shown.new.cursor.rest.now in
    shows_next (shape_at c.args.format c.args.cursor.now.rest.now) (λ s bytes. sealed_cells_at s count whole bytes) (λ s b. (s, b)) (λ s. []) (λ s b. shaped_cells_text detail (s, b)) (shaped_cells_text detail)
    shape between c.in_ok-shape.ensures.read r old old new rest (sym (append-nil old)) (λ b read. refl)
    (subst (λ all. Shows (λ b. shaped_cells_text detail (shape, b)) r old new rest (sealed_cells_at shape count all between)) c.in_ok-shape.ensures.part.1 c.show_sealed-shown.ensures.shown)

pub returns-in_err-shape-clause-shown : goal.returns-in_err-shape-clause-shown
returns-in_err-shape-clause-shown c =
    let p = err_from_is_err_and c.from_residual.result c.from_residual.ensures.1 in
    rw (p.1, p.2) (λ other. rw (c.in_err-shape.ensures.read other) refl)
