-- Proofs of the goals of `show_counted` (`body`).
use Rattle.std.proofs.Common.{refl, string_bytes}
use Rattle.std.specs.Prelude.{flat_map}
use Rattle.std.proofs.lemmas.Result.{err_from_is_err_and}
use Rattle.meaning.specs.declared.answer.Body.TheVariants.{Groups}
use Rattle.wire.specs.Reading.{number_at}
use Rattle.answer_fields.specs.Fault.{from_wire}
use Rattle.answer_fields.specs.Fields.{shape_in}
use Rattle.answer_fields.specs.LayoutReading.{group_at, groups_at}
use Rattle.answer_text.specs.Texts.{body_text, count_text, group_text, where_groups}
use Rattle.answer_text.proofs.Showing.{shows_counted}
use Rattle.answer_text.proofs.body.show_counted.Goals as goal

pub returns-clause-shown : goal.returns-clause-shown
unfolding groups_at
returns-clause-shown c =
    let shape = shape_in c.args.shape.now in
    let detail = c.args.detail in
    shows_counted (group_at shape) (from_wire (number_at 4 c.args.cursor.now.rest.now)) (λ gs. Groups gs) (count_text detail) (λ gs. where_groups detail (flat_map (group_text shape) gs)) (body_text detail shape) (λ gs. refl)
    c.in_ok-count.count c.take_u32.new.self.rest.now c.in_ok-count.ensures.read c.show_groups.result (string_bytes c.args.out.now) (string_bytes c.put_number.new.out) (string_bytes c.show_groups.new.out)
    c.show_groups.new.cursor.rest.now c.in_ok-put_number.ensures c.show_groups.ensures.shown

pub returns-in_err-count-clause-shown : goal.returns-in_err-count-clause-shown
unfolding groups_at
returns-in_err-count-clause-shown c =
    let p = err_from_is_err_and c.from_residual.result c.from_residual.ensures.1 in
    rw (p.1, p.2) (λ other. rw c.in_err-count.ensures.read refl)
