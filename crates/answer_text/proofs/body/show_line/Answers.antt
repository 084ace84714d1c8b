-- Proofs of the goals of `show_line` (`body`).
use Rattle.std.proofs.Common.{[], ◌++◌, ◌≡◌, ◌∙◌, ap, string_bytes, subst, sym}
use Rattle.answer_fields.specs.Fields.{shape_in}
use Rattle.answer_fields.specs.LayoutReading.{group_at}
use Rattle.answer_text.specs.Reading.{Shows}
use Rattle.answer_text.specs.Texts.{group_text, where_groups}
use Rattle.answer_text.proofs.Showing.{shows_through}
use Rattle.answer_text.proofs.body.show_line.Goals as goal

pub returns-clause-shown : goal.returns-clause-shown
returns-clause-shown c =
    let shape = shape_in c.args.shape.now in
    let read = group_at shape c.args.cursor.now.rest.now in
    let rest = c.show_group-shown.new.cursor.rest.now in
    shows_through read (group_text shape) (where_groups c.args.detail) c.show_group-shown.result c.as_str.result.now (string_bytes c.args.out.now) (string_bytes c.put_line.new.out) rest
    (subst (λ line. Shows (group_text shape) c.show_group-shown.result [] line rest read) (sym c.as_str.ensures.value)
    (subst (λ empty. Shows (group_text shape) c.show_group-shown.result empty (string_bytes c.show_group-shown.new.out) rest read) c.clear.ensures.bytes c.show_group-shown.ensures.shown))
    c.in_ok-put_line.ensures
