-- Proofs of the goals of `show_groups` (`body`).
use Rattle.std.proofs.Common.{◌≡◌, ◌-◌, ◌++◌, ◌∷◌, [], arith, refl, string_bytes}
use Rattle.std.proofs.lemmas.Result.{err_from_is_err_and}
use Rattle.wire.specs.Reading.{repeat_at}
use Rattle.wire.proofs.Loops.{begins, fails, finishes, goes_on}
use Rattle.answer_fields.specs.Fields.{shape_in}
use Rattle.answer_fields.specs.LayoutReading.{group_at}
use Rattle.answer_text.specs.Reading.{fault_in}
use Rattle.answer_text.specs.Texts.{group_text}
use Rattle.answer_text.proofs.Lists.{groups_more, groups_start}
use Rattle.answer_text.proofs.Took.{still}
use Rattle.answer_text.proofs.body.show_groups.Goals as goal

pub loop-init : goal.loop-init
loop-init c =
    let part = group_at (shape_in c.args.shape.now) in
    let bytes = c.args.cursor.now.rest.now in
    let all : c.args.count - 0 ≡ c.args.count = omega arith in
    ([], rw all (begins part c.args.count bytes (repeat_at part c.args.count bytes) refl), groups_start c.args.detail (group_text (shape_in c.args.shape.now)) (string_bytes c.args.out.now), (refl, refl))

pub loop-preserved : goal.loop-preserved
loop-preserved c =
    let shape = shape_in c.args.shape.now in
    let (groups, read, text, part) = c.loop.invariant in
    let (g, here, more) = c.in_ok-show_line.ensures.shown in (
      groups ++ g ∷ [],
      goes_on (group_at shape) groups c.args.count c.loop.counter c.loop.cursor.rest.now g c.show_line.new.cursor.rest.now (repeat_at (group_at shape) c.args.count c.args.cursor.now.rest.now) c.loop-test.true here read,
      groups_more c.args.detail (group_text shape) groups g (string_bytes c.args.out.now) (string_bytes c.loop.out) (string_bytes c.show_line.new.out) text more,
      still c.args.cursor.now c.loop.cursor c.show_line.new.cursor part c.in_ok-show_line.ensures.part,
    )

pub returns-clause-shown : goal.returns-clause-shown
returns-clause-shown c =
    let part = group_at (shape_in c.args.shape.now) in
    let (groups, read, text, same) = c.loop.invariant in
    (groups, finishes part groups c.args.count c.loop.counter c.loop.cursor.rest.now (repeat_at part c.args.count c.args.cursor.now.rest.now) c.loop-test.false read, text)

pub returns-in_err-show_line-clause-shown : goal.returns-in_err-show_line-clause-shown
returns-in_err-show_line-clause-shown c =
    let part = group_at (shape_in c.args.shape.now) in
    let (groups, read, text, same) = c.loop.invariant in
    let p = err_from_is_err_and c.from_residual.result c.from_residual.ensures.1 in
    rw (p.1, p.2) (λ other. fails part groups c.args.count c.loop.counter c.loop.cursor.rest.now (fault_in c.in_err-show_line.field-0.0) (repeat_at part c.args.count c.args.cursor.now.rest.now) c.loop-test.true
    (c.in_err-show_line.ensures.shown other) read)

pub returns-in_err-show_line-clause-part : goal.returns-in_err-show_line-clause-part
returns-in_err-show_line-clause-part c = still c.args.cursor.now c.loop.cursor c.show_line.new.cursor c.loop.invariant.3 c.in_err-show_line.ensures.part
