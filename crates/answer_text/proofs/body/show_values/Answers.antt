-- Proofs of the goals of `show_values` (`body`).
use Rattle.std.proofs.Common.{◌≡◌, ◌-◌, ◌++◌, ◌∷◌, [], arith, refl, string_bytes, sym}
use Rattle.std.proofs.lemmas.Result.{err_from_is_err_and}
use Rattle.wire.specs.Reading.{repeat_at}
use Rattle.wire.proofs.Loops.{begins, fails, finishes, goes_on}
use Rattle.answer_fields.specs.LayoutReading.{value_at}
use Rattle.answer_text.specs.Reading.{fault_in}
use Rattle.answer_text.specs.Texts.{value_text}
use Rattle.answer_text.specs.Values.{value_of}
use Rattle.answer_text.proofs.Lists.{listed_behind, listed_start, next_of_more}
use Rattle.answer_text.proofs.Took.{still}
use Rattle.answer_text.proofs.body.show_values.Goals as goal

pub loop-init : goal.loop-init
loop-init c =
    let all : c.args.count - 0 ≡ c.args.count = omega arith in
    ([], rw all (begins value_at c.args.count c.args.cursor.now.rest.now (repeat_at value_at c.args.count c.args.cursor.now.rest.now) refl), listed_start c.args.first.now value_text (string_bytes c.args.out.now), refl, (refl, refl))

pub loop-preserved : goal.loop-preserved
loop-preserved c =
    let (values, read, text, between, part) = c.loop.invariant in
    let v = value_of c.in_ok-value.value in (
      values ++ v ∷ [],
      goes_on value_at values c.args.count c.loop.counter c.loop.cursor.rest.now v c.take_value.new.cursor.rest.now (repeat_at value_at c.args.count c.args.cursor.now.rest.now) c.loop-test.true c.in_ok-value.ensures.read read,
      listed_behind c.args.first.now value_text values v (string_bytes c.args.out.now) (string_bytes c.loop.out) c.loop.between.now (string_bytes c.push_str.new.self) (value_text v) (string_bytes c.put_value.new.out)
          text between c.in_ok-push_str.ensures.bytes refl c.in_ok-put_value.ensures,
      sym (next_of_more c.args.first.now values v),
      still c.args.cursor.now c.loop.cursor c.take_value.new.cursor part c.in_ok-value.ensures.part,
    )

pub returns-clause-shown : goal.returns-clause-shown
returns-clause-shown c =
    let (values, read, text, between, part) = c.loop.invariant in
    (values, finishes value_at values c.args.count c.loop.counter c.loop.cursor.rest.now (repeat_at value_at c.args.count c.args.cursor.now.rest.now) c.loop-test.false read, text)

pub returns-in_err-value-clause-shown : goal.returns-in_err-value-clause-shown
returns-in_err-value-clause-shown c =
    let (values, read, text, between, part) = c.loop.invariant in
    let p = err_from_is_err_and c.from_residual.result c.from_residual.ensures.1 in
    rw (p.1, p.2) (λ not_memory. fails value_at values c.args.count c.loop.counter c.loop.cursor.rest.now (fault_in c.in_err-value.field-0.0) (repeat_at value_at c.args.count c.args.cursor.now.rest.now) c.loop-test.true c.in_err-value.ensures.read read)

pub returns-in_err-value-clause-part : goal.returns-in_err-value-clause-part
returns-in_err-value-clause-part c = still c.args.cursor.now c.loop.cursor c.take_value.new.cursor c.loop.invariant.4 c.in_err-value.ensures.part

pub returns-in_err-push_str-clause-part : goal.returns-in_err-push_str-clause-part
returns-in_err-push_str-clause-part c = still c.args.cursor.now c.loop.cursor c.take_value.new.cursor c.loop.invariant.4 c.in_ok-value.ensures.part

pub returns-in_err-put_value-clause-part : goal.returns-in_err-put_value-clause-part
returns-in_err-put_value-clause-part c = still c.args.cursor.now c.loop.cursor c.take_value.new.cursor c.loop.invariant.4 c.in_ok-value.ensures.part
