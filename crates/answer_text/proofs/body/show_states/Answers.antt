-- Proofs of the goals of `show_states` (`body`).
use Rattle.std.proofs.Common.{[], ◌∷◌, ◌++◌, ◌≡◌, ◌+◌, None, add-one, append-nil, append_assoc, ap, drop, drop-cons, get_or, refl, string_bytes, subst, sym, ◌∙◌}
use Rattle.std.proofs.lemmas.List.{drop_all}
use Rattle.std.proofs.lemmas.Result.{err_from_is_err_and}
use Rattle.meaning.specs.declared.plan.AggregateKind.TheVariants.{CountRows}
use Rattle.answer_fields.specs.LayoutReading.{states_at}
use Rattle.answer_fields.specs.declared.shape.AggregateShape.{AggregateShape}
use Rattle.answer_text.specs.Reading.{fault_in}
use Rattle.answer_text.specs.Texts.{state_text}
use Rattle.answer_text.proofs.Lists.{AreShown, all_shown, none_shown, one_shown, states_behind, states_begin, states_fail, states_finish, states_go_on}
use Rattle.answer_text.proofs.Took.{still}
use Rattle.answer_text.proofs.body.show_states.Goals as goal

abbrev none : AggregateShape
none = record { kind = CountRows; argument = None }

pub loop-aggregate-init : goal.loop-aggregate-init
loop-aggregate-init c = ([], [], states_begin c.args.aggregates.now c.args.cursor.now.rest.now, none_shown c.args.aggregates.now, sym (append-nil (string_bytes c.args.out.now)), (refl, refl))

pub loop-aggregate-preserved : goal.loop-aggregate-preserved
loop-aggregate-preserved c =
    let shapes = c.args.aggregates.now in
    let i = c.loop-aggregate.aggregate-index in
    let a = get_or shapes i none in
    let (states, shown, read, are, text, part) = c.loop-aggregate.invariant in
    let (s, here, more) = c.in_ok-show_statistics.ensures.shown in
    let split : drop i shapes ≡ a ∷ drop (i + 1) shapes = drop-cons shapes i none c.loop-aggregate-test.true ∙ ap (λ k. a ∷ drop k shapes) (sym (add-one i)) in (
      states ++ s ∷ [],
      shown ++ state_text a s,
      states_go_on states a (drop (i + 1) shapes) c.loop-aggregate.cursor.rest.now s c.show_statistics.new.cursor.rest.now (states_at shapes c.args.cursor.now.rest.now) here
          (subst (λ left. states_behind states left c.loop-aggregate.cursor.rest.now ≡ states_at shapes c.args.cursor.now.rest.now) split read),
      one_shown shapes (drop (i + 1) shapes) a states s shown (subst (λ left. AreShown shapes left states shown) split are),
      more ∙ ap (λ t. t ++ state_text a s) text ∙ append_assoc (string_bytes c.args.out.now) shown (state_text a s),
      still c.args.cursor.now c.loop-aggregate.cursor c.show_statistics.new.cursor part c.in_ok-show_statistics.ensures.part,
    )

pub returns-clause-shown : goal.returns-clause-shown
returns-clause-shown c =
    let shapes = c.args.aggregates.now in
    let i = c.loop-aggregate.aggregate-index in
    let (states, shown, read, are, text, part) = c.loop-aggregate.invariant in
    let end : drop i shapes ≡ [] = drop_all i shapes c.loop-aggregate-test.false in (
      states,
      states_finish states (drop i shapes) c.loop-aggregate.cursor.rest.now (states_at shapes c.args.cursor.now.rest.now) end read,
      text ∙ ap (λ t. string_bytes c.args.out.now ++ t) (sym (all_shown shapes (drop i shapes) states shown end are)),
    )

pub returns-in_err-show_statistics-clause-shown : goal.returns-in_err-show_statistics-clause-shown
returns-in_err-show_statistics-clause-shown c =
    let shapes = c.args.aggregates.now in
    let i = c.loop-aggregate.aggregate-index in
    let (states, shown, read, are, text, part) = c.loop-aggregate.invariant in
    let split : drop i shapes ≡ get_or shapes i none ∷ drop (i + 1) shapes = drop-cons shapes i none c.loop-aggregate-test.true ∙ ap (λ k. get_or shapes i none ∷ drop k shapes) (sym (add-one i)) in
    let p = err_from_is_err_and c.from_residual.result c.from_residual.ensures.1 in
    rw (p.1, p.2) (λ other. states_fail states (get_or shapes i none) (drop (i + 1) shapes) c.loop-aggregate.cursor.rest.now (fault_in c.in_err-show_statistics.field-0.0) (states_at shapes c.args.cursor.now.rest.now)
    (c.in_err-show_statistics.ensures.shown other) (subst (λ left. states_behind states left c.loop-aggregate.cursor.rest.now ≡ states_at shapes c.args.cursor.now.rest.now) split read))

pub returns-in_err-show_statistics-clause-part : goal.returns-in_err-show_statistics-clause-part
returns-in_err-show_statistics-clause-part c = still c.args.cursor.now c.loop-aggregate.cursor c.show_statistics.new.cursor c.loop-aggregate.invariant.5 c.in_err-show_statistics.ensures.part
