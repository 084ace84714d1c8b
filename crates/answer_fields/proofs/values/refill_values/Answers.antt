-- Proofs of the goals of `refill_values` (`values`).
use Rattle.std.proofs.Common.{◌≡◌, ◌+◌, ◌<◌, ◌++◌, List, [], ◌∷◌, length, take, slice_index_or, refl, ap, sym, ◌∙◌, arith}
use Rattle.std.proofs.lemmas.Result.{err_from_is_err_and}
use Rattle.std.proofs.lemmas.List.{take_more}
use Rattle.std.proofs.lemmas.List.Folds.{list_all-append}
use Rattle.meaning.specs.declared.value.Value.{Value}
use Rattle.meaning.specs.declared.value.Value.TheVariants.{Null}
use Rattle.meaning.proofs.Tests.{both}
use Rattle.aggregate_states.specs.Values.{is_spelled}
use Rattle.answer_fields.specs.LayoutReading.{value_at}
use Rattle.wire.specs.Reading.{repeat_at}
use Rattle.wire.proofs.Loops.{goes_on, fails, finishes}
use Rattle.answer_fields.proofs.values.refill_values.Goals as goal

pub returns-in_err-rest-clause-read : goal.returns-in_err-rest-clause-read
returns-in_err-rest-clause-read c =
    let l = c.loop-position in
    let p = err_from_is_err_and c.from_residual.result c.from_residual.ensures.1 in
    rw (p.1, p.2) (λ not_memory. fails value_at (take l.position l.values.items) c.args.count l.position l.rest.now c.in_err-rest.field-0.0 (repeat_at value_at c.args.count c.args.bytes.now) c.loop-position-test.true (c.in_err-rest.ensures.read not_memory) l.invariant.read)

pub loop-position-preserved : goal.loop-position-preserved
loop-position-preserved c =
    let l = c.loop-position in
    let values = c.refill_at.new.values.items in
    let value = slice_index_or values l.position Null in
    let here : l.position < length values = c.in_ok-rest.ensures.reached in
    let front : take (l.position + 1) values ≡ take l.position l.values.items ++ value ∷ [] =
    take_more values l.position Null here ∙ ap (λ (vs : List Value). vs ++ value ∷ []) c.in_ok-rest.ensures.before in
    record {
      reached = omega (arith, here);
      read = rw front (goes_on value_at (take l.position l.values.items) c.args.count l.position l.rest.now value c.in_ok-rest.rest.now (repeat_at value_at c.args.count c.args.bytes.now) c.loop-position-test.true c.in_ok-rest.ensures.read l.invariant.read);
      spelled = rw (front, list_all-append is_spelled) (both _ _ l.invariant.spelled (both _ _ c.in_ok-rest.ensures.spelled refl));
    }

pub returns-clause-read : goal.returns-clause-read
returns-clause-read c =
    let l = c.loop-position in
    let all : l.position ≡ c.args.count = omega arith in
    let kept : c.from_vec.result ≡ take l.position l.values.items = c.from_vec.ensures ∙ c.truncate.ensures.items ∙ ap (λ n. take n l.values.items) (sym all) in
    rw kept (finishes value_at (take l.position l.values.items) c.args.count l.position l.rest.now (repeat_at value_at c.args.count c.args.bytes.now) c.loop-position-test.false l.invariant.read)
