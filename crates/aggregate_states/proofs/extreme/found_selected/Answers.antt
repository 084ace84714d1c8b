-- Proofs of the goals of `found_selected` (`extreme`).
use Rattle.std.proofs.Common.{ℕ, ◌<◌, length, ◌∙◌, ap, subst, arith}
use Rattle.meaning.specs.declared.answer.Statistics.{Statistics}
use Rattle.meaning.specs.Aggregate.{merge, no_statistics}
use Rattle.meaning.specs.Order.{value_in}
use Rattle.aggregate_states.specs.Kinds.{end_state, kind_from}
use Rattle.vectors.specs.Vector.{values_of}
use Rattle.aggregate_states.proofs.Growing.{adds_up_more}
use Rattle.aggregate_states.proofs.extreme.found_selected.Goals as goal

pub loop-k-preserved : goal.loop-k-preserved
loop-k-preserved c =
    let a = c.args in
    let here : c.loop-k.k < length a.selection.now.list = subst (λ (n : ℕ). c.loop-k.k < n) c.len-k-end.ensures.value c.loop-k-test.true in
    let now = end_state a.end c.loop-k.found.0 (value_in c.loop-k.found.1.0) in
    let is_new = c.plus-found.ensures.value ∙ ap (λ (s : Statistics). merge now s) (c.of_value.ensures.value a.end) in
    record {
      whole = adds_up_more (kind_from a.end) (values_of a.lanes.now) a.selection.now.list no_statistics c.loop-k.k here now _ _ c.selected_value.ensures.value is_new c.loop-k.invariant.whole;
      few = omega (arith, c.plus-found.ensures.count, c.of_value.ensures.one, c.loop-k.invariant.few);
      spelled = c.plus-found.ensures.spelled c.loop-k.invariant.spelled (c.of_value.ensures.spelled c.selected_value.ensures.spelled);
    }
