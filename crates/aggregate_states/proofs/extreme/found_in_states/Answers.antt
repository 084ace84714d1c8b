-- Proofs of the goals of `found_in_states` (`extreme`).
use Rattle.std.proofs.Common.{◌∙◌, ap, arith}
use Rattle.meaning.specs.declared.answer.Statistics.{Statistics}
use Rattle.meaning.specs.Aggregate.{merge, no_statistics, kept_by}
use Rattle.meaning.specs.Order.{value_in}
use Rattle.aggregate_states.specs.Kinds.{end_state, kind_from}
use Rattle.aggregate_states.proofs.Growing.{merges_up_more, entries_left}
use Rattle.aggregate_states.proofs.extreme.found_in_states.Goals as goal

pub loop-k-preserved : goal.loop-k-preserved
loop-k-preserved c =
    let a = c.args in
    let k = c.loop-k.k in
    let s = c.index-states-k.result in
    let now = end_state a.end c.loop-k.found.0 (value_in c.loop-k.found.1.0) in
    let is_new = c.plus-found.ensures.value ∙ ap (λ (s : Statistics). merge now s) (c.of_state.ensures.value ∙ ap (kept_by (kind_from a.end)) c.index-states-k.is) in
    let left = entries_left a.states.now k s c.loop-k-test.true in
    let count = ap (λ (s : Statistics). s.count) c.index-states-k.is in
    record {
      whole = merges_up_more (kind_from a.end) a.states.now no_statistics k c.loop-k-test.true s now _ is_new c.loop-k.invariant.whole;
      few = omega (arith, left, count, c.plus-found.ensures.count, c.of_state.ensures.count, c.loop-k.invariant.few);
      spelled = c.plus-found.ensures.spelled c.loop-k.invariant.spelled c.of_state.ensures.spelled;
    }
