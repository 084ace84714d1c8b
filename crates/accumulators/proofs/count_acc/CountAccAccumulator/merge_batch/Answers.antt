-- Proofs of the goals of `CountAcc::merge_batch` (`count_acc`).
use Rattle.std.proofs.Common.{◌∙◌, ap}
use Rattle.meaning.specs.declared.answer.Statistics.{Statistics}
use Rattle.meaning.specs.declared.plan.AggregateKind.TheVariants.{Count}
use Rattle.meaning.specs.Aggregate.{merge, kept_by}
use Rattle.aggregate_states.proofs.Growing.{merges_up_more, room_left}
use Rattle.accumulators.proofs.count_acc.CountAccAccumulator.merge_batch.Goals as goal

pub loop-k-preserved : goal.loop-k-preserved
loop-k-preserved c =
    let a = c.args in
    let s = c.index-states-k.result in
    let is_new = c.add_state.ensures ∙ ap (λ (t : Statistics). merge c.loop-k.self (kept_by Count t)) c.index-states-k.is in
    record {
      whole = merges_up_more Count a.states.now a.self.now c.loop-k.k c.loop-k-test.true s c.loop-k.self c.add_state.new.self is_new c.loop-k.invariant.whole;
      few = room_left Count a.states.now c.loop-k.k s c.loop-k.self c.add_state.new.self c.loop-k-test.true is_new c.loop-k.invariant.few;
    }
