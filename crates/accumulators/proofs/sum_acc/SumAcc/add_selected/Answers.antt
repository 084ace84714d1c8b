-- Proofs of the goals of `SumAcc::add_selected` (`sum_acc`).
use Rattle.std.proofs.Common.{ℕ, ◌<◌, length, subst}
use Rattle.meaning.specs.declared.plan.AggregateKind.TheVariants.{Sum}
use Rattle.vectors.specs.Vector.{values_of}
use Rattle.aggregate_states.proofs.Growing.{adds_up_more, room_more}
use Rattle.accumulators.proofs.sum_acc.SumAcc.add_selected.Goals as goal

pub loop-k-preserved : goal.loop-k-preserved
loop-k-preserved c =
    let a = c.args in
    let here : c.loop-k.k < length a.selection.now.list = subst (λ (n : ℕ). c.loop-k.k < n) c.len-k-end.ensures.value c.loop-k-test.true in
    record {
      whole = adds_up_more Sum (values_of a.lanes.now) a.selection.now.list a.self.now c.loop-k.k here c.loop-k.self c.add.new.self _ c.selected_value.ensures.value c.add.ensures c.loop-k.invariant.whole;
      few = room_more Sum c.loop-k.self c.add.new.self _ _ c.loop-k.k c.add.ensures c.loop-k.invariant.few;
    }
