-- Proofs of the goals of `EntryList::enter_each` (`sets`).
use Rattle.std.proofs.Common.{ℕ, ◌<◌, length, subst}
use Rattle.meaning.specs.Order.{value_in}
use Rattle.vectors.specs.Vector.{values_of}
use Rattle.distinct_sets.proofs.Entering.{selected_more, grown_more}
use Rattle.distinct_sets.proofs.sets.EntryList.enter_each.Goals as goal

pub loop-k-preserved : goal.loop-k-preserved
loop-k-preserved c =
    let g = c.args.group_index in
    let old = c.args.self.now in
    let now = c.loop-k.self in
    let new = c.enter_present.new.self in
    let here : c.loop-k.k < length c.args.selection.now.list = subst (λ (n : ℕ). c.loop-k.k < n) c.len-k-end.ensures.value c.loop-k-test.true in
    record {
      ok = selected_more g (values_of c.args.lanes.now) c.args.selection.now.list c.loop-k.k old now new (value_in c.selected_value.result) here c.selected_value.ensures.value
          c.loop-k.invariant.ok c.in_ok-enter_present.ensures.ok;
      grown = grown_more g old now new c.loop-k.invariant.grown c.in_ok-enter_present.ensures.grown;
    }
