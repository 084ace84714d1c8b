-- Proofs of the goals of `EntryList::enter_values` (`sets`).
use Rattle.std.proofs.Common.{◌∙◌}
use Rattle.meaning.specs.Order.{value_in}
use Rattle.distinct_sets.proofs.Entering.{values_more, grown_more}
use Rattle.distinct_sets.proofs.sets.EntryList.enter_values.Goals as goal

pub loop-k-preserved : goal.loop-k-preserved
loop-k-preserved c =
    let g = c.args.group_index in
    let old = c.args.self.now in
    let now = c.loop-k.self in
    let new = c.enter.new.self in
    record {
      ok = values_more g c.args.values.now c.loop-k.k old now new (value_in c.as_value_ref.result) c.index-values-k.result c.loop-k-test.true
          (c.as_value_ref.ensures ∙ c.index-values-k.is) c.loop-k.invariant.ok c.in_ok-enter.ensures.ok;
      grown = grown_more g old now new c.loop-k.invariant.grown c.in_ok-enter.ensures.grown;
    }
