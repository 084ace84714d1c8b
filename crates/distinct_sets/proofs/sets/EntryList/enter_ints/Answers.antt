-- Proofs of the goals of `EntryList::enter_ints` (`sets`).
use Rattle.distinct_sets.proofs.Entering.{ints_more, grown_more}
use Rattle.distinct_sets.proofs.sets.EntryList.enter_ints.Goals as goal

pub loop-k-preserved : goal.loop-k-preserved
loop-k-preserved c =
    let g = c.args.group_index in
    let old = c.args.self.now in
    let now = c.loop-k.self in
    let new = c.enter_int.new.self in
    record {
      ok = ints_more g c.args.ints.now c.loop-k.k old now new c.loop-k-test.true c.loop-k.invariant.ok c.in_ok-enter_int.ensures.ok;
      grown = grown_more g old now new c.loop-k.invariant.grown c.in_ok-enter_int.ensures.grown;
    }
