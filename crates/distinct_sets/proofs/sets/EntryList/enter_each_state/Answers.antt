-- Proofs of the goals of `EntryList::enter_each_state` (`sets`).
use Rattle.distinct_sets.proofs.Entering.{grown_more, sets_more, states_more}
use Rattle.distinct_sets.proofs.sets.EntryList.enter_each_state.Goals as goal

pub loop-k-preserved : goal.loop-k-preserved
loop-k-preserved c =
    let g = c.args.group_index in
    let old = c.args.self.now in
    let now = c.loop-k.self in
    let new = c.enter_state.new.self in
    let one = c.index-states-k in
    record {
      sets = sets_more c.args.states.now c.loop-k.k one.result one.result c.loop-k-test.true one.is c.loop-k.invariant.sets c.in_ok-enter_state.ensures.set;
      ok = states_more g c.args.states.now c.loop-k.k old now new one.result one.result c.loop-k-test.true one.is c.loop-k.invariant.ok c.in_ok-enter_state.ensures.ok;
      grown = grown_more g old now new c.loop-k.invariant.grown c.in_ok-enter_state.ensures.grown;
    }
