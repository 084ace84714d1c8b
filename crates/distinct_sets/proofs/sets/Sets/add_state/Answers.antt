-- Proofs of the goals of `Sets::add_state` (`sets`).
use Rattle.distinct_sets.proofs.Entering.{inside, sets_grown, state_came}
use Rattle.distinct_sets.proofs.sets.Sets.add_state.Goals as goal

pub invariant_of-self : goal.invariant_of-self
invariant_of-self c =
    let groups = c.self.inside.groups in
    let old = c.self.inside.list in
    let here = inside groups c.args.group_index c.in_ok-group_index.group_index old c.args.self.now c.self.view_is c.in_ok-group_index.ensures c.requires in
    sets_grown groups c.in_ok-group_index.group_index old c.enter_state.new.self here c.enter_state.ensures.grown c.self.invariant

pub returns-clause-ok : goal.returns-clause-ok
returns-clause-ok c =
    state_came c.self.inside.groups c.args.group_index c.in_ok-group_index.group_index c.self.inside.list c.args.self.now c.self.view_is c.in_ok-group_index.ensures
    c.enter_state.new.self c.enter_state.result c.args.state.now c.enter_state.ensures.set c.enter_state.ensures.ok
