-- Proofs of the goals of `Sets::add_states` (`sets`).
use Rattle.distinct_sets.proofs.Entering.{inside, sets_grown, states_came}
use Rattle.distinct_sets.proofs.sets.Sets.add_states.Goals as goal

pub invariant_of-self : goal.invariant_of-self
invariant_of-self c =
    let groups = c.self.inside.groups in
    let old = c.self.inside.list in
    let here = inside groups c.args.group_index c.in_ok-group_index.group_index old c.args.self.now c.self.view_is c.in_ok-group_index.ensures c.requires in
    sets_grown groups c.in_ok-group_index.group_index old c.enter_states.new.self here c.enter_states.ensures.grown c.self.invariant

pub returns-clause-ok : goal.returns-clause-ok
returns-clause-ok c =
    states_came c.self.inside.groups c.args.group_index c.in_ok-group_index.group_index c.self.inside.list c.args.self.now c.self.view_is c.in_ok-group_index.ensures
    c.enter_states.new.self c.enter_states.result c.args.states.now c.enter_states.ensures.sets c.enter_states.ensures.ok
