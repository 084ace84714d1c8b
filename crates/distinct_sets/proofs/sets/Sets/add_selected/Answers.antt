-- Proofs of the goals of `Sets::add_selected` (`sets`).
use Rattle.aggregate_states.specs.Values.{selected}
use Rattle.vectors.specs.Vector.{values_of}
use Rattle.distinct_sets.proofs.Entering.{inside, sets_grown, values_came}
use Rattle.distinct_sets.proofs.sets.Sets.add_selected.Goals as goal

pub invariant_of-self : goal.invariant_of-self
invariant_of-self c =
    let groups = c.self.inside.groups in
    let old = c.self.inside.list in
    let here = inside groups c.args.group_index c.in_ok-group_index.group_index old c.args.self.now c.self.view_is c.in_ok-group_index.ensures c.requires.group_index in
    sets_grown groups c.in_ok-group_index.group_index old c.enter_batch.new.self here c.enter_batch.ensures.grown c.self.invariant

pub returns-clause-ok : goal.returns-clause-ok
returns-clause-ok c =
    values_came c.self.inside.groups c.args.group_index c.in_ok-group_index.group_index c.self.inside.list c.args.self.now c.self.view_is c.in_ok-group_index.ensures
    c.enter_batch.new.self c.enter_batch.result (selected (values_of c.args.lanes.now) c.args.selection.now.list) c.enter_batch.ensures.ok
