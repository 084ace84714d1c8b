-- Proofs of the goals of `Sets::add` (`sets`).
use Rattle.std.proofs.Common.{◌∷◌, []}
use Rattle.meaning.specs.Order.{value_in}
use Rattle.distinct_sets.proofs.Entering.{inside, sets_grown, values_came}
use Rattle.distinct_sets.proofs.sets.Sets.add.Goals as goal

pub invariant_of-self : goal.invariant_of-self
invariant_of-self c =
    let groups = c.self.inside.groups in
    let old = c.self.inside.list in
    let here = inside groups c.args.group_index c.in_ok-group_index.group_index old c.args.self.now c.self.view_is c.in_ok-group_index.ensures c.requires.group_index in
    sets_grown groups c.in_ok-group_index.group_index old c.enter_present.new.self here c.enter_present.ensures.grown c.self.invariant

pub returns-clause-ok : goal.returns-clause-ok
returns-clause-ok c =
    values_came c.self.inside.groups c.args.group_index c.in_ok-group_index.group_index c.self.inside.list c.args.self.now c.self.view_is c.in_ok-group_index.ensures
    c.enter_present.new.self c.enter_present.result (value_in c.args.value ∷ []) c.enter_present.ensures.ok
