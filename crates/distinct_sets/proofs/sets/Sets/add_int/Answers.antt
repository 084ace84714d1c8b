-- Proofs of the goals of `Sets::add_int` (`sets`).
use Rattle.std.proofs.Common.{◌∷◌, [], get_or, pos, refl}
use Rattle.meaning.specs.declared.value.Value.TheVariants.{Int}
use Rattle.distinct_sets.proofs.Entering.{inside, sets_grown, values_came}
use Rattle.distinct_sets.proofs.sets.Sets.add_int.Goals as goal

pub invariant_of-self : goal.invariant_of-self
invariant_of-self c =
    let groups = c.self.inside.groups in
    let g = c.args.group_index in
    let old = c.self.inside.list in
    let here = inside groups g g old c.args.self.now c.self.view_is refl c.requires.group_index in
    sets_grown groups g old c.enter_int.new.self here c.enter_int.ensures.grown c.self.invariant

pub returns-clause-ok : goal.returns-clause-ok
returns-clause-ok c =
    let g = c.args.group_index in
    values_came c.self.inside.groups g g c.self.inside.list c.args.self.now c.self.view_is refl
    c.enter_int.new.self c.enter_int.result (Int (get_or c.args.ints.now c.args.k (pos 0)) ∷ []) c.enter_int.ensures.ok
