-- Proofs of the goals of `EntryList::push` (`sets`).
use Rattle.std.proofs.Common.{rules, ◌≡◌, ◌∷◌, ◌++◌, []}
use Rattle.meaning.specs.Order.{value_in}
use Rattle.distinct_sets.proofs.Entering.{pushed_entered, pushed_grown}
use Rattle.distinct_sets.proofs.sets.EntryList.push.Goals as goal

pub returns-clause-ok : goal.returns-clause-ok
returns-clause-ok c =
    let is : c.push.new.self.items ≡ c.args.self.now ++ (record { group_index = c.args.group_index; value = value_in c.args.value }) ∷ [] = search rules in
    pushed_entered c.args.group_index (value_in c.args.value) c.args.self.now c.push.new.self.items is

pub returns-clause-grown : goal.returns-clause-grown
returns-clause-grown c =
    let is : c.push.new.self.items ≡ c.args.self.now ++ (record { group_index = c.args.group_index; value = value_in c.args.value }) ∷ [] = search rules in
    pushed_grown c.args.group_index (value_in c.args.value) c.args.self.now c.push.new.self.items c.requires is
