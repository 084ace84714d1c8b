-- Proofs of the goals of `is_entry` (`sets`).
use Rattle.std.proofs.Common.{ap, rules, ◌∙◌, ◌≡◌}
use Rattle.meaning.specs.Order.{value_in}
use Rattle.distinct_sets.specs.declared.entry.Entry.{Entry}
use Rattle.distinct_sets.proofs.Entering.{stands}
use Rattle.distinct_sets.proofs.sets.is_entry.Goals as goal

pub returns-then-entry-group_index : goal.returns-then-entry-group_index
returns-then-entry-group_index c = λ yes.
    let e = c.in-Some.entry.now in
    let is = c.in-Some.ensures.is e in
    let of_group : e.group_index ≡ c.args.group_index = search rules in
    stands c.args.entries.now c.args.at c.args.group_index (value_in c.args.value) e c.in-Some.ensures.within
    (ap (λ (f : Entry). f.group_index) is ∙ of_group) (ap (λ (f : Entry). f.value) is ∙ c.is_value.ensures yes)
