-- Proofs of the goals of `OrderedSets::of_entries` (`ordered_sets`).
use Rattle.std.proofs.Common.{ap, ◌∙◌}
use Rattle.distinct_sets.specs.Sets.{lent, sets_of}
use Rattle.distinct_sets.proofs.ByGroup.{sets_moved}
use Rattle.distinct_sets.proofs.ordered_sets.OrderedSets.of_entries.Goals as goal

pub returns : goal.returns
returns c =
    sets_moved (lent c.in_ok-entries.entries.items) _ c.in_ok-sort.ensures.permutation c.args.groups
    ∙ ap (sets_of c.args.groups) c.in_ok-entries.ensures
