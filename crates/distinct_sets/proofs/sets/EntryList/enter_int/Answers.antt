-- Proofs of the goals of `EntryList::enter_int` (`sets`).
use Rattle.std.proofs.Common.{List, subst}
use Rattle.meaning.specs.declared.value.Value.TheVariants.{Int}
use Rattle.distinct_sets.specs.declared.entry.Entry.{Entry}
use Rattle.distinct_sets.specs.Slots.{AreSlotsOf}
use Rattle.distinct_sets.proofs.Entering.{found_entered}
use Rattle.distinct_sets.proofs.sets.EntryList.enter_int.Goals as goal

pub returns-then-finds-clause-ok : goal.returns-then-finds-clause-ok
returns-then-finds-clause-ok c =
    let now = c.args.self.now in
    let known = subst (λ (es : List Entry). AreSlotsOf es c.self.inside.ints.slots.items) c.self.view_is c.self.invariant in
    found_entered c.args.group_index (Int c.args.int.now) now (c.finds.ensures now known c.if-finds.true)
