-- Proofs of the goals of `EntryList::push_int` (`sets`).
use Rattle.std.proofs.Common.{rules, ◌≡◌, ◌∷◌, ◌++◌, []}
use Rattle.meaning.specs.declared.value.Value.TheVariants.{Int}
use Rattle.distinct_sets.proofs.TakenSlots.{slots_stay, stands_now}
use Rattle.distinct_sets.proofs.sets.EntryList.push_int.Goals as goal

pub invariant_of-self-2 : goal.invariant_of-self-2
invariant_of-self-2 c =
    let g = c.args.group_index in
    let int = c.args.int.now in
    let old = c.self.inside.entries.items in
    let new = c.push.new.self.items in
    let is : new ≡ old ++ (record { group_index = g; value = Int int }) ∷ [] = search rules in
    c.add.ensures new (stands_now g int old new is) (slots_stay g int old new is c.make_room.new.self.slots.items (c.make_room.ensures old c.self.invariant))
