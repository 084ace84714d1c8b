-- Hash tables whose slots hold integers and the groups that have them.
use Rattle.std.specs.Prelude.{◌≡◌, ℕ, ℤ, ◌+◌, ◌*◌, true, List, All}
use Rattle.meaning.specs.declared.value.Value.TheVariants.{Int}
use Rattle.distinct_sets.specs.declared.entry.Entry.{Entry}
use Rattle.distinct_sets.specs.declared.int_slot.IntSlot.{IntSlot}
use Rattle.distinct_sets.specs.Marks.{IsMarked}
use Rattle.distinct_sets.specs.Sets.{has, in_group}

-- these entries have a slot's integer in the set of each group that it marks
abbrev pub IsSlotOf : List Entry → IntSlot → Type 0
IsSlotOf entries slot = (offset : ℕ) → IsMarked slot.marks offset → has (Int slot.value) (in_group (slot.block * 32 + offset) entries) ≡ true

-- a slot is that of an integer in the groups of a block, or has no mark
abbrev pub IsFor : IntSlot → ℕ → ℤ → Type 0
IsFor slot block value = (offset : ℕ) → IsMarked slot.marks offset → (slot.block ≡ block) × (slot.value ≡ value)

abbrev pub AreSlotsOf : List Entry → List IntSlot → Type 0
AreSlotsOf entries slots = All (IsSlotOf entries) slots
