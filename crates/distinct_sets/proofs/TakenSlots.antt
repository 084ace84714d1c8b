-- Slots that hold integers of sets, while entries come.
use Rattle.std.specs.Prelude.{◌≡◌, ℕ, ◌+◌, ◌*◌, ℤ, true, List, [], ◌∷◌, ◌++◌, get_or}
use Rattle.std.proofs.Common.{sym, subst}
use Rattle.meaning.specs.declared.value.Value.TheVariants.{Int}
use Rattle.distinct_sets.specs.declared.entry.Entry.{Entry}
use Rattle.distinct_sets.specs.declared.int_slot.IntSlot.{IntSlot}
use Rattle.distinct_sets.specs.Sets.{has, in_group}
use Rattle.distinct_sets.specs.Slots.{AreSlotsOf}
use Rattle.distinct_sets.proofs.Entering.{pushed_entered, there_more}

module _ (g : ℕ) (int : ℤ) (old new : List Entry) (is : new ≡ old ++ (record { group_index = g; value = Int int }) ∷ []) where
  -- what was in a set still is
  pub slots_stay : (slots : List IntSlot) → AreSlotsOf old slots → AreSlotsOf new slots
  slots_stay slots all = λ i d inside offset marked.
      let group_index = (slot_at i d).block * 32 + offset in
      subst (λ (es : List Entry). has (Int (slot_at i d).value) (in_group group_index es) ≡ true) (sym is)
      (there_more group_index old ((record { group_index = g; value = Int int }) ∷ []) (Int (slot_at i d).value) (all i d inside offset marked))
    where
      slot_at : ℕ → IntSlot → IntSlot
      slot_at i d = get_or slots i d

  -- and what came is
  pub stands_now : has (Int int) (in_group g new) ≡ true
  stands_now = (pushed_entered g (Int int) old new is).there.0
