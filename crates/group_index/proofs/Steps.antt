-- The steps of a search for a key.
use Rattle.std.specs.Prelude.{◌≡◌, ◌⊎◌, ℕ, ◌-◌, ◌^◌, ◌<◌, ◌≤◌, Bool, false, List, length, get_or, Option, Some, None, IfNone}
use Rattle.std.specs.List.{slice_get}
use Rattle.std.proofs.Common.{sym, ap, subst, ◌∙◌, arith, inl, inr}
use Rattle.std.proofs.lemmas.Bool.{cases_lt}
use Rattle.std.proofs.lemmas.Option.{get_or_from_slice_get, slice_get-get_or}
use Rattle.hash_slots.specs.Probing.{slot_at, ArePassed}
use Rattle.group_index.specs.declared.index.Slot.{Slot}
use Rattle.group_index.specs.Probing.{ComesTo, IsFull}

pub if_none : {X P : Type 0} (r : Option X) → P → IfNone r P
if_none None is = is
if_none (Some x) is = tt

some_not_none : {X : Type 0} (x : X) → Some x ≡ None → ⊥
some_not_none x e = cc

same_or_past : (a b : ℕ) → a ≤ b → (a ≡ b) ⊎ (a < b)
same_or_past a b h = grind arith

module _ (slots : List Slot) (hash : ℕ) (Gives : ℕ → Option Slot → Type 0) (Stops Says : Slot → Bool → Type 0)
    (gives : (step : ℕ) (given : Option Slot) → Gives step given → given ≡ slice_get slots (slot_at hash step (length slots)))
    (goes_on : (s : Slot) → Stops s false → Says s false) where
  -- where a search comes past its end, there is a full slot at the end
  full_at : (end step : ℕ) (d : Slot) → end ≤ step → ComesTo hash slots step → IsFull slots (slot_at hash step (length slots)) d → IsFull slots (slot_at hash end (length slots)) d
  full_at end step d past comes full = elim (same_or_past end step past) [
    | inl same ↦ subst (λ n. IsFull slots (slot_at hash n (length slots)) d) (sym same) full
    | inr behind ↦ comes end d behind
  ]

  passed_at : (end : ℕ) → ArePassed Gives Stops end → (step : ℕ) (d : Slot) → step < end → Says (get_or slots (slot_at hash step (length slots)) d) false
  passed_at end passed step d before =
      let at = passed.each step before in
      let n = slot_at hash step (length slots) in
      subst (λ s. Says s false) (sym (get_or_from_slice_get slots n at.0 d (sym (gives step (Some at.0) at.1)))) (goes_on at.0 at.2)

  -- a search that stops nowhere has passed all slots that it comes to
  pub stops_nowhere : (end : ℕ) → ArePassed Gives Stops end → (end < length slots → Gives end None) → (step : ℕ) (d : Slot) → step < length slots → ComesTo hash slots step
      → IsFull slots (slot_at hash step (length slots)) d → Says (get_or slots (slot_at hash step (length slots)) d) false
  stops_nowhere end passed stuck step d below comes full = elim (cases_lt step end) [
    | inl before ↦ passed_at end passed step d before
    | inr past ↦ (
        let n = slot_at hash end (length slots) in
        let there = full_at end step d past comes full in
        absurd (some_not_none (get_or slots n d) (sym (slice_get-get_or slots n d there.0) ∙ sym (gives end None (stuck (omega (arith, past, below)))))))
  ]

  -- nor does it come past an empty one
  pub stops_at_empty : (end : ℕ) (s : Slot) → Gives end (Some s) → s.group_index ≡ 2 ^ 32 - 1 → ArePassed Gives Stops end → (step : ℕ) (d : Slot) → ComesTo hash slots step
      → IsFull slots (slot_at hash step (length slots)) d → Says (get_or slots (slot_at hash step (length slots)) d) false
  stops_at_empty end s given empty passed step d comes full = elim (cases_lt step end) [
    | inl before ↦ passed_at end passed step d before
    | inr past ↦ (
        let n = slot_at hash end (length slots) in
        let is : get_or slots n d ≡ s = get_or_from_slice_get slots n s d (sym (gives end (Some s) given)) in
        absurd ((full_at end step d past comes full).1 (ap (λ (slot : Slot). slot.group_index) is ∙ empty)))
  ]
