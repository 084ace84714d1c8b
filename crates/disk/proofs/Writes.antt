-- What a crash leaves around a write and a sync.
use Rattle.std.specs.Prelude.{◌≡◌, ◌⊎◌, ℕ, ◌≤◌, ◌||◌, false, List, [], ◌∷◌, length, Result, Ok, Err, OnOk, OnErr}
use Rattle.std.proofs.Common.{inl, inr, sym, ap, ◌∙◌, subst}
use Rattle.disk.specs.declared.disk.Range.{Range}
use Rattle.disk.specs.Disk.{Unsynced, Synced, Asked, State, IsLoose, IsLeft, IsImage, AgreesOutside, IsTorn, also_written, after_write}
use Rattle.disk.specs.declared.disk.DiskFault.{DiskFault}
use Rattle.disk.proofs.Offsets.{overwritten_outside, agrees_itself}
use Rattle.disk.proofs.Moments.{Leaves}

-- what a crash leaves of a synced disk is what reads give
pub synced_image : (s : State) (image : List ℕ) → s.unsynced ≡ Synced → IsImage s image → image ≡ s.reads
synced_image s image synced left = subst (λ (u : Unsynced). IsLeft s.reads u image) synced left

-- of a synced disk a crash leaves what has P where what reads give has it
pub synced_leaves : (s : State) (P : List ℕ → Type 0) → s.unsynced ≡ Synced → P s.reads → Leaves P s
synced_leaves s P synced stands image left = subst P (sym (synced_image s image synced left)) stands

module _ (r : Range) (old : State) (synced : old.unsynced ≡ Synced) where
  Outside : List ℕ → Type 0
  Outside = AgreesOutside r old.reads

  -- a write to a synced disk: all that stood outside the range stands in each crash's bytes
  asked_leaves : (new : State) → new.unsynced ≡ also_written r (length old.reads) old.unsynced → AgreesOutside r old.reads new.reads → Leaves (AgreesOutside r old.reads) new
  asked_leaves new asked outside image left =
      let is : new.unsynced ≡ Asked (r ∷ []) (length old.reads) = asked ∙ ap (also_written r (length old.reads)) synced in
      let loose : IsLoose new.reads (r ∷ []) (length old.reads) image = subst (λ (u : Unsynced). IsLeft new.reads u image) is left in
      record { longer = loose.long; stay = λ offset below out. loose.stay offset below (ap (λ b. b || false) out) ∙ outside.stay offset below out }

  pub before_leaves : Leaves (AgreesOutside r old.reads) old
  before_leaves = synced_leaves old (AgreesOutside r old.reads) synced (agrees_itself r old.reads)

  pub torn_leaves : (new : State) → (new ≡ old) ⊎ IsTorn r old new → Leaves (AgreesOutside r old.reads) new
  torn_leaves new (inl same) = subst (λ (s : State). Leaves (AgreesOutside r old.reads) s) (sym same) before_leaves
  torn_leaves new (inr torn) = asked_leaves new torn.asked torn.outside

-- a write that succeeded
pub written_leaves : (from : ℕ) (bytes : List ℕ) (old new : State) → old.unsynced ≡ Synced → from ≤ length old.reads → new ≡ after_write from bytes old
    → Leaves (AgreesOutside (record { from = from; count = length bytes }) old.reads) new
written_leaves from bytes old new synced within is =
    subst (λ (s : State). Leaves (AgreesOutside (record { from = from; count = length bytes }) old.reads) s) (sym is)
    (asked_leaves (record { from = from; count = length bytes }) old synced (after_write from bytes old) (λ i. also_written (record { from = from; count = length bytes }) (length old.reads) old.unsynced) (overwritten_outside from bytes old.reads within))

-- behind a sync a crash leaves what reads give, or where it failed what a crash could leave before
pub after_sync : {X : Type 0} (result : Result X DiskFault) (mid new : State) (P : List ℕ → Type 0)
    → OnOk result (new ≡ record { reads = mid.reads; unsynced = Synced }) → OnErr result (new ≡ mid) → P mid.reads → Leaves P mid → Leaves P new
after_sync (Ok x) mid new P synced unsynced stands leaves =
    subst (λ (s : State). Leaves P s) (sym synced) (synced_leaves (record { reads = mid.reads; unsynced = Synced }) P (λ i. Synced) stands)
after_sync (Err e) mid new P synced unsynced stands leaves = subst (λ (s : State). Leaves P s) (sym unsynced) leaves
