-- Refusals by which no file is reported as one that can't be written.
use Rattle.std.proofs.Common.{◌≡◌, ◌≢◌, ℕ, List, inl, inr, sym, ◌∙◌}
use Rattle.folders.specs.Folder.{Holds}
use Rattle.folders.specs.Refused.{IsTriedFor, IsUnread}
use Rattle.folders.specs.Tables.{IsCatalogRefused}
use Rattle.folders.specs.declared.refusal.Refusal.{Refusal}
use Rattle.folders.specs.declared.refusal.Refusal.TheVariants as refusal

-- no file is reported as one that can't be written
abbrev pub IsOther : Refusal → Type 0
IsOther e = (path : List ℕ) → e ≢ refusal.CannotWrite path

pub other_tried : (tries : List ℕ → Type 0) (e : Refusal) → IsOther e → IsTriedFor tries e
other_tried tries e other = λ path is. absurd (other path is)

pub memory_other : (e : Refusal) → e ≡ refusal.Memory → IsOther e
memory_other e memory = λ path is. let bad : refusal.Memory ≡ refusal.CannotWrite path = sym memory ∙ is in cc bad

pub unread_other : (read : List ℕ) (e : Refusal) → IsUnread read e → IsOther e
unread_other read e (inl memory) = memory_other e memory
unread_other read e (inr unread) = λ path is. let bad : refusal.CannotRead read ≡ refusal.CannotWrite path = sym unread ∙ is in cc bad

pub catalog_other : (holds : Holds) (folder : List ℕ) (e : Refusal) → IsCatalogRefused holds folder e → IsOther e
catalog_other holds folder e (inl unread) = unread_other _ e unread
catalog_other holds folder e (inr (bytes, fault, held, wrong, returned)) = λ path is. let bad : refusal.Catalog fault ≡ refusal.CannotWrite path = sym returned ∙ is in cc bad
