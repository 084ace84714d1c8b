-- Refusals that aren't that of standard output.
use Rattle.std.proofs.Common.{◌≡◌, ◌≢◌, ℕ, List, inl, inr, sym, ◌∙◌}
use Rattle.folders.specs.Folder.{Holds}
use Rattle.folders.specs.Refused.{IsUnread}
use Rattle.folders.specs.Tables.{IsCatalogRefused}
use Rattle.folders.specs.declared.refusal.Refusal.{Refusal}
use Rattle.folders.specs.declared.refusal.Refusal.TheVariants as refusal

pub memory_apart : (e : Refusal) → e ≡ refusal.Memory → e ≢ refusal.CannotPrint
memory_apart e memory = λ is. let bad : refusal.Memory ≡ refusal.CannotPrint = sym memory ∙ is in cc bad

pub unread_apart : (path : List ℕ) (e : Refusal) → IsUnread path e → e ≢ refusal.CannotPrint
unread_apart path e (inl memory) = memory_apart e memory
unread_apart path e (inr unread) = λ is. let bad : refusal.CannotRead path ≡ refusal.CannotPrint = sym unread ∙ is in cc bad

pub catalog_apart : (holds : Holds) (folder : List ℕ) (e : Refusal) → IsCatalogRefused holds folder e → e ≢ refusal.CannotPrint
catalog_apart holds folder e (inl unread) = unread_apart _ e unread
catalog_apart holds folder e (inr (bytes, fault, held, wrong, returned)) = λ is. let bad : refusal.Catalog fault ≡ refusal.CannotPrint = sym returned ∙ is in cc bad
