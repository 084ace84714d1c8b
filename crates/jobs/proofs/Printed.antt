-- Standard output is reported only where what is shown can't be printed, behind a state that was saved.
use Rattle.std.proofs.Common.{◌≡◌, ◌≢◌, ℕ, Bool, List, inl, inr, sym, ◌∙◌}
use Rattle.std.specs.Prelude.{None, Option, Some}
use Rattle.meaning.specs.declared.catalog.Catalog.{Catalog}
use Rattle.partial_codec.specs.Job.{JobSpec}
use Rattle.command_line.specs.declared.commands.GatherCommand.{GatherCommand}
use Rattle.folders.proofs.Unprinted.{catalog_apart, memory_apart, unread_apart}
use Rattle.folders.specs.Folder.{Holds}
use Rattle.folders.specs.declared.refusal.Refusal.{Refusal}
use Rattle.folders.specs.declared.refusal.Refusal.TheVariants as refusal
use Rattle.jobs.specs.Gathering.{IsJournalRefused, IsSaveRefused, IsTakingRefused, IsTogetherRefused, IsUnkept, IsUnopened, IsUnreturned}
use Rattle.jobs.specs.Job.{IsCutRefused, IsJobRefused, IsQueryRefused, IsRefusedOver}

-- ---- the job

cut_apart : (holds : Holds) (folder : List ℕ) (e : Refusal) → IsCutRefused holds folder e → e ≢ refusal.CannotPrint
cut_apart holds folder e (inl unread) = unread_apart _ e unread
cut_apart holds folder e (inr (bytes, fault, held, wrong, returned)) = λ is. let bad : refusal.File fault ≡ refusal.CannotPrint = sym returned ∙ is in cc bad

query_apart : (catalog : Catalog) (query : List ℕ) (e : Refusal) → IsQueryRefused catalog query e → e ≢ refusal.CannotPrint
query_apart catalog query e (inl memory) = memory_apart e memory
query_apart catalog query e (inr (inl (fault, other, wrong, returned))) = λ is. let bad : refusal.Sql fault ≡ refusal.CannotPrint = sym returned ∙ is in cc bad
query_apart catalog query e (inr (inr (fault, wrong, returned))) = λ is. let bad : refusal.Plan fault ≡ refusal.CannotPrint = sym returned ∙ is in cc bad

over_apart : (holds : Holds) (folder : List ℕ) (catalog : Catalog) (query : List ℕ) (e : Refusal) → IsRefusedOver holds folder catalog query e → e ≢ refusal.CannotPrint
over_apart holds folder catalog query e (inl cut) = cut_apart holds folder e cut
over_apart holds folder catalog query e (inr (load, cut, there, refused)) = query_apart catalog query e refused

job_apart : (holds : Holds) (folder query : List ℕ) (e : Refusal) → IsJobRefused holds folder query e → e ≢ refusal.CannotPrint
job_apart holds folder query e (inl refused) = catalog_apart holds folder e refused
job_apart holds folder query e (inr (catalog, there, refused)) = over_apart holds folder catalog query e refused

-- ---- the files

unkept_apart : (journaled : Bool) (long : Type 0) (e : Refusal) → IsUnkept journaled long e → e ≢ refusal.CannotPrint
unkept_apart journaled long e (fault, has, other, returned) = λ is. let bad : refusal.Journal fault ≡ refusal.CannotPrint = sym returned ∙ is in cc bad

unreturned_apart : (journaled : Bool) (long : Type 0) (e : Refusal) → IsUnreturned journaled long e → e ≢ refusal.CannotPrint
unreturned_apart journaled long e (inl memory) = memory_apart e memory
unreturned_apart journaled long e (inr (inl unnamed)) = λ is. let bad : refusal.CannotReport ≡ refusal.CannotPrint = sym unnamed ∙ is in cc bad
unreturned_apart journaled long e (inr (inr unkept)) = unkept_apart journaled long e unkept

taking_apart : (journaled : Bool) (holds : Holds) (paths : List (List ℕ)) (e : Refusal) → IsTakingRefused journaled holds paths e → e ≢ refusal.CannotPrint
taking_apart journaled holds paths e (inl unreturned) = unreturned_apart journaled _ e unreturned
taking_apart journaled holds paths e (inr (path, among, unread)) = unread_apart path e unread

unopened_apart : (held : Option (List ℕ)) (job : JobSpec) (journal : List ℕ) (e : Refusal) → IsUnopened held job journal e → e ≢ refusal.CannotPrint
unopened_apart held job journal e (inl unread) = unread_apart journal e unread
unopened_apart held job journal e (inr (fault, wrong, returned)) = λ is. let bad : refusal.Journal fault ≡ refusal.CannotPrint = sym returned ∙ is in cc bad

journal_apart : (holds : Holds) (journal : Option (List ℕ)) (job : JobSpec) (e : Refusal) → IsJournalRefused holds journal job e → e ≢ refusal.CannotPrint
journal_apart holds None job e refused = absurd refused
journal_apart holds (Some path) job e refused = unopened_apart (holds path) job path e refused

pub together_apart : (holds : Holds) (command : GatherCommand) (e : Refusal) → IsTogetherRefused holds command e → e ≢ refusal.CannotPrint
together_apart holds command e (inl refused) = job_apart holds command.folder command.query e refused
together_apart holds command e (inr (job, is_job, inl refused)) = journal_apart holds command.journal job e refused
together_apart holds command e (inr (job, is_job, inr refused)) = taking_apart _ holds command.files e refused

-- ---- the state

pub save_apart : (save : Option (List ℕ)) (e : Refusal) → IsSaveRefused save e → e ≢ refusal.CannotPrint
save_apart None e refused = absurd refused
save_apart (Some path) e (inl memory) = memory_apart e memory
save_apart (Some path) e (inr unwritten) = λ is. let bad : refusal.CannotWrite path ≡ refusal.CannotPrint = sym unwritten ∙ is in cc bad
