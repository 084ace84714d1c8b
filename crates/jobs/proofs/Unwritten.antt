-- Only a file that was to be created is reported as one that can't be written.
use Rattle.std.proofs.Common.{◌≡◌, ◌≢◌, ℕ, Bool, List, inl, inr, sym, ◌∙◌}
use Rattle.std.specs.Prelude.{None, Option, Some}
use Rattle.meaning.specs.declared.catalog.Catalog.{Catalog}
use Rattle.meaning.specs.declared.plan.Join.{Join}
use Rattle.partial_codec.specs.Job.{JobSpec}
use Rattle.command_line.specs.declared.commands.GatherCommand.{GatherCommand}
use Rattle.command_line.specs.declared.commands.WorkCommand.{WorkCommand}
use Rattle.folders.specs.Folder.{Holds}
use Rattle.folders.proofs.Others.{IsOther, catalog_other, memory_other, unread_other}
use Rattle.folders.specs.declared.refusal.Refusal.{Refusal}
use Rattle.folders.specs.declared.refusal.Refusal.TheVariants as refusal
use Rattle.jobs.specs.Gathering.{IsJournalRefused, IsTakingRefused, IsTogetherRefused, IsUnkept, IsUnopened, IsUnprinted, IsUnreturned}
use Rattle.jobs.specs.Job.{IsCutRefused, IsJobRefused, IsQueryRefused, IsRefusedOver}
use Rattle.jobs.specs.Working.{AreDimensionsUnread, IsAnswerRefused, IsFileRefused, IsSpelledRefused}

-- ---- the job

cut_other : (holds : Holds) (folder : List ℕ) (e : Refusal) → IsCutRefused holds folder e → IsOther e
cut_other holds folder e (inl unread) = unread_other _ e unread
cut_other holds folder e (inr (bytes, fault, held, wrong, returned)) = λ path is. let bad : refusal.File fault ≡ refusal.CannotWrite path = sym returned ∙ is in cc bad

query_other : (catalog : Catalog) (query : List ℕ) (e : Refusal) → IsQueryRefused catalog query e → IsOther e
query_other catalog query e (inl memory) = memory_other e memory
query_other catalog query e (inr (inl (fault, other, wrong, returned))) = λ path is. let bad : refusal.Sql fault ≡ refusal.CannotWrite path = sym returned ∙ is in cc bad
query_other catalog query e (inr (inr (fault, wrong, returned))) = λ path is. let bad : refusal.Plan fault ≡ refusal.CannotWrite path = sym returned ∙ is in cc bad

over_other : (holds : Holds) (folder : List ℕ) (catalog : Catalog) (query : List ℕ) (e : Refusal) → IsRefusedOver holds folder catalog query e → IsOther e
over_other holds folder catalog query e (inl cut) = cut_other holds folder e cut
over_other holds folder catalog query e (inr (load, cut, there, refused)) = query_other catalog query e refused

job_other : (holds : Holds) (folder query : List ℕ) (e : Refusal) → IsJobRefused holds folder query e → IsOther e
job_other holds folder query e (inl refused) = catalog_other holds folder e refused
job_other holds folder query e (inr (catalog, there, refused)) = over_other holds folder catalog query e refused

-- ---- `work`

file_other : (job : JobSpec) (k vector : ℕ) (fragment : List ℕ) (dims : List (List ℕ)) (e : Refusal) → IsFileRefused job k vector fragment dims e → IsOther e
file_other job k vector fragment dims e (inl memory) = memory_other e memory
file_other job k vector fragment dims e (inr (fault, wrong, returned)) = λ path is. let bad : refusal.Work fault ≡ refusal.CannotWrite path = sym returned ∙ is in cc bad

dimensions_other : (folder : List ℕ) (joins : List Join) (e : Refusal) → AreDimensionsUnread folder joins e → IsOther e
dimensions_other folder joins e (inl memory) = memory_other e memory
dimensions_other folder joins e (inr (join, among, unread)) = unread_other _ e unread

answer_other : (holds : Holds) (command : WorkCommand) (job : JobSpec) (e : Refusal) → IsAnswerRefused holds command job e → IsOther e
answer_other holds command job e (inl unread) = unread_other _ e unread
answer_other holds command job e (inr (inl dims)) = dimensions_other command.folder job.plan.joins e dims
answer_other holds command job e (inr (inr (fragment, dims, are, refused))) = file_other job command.fragment command.vector fragment dims e refused

pub spelled_other : (holds : Holds) (command : WorkCommand) (e : Refusal) → IsSpelledRefused holds command e → IsOther e
spelled_other holds command e (inl refused) = job_other holds command.folder command.query e refused
spelled_other holds command e (inr (job, is_job, refused)) = answer_other holds command job e refused

-- ---- `gather`

unkept_other : (journaled : Bool) (long : Type 0) (e : Refusal) → IsUnkept journaled long e → IsOther e
unkept_other journaled long e (fault, has, other, returned) = λ path is. let bad : refusal.Journal fault ≡ refusal.CannotWrite path = sym returned ∙ is in cc bad

unreturned_other : (journaled : Bool) (long : Type 0) (e : Refusal) → IsUnreturned journaled long e → IsOther e
unreturned_other journaled long e (inl memory) = memory_other e memory
unreturned_other journaled long e (inr (inl unnamed)) = λ path is. let bad : refusal.CannotReport ≡ refusal.CannotWrite path = sym unnamed ∙ is in cc bad
unreturned_other journaled long e (inr (inr unkept)) = unkept_other journaled long e unkept

taking_other : (journaled : Bool) (holds : Holds) (paths : List (List ℕ)) (e : Refusal) → IsTakingRefused journaled holds paths e → IsOther e
taking_other journaled holds paths e (inl unreturned) = unreturned_other journaled _ e unreturned
taking_other journaled holds paths e (inr (path, among, unread)) = unread_other path e unread

unopened_other : (held : Option (List ℕ)) (job : JobSpec) (journal : List ℕ) (e : Refusal) → IsUnopened held job journal e → IsOther e
unopened_other held job journal e (inl unread) = unread_other journal e unread
unopened_other held job journal e (inr (fault, wrong, returned)) = λ path is. let bad : refusal.Journal fault ≡ refusal.CannotWrite path = sym returned ∙ is in cc bad

journal_other : (holds : Holds) (journal : Option (List ℕ)) (job : JobSpec) (e : Refusal) → IsJournalRefused holds journal job e → IsOther e
journal_other holds None job e refused = absurd refused
journal_other holds (Some path) job e refused = unopened_other (holds path) job path e refused

pub together_other : (holds : Holds) (command : GatherCommand) (e : Refusal) → IsTogetherRefused holds command e → IsOther e
together_other holds command e (inl refused) = job_other holds command.folder command.query e refused
together_other holds command e (inr (job, is_job, inl refused)) = journal_other holds command.journal job e refused
together_other holds command e (inr (job, is_job, inr refused)) = taking_other _ holds command.files e refused

pub unprinted_other : (e : Refusal) → IsUnprinted e → IsOther e
unprinted_other e (inl memory) = memory_other e memory
unprinted_other e (inr unprinted) = λ path is. let bad : refusal.CannotPrint ≡ refusal.CannotWrite path = sym unprinted ∙ is in cc bad
