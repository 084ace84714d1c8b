-- What is gathered, in memory and with a journal.
use Rattle.std.proofs.Common.{◌≡◌, ℕ, Bool, true, false, List, [], ◌∷◌, length, slice_index_or, refl, sym, ap, ◌∙◌, subst, inl, inr}
use Rattle.std.specs.Prelude.{Option, None, Some}
use Rattle.meaning.specs.Cut.{Cut}
use Rattle.meaning.specs.Gather.{joined}
use Rattle.meaning.specs.Said.{Cell}
use Rattle.meaning.specs.declared.answer.Cell.TheVariants.{Nothing}
use Rattle.meaning_laws.proofs.Cells.{join_nothing}
use Rattle.partial_codec.specs.Job.{JobSpec}
use Rattle.gathering.specs.Gathering.{GatherSpec}
use Rattle.folders.specs.Folder.{Holds}
use Rattle.folders.specs.Refused.{IsFirstUnread, IsNextOpened, IsShut}
use Rattle.folders.specs.declared.refusal.Refusal.{Refusal}
use Rattle.folders.specs.declared.refusal.Refusal.TheVariants as refusal
use Rattle.command_line.specs.declared.commands.GatherCommand.{GatherCommand}
use Rattle.jobs.specs.Job.{IsJobOf}
use Rattle.jobs.specs.Gathering.{AreTaken, IsBegun, IsGatheredOf, IsGatherUnread, IsJournaled, IsOfJournal, IsTakingRefused, IsUnopened, gathered, has_journal, state, takings_of}
use Rattle.jobs.specs.Taking.{TookFiles}
use Rattle.jobs.proofs.Together.{gathered_from}

-- ---- what was said before the files

-- cells say what they are
pub said_alone : (cut : Cut) (cells : List Cell) → length cells ≡ length cut → cells ≡ gathered cut (state cells ∷ [])
said_alone cut cells long = gathered_from cut cells (state cells ∷ []) long (λ k below. sym (join_nothing (slice_index_or cells k Nothing)))

module _ (holds : Holds) (command : GatherCommand) (job : JobSpec) (paths : List (List ℕ)) (err_before err_after : Option (List ℕ)) (old new : GatherSpec)
    (is_job : IsJobOf holds command.folder command.query job) (same : old.job ≡ job) (all : paths ≡ command.files) where
  job_of : (journaled : Bool) → TookFiles journaled holds old new paths err_before err_after → IsJobOf holds command.folder command.query new.job
  job_of journaled took = subst (IsJobOf holds command.folder command.query) (sym (took.job ∙ same)) is_job

  taken_of : (journaled : Bool) (took : TookFiles journaled holds old new paths err_before err_after) → has_journal command.journal ≡ journaled → AreTaken (has_journal command.journal) holds new.job command.files err_before err_after took.files
  taken_of journaled took is =
      subst (λ (j : Bool). AreTaken j holds new.job command.files err_before err_after took.files) (sym is)
      (subst (λ (g : JobSpec). AreTaken journaled holds g command.files err_before err_after took.files) (sym took.job)
      (subst (λ (l : List (List ℕ)). AreTaken journaled holds old.job l err_before err_after took.files) all took.taken))

  pub gathered_in_memory : command.journal ≡ None → old.cells ≡ joined job.cut [] → TookFiles false holds old new paths err_before err_after → IsGatheredOf holds command err_before err_after new
  gathered_in_memory none fresh took = record {
    is_job = job_of false took;
    journal = [];
    begun = subst (λ (j : Option (List ℕ)). IsBegun holds j new.job []) (sym none) refl;
    files = took.files;
    taken = taken_of false took (ap has_journal none);
    state =
        took.state [] (fresh ∙ ap (λ (j : JobSpec). joined j.cut []) (sym same))
        ∙ ap (λ (j : JobSpec). gathered j.cut (takings_of took.files)) (sym took.job);
  }

  pub gathered_in_journal : (path : List ℕ) → command.journal ≡ Some path → IsJournaled (holds path) job old.cells → TookFiles true holds old new paths err_before err_after → IsGatheredOf holds command err_before err_after new
  gathered_in_journal path some journaled took = record {
    is_job = job_of true took;
    journal = state old.cells ∷ [];
    begun =
        subst (λ (j : Option (List ℕ)). IsBegun holds j new.job (state old.cells ∷ [])) (sym some)
        (old.cells, refl, subst (λ (j : JobSpec). IsJournaled (holds path) j old.cells) (sym (took.job ∙ same)) journaled);
    files = took.files;
    taken = taken_of true took (ap has_journal some);
    state =
        took.state (state old.cells ∷ []) (said_alone old.job.cut old.cells (journaled.each ∙ ap (λ (j : JobSpec). length j.cut) (sym same)))
        ∙ ap (λ (j : JobSpec). gathered j.cut (state old.cells ∷ takings_of took.files)) (sym took.job);
  }

-- ---- refused

pub taking_refused : (journaled : Bool) (holds : Holds) (journal : Option (List ℕ)) (paths files : List (List ℕ)) (e : Refusal) → has_journal journal ≡ journaled → paths ≡ files → IsTakingRefused journaled holds paths e
    → IsTakingRefused (has_journal journal) holds files e
taking_refused journaled holds journal paths files e is all refused =
    subst (λ (j : Bool). IsTakingRefused j holds files e) (sym is) (subst (λ (l : List (List ℕ)). IsTakingRefused journaled holds l e) all refused)

-- the journal's file can't be read
pub journal_unread : (holds : Holds) (opens shuts : List ℕ → Type 0) (command : GatherCommand) (path : List ℕ) (job : JobSpec) (e : Refusal) → command.journal ≡ Some path → IsUnopened (holds path) job path e → IsShut shuts e
    → IsGatherUnread opens shuts command e
journal_unread holds opens shuts command path job e some (inl (inl memory)) shut = λ named is. let same : refusal.Memory ≡ refusal.CannotRead named = sym memory ∙ is in cc same
journal_unread holds opens shuts command path job e some (inl (inr unread)) shut = λ named is.
    let same : refusal.CannotRead path ≡ refusal.CannotRead named = sym unread ∙ is in
    let here : named ≡ path = cc same in
    inr (inl (subst (λ (j : Option (List ℕ)). IsOfJournal shuts j named) (sym some) (here, shut named is)))
journal_unread holds opens shuts command path job e some (inr (fault, none, is)) shut = λ named unread. let same : refusal.Journal fault ≡ refusal.CannotRead named = sym is ∙ unread in cc same

-- the first of the files
pub files_unread : (opens shuts : List ℕ → Type 0) (command : GatherCommand) (paths : List (List ℕ)) (e : Refusal) → paths ≡ command.files → IsFirstUnread opens paths e → IsGatherUnread opens shuts command e
files_unread opens shuts command paths e all first = λ path is. inr (inr (subst (λ (l : List (List ℕ)). IsNextOpened opens l path) all (first path is)))
