-- What taking one file more does to a coordinator.
use Rattle.std.specs.Prelude.{◌≡◌, ℕ, ◌<◌, ◌≤◌, ◌^◌, Bool, true, false, List, [], ◌∷◌, ◌++◌, length, Option, Some, ⊤}
use Rattle.std.specs.Io.KnownBytes.{Appends}
use Rattle.partial_codec.specs.Job.{JobSpec}
use Rattle.gathering.specs.Gathering.{GatherSpec}
use Rattle.gathering.specs.declared.fault.GatherFault.{GatherFault}
use Rattle.gathering.specs.declared.fault.GatherFault.TheVariants as fault
use Rattle.folders.specs.Folder.{AreHeld, Holds}
use Rattle.folders.specs.declared.journal_refusal.JournalRefusal.TheVariants as journal_refusal
use Rattle.folders.specs.declared.refusal.Refusal.{Refusal}
use Rattle.folders.specs.declared.refusal.Refusal.TheVariants as refusal
use Rattle.journal.specs.declared.fault.JournalFault.{JournalFault}
use Rattle.journal.specs.declared.fault.JournalFault.TheVariants as of_journal
use Rattle.jobs.specs.declared.takes_answers.TakeFault.{TakeFault}
use Rattle.jobs.specs.declared.takes_answers.TakeFault.TheVariants as take
use Rattle.jobs.specs.Gathering.{AreTaken, Taken, Taking, IsTaking, IsUnrecorded, gathered, line_of_taking, obstacle_of, takings_of}

-- what files say together becomes what they say with this one
pub record Adds (old new : GatherSpec) (taking : Taking) : Type 0 where
  pub job : new.job ≡ old.job
  pub state : (takings : List Taking) → old.cells ≡ gathered old.job.cut takings → new.cells ≡ gathered old.job.cut (takings ++ taking ∷ [])

-- bytes were taken
pub record TakesBytes (journaled : Bool) (old new : GatherSpec) (bytes : List ℕ) : Type 0 where
  pub taking : Taking
  pub is : IsTaking journaled old.job bytes taking
  pub adds : Adds old new taking
  pub unnamed : (path : List ℕ) → line_of_taking path taking ≡ []

-- why they aren't, where there is no journal: the first obstacle, or memory ran out
abbrev pub IsFailure : JobSpec → List ℕ → GatherFault → Type 0
IsFailure job bytes fault.Memory = ⊤
IsFailure job bytes (fault.Decode e) = obstacle_of false job bytes ≡ Some e
IsFailure job bytes fault.OtherJob = ⊥
IsFailure job bytes fault.Writer = ⊥

-- the same, as it is returned; or the answer can't be put into the journal
abbrev pub IsRefused : Bool → Bool → JobSpec → List ℕ → TakeFault → Type 0
IsRefused journaled is_open job bytes take.Memory = ⊤
IsRefused journaled is_open job bytes (take.Refused e) = obstacle_of journaled job bytes ≡ Some e
IsRefused journaled is_open job bytes (take.Journal e) = (journaled ≡ true) × IsUnrecorded (is_open ≡ false) (2 ^ 32 ≤ length bytes) e

-- how often a journal's disk has failed, how often it was full, and whether the journal can still be written to
pub record Failing : Type 0 where
  pub failures : ℕ
  pub fulls : ℕ
  pub is_open : Bool

-- a count rose where the fault says so; where the bytes are to be passed over, nothing failed
abbrev pub HasRisen : Failing → Failing → TakeFault → Type 0
HasRisen old new take.Memory = ⊤
HasRisen old new (take.Refused e) = new.is_open ≡ old.is_open
HasRisen old new (take.Journal journal_refusal.Device) = old.failures < new.failures
HasRisen old new (take.Journal journal_refusal.Full) = old.fulls < new.fulls
HasRisen old new (take.Journal journal_refusal.NotAJournal) = ⊤
HasRisen old new (take.Journal journal_refusal.OpenAgain) = ⊤
HasRisen old new (take.Journal journal_refusal.TooLong) = ⊤

-- a count isn't 0 where the refusal says so
pub record IsCounted (now : Failing) (e : Refusal) : Type 0 where
  pub failures : e ≡ refusal.Journal journal_refusal.Device → 0 < now.failures
  pub fulls : e ≡ refusal.Journal journal_refusal.Full → 0 < now.fulls

-- what is left then: all as it was, unless the journal failed, behind which nothing is taken
abbrev pub Leaves : GatherSpec → GatherSpec → TakeFault → Type 0
Leaves old new take.Memory = new ≡ old
Leaves old new (take.Refused e) = new ≡ old
Leaves old new (take.Journal e) = ⊤

-- as which a journal's fault is returned
abbrev pub take_fault_of : JournalFault → TakeFault
take_fault_of of_journal.Memory = take.Memory
take_fault_of (of_journal.Decode e) = take.Refused e
take_fault_of of_journal.Device = take.Journal journal_refusal.Device
take_fault_of of_journal.Full = take.Journal journal_refusal.Full
take_fault_of of_journal.NotAJournal = take.Journal journal_refusal.NotAJournal
take_fault_of of_journal.OpenAgain = take.Journal journal_refusal.OpenAgain
take_fault_of of_journal.TooLong = take.Journal journal_refusal.TooLong

-- of one by which no answer is refused
abbrev pub of_take : TakeFault → Refusal
of_take take.Memory = refusal.Memory
of_take (take.Refused e) = refusal.Memory
of_take (take.Journal e) = refusal.Journal e

-- bytes were taken, or their path was named
pub record TakesOrNames (journaled : Bool) (old new : GatherSpec) (path bytes : List ℕ) (err_before err_after : Option (List ℕ)) : Type 0 where
  pub taking : Taking
  pub is : IsTaking journaled old.job bytes taking
  pub adds : Adds old new taking
  pub named : Appends err_before err_after (line_of_taking path taking)

-- the same, of the path's file
pub record TakesFile (journaled : Bool) (holds : Holds) (old new : GatherSpec) (path : List ℕ) (err_before err_after : Option (List ℕ)) : Type 0 where
  pub bytes : List ℕ
  pub held : AreHeld (holds path) bytes
  pub takes : TakesOrNames journaled old new path bytes err_before err_after

-- what was said becomes that with what the files under these paths say
pub record TookFiles (journaled : Bool) (holds : Holds) (old new : GatherSpec) (paths : List (List ℕ)) (err_before err_after : Option (List ℕ)) : Type 0 where
  pub files : List Taken
  pub taken : AreTaken journaled holds old.job paths err_before err_after files
  pub job : new.job ≡ old.job
  pub state : (takings : List Taking) → old.cells ≡ gathered old.job.cut takings → new.cells ≡ gathered old.job.cut (takings ++ takings_of files)
