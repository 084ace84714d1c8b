-- What becomes of files of answers and states, and what they say together.
use Rattle.std.specs.Prelude.{◌≡◌, ◌⊎◌, ℕ, ◌==◌, ◌<◌, ◌≤◌, ◌^◌, Bool, true, false, not, ◌&&◌, if◌then◌else◌, List, [], ◌∷◌, ◌++◌, map, flat_map, length, slice_index_or, All, Contains, Option, Some, None, IfSome, ⊤}
use Rattle.std.specs.List.{range_with_len}
use Rattle.std.specs.Io.KnownBytes.{Appends}
use Rattle.disk.specs.Disk.{DiskSpec, IsHonest}
use Rattle.meaning.specs.Cut.{Cut}
use Rattle.meaning.specs.Gather as gather
use Rattle.meaning.specs.Gather.{join_cells, joined, output, preview, report}
use Rattle.meaning.specs.Print.{report_text}
use Rattle.meaning.specs.Said.{Answer}
use Rattle.meaning.specs.Said.{Cell}
use Rattle.meaning.specs.declared.answer.Cell.TheVariants.{Nothing, One}
use Rattle.meaning.specs.declared.plan.Plan.{Plan}
use Rattle.partial_codec.specs.Answer.{Spells, obstacle}
use Rattle.answer_fields.specs.Fault.{number_of}
use Rattle.partial_codec.specs.Job.{JobSpec}
use Rattle.partial_codec.specs.State.{SpellsState, is_state, state_bytes, state_obstacle}
use Rattle.answer_fields.specs.declared.fault.DecodeFault.{DecodeFault}
use Rattle.gathering.specs.Gathering.{GatherSpec}
use Rattle.gathering.specs.Report.{summary}
use Rattle.gathering.specs.declared.report.Report.{Report}
use Rattle.journal.specs.Fault.{IsNoFile}
use Rattle.journal.specs.Journal.{IsJournal, max_records}
use Rattle.folders.specs.Folder.{AreHeld, Change, Holds, WritesOne}
use Rattle.folders.specs.Refused.{IsNextOpened, IsUnread, IsUnwritten}
use Rattle.jobs.specs.PassedOver.{passed_over_line}
use Rattle.folders.specs.declared.journal_refusal.JournalRefusal.{JournalRefusal}
use Rattle.folders.specs.declared.journal_refusal.JournalRefusal.TheVariants as journal_refusal
use Rattle.folders.specs.declared.refusal.Refusal.{Refusal}
use Rattle.folders.specs.declared.refusal.Refusal.TheVariants as refusal
use Rattle.jobs.specs.Job.{IsJobOf, IsJobRefused, IsOfJob}
use Rattle.command_line.specs.declared.commands.GatherCommand.{GatherCommand}

-- ---- a file

-- what becomes of a file's bytes: they are an answer, the cells of a state, or passed over
pub data Taking : Type 0 where
  answer : Answer → Taking
  state : List Cell → Taking
  passed : DecodeFault → Taking

-- what bytes are tried as: a state where they begin as one, or else an answer; with a journal always an answer
abbrev pub as_state : Bool → List ℕ → Bool
as_state journaled bytes = not journaled && is_state bytes

-- the first obstacle to the bytes' being that
abbrev pub obstacle_of : Bool → JobSpec → List ℕ → Option DecodeFault
obstacle_of journaled job bytes = if as_state journaled bytes then state_obstacle job bytes else obstacle job bytes

-- an answer or a state is taken where the bytes spell it; they are passed over for the first obstacle
abbrev pub IsTaking : Bool → JobSpec → List ℕ → Taking → Type 0
IsTaking journaled job bytes (answer a) = (as_state journaled bytes ≡ false) × Spells job bytes a
IsTaking journaled job bytes (state cells) = (as_state journaled bytes ≡ true) × SpellsState job bytes cells
IsTaking journaled job bytes (passed fault) = obstacle_of journaled job bytes ≡ Some fault

-- a file, and what becomes of it
pub record Taken : Type 0 where
  pub path : List ℕ
  pub bytes : List ℕ
  pub taking : Taking

-- the bytes are those of the path's file, and this becomes of them
pub record IsTaken (journaled : Bool) (holds : Holds) (job : JobSpec) (file : Taken) : Type 0 where
  pub held : AreHeld (holds file.path) file.bytes
  pub taking : IsTaking journaled job file.bytes file.taking

-- the line that names a file that was passed over
abbrev pub line_of_taking : List ℕ → Taking → List ℕ
line_of_taking path (answer a) = []
line_of_taking path (state cells) = []
line_of_taking path (passed fault) = passed_over_line (number_of fault) path

abbrev pub line_of : Taken → List ℕ
line_of file = line_of_taking file.path file.taking

-- ---- what they say together

-- what is said of a fragment
abbrev pub cell_in : ℕ → Taking → Cell
cell_in k (answer a) = if a.k == k then One a.body else Nothing
cell_in k (state cells) = slice_index_or cells k Nothing
cell_in k (passed fault) = Nothing

-- the cell of a fragment, joined of all that is said of it
abbrev pub cell_among : ℕ → List Taking → Cell
cell_among k [] = Nothing
cell_among k (t ∷ ts) = join_cells (cell_in k t) (cell_among k ts)

-- the cell of each fragment
abbrev pub gathered : Cut → List Taking → List Cell
gathered cut takings = map (λ k. cell_among k takings) (range_with_len 0 (length cut))

abbrev pub takings_of : List Taken → List Taking
takings_of files = map (λ file. file.taking) files

-- what is shown of a coordinator: its report, or the preview in its place
abbrev pub shown : Bool → Plan → List Cell → gather.Report
shown true plan cells = output (preview plan cells)
shown false plan cells = report plan cells

-- ---- a journal

abbrev pub has_journal : Option (List ℕ) → Bool
has_journal None = false
has_journal (Some path) = true

-- cells that bytes are a journal of; those of no answer where there are no bytes
abbrev pub AreJournaled : List ℕ → JobSpec → List Cell → Type 0
AreJournaled bytes job cells = ((bytes ≡ []) × (cells ≡ joined job.cut []))
    ⊎ ((answers : List Answer) × (length answers ≤ max_records) × IsJournal job answers bytes × (cells ≡ joined job.cut answers))

-- a cell for each fragment; where the file's bytes are known, they are a journal of these
pub record IsJournaled (held : Option (List ℕ)) (job : JobSpec) (cells : List Cell) : Type 0 where
  pub each : length cells ≡ length job.cut
  pub of_bytes : (bytes : List ℕ) → held ≡ Some bytes → AreJournaled bytes job cells

-- what was said before the files: nothing, or as a state does, what the journal's file holds
abbrev pub IsBegun : Holds → Option (List ℕ) → JobSpec → List Taking → Type 0
IsBegun holds None job takings = takings ≡ []
IsBegun holds (Some path) job takings = (cells : List Cell) × (takings ≡ state cells ∷ []) × IsJournaled (holds path) job cells

-- ---- the command

-- these files were taken, and those that were passed over are named on standard error
pub record AreTaken (journaled : Bool) (holds : Holds) (job : JobSpec) (paths : List (List ℕ)) (err_before err_after : Option (List ℕ)) (files : List Taken) : Type 0 where
  pub paths_are : map (λ file. file.path) files ≡ paths
  pub each : All (IsTaken journaled holds job) files
  pub named : Appends err_before err_after (flat_map line_of files)

-- a coordinator of the query's job that holds what the journal, if there is one, and the files say together
pub record IsGatheredOf (holds : Holds) (command : GatherCommand) (err_before err_after : Option (List ℕ)) (g : GatherSpec) : Type 0 where
  pub is_job : IsJobOf holds command.folder command.query g.job
  pub journal : List Taking
  pub begun : IsBegun holds command.journal g.job journal
  pub files : List Taken
  pub taken : AreTaken (has_journal command.journal) holds g.job command.files err_before err_after files
  pub state : g.cells ≡ gathered g.job.cut (journal ++ takings_of files)

-- the state was written under its path, if it has one
abbrev pub IsSaved : Option (List ℕ) → List ℕ → Option (List Change) → Option (List Change) → Type 0
IsSaved None spelled before after = after ≡ before
IsSaved (Some path) spelled before after = WritesOne path (λ bytes. bytes ≡ spelled) before after

-- no file was written, or the state was saved
abbrev pub IsSaveLeft : Option (List ℕ) → List ℕ → Option (List Change) → Option (List Change) → Type 0
IsSaveLeft save spelled before after = (after ≡ before) ⊎ IsSaved save spelled before after

-- the state was saved, and what is shown of it printed and returned
pub record IsReported (g : GatherSpec) (save : Option (List ℕ)) (asked : Bool) (before after : Option (List ℕ)) (wrote_before wrote_after : Option (List Change)) (given : Report) : Type 0 where
  pub saved : IsSaved save (state_bytes g.job g.cells) wrote_before wrote_after
  pub printed : Appends before after (report_text g.job.plan (shown asked g.job.plan g.cells))
  pub returned : given ≡ summary (shown asked g.job.plan g.cells)

-- what the files say together was gathered, saved and reported
pub record IsGathered (holds : Holds) (command : GatherCommand) (before after err_before err_after : Option (List ℕ)) (wrote_before wrote_after : Option (List Change)) (given : Report) : Type 0 where
  pub gather : GatherSpec
  pub files : IsGatheredOf holds command err_before err_after gather
  pub reported : IsReported gather command.save command.preview before after wrote_before wrote_after given

-- no file was written, or the state that the files say together was saved
abbrev pub IsGatherLeft : Holds → GatherCommand → Option (List ℕ) → Option (List Change) → Option (List Change) → Type 0
IsGatherLeft holds command err before after = (after ≡ before)
    ⊎ ((gather : GatherSpec) × (named : Option (List ℕ)) × IsGatheredOf holds command err named gather × IsSaved command.save (state_bytes gather.job gather.cells) before after)

-- where standard output failed, the state was saved
abbrev pub IsSavedFirst : Option (List ℕ) → List ℕ → Option (List Change) → Option (List Change) → Refusal → Type 0
IsSavedFirst save spelled before after e = e ≡ refusal.CannotPrint → IsSaved save spelled before after

-- the same of the state that the files say together
abbrev pub IsGatherSavedFirst : Holds → GatherCommand → Option (List ℕ) → Option (List Change) → Option (List Change) → Refusal → Type 0
IsGatherSavedFirst holds command err before after e = e ≡ refusal.CannotPrint
    → (gather : GatherSpec) × (named : Option (List ℕ)) × IsGatheredOf holds command err named gather × IsSaved command.save (state_bytes gather.job gather.cells) before after

-- ---- refused

-- the disk failed in the call; or where these are so, it had failed before, or the answer is too long
abbrev pub IsUnrecorded : Type 0 → Type 0 → JournalRefusal → Type 0
IsUnrecorded before long journal_refusal.Device = ⊤
IsUnrecorded before long journal_refusal.Full = ⊤
IsUnrecorded before long journal_refusal.NotAJournal = ⊥
IsUnrecorded before long journal_refusal.OpenAgain = before
IsUnrecorded before long journal_refusal.TooLong = long

-- an answer can't be put into the journal, whose disk had not failed before
abbrev pub IsUnkept : Bool → Type 0 → Refusal → Type 0
IsUnkept journaled long e = (fault : JournalRefusal) × (journaled ≡ true) × IsUnrecorded ⊥ long fault × (e ≡ refusal.Journal fault)

-- a file can't be named, its answer not be put into the journal, or memory ran out
abbrev pub IsUnreturned : Bool → Type 0 → Refusal → Type 0
IsUnreturned journaled long e = (e ≡ refusal.Memory) ⊎ (e ≡ refusal.CannotReport) ⊎ IsUnkept journaled long e

-- bytes that are held, where they are known, are more than a record of a journal can have
abbrev pub IsTooLong : Option (List ℕ) → Type 0
IsTooLong held = IfSome held (λ bytes. 2 ^ 32 ≤ length bytes)

-- the path's file can't be read or named, or its answer not be put into the journal
abbrev pub IsFileRefused : Bool → Holds → List ℕ → Refusal → Type 0
IsFileRefused journaled holds path e = IsUnreturned journaled (IsTooLong (holds path)) e ⊎ IsUnread path e

-- the same of one of the files
abbrev pub IsTakingRefused : Bool → Holds → List (List ℕ) → Refusal → Type 0
IsTakingRefused journaled holds paths e = IsUnreturned journaled ((path : List ℕ) × Contains paths path × IsTooLong (holds path)) e
    ⊎ ((path : List ℕ) × Contains paths path × IsUnread path e)

-- the disk failed, or this is wrong
abbrev pub IsNoJournal : Type 0 → JournalRefusal → Type 0
IsNoJournal wrong journal_refusal.Device = ⊤
IsNoJournal wrong journal_refusal.Full = ⊤
IsNoJournal wrong journal_refusal.NotAJournal = wrong
IsNoJournal wrong journal_refusal.OpenAgain = ⊥
IsNoJournal wrong journal_refusal.TooLong = ⊥

-- a disk holds no journal of the job, or none can be made on it
abbrev pub IsNotOnDisk : DiskSpec → JobSpec → Refusal → Type 0
IsNotOnDisk disk job e = (e ≡ refusal.Memory) ⊎ ((fault : JournalRefusal) × IsNoJournal (IsHonest disk → IsNoFile job disk.now.reads) fault × (e ≡ refusal.Journal fault))

-- the journal's file can't be opened, or where its bytes are known, they are no journal of the job
abbrev pub IsUnopened : Option (List ℕ) → JobSpec → List ℕ → Refusal → Type 0
IsUnopened held job path e = IsUnread path e ⊎ ((fault : JournalRefusal) × IsNoJournal ((bytes : List ℕ) → held ≡ Some bytes → IsNoFile job bytes) fault × (e ≡ refusal.Journal fault))

-- a disk has answered that its device failed, or that it is full, where the refusal says so
pub record HasFailed {D : Type 0} (shown : D → DiskSpec) (e : Refusal) : Type 0 where
  pub failures : e ≡ refusal.Journal journal_refusal.Device → (disk : D) × (0 < (shown disk).failures)
  pub fulls : e ≡ refusal.Journal journal_refusal.Full → (disk : D) × (0 < (shown disk).fulls)

-- the same of the journal that is asked for
abbrev pub IsJournalRefused : Holds → Option (List ℕ) → JobSpec → Refusal → Type 0
IsJournalRefused holds None job e = ⊥
IsJournalRefused holds (Some path) job e = IsUnopened (holds path) job path e

-- printing failed, or memory ran out
abbrev pub IsUnprinted : Refusal → Type 0
IsUnprinted e = (e ≡ refusal.Memory) ⊎ (e ≡ refusal.CannotPrint)

-- the state can't be written
abbrev pub IsSaveRefused : Option (List ℕ) → Refusal → Type 0
IsSaveRefused None e = ⊥
IsSaveRefused (Some path) e = IsUnwritten path e

-- the state can't be written, or what is shown can't be printed
abbrev pub IsReportRefused : Option (List ℕ) → Refusal → Type 0
IsReportRefused save e = IsSaveRefused save e ⊎ IsUnprinted e

-- the folder and the query give no job, the journal of the job is refused, or a file of the job is
abbrev pub IsTogetherRefused : Holds → GatherCommand → Refusal → Type 0
IsTogetherRefused holds command e = IsJobRefused holds command.folder command.query e
    ⊎ ((job : JobSpec) × IsJobOf holds command.folder command.query job × (IsJournalRefused holds command.journal job e ⊎ IsTakingRefused (has_journal command.journal) holds command.files e))

-- the files don't come to a state, or what comes behind them is refused
abbrev pub IsGatherRefused : Holds → GatherCommand → Refusal → Type 0
IsGatherRefused holds command e = IsTogetherRefused holds command e ⊎ ((job : JobSpec) × IsJobOf holds command.folder command.query job × IsReportRefused command.save e)

-- the path of the journal, which can't be had as a disk
abbrev pub IsOfJournal : (List ℕ → Type 0) → Option (List ℕ) → List ℕ → Type 0
IsOfJournal shuts None path = ⊥
IsOfJournal shuts (Some journal) path = (path ≡ journal) × shuts path

-- a file that can't be read is the catalogue's, that of the cut, the journal's, which can't be had as a disk, or one of the files,
-- of which those before it were opened
abbrev pub IsGatherUnread : (List ℕ → Type 0) → (List ℕ → Type 0) → GatherCommand → Refusal → Type 0
IsGatherUnread opens shuts command e = (path : List ℕ) → e ≡ refusal.CannotRead path
    → IsOfJob command.folder path ⊎ IsOfJournal shuts command.journal path ⊎ IsNextOpened opens command.files path
