-- What is written for one fragment, and why nothing is.
use Rattle.std.specs.Prelude.{◌≡◌, ◌⊎◌, ℕ, List, ◌∷◌, map, Option, Some, Ok, Err, Contains}
use Rattle.meaning.specs.Answer.{own}
use Rattle.meaning.specs.Order.{Row}
use Rattle.meaning.specs.Said.{Answer}
use Rattle.meaning.specs.declared.plan.Join.{Join}
use Rattle.partial_codec.specs.Answer.{Spells}
use Rattle.partial_codec.specs.Job.{JobSpec}
use Rattle.partial_codec.specs.Spelling.{answer_bytes}
use Rattle.group_reader.specs.Source.{MayBeLeft}
use Rattle.worker.specs.Work.{answered}
use Rattle.job_files.specs.RowFiles.{IsFileOfRows, rows_of_fragment}
use Rattle.job_files.specs.declared.fault.WorkFault.{WorkFault}
use Rattle.folders.specs.Each.{AreEach}
use Rattle.folders.specs.Folder.{AreHeld, Change, Holds, WritesOne, dimension_path, fragment_path}
use Rattle.folders.specs.Refused.{IsNextOpened, IsUnread, IsUnwritten}
use Rattle.folders.specs.declared.refusal.Refusal.{Refusal}
use Rattle.folders.specs.declared.refusal.Refusal.TheVariants as refusal
use Rattle.command_line.specs.declared.commands.WorkCommand.{WorkCommand}
use Rattle.jobs.specs.Job.{IsJobOf, IsJobRefused, IsOfJob}

-- ---- answered

-- the bytes are those of the dimension that is joined
abbrev pub IsDimensionOf : Holds → List ℕ → Join → List ℕ → Type 0
IsDimensionOf holds folder join bytes = AreHeld (holds (dimension_path folder join.dim.name)) bytes

-- the spelling, in the newest format, of what the worker answers for the files
pub record IsFileAnswer (job : JobSpec) (k vector : ℕ) (fragment : List ℕ) (dims : List (List ℕ)) (bytes : List ℕ) : Type 0 where
  pub answer : Answer
  pub meant : answered job k vector fragment dims ≡ Ok answer
  pub spelled : Spells job bytes answer
  pub written : bytes ≡ answer_bytes job answer

-- the same, for bytes that a reader of the fragment's file may have
abbrev pub IsReaderAnswer : JobSpec → ℕ → ℕ → Option (List ℕ) → List (List ℕ) → List ℕ → Type 0
IsReaderAnswer job k vector left dims bytes = (fragment : List ℕ) × MayBeLeft left fragment × IsFileAnswer job k vector fragment dims bytes

-- the files that the job's fragment is answered over: its own, and of each join the dimension's, in the order of the joins
pub record AreFilesOf (holds : Holds) (command : WorkCommand) (job : JobSpec) (fragment : List ℕ) (dims : List (List ℕ)) : Type 0 where
  pub fragment_held : AreHeld (holds (fragment_path command.folder job.plan.fact.name command.fragment)) fragment
  pub dims_held : AreEach (IsDimensionOf holds command.folder) job.plan.joins dims

pub record IsAnswer (holds : Holds) (command : WorkCommand) (job : JobSpec) (bytes : List ℕ) : Type 0 where
  pub fragment : List ℕ
  pub dims : List (List ℕ)
  pub files : AreFilesOf holds command job fragment dims
  pub answered : IsFileAnswer job command.fragment command.vector fragment dims bytes

-- the spelling of the answer for the query's job
pub record IsSpelled (holds : Holds) (command : WorkCommand) (bytes : List ℕ) : Type 0 where
  pub job : JobSpec
  pub is_job : IsJobOf holds command.folder command.query job
  pub answer : IsAnswer holds command job bytes

-- the bytes that are held are known, and they are a file of just these rows
pub record HoldsRows (held : Option (List ℕ)) (rows : List Row) : Type 0 where
  pub bytes : List ℕ
  pub known : held ≡ Some bytes
  pub is_file : IsFileOfRows rows bytes

abbrev pub HoldsDimension : Holds → List ℕ → Join → List Row → Type 0
HoldsDimension holds folder join rows = HoldsRows (holds (dimension_path folder join.dim.name)) rows

-- the folder holds a file of the fragment of a table of these rows, and one of each joined dimension
pub record HoldsFragment (holds : Holds) (folder : List ℕ) (job : JobSpec) (k : ℕ) (rows : List Row) (tables : List (List Row)) : Type 0 where
  pub fragment : HoldsRows (holds (fragment_path folder job.plan.fact.name k)) (rows_of_fragment job.cut k rows)
  pub dims : AreEach (HoldsDimension holds folder) job.plan.joins tables

-- the spelling, for the query's job, of the fragment's own answer over these tables, where the folder holds their files
pub record IsOwnSpelled (holds : Holds) (command : WorkCommand) (rows : List Row) (tables : List (List Row)) (bytes : List ℕ) : Type 0 where
  pub job : JobSpec
  pub is_job : IsJobOf holds command.folder command.query job
  pub is_own : HoldsFragment holds command.folder job command.fragment rows tables → Spells job bytes (own job.plan tables job.cut rows command.fragment)

-- just that spelling was written, under the path that was asked for
abbrev pub IsWorked : Holds → WorkCommand → Option (List Change) → Option (List Change) → Type 0
IsWorked holds command before after = WritesOne command.out (IsSpelled holds command) before after

-- ---- refused

-- the worker refuses the files
abbrev pub IsFileRefused : JobSpec → ℕ → ℕ → List ℕ → List (List ℕ) → Refusal → Type 0
IsFileRefused job k vector fragment dims e = (e ≡ refusal.Memory)
    ⊎ ((fault : WorkFault) × (answered job k vector fragment dims ≡ Err fault) × (e ≡ refusal.Work fault))

-- the fragment's file can't be read, or the worker refuses bytes that a reader of it may have
abbrev pub IsReaderRefused : JobSpec → ℕ → ℕ → List ℕ → Option (List ℕ) → List (List ℕ) → Refusal → Type 0
IsReaderRefused job k vector path left dims e = IsUnread path e ⊎ ((fragment : List ℕ) × MayBeLeft left fragment × IsFileRefused job k vector fragment dims e)

-- a joined dimension's file can't be read
abbrev pub AreDimensionsUnread : List ℕ → List Join → Refusal → Type 0
AreDimensionsUnread folder joins e = (e ≡ refusal.Memory) ⊎ ((join : Join) × Contains joins join × IsUnread (dimension_path folder join.dim.name) e)

-- a file of the job can't be read, or the worker refuses the files once all are read
abbrev pub IsAnswerRefused : Holds → WorkCommand → JobSpec → Refusal → Type 0
IsAnswerRefused holds command job e = IsUnread (fragment_path command.folder job.plan.fact.name command.fragment) e
    ⊎ AreDimensionsUnread command.folder job.plan.joins e
    ⊎ ((fragment : List ℕ) × (dims : List (List ℕ)) × AreFilesOf holds command job fragment dims × IsFileRefused job command.fragment command.vector fragment dims e)

abbrev pub IsSpelledRefused : Holds → WorkCommand → Refusal → Type 0
IsSpelledRefused holds command e = IsJobRefused holds command.folder command.query e
    ⊎ ((job : JobSpec) × IsJobOf holds command.folder command.query job × IsAnswerRefused holds command job e)

-- the folder and the query give no job, the job's fragment no answer, or the answer can't be written
abbrev pub IsWorkRefused : Holds → WorkCommand → Refusal → Type 0
IsWorkRefused holds command e = IsSpelledRefused holds command e
    ⊎ ((bytes : List ℕ) × IsSpelled holds command bytes × IsUnwritten command.out e)

-- ---- in their order

-- the fragment's path, and behind it those of the dimensions, in the order of the joins
abbrev pub paths_of : WorkCommand → JobSpec → List (List ℕ)
paths_of command job = fragment_path command.folder job.plan.fact.name command.fragment ∷ map (λ join. dimension_path command.folder join.dim.name) job.plan.joins

-- a file that can't be read is the catalogue's, that of the cut, or one of the job's, of which those before it were opened
abbrev pub IsWorkUnread : Holds → (List ℕ → Type 0) → WorkCommand → Refusal → Type 0
IsWorkUnread holds opens command e = (path : List ℕ) → e ≡ refusal.CannotRead path
    → IsOfJob command.folder path ⊎ ((job : JobSpec) × IsJobOf holds command.folder command.query job × IsNextOpened opens (paths_of command job) path)
