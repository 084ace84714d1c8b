-- What is answered of a fragment that is read one row group after the other: refusals are held back to its end.
use Rattle.std.specs.Prelude.{◌≡◌, ◌≢◌, ◌⊎◌, ℕ, List, Option, Some, None, Result, Ok, Err}
use Rattle.meaning.specs.Said.{Answer}
use Rattle.fragment_file.specs.declared.fault.FileFault.{FileFault}
use Rattle.fragment_file.specs.declared.fault.FileFault.TheVariants as no_file
use Rattle.fragment_file.specs.declared.header.Header.{Header}
use Rattle.group_reader.specs.Coming.{Coming}
use Rattle.group_reader.specs.Source.{MayBeLeft}
use Rattle.partial_codec.specs.Job.{JobSpec}
use Rattle.job_files.specs.declared.dimensions.Dimension.{Dimension}
use Rattle.job_files.specs.declared.fault.WorkFault.{WorkFault}
use Rattle.job_files.specs.declared.fault.WorkFault.TheVariants.{Memory, File}
use Rattle.job_files.specs.Dimensions.{input_over}
use Rattle.job_files.specs.Fault.{of_file}
use Rattle.worker.specs.Work.{answer_of, answered}

-- an answer is such a one, and a refusal too, unless memory was wanting or the reader failed
abbrev pub IsTold : Result Answer WorkFault → (Result Answer WorkFault → Type 0) → Type 0
IsTold (Ok a) IsSuch = IsSuch (Ok a)
IsTold (Err e) IsSuch = e ≢ Memory → e ≢ File no_file.Device → IsSuch (Err e)

-- there are bytes that a reader may have of which this is the answer, or the first thing that is wrong: its bytes, where they
-- are known
abbrev pub IsAnswered : {R : Type 0} → (R → Option (List ℕ)) → R → JobSpec → ℕ → ℕ → List (List ℕ) → Result Answer WorkFault → Type 0
IsAnswered known reader job k vector_len dims r = (bytes : List ℕ) × MayBeLeft (known reader) bytes × (answered job k vector_len bytes dims ≡ r)

-- what is wrong with the file, else what was held back
abbrev pub refused_after : Option FileFault → WorkFault → WorkFault
refused_after None held = held
refused_after (Some e) held = of_file e

-- a refusal that was held back until the file was read to its end, of what may have been to come
abbrev pub IsRefusedAfter : (Coming → Type 0) → WorkFault → WorkFault → Type 0
IsRefusedAfter may_come held told = told ≢ Memory → told ≢ File no_file.Device → (c : Coming) × may_come c × (told ≡ refused_after c.end held)

-- the answer of all row groups that may have been to come behind a header, where nothing is wrong with the end; or what is
-- wrong
abbrev pub AnswersFile : JobSpec → ℕ → Header → List Dimension → (Coming → Type 0) → Result Answer WorkFault → Type 0
AnswersFile job k h dims may_come (Ok a) = (c : Coming) × may_come c × (c.end ≡ None) × (a ≡ answer_of job k (input_over (record { header = h; groups = c.groups }) dims))
AnswersFile job k h dims may_come (Err e) = e ≢ Memory → e ≢ File no_file.Device → (c : Coming) × may_come c × (fault : FileFault) × (c.end ≡ Some fault) × (e ≡ of_file fault)

-- the same answer or refusal, where want of memory stands for a reader that failed
abbrev pub FromMemory : Result Answer WorkFault → Result Answer WorkFault → Type 0
FromMemory (Ok a) told = told ≡ Ok a
FromMemory (Err e) told = ((told ≡ Err e) × (e ≢ File no_file.Device)) ⊎ (told ≡ Err Memory)
