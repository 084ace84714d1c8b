-- The files that a fragment is answered over, as they were read.
use Rattle.std.proofs.Common.{◌≡◌, ℕ, List, Option, Some, None, refl, sym, ap, subst, ◌∙◌, inl, inr}
use Rattle.std.specs.Prelude.{◌≢◌, Err}
use Rattle.meaning.specs.declared.plan.Join.{Join}
use Rattle.meaning.specs.declared.plan.Plan.{Plan}
use Rattle.fragment_file.specs.declared.fault.FileFault.TheVariants as no_file
use Rattle.group_reader.specs.Source.{MayBeLeft}
use Rattle.partial_codec.specs.Job.{JobSpec}
use Rattle.job_files.specs.declared.fault.WorkFault.{WorkFault}
use Rattle.job_files.specs.declared.fault.WorkFault.TheVariants as work_fault
use Rattle.worker.specs.Held.{IsAnswered, IsTold}
use Rattle.command_line.specs.declared.commands.WorkCommand.{WorkCommand}
use Rattle.folders.specs.Each.{AreEach}
use Rattle.folders.specs.Folder.{AreHeld, HasHeld, Holds, fragment_path}
use Rattle.folders.specs.Refused.{IsFirstUnread, IsUnread, of_work}
use Rattle.folders.specs.declared.refusal.Refusal.{Refusal}
use Rattle.folders.specs.declared.refusal.Refusal.TheVariants as refusal
use Rattle.jobs.specs.Working.{IsAnswer, IsAnswerRefused, IsDimensionOf, IsFileRefused, IsReaderAnswer, IsReaderRefused, paths_of}
use Rattle.jobs.proofs.FirstUnread.{fragment_unread}

-- ---- what the worker refuses

module _ (job : JobSpec) (k n : ℕ) (path : List ℕ) {R : Type 0} (known : R → Option (List ℕ)) (reader : R) (dims : List (List ℕ)) where
  other_refused : (fault : WorkFault) (e : Refusal) → IsTold (Err fault) (IsAnswered known reader job k n dims) → fault ≢ work_fault.Memory → fault ≢ work_fault.File no_file.Device → e ≡ refusal.Work fault
      → IsReaderRefused job k n path (known reader) dims e
  other_refused fault e told no_memory no_device is =
      let (bytes, may, meant) = told no_memory no_device in
      inr (bytes, may, inr (fault, meant, is))

  pub told_refused : (fault : WorkFault) (e : Refusal) → IsTold (Err fault) (IsAnswered known reader job k n dims) → (fault ≡ work_fault.File no_file.Device → IsUnread path e) → (fault ≢ work_fault.File no_file.Device → e ≡ of_work fault)
      → IsReaderRefused job k n path (known reader) dims e
  told_refused work_fault.Memory e told unread other = inl (inl (other (λ is. cc)))
  told_refused work_fault.OtherFile e told unread other = other_refused work_fault.OtherFile e told (λ is. cc) (λ is. cc) (other (λ is. cc))
  told_refused work_fault.OtherColumn e told unread other = other_refused work_fault.OtherColumn e told (λ is. cc) (λ is. cc) (other (λ is. cc))
  told_refused work_fault.VectorLength e told unread other = other_refused work_fault.VectorLength e told (λ is. cc) (λ is. cc) (other (λ is. cc))
  told_refused work_fault.KeyTwice e told unread other = other_refused work_fault.KeyTwice e told (λ is. cc) (λ is. cc) (other (λ is. cc))
  told_refused (work_fault.File no_file.Memory) e told unread other = other_refused (work_fault.File no_file.Memory) e told (λ is. cc) (λ is. cc) (other (λ is. cc))
  told_refused (work_fault.File no_file.Magic) e told unread other = other_refused (work_fault.File no_file.Magic) e told (λ is. cc) (λ is. cc) (other (λ is. cc))
  told_refused (work_fault.File no_file.Truncated) e told unread other = other_refused (work_fault.File no_file.Truncated) e told (λ is. cc) (λ is. cc) (other (λ is. cc))
  told_refused (work_fault.File no_file.TrailingBytes) e told unread other = other_refused (work_fault.File no_file.TrailingBytes) e told (λ is. cc) (λ is. cc) (other (λ is. cc))
  told_refused (work_fault.File no_file.Seal) e told unread other = other_refused (work_fault.File no_file.Seal) e told (λ is. cc) (λ is. cc) (other (λ is. cc))
  told_refused (work_fault.File (no_file.Block group column)) e told unread other = other_refused (work_fault.File (no_file.Block group column)) e told (λ is. cc) (λ is. cc) (other (λ is. cc))
  told_refused (work_fault.File no_file.Header) e told unread other = other_refused (work_fault.File no_file.Header) e told (λ is. cc) (λ is. cc) (other (λ is. cc))
  told_refused (work_fault.File no_file.Limit) e told unread other = other_refused (work_fault.File no_file.Limit) e told (λ is. cc) (λ is. cc) (other (λ is. cc))
  told_refused (work_fault.File no_file.Device) e told unread other = inl (unread refl)

-- ---- a reader's bytes

-- bytes that a reader of a path's file may have are those that are held, where those are known
held_read : (held left : Option (List ℕ)) (bytes : List ℕ) → HasHeld held left → MayBeLeft left bytes → AreHeld held bytes
held_read None left bytes has may = tt
held_read (Some known) left bytes has may = sym (may known (has known refl))

never_refused : (job : JobSpec) (k n : ℕ) (fragment : List ℕ) (dims : List (List ℕ)) (e : Refusal) (path : List ℕ) → IsFileRefused job k n fragment dims e → e ≡ refusal.CannotRead path → ⊥
never_refused job k n fragment dims e path (inl memory) is = absurd cc
never_refused job k n fragment dims e path (inr (fault, meant, work)) is = absurd cc

module _ (holds : Holds) (opens : List ℕ → Type 0) (command : WorkCommand) (job : JobSpec) (plan : Plan) (directory table path : List ℕ) (joins : List Join) (left : Option (List ℕ)) (dims : List (List ℕ)) (here : directory ≡ command.folder)
    (named : table ≡ plan.fact.name) (planned : plan ≡ job.plan) (joined : joins ≡ plan.joins) (at : path ≡ fragment_path directory table command.fragment) (has : HasHeld (holds (fragment_path directory table command.fragment)) left)
    (dims_held : AreEach (IsDimensionOf holds directory) joins dims) where
  abbrev of_job : List ℕ
  of_job = fragment_path command.folder job.plan.fact.name command.fragment

  path_is : fragment_path directory table command.fragment ≡ of_job
  path_is = λ i. fragment_path (here i) ((named ∙ ap (λ (p : Plan). p.fact.name) planned) i) command.fragment

  read_held : (fragment : List ℕ) → MayBeLeft left fragment → AreHeld (holds of_job) fragment
  read_held fragment may = subst (λ (p : List ℕ). AreHeld (holds p) fragment) path_is (held_read (holds (fragment_path directory table command.fragment)) left fragment has may)

  dims_of_job : AreEach (IsDimensionOf holds command.folder) job.plan.joins dims
  dims_of_job = subst (λ (f : List ℕ). AreEach (IsDimensionOf holds f) job.plan.joins dims) here
      (subst (λ (js : List Join). AreEach (IsDimensionOf holds directory) js dims) (joined ∙ ap (λ (p : Plan). p.joins) planned) dims_held)

  pub files_answered : (bytes : List ℕ) → IsReaderAnswer job command.fragment command.vector left dims bytes → IsAnswer holds command job bytes
  files_answered bytes (fragment, may, answered) = record {
    fragment = fragment;
    dims = dims;
    files = record { fragment_held = read_held fragment may; dims_held = dims_of_job };
    answered = answered;
  }

  pub files_refused : (e : Refusal) → IsReaderRefused job command.fragment command.vector path left dims e → IsAnswerRefused holds command job e
  files_refused e (inl unread) = inl (subst (λ (p : List ℕ). IsUnread p e) (at ∙ path_is) unread)
  files_refused e (inr (fragment, may, refused)) = inr (inr (fragment, dims, record { fragment_held = read_held fragment may; dims_held = dims_of_job }, refused))

  pub files_unread : (e : Refusal) → IsReaderRefused job command.fragment command.vector path left dims e → IsFirstUnread opens (paths_of command job) e
  files_unread e (inl unread) = fragment_unread opens command job plan directory table e here named planned (subst (λ (p : List ℕ). IsUnread p e) at unread)
  files_unread e (inr (fragment, may, refused)) = λ unread is. absurd (never_refused job command.fragment command.vector fragment dims e unread refused is)
