-- Why a command is refused, from what its steps are refused for.
use Rattle.std.proofs.Common.{◌≡◌, ℕ, suc, ◌<◌, List, ◌∷◌, ◌++◌, length, drop, take, get_or, Contains, Option, Some, None, Result, Ok, Err, refl, sym, ap, subst, ◌∙◌, inl, inr}
use Rattle.std.specs.Prelude.{◌⊎◌, IfErr, OnErr}
use Rattle.std.specs.Borrow.{Bor}
use Rattle.std.proofs.Math.Seq.{split_at}
use Rattle.std.proofs.lemmas.List.Elements.{Contains-get_or}
use Rattle.disk.specs.Disk.{DiskSpec}
use Rattle.meaning.specs.declared.catalog.Dimension.{Dimension}
use Rattle.loader.specs.Fault as loads
use Rattle.loader.specs.declared.fault.LoadFault.{LoadFault}
use Rattle.loader.specs.declared.fault.LoadFault.TheVariants as load_fault
use Rattle.meaning.specs.declared.catalog.Catalog.{Catalog}
use Rattle.catalog_reader.specs.CatalogText.{catalog_of}
use Rattle.coordinator.specs.Whole.{Files, Input, IsRefused, files_in}
use Rattle.coordinator.specs.declared.fault.WholeFault.{WholeFault}
use Rattle.coordinator.specs.declared.fault.WholeFault.TheVariants as whole_fault
use Rattle.folders.specs.Each.{AreEach}
use Rattle.folders.specs.Folder.{Change, Holds, csv_path}
use Rattle.folders.specs.Refused.{IsReturnedAs, IsTriedFor, IsUnread, load_refusal}
use Rattle.cli.specs.WholeRefusal.{refusal_of}
use Rattle.folders.specs.declared.refusal.Refusal.{Refusal}
use Rattle.folders.specs.declared.refusal.Refusal.TheVariants as refusal
use Rattle.jobs.specs.Job.{IsQueryRefused as IsUnplanned}
use Rattle.jobs.specs.Gathering.{IsGatherLeft, IsGatherRefused, IsGatherSavedFirst}
use Rattle.jobs.specs.Working.{IsWorkRefused, IsWorkUnread}
use Rattle.command_line.specs.declared.commands.GatherCommand.{GatherCommand}
use Rattle.command_line.specs.declared.commands.WorkCommand.{WorkCommand}
use Rattle.cli.specs.Refusing.{IsDiskFailed, IsInputRefused, IsRefusedSo, IsUnreadFirst, IsUnwrittenTried, IsWholeRefused}
use Rattle.loads.specs.Refusing.{IsLoadLeft, IsLoadRefused, IsQuiet}
use Rattle.cli.specs.Running.{files_of, input_over}
use Rattle.command_line.specs.declared.commands.Command.{Command}
use Rattle.command_line.specs.declared.commands.Command.TheVariants.{Whole, Load, Work, Gather}
use Rattle.cli.specs.declared.tables.Tables.{Tables}

-- ---- a query over files

-- what is lent is what the tables are
pub over : (P : Input → Type 0) (text : List ℕ) (csvs : List (Bor (List ℕ) × Bor (List ℕ))) (tables : Tables) (query : List ℕ) (vector : ℕ)
    → files_in csvs ≡ files_of tables → P (record { catalog = text; files = files_in csvs; query = query; cut = tables.cut; vector_len = vector }) → P (input_over text tables query vector)
over P text csvs tables query vector files stands = subst (λ (fs : Files). P (record { catalog = text; files = fs; query = query; cut = tables.cut; vector_len = vector })) files stands

pub input_refused : (folder : List ℕ) (input : Input) (fault : WholeFault) (e : Refusal) → IsRefused input fault → IsReturnedAs (refusal_of folder fault) e → IsInputRefused folder input e
input_refused folder input fault e stands (inl memory) = inl memory
input_refused folder input fault e stands (inr returned) = inr (fault, stands, returned)

-- a query that isn't planned is refused over any files
pub unplanned : (folder text : List ℕ) (catalog : Catalog) (input : Input) (e : Refusal) → catalog_of text ≡ Ok catalog → text ≡ input.catalog → IsUnplanned catalog input.query e → IsInputRefused folder input e
unplanned folder text catalog input e declared same (inl memory) = inl memory
unplanned folder text catalog input e declared same (inr (inl sql)) =
    inr (whole_fault.Sql sql.0, inr (inl (catalog, subst (λ bs. catalog_of bs ≡ Ok catalog) same declared, inl (sql.1, sql.2))), sql.3)
unplanned folder text catalog input e declared same (inr (inr plan)) =
    inr (whole_fault.Plan plan.0, inr (inl (catalog, subst (λ bs. catalog_of bs ≡ Ok catalog) same declared, inl plan.1)), plan.2)

-- ---- the commands

-- `load` is refused, of which the folder was lent
pub load_refused : (holds : Holds) (command : Command) (folder lent : List ℕ) (load rows : ℕ) (e : Refusal) (before after err : Option (List ℕ)) (wrote_before wrote_after : Option (List Change))
    → command ≡ Load folder load rows → lent ≡ folder → IsLoadRefused holds lent rows e → IsQuiet e before after → IsLoadLeft holds lent load rows e wrote_before wrote_after
    → IsRefusedSo holds command before after err wrote_before wrote_after e
load_refused holds command folder lent load rows e before after err wrote_before wrote_after is same stands quiet left =
    subst (λ (x : Command). IsRefusedSo holds x before after err wrote_before wrote_after e) (sym is) (record {
      stands = subst (λ f. IsLoadRefused holds f rows e) same stands;
      quiet = quiet;
      left = subst (λ f. IsLoadLeft holds f load rows e wrote_before wrote_after) same left;
    })

-- `work` is refused
pub work_refused : (holds : Holds) (command : Command) (asked : WorkCommand) (e : Refusal) (before err : Option (List ℕ)) (wrote_before wrote_after : Option (List Change))
    → command ≡ Work asked → IsWorkRefused holds asked e → wrote_after ≡ wrote_before → IsRefusedSo holds command before before err wrote_before wrote_after e
work_refused holds command asked e before err wrote_before wrote_after is stands left =
    subst (λ (x : Command). IsRefusedSo holds x before before err wrote_before wrote_after e) (sym is) (record { stands = stands; quiet = inr refl; left = left })

-- so is `whole`, of which the folder and the query were lent
pub whole_refused : (holds : Holds) (command : Command) (folder lent query text : List ℕ) (rows vector : ℕ) (result : Result ℕ Refusal) (before after err : Option (List ℕ)) (wrote : Option (List Change))
    → command ≡ Whole folder query rows vector → lent ≡ folder → text ≡ query → IfErr result (IsWholeRefused holds lent text rows vector) → IfErr result (λ e. IsQuiet e before after)
    → IfErr result (IsRefusedSo holds command before after err wrote wrote)
whole_refused holds command folder lent query text rows vector (Ok status) before after err wrote is here same stands quiet = tt
whole_refused holds command folder lent query text rows vector (Err e) before after err wrote is here same stands quiet =
    subst (λ (x : Command). IsRefusedSo holds x before after err wrote wrote e) (sym is) (record {
      stands = subst (λ f. IsWholeRefused holds f query rows vector e) here (subst (λ q. IsWholeRefused holds lent q rows vector e) same stands);
      quiet = quiet;
      left = refl;
    })

-- so is `gather`
pub gather_refused : (holds : Holds) (command : Command) (asked : GatherCommand) (result : Result ℕ Refusal) (before after err : Option (List ℕ)) (wrote_before wrote_after : Option (List Change))
    → command ≡ Gather asked → IfErr result (IsGatherRefused holds asked) → IfErr result (λ e. IsQuiet e before after) → OnErr result (IsGatherLeft holds asked err wrote_before wrote_after)
    → IfErr result (IsGatherSavedFirst holds asked err wrote_before wrote_after) → IfErr result (IsRefusedSo holds command before after err wrote_before wrote_after)
gather_refused holds command asked (Ok status) before after err wrote_before wrote_after is stands quiet left saved = tt
gather_refused holds command asked (Err e) before after err wrote_before wrote_after is stands quiet left saved =
    subst (λ (x : Command). IsRefusedSo holds x before after err wrote_before wrote_after e) (sym is) (record { stands = stands; quiet = quiet; left = (left, saved) })

-- ---- the first file that can't be read

-- `load` and `whole` say nothing of it
pub load_tried : (tries : List ℕ → Type 0) (command : Command) (folder : List ℕ) (load rows : ℕ) (e : Refusal) → command ≡ Load folder load rows → IsTriedFor tries e → IsUnwrittenTried tries command e
load_tried tries command folder load rows e is tried = subst (λ (x : Command). IsUnwrittenTried tries x e) (sym is) tried

pub whole_tried : (tries : List ℕ → Type 0) (command : Command) (folder query : List ℕ) (rows vector : ℕ) (result : Result ℕ Refusal) → command ≡ Whole folder query rows vector → IfErr result (IsUnwrittenTried tries command)
whole_tried tries command folder query rows vector (Ok status) is = tt
whole_tried tries command folder query rows vector (Err e) is = subst (λ (x : Command). IsUnwrittenTried tries x e) (sym is) tt

pub work_tried : (tries : List ℕ → Type 0) (command : Command) (asked : WorkCommand) (e : Refusal) → command ≡ Work asked → IsTriedFor tries e → IsUnwrittenTried tries command e
work_tried tries command asked e is tried = subst (λ (x : Command). IsUnwrittenTried tries x e) (sym is) tried

pub load_first : (holds : Holds) (opens shuts : List ℕ → Type 0) (command : Command) (folder : List ℕ) (load rows : ℕ) (e : Refusal) → command ≡ Load folder load rows → IsUnreadFirst holds opens shuts command e
load_first holds opens shuts command folder load rows e is = subst (λ (x : Command). IsUnreadFirst holds opens shuts x e) (sym is) tt

pub whole_first : (holds : Holds) (opens shuts : List ℕ → Type 0) (command : Command) (folder query : List ℕ) (rows vector : ℕ) (result : Result ℕ Refusal) → command ≡ Whole folder query rows vector → IfErr result (IsUnreadFirst holds opens shuts command)
whole_first holds opens shuts command folder query rows vector (Ok status) is = tt
whole_first holds opens shuts command folder query rows vector (Err e) is = subst (λ (x : Command). IsUnreadFirst holds opens shuts x e) (sym is) tt

pub work_first : (holds : Holds) (opens shuts : List ℕ → Type 0) (command : Command) (asked : WorkCommand) (e : Refusal) → command ≡ Work asked → IsWorkUnread holds opens asked e → IsUnreadFirst holds opens shuts command e
work_first holds opens shuts command asked e is first = subst (λ (x : Command). IsUnreadFirst holds opens shuts x e) (sym is) first

-- ---- a journal's disk that failed

pub load_failed : {D : Type 0} (shown : D → DiskSpec) (command : Command) (folder : List ℕ) (load rows : ℕ) (e : Refusal) → command ≡ Load folder load rows → IsDiskFailed shown command e
load_failed shown command folder load rows e is = subst (λ (x : Command). IsDiskFailed shown x e) (sym is) tt

pub whole_failed : {D : Type 0} (shown : D → DiskSpec) (command : Command) (folder query : List ℕ) (rows vector : ℕ) (result : Result ℕ Refusal) → command ≡ Whole folder query rows vector → IfErr result (IsDiskFailed shown command)
whole_failed shown command folder query rows vector (Ok status) is = tt
whole_failed shown command folder query rows vector (Err e) is = subst (λ (x : Command). IsDiskFailed shown x e) (sym is) tt

pub work_failed : {D : Type 0} (shown : D → DiskSpec) (command : Command) (asked : WorkCommand) (e : Refusal) → command ≡ Work asked → IsDiskFailed shown command e
work_failed shown command asked e is = subst (λ (x : Command). IsDiskFailed shown x e) (sym is) tt
