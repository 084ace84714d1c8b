-- The job of a query over what lies in a folder, and why there is none.
use Rattle.std.specs.Prelude.{◌≡◌, ◌≢◌, ◌⊎◌, ℕ, List, Ok, Err}
use Rattle.meaning.specs.Cut.{Cut}
use Rattle.meaning.specs.declared.catalog.Catalog.{Catalog}
use Rattle.fragment_file.specs.CutFile.{IsCutFileOf, read_cut_file}
use Rattle.fragment_file.specs.declared.fault.FileFault.{FileFault}
use Rattle.sql_reader.specs.Grammar.{IsRefusal}
use Rattle.sql_reader.specs.declared.fault.SqlFault.{SqlFault}
use Rattle.sql_reader.specs.declared.fault.SqlFault.TheVariants as sql
use Rattle.planner_expressions.specs.declared.fault.PlanFault.{PlanFault}
use Rattle.partial_codec.specs.Job.{IsJob, JobSpec}
use Rattle.planner.specs.QueryText.{IsPlanned}
use Rattle.folders.specs.Folder.{AreHeld, Holds, catalog_path, cut_path}
use Rattle.folders.specs.Tables.{IsCatalogRefused, IsCatalogThere}
use Rattle.folders.specs.Refused.{IsUnread}
use Rattle.folders.specs.declared.refusal.Refusal.{Refusal}
use Rattle.folders.specs.declared.refusal.Refusal.TheVariants as refusal

-- ---- what lies there

-- the load and the cut that the folder's file of the cut spells
pub record IsCutThere (holds : Holds) (folder : List ℕ) (load : ℕ) (cut : Cut) : Type 0 where
  pub bytes : List ℕ
  pub held : AreHeld (holds (cut_path folder)) bytes
  pub spelled : IsCutFileOf bytes (record { load = load; cut = cut })

-- the load and the cut that lie there, and the query's plan over declared tables; they are within the limits on a job
pub record IsJobOver (holds : Holds) (folder : List ℕ) (catalog : Catalog) (query : List ℕ) (job : JobSpec) : Type 0 where
  pub loaded : IsCutThere holds folder job.load job.cut
  pub planned : IsPlanned catalog query (Ok job.plan)
  pub within : IsJob job

-- the same, over the tables that the folder's catalogue declares
pub record IsJobOf (holds : Holds) (folder query : List ℕ) (job : JobSpec) : Type 0 where
  pub catalog : Catalog
  pub declared : IsCatalogThere holds folder catalog
  pub over : IsJobOver holds folder catalog query job

-- ---- why there is none

-- the file of the cut can't be read, or it is none
abbrev pub IsCutRefused : Holds → List ℕ → Refusal → Type 0
IsCutRefused holds folder e = IsUnread (cut_path folder) e
    ⊎ ((bytes : List ℕ) × (fault : FileFault) × AreHeld (holds (cut_path folder)) bytes × (read_cut_file bytes ≡ Err fault) × (e ≡ refusal.File fault))

-- the text is no query, or the query has no plan
abbrev pub IsQueryRefused : Catalog → List ℕ → Refusal → Type 0
IsQueryRefused catalog query e = (e ≡ refusal.Memory)
    ⊎ ((fault : SqlFault) × (fault ≢ sql.Memory) × IsRefusal query fault × (e ≡ refusal.Sql fault))
    ⊎ ((fault : PlanFault) × IsPlanned catalog query (Err fault) × (e ≡ refusal.Plan fault))

-- over declared tables: the file of the cut, and behind it the query
abbrev pub IsRefusedOver : Holds → List ℕ → Catalog → List ℕ → Refusal → Type 0
IsRefusedOver holds folder catalog query e = IsCutRefused holds folder e
    ⊎ ((load : ℕ) × (cut : Cut) × IsCutThere holds folder load cut × IsQueryRefused catalog query e)

-- the catalogue, behind it the file of the cut, and behind both the query
abbrev pub IsJobRefused : Holds → List ℕ → List ℕ → Refusal → Type 0
IsJobRefused holds folder query e = IsCatalogRefused holds folder e
    ⊎ ((catalog : Catalog) × IsCatalogThere holds folder catalog × IsRefusedOver holds folder catalog query e)

-- the path of a file that the job is made from
abbrev pub IsOfJob : List ℕ → List ℕ → Type 0
IsOfJob folder path = (path ≡ catalog_path folder) ⊎ (path ≡ cut_path folder)
