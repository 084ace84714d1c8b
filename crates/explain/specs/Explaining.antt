-- What a plan that is explained is of, and why there is none.
use Rattle.std.specs.Prelude.{◌≡◌, ◌⊎◌, ℕ, List, [], ◌∷◌, ◌++◌, Ok, Option, codes, length}
use Rattle.std.specs.Io.KnownBytes.{Appends}
use Rattle.meaning.specs.declared.catalog.Catalog.{Catalog}
use Rattle.meaning.specs.declared.plan.Plan.{Plan}
use Rattle.folders.specs.Folder.{Holds}
use Rattle.folders.specs.Tables.{IsCatalogRefused, IsCatalogThere}
use Rattle.folders.specs.declared.refusal.Refusal.{Refusal}
use Rattle.folders.specs.declared.refusal.Refusal.TheVariants as refusal
use Rattle.explain.specs.Conditions.{AreConditions, blanks_text}
use Rattle.planner.specs.QueryText.{IsPlanned, IsTextRefused}
use Rattle.planner.specs.declared.query_fault.QueryFault.{QueryFault}
use Rattle.planner.specs.declared.query_fault.QueryFault.TheVariants as fault

-- the folder's catalogue declares tables over which the query has a plan
abbrev pub IsExplained : Holds → List ℕ → List ℕ → Type 0
IsExplained holds folder query = (catalog : Catalog) × (plan : Plan) × IsCatalogThere holds folder catalog × IsPlanned catalog query (Ok plan)

-- behind this text comes the line of a plan's canonical text
abbrev pub with_text : List ℕ → Plan → List ℕ
with_text front plan = ((front ++ codes "text: ") ++ plan.text) ++ 10 ∷ []

-- the last line is that of the plan's canonical text
abbrev pub EndsWithText : Plan → List ℕ → Type 0
EndsWithText plan text = (front : List ℕ) × (text ≡ with_text front plan)

-- The lines of the plan's conditions stand in it, as far in as each other, each with the condition's place, and the last line is
-- that of the plan's text.
pub record IsOutline (plan : Plan) (text : List ℕ) : Type 0 where
  pub head : List ℕ
  pub conditions : List ℕ
  pub depth : ℕ
  pub conditions_are : AreConditions (blanks_text depth) (length plan.joins) plan.conjuncts conditions
  pub tail : List ℕ
  pub ends : EndsWithText plan tail
  pub whole : text ≡ head ++ (conditions ++ tail)

-- such a text was printed
abbrev pub Prints : Plan → Option (List ℕ) → Option (List ℕ) → Type 0
Prints plan before after = (text : List ℕ) × IsOutline plan text × Appends before after text

-- the same of the plan that the query has over declared tables
abbrev pub PrintsOver : Catalog → List ℕ → Option (List ℕ) → Option (List ℕ) → Type 0
PrintsOver catalog query before after = (plan : Plan) × IsPlanned catalog query (Ok plan) × Prints plan before after

-- the same over the tables that the folder's catalogue declares
abbrev pub PrintsPlan : Holds → List ℕ → List ℕ → Option (List ℕ) → Option (List ℕ) → Type 0
PrintsPlan holds folder query before after = (catalog : Catalog) × IsCatalogThere holds folder catalog × PrintsOver catalog query before after

-- the refusal of a command whose query has no plan
abbrev pub of_query : QueryFault → Refusal
of_query fault.Memory = refusal.Memory
of_query (fault.Sql e) = refusal.Sql e
of_query (fault.Plan e) = refusal.Plan e

-- over declared tables: the query has no plan, or standard output failed
abbrev pub IsUnexplainedOver : Catalog → List ℕ → Refusal → Type 0
IsUnexplainedOver catalog query e = ((f : QueryFault) × IsTextRefused catalog query f × (e ≡ of_query f))
    ⊎ (e ≡ refusal.CannotPrint)

-- the catalogue can't be read or declares no tables, or over those that it declares there is none
abbrev pub IsUnexplained : Holds → List ℕ → List ℕ → Refusal → Type 0
IsUnexplained holds folder query e = IsCatalogRefused holds folder e
    ⊎ ((catalog : Catalog) × IsCatalogThere holds folder catalog × IsUnexplainedOver catalog query e)
