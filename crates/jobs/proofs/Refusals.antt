-- Why there is no job, of what was lent.
use Rattle.std.proofs.Common.{◌≡◌, ℕ, List, refl, subst, inl, inr}
use Rattle.meaning.specs.declared.catalog.Catalog.{Catalog}
use Rattle.sql_reader.specs.declared.fault.SqlFault.{SqlFault}
use Rattle.planner.specs.QueryText.{IsTextRefused}
use Rattle.planner.specs.declared.query_fault.QueryFault.{QueryFault}
use Rattle.planner.specs.declared.query_fault.QueryFault.TheVariants as query_fault
use Rattle.folders.specs.Folder.{Holds}
use Rattle.folders.specs.declared.refusal.Refusal.{Refusal}
use Rattle.folders.specs.declared.refusal.Refusal.TheVariants as refusal
use Rattle.jobs.specs.Job.{IsJobRefused, IsQueryRefused}

-- no job, of which the folder and the query were lent
pub no_job : (holds : Holds) (folder query directory text : List ℕ) (e : Refusal) → directory ≡ folder → text ≡ query → IsJobRefused holds directory text e → IsJobRefused holds folder query e
no_job holds folder query directory text e here same refused = subst (λ f. IsJobRefused holds f query e) here (subst (λ q. IsJobRefused holds directory q e) same refused)

-- a text that is no query, as its bytes say
pub no_query : (catalog : Catalog) (query bytes : List ℕ) (e : QueryFault) (fault : SqlFault) → bytes ≡ query → e ≡ query_fault.Sql fault → IsTextRefused catalog bytes e → IsQueryRefused catalog query (refusal.Sql fault)
no_query catalog query bytes e fault same is refused =
    let of_text = subst (λ text. IsTextRefused catalog text (query_fault.Sql fault)) same (subst (IsTextRefused catalog bytes) is refused) in
    inr (inl (fault, of_text.0, of_text.1, refl))
