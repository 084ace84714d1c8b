-- Why a query's text has no plan, as a refusal of the whole.
use Rattle.std.specs.Prelude.{ℕ, List}
use Rattle.meaning.specs.declared.catalog.Catalog.{Catalog}
use Rattle.planner.specs.QueryText.{IsTextRefused}
use Rattle.planner.specs.declared.query_fault.QueryFault.{QueryFault}
use Rattle.planner.specs.declared.query_fault.QueryFault.TheVariants as query_fault
use Rattle.coordinator.specs.Whole.{IsPlanRefused, of_query}

pub refused_as : (catalog : Catalog) (query : List ℕ) (e : QueryFault) → IsTextRefused catalog query e → IsPlanRefused catalog query (of_query e)
refused_as catalog query query_fault.Memory refused = tt
refused_as catalog query (query_fault.Sql e) refused = refused
refused_as catalog query (query_fault.Plan e) refused = refused
