-- The plan of a query's text, and why there is none.
use Rattle.std.specs.Prelude.{◌≡◌, ◌≢◌, ℕ, List, Result, Err, ⊤}
use Rattle.meaning.specs.declared.catalog.Catalog.{Catalog}
use Rattle.meaning.specs.declared.plan.Plan.{Plan}
use Rattle.sql_syntax.specs.declared.tree.Query.{Query}
use Rattle.sql_reader.specs.Faults as sql_number
use Rattle.sql_reader.specs.Grammar.{IsWithin, IsRefusal}
use Rattle.sql_reader.specs.declared.fault.SqlFault.{SqlFault}
use Rattle.sql_reader.specs.declared.fault.SqlFault.TheVariants as sql
use Rattle.planner_expressions.specs.Numbers as plan_number
use Rattle.planner_expressions.specs.declared.fault.PlanFault.{PlanFault}
use Rattle.planner_expressions.specs.declared.fault.PlanFault.TheVariants as plan_fault
use Rattle.planner.specs.Planned.{planned}
use Rattle.planner.specs.declared.query_fault.QueryFault.{QueryFault}
use Rattle.planner.specs.declared.query_fault.QueryFault.TheVariants as fault

-- the query's text has a tree within the limits, of which this is the plan or the first fault
pub record IsPlanned (catalog : Catalog) (query : List ℕ) (returned : Result Plan PlanFault) : Type 0 where
  pub tree : Query
  pub within : IsWithin query tree
  pub gives : planned catalog tree ≡ returned

-- why a tree has no plan
abbrev pub IsTreeRefused : Catalog → Query → QueryFault → Type 0
IsTreeRefused catalog q fault.Memory = ⊤
IsTreeRefused catalog q (fault.Plan e) = planned catalog q ≡ Err e
IsTreeRefused catalog q (fault.Sql e) = ⊥

-- why a text has no plan
abbrev pub IsTextRefused : Catalog → List ℕ → QueryFault → Type 0
IsTextRefused catalog query fault.Memory = ⊤
IsTextRefused catalog query (fault.Sql e) = (e ≢ sql.Memory) × IsRefusal query e
IsTextRefused catalog query (fault.Plan e) = IsPlanned catalog query (Err e)

-- running out of memory is reported as such

abbrev pub of_sql : SqlFault → QueryFault
of_sql sql.Memory = fault.Memory
of_sql e = fault.Sql e

abbrev pub of_plan : PlanFault → QueryFault
of_plan plan_fault.Memory = fault.Memory
of_plan e = fault.Plan e

-- the error code
abbrev pub number_of : QueryFault → ℕ
number_of fault.Memory = 0
number_of (fault.Sql e) = sql_number.number_of e
number_of (fault.Plan e) = plan_number.number_of e
