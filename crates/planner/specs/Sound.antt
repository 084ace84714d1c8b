-- Plans are sound.
use Rattle.std.specs.Prelude.{◌≡◌, ◌≢◌, ◌≤◌, true, [], length, Ok}
use Rattle.meaning.specs.Limits.{max_query_bytes}
use Rattle.meaning.specs.declared.catalog.Catalog.{Catalog}
use Rattle.meaning.specs.declared.plan.Plan.{Plan}
use Rattle.meaning.specs.SoundPlan.{IsSoundPlan}
use Rattle.sql_syntax.specs.Canonical.{canonical}
use Rattle.sql_syntax.specs.declared.tree.Query.{Query}
use Rattle.sql_syntax.specs.Literals.{has_only_fitting_literals}
use Rattle.planner.specs.Planned.{planned}

-- what is read of a text: something is shown, literals are integers of 64 bits and texts of at most 65,535 bytes, and the
-- canonical text is within its limit
pub record IsSoundQuery (q : Query) : Type 0 where
  pub shown : q.items ≢ []
  pub literals : has_only_fitting_literals q ≡ true
  pub short : length (canonical q) ≤ max_query_bytes

-- the plan of such a query is sound
abbrev pub PlansAreSound : Type 0
PlansAreSound = (catalog : Catalog) (q : Query) (p : Plan) → planned catalog q ≡ Ok p → IsSoundQuery q → IsSoundPlan p
