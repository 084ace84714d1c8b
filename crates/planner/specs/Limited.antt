-- Plans are within the limits on a query.
use Rattle.std.specs.Prelude.{◌≡◌, ◌≤◌, length, Ok}
use Rattle.meaning.specs.Limits.{max_aggregates, max_keys}
use Rattle.meaning.specs.declared.catalog.Catalog.{Catalog}
use Rattle.meaning.specs.declared.plan.Plan.{Plan}
use Rattle.sql_syntax.specs.Canonical.{canonical}
use Rattle.sql_syntax.specs.declared.tree.Query.{Query}
use Rattle.planner.specs.Planned.{planned}

-- the canonical text, and at most 64 keys and 64 aggregates
pub record IsLimited (q : Query) (p : Plan) : Type 0 where
  pub text : p.text ≡ canonical q
  pub keys : length p.keys ≤ max_keys
  pub aggregates : length p.aggs ≤ max_aggregates

abbrev pub PlansAreLimited : Type 0
PlansAreLimited = (catalog : Catalog) (q : Query) (p : Plan) → planned catalog q ≡ Ok p → IsLimited q p
