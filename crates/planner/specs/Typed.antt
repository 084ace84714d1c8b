-- Plans have types.
use Rattle.std.specs.Prelude.{◌≡◌, true, List, Ok}
use Rattle.meaning.specs.declared.catalog.Catalog.{Catalog}
use Rattle.meaning.specs.declared.catalog.Dimension.{Dimension}
use Rattle.meaning.specs.declared.plan.Plan.{Plan}
use Rattle.meaning.specs.Catalog.{IsWellFormed}
use Rattle.meaning.specs.Cut.{Cut}
use Rattle.meaning.specs.Order.{Row}
use Rattle.meaning.specs.SoundPlan.{IsTypedOverGroups}
use Rattle.meaning.specs.TableLaws.{joined_types, AreJoined, AreLoaded, IsTypedPlan, LoadedTablesServe}
use Rattle.sql_syntax.specs.declared.tree.Query.{Query}
use Rattle.sql_syntax.specs.Literals.{has_only_fitting_literals}
use Rattle.planner.specs.Planned.{planned}

-- the plan joins dimensions of the catalogue by their keys, and over these tables its conditions are truths, and its keys and
-- its aggregates' arguments are of the types that it declares
abbrev pub IsTypedOver : Catalog → Plan → Type 0
IsTypedOver catalog p = (dimensions : List Dimension) × AreJoined catalog p dimensions × IsTypedPlan (joined_types catalog dimensions) p

-- the items and HAVING of a query whose literals fit have types over groups
abbrev pub GroupsAreTyped : Type 0
GroupsAreTyped = (catalog : Catalog) (q : Query) (p : Plan) → planned catalog q ≡ Ok p → has_only_fitting_literals q ≡ true → IsTypedOverGroups p

-- the plan of a query whose literals fit is typed
abbrev pub PlansAreTyped : Type 0
PlansAreTyped = (catalog : Catalog) (q : Query) (p : Plan) → planned catalog q ≡ Ok p → has_only_fitting_literals q ≡ true → IsTypedOver catalog p

-- over tables that load, the plan of a query whose literals fit is such as the laws on answers ask for: its keys and
-- its aggregates' arguments are of their types on each fragment, and each fragment's own answer fits
abbrev pub PlansServe : Type 0
PlansServe = (catalog : Catalog) (q : Query) (p : Plan) → planned catalog q ≡ Ok p → has_only_fitting_literals q ≡ true → IsWellFormed catalog
    → (dimensions : List Dimension)
    × AreJoined catalog p dimensions
    × ((cut : Cut) (rows : List Row) (dims : List (List Row)) → AreLoaded catalog cut dimensions rows dims → LoadedTablesServe catalog p cut dimensions rows dims)
