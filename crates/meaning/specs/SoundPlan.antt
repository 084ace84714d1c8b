-- Sound plans: they list each column that they name, have types over all tables with these columns and over their groups, and
-- are within the limits on a query.
use Rattle.std.specs.Prelude.{◌≡◌, ◌≢◌, ℕ, ◌<◌, ◌≤◌, true, List, [], ◌++◌, map, length, option_to_list, Some, slice_get, All, Contains}
use Rattle.std.specs.List.{AllZip}
use Rattle.meaning.specs.declared.value.ColType.{ColType}
use Rattle.meaning.specs.declared.plan.Join.{Join}
use Rattle.meaning.specs.declared.plan.Plan.{Plan}
use Rattle.meaning.specs.declared.plan.TableUse.{TableUse}
use Rattle.meaning.specs.References.{Reference, FactColumn, JoinColumn, GroupKey, GroupAggregate, columns_of_plan, columns_used_in_all}
use Rattle.meaning.specs.TableLaws.{IsTypedPlan}
use Rattle.meaning.specs.Limits.{max_aggregates, max_keys, max_query_bytes}
use Rattle.meaning.specs.Typing.{RowTypes, Valued, Boolean, group_types, has_type}

-- the number and the type of each column that a plan uses of a table
abbrev pub listed_columns : TableUse → List (ℕ × ColType)
listed_columns table = map (λ u. (u.column, u.col_type)) table.columns

abbrev pub used_columns : TableUse → List ℕ
used_columns table = map (λ u. u.column) table.columns

-- the plan lists the column, of its table
abbrev pub IsListed : Plan → Reference → Type 0
IsListed plan (FactColumn at) = Contains (used_columns plan.fact) at
IsListed plan (JoinColumn join at) = (j : Join) × (slice_get plan.joins join ≡ Some j) × Contains (used_columns j.dim) at
IsListed plan (GroupKey i) = ⊥
IsListed plan (GroupAggregate i) = ⊥

-- the join compares two listed columns of one type
pub record IsListedJoin (plan : Plan) (j : Join) : Type 0 where
  pub compared : ColType
  pub foreign : Contains (listed_columns plan.fact) (j.foreign, compared)
  pub key : Contains (listed_columns j.dim) (j.key, compared)

-- a table's columns are of these types, each that is listed of the type that the plan gives it
abbrev pub HasListed : TableUse → List ColType → Type 0
HasListed table types = All (λ u. slice_get types u.column ≡ Some u.col_type) table.columns

-- the same of all tables of a plan
pub record HasTypesOf (plan : Plan) (types : RowTypes) : Type 0 where
  pub fact : HasListed plan.fact types.fact
  pub joins : AllZip (λ j of_dimension. HasListed j.dim of_dimension) plan.joins types.joins

-- a key or an aggregate of the plan
abbrev pub IsOfGroup : Plan → Reference → Type 0
IsOfGroup plan (GroupKey i) = i < length plan.keys
IsOfGroup plan (GroupAggregate i) = i < length plan.aggs
IsOfGroup plan (FactColumn at) = ⊥
IsOfGroup plan (JoinColumn join at) = ⊥

-- over the plan's groups each item is a value of one type, and HAVING a truth; and they name keys and aggregates of the plan alone
pub record IsTypedOverGroups (plan : Plan) : Type 0 where
  pub items : All (λ i. (kind : ColType) × (has_type (group_types plan) i.expr (Valued kind) ≡ true)) plan.items
  pub having : All (λ e. has_type (group_types plan) e Boolean ≡ true) (option_to_list plan.having)
  pub named : All (IsOfGroup plan) (columns_used_in_all (map (λ i. i.expr) plan.items ++ option_to_list plan.having))

-- the limits on a query: a text of at most 65,535 bytes, and at most 64 keys and 64 aggregates
pub record IsWithinLimits (plan : Plan) : Type 0 where
  pub text : length plan.text ≤ max_query_bytes
  pub keys : length plan.keys ≤ max_keys
  pub aggregates : length plan.aggs ≤ max_aggregates

-- conditions, keys and arguments name listed columns alone, and have types over all tables that have these; joins compare
-- listed columns; something is shown; what a plain query shows are its keys; items and HAVING have types over groups; and the
-- plan is within the limits
pub record IsSoundPlan (plan : Plan) : Type 0 where
  pub listed : All (IsListed plan) (columns_of_plan plan)
  pub joins : All (IsListedJoin plan) plan.joins
  pub typed : (types : RowTypes) → HasTypesOf plan types → IsTypedPlan types plan
  pub shown : plan.items ≢ []
  pub plain : plan.plain ≡ true → length plan.keys ≡ length plan.items
  pub over_groups : IsTypedOverGroups plan
  pub within : IsWithinLimits plan
