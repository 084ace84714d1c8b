-- Plans name the tables and the columns of their catalogue.
use Rattle.std.specs.Prelude.{◌≡◌, List, find, Some, slice_get, Ok, All, bytes_eq}
use Rattle.meaning.specs.declared.catalog.Catalog.{Catalog}
use Rattle.meaning.specs.declared.catalog.Column.{Column}
use Rattle.meaning.specs.declared.catalog.Dimension.{Dimension}
use Rattle.meaning.specs.declared.plan.ColumnUse.{ColumnUse}
use Rattle.meaning.specs.declared.plan.Join.{Join}
use Rattle.meaning.specs.declared.plan.Plan.{Plan}
use Rattle.sql_syntax.specs.declared.tree.Query.{Query}
use Rattle.planner.specs.Planned.{planned}

-- the table's column of this number has the name and the type that the plan gives it
pub record IsDeclaredColumn (columns : List Column) (u : ColumnUse) : Type 0 where
  pub column : Column
  pub there : slice_get columns u.column ≡ Some column
  pub name : column.name ≡ u.name
  pub type : column.col_type ≡ u.col_type

-- the join is by the key of the dimension that the catalogue has under its name
pub record IsDeclaredJoin (catalog : Catalog) (j : Join) : Type 0 where
  pub dimension : Dimension
  pub named : find (λ d. bytes_eq d.table.name j.dim.name) catalog.dims ≡ Some dimension
  pub key : j.key ≡ dimension.key
  pub columns : All (IsDeclaredColumn dimension.table.columns) j.dim.columns

pub record IsDeclared (catalog : Catalog) (p : Plan) : Type 0 where
  pub fact : p.fact.name ≡ catalog.fact.name
  pub columns : All (IsDeclaredColumn catalog.fact.columns) p.fact.columns
  pub joins : All (IsDeclaredJoin catalog) p.joins

abbrev pub PlansAreDeclared : Type 0
PlansAreDeclared = (catalog : Catalog) (q : Query) (p : Plan) → planned catalog q ≡ Ok p → IsDeclared catalog p
