-- Where a name is in a query's text, and what it could mean there.
use Rattle.std.specs.Prelude.{◌≡◌, ◌≤◌, ℕ, Bool, true, false, ◌&&◌, ◌||◌, Option, Some, None, List, codes, filter, length, take, drop, map, bytes_eq}
use Rattle.std.specs.List.{list_any}
use Rattle.meaning.specs.declared.catalog.Catalog.{Catalog}
use Rattle.meaning.specs.declared.catalog.Dimension.{Dimension}
use Rattle.planner_expressions.specs.declared.scope.Scope.{Scope}
use Rattle.planner_expressions.specs.declared.scope.ScopeColumn.{ScopeColumn}
use Rattle.query_hints.specs.declared.place.Place.{Place}

-- the text has the place's name at its offset
abbrev pub Stands : List ℕ → Place → Type 0
Stands text place = take (length place.name.now) (drop place.offset text) ≡ place.name.now

-- the column's table goes by the name that is in front of the column's, where there is one
abbrev pub is_owned : Option (List ℕ) → ScopeColumn → Bool
is_owned None column = true
is_owned (Some owner) column = bytes_eq column.owner owner

-- the name may be that of this column
abbrev pub may_be : Option (List ℕ) → List ℕ → ScopeColumn → Bool
may_be owner name column = bytes_eq column.name name && is_owned owner column

-- the columns of FROM's tables that the place's name may be
abbrev pub meant_at : Scope → Option (List ℕ) → List ℕ → List ScopeColumn
meant_at scope owner name = filter (may_be owner name) scope.columns

-- the catalogue has a table of this name
abbrev pub has_table : Catalog → List ℕ → Bool
has_table catalog name = bytes_eq catalog.fact.name name || list_any (λ d. bytes_eq d.table.name name) catalog.dims
