-- Which column of FROM a name refers to.
use Rattle.std.specs.Prelude.{ℕ, Bool, true, ◌&&◌, List, [], ◌∷◌, filter, Option, Some, None, Result, Ok, Err, bytes_eq}
use Rattle.std.specs.Option.{option_map_or}
use Rattle.planner_expressions.specs.declared.fault.PlanFault.{PlanFault}
use Rattle.planner_expressions.specs.declared.fault.PlanFault.TheVariants as fault
use Rattle.planner_expressions.specs.declared.scope.ScopeColumn.{ScopeColumn}
use Rattle.planner_expressions.specs.declared.scope.Scope.{Scope}

-- the column has the name, and its table goes by the name that is written before it
abbrev pub is_meant : Option (List ℕ) → List ℕ → ScopeColumn → Bool
is_meant table name c = bytes_eq c.name name && option_map_or (bytes_eq c.owner) table true

-- all the columns of all tables of FROM that a name may refer to
abbrev pub meant : Scope → Option (List ℕ) → List ℕ → List ScopeColumn
meant s table name = filter (is_meant table name) s.columns

-- the one column among those that a name may refer to: where there is none it is unknown, where there are several it is
-- ambiguous
abbrev pub one_of : List ScopeColumn → Result ScopeColumn PlanFault
one_of [] = Err fault.ColumnUnknown
one_of (p ∷ []) = Ok p
one_of (p ∷ more) = Err fault.Ambiguous

abbrev pub found : Result ScopeColumn PlanFault → Option ScopeColumn
found (Ok p) = Some p
found (Err f) = None

-- the one column that a name refers to
abbrev pub stands_for : Scope → Option (List ℕ) → List ℕ → Option ScopeColumn
stands_for s table name = found (one_of (meant s table name))
