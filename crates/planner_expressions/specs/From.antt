-- The tables of FROM, one after the other: each is declared, and goes by a name of its own.
use Rattle.std.specs.Prelude.{ℕ, ◌==◌, nat_lt, Bool, true, false, not, ◌&&◌, ◌||◌, List, [], ◌∷◌, ◌++◌, length, map, find, if◌then◌else◌, Option, Some, None, option_map, unwrap_or, Result, Ok, Err, bytes_eq}
use Rattle.std.specs.List.{list_any, enumerate_from}
use Rattle.meaning.specs.Limits.{max_joins}
use Rattle.meaning.specs.Results.{and_then}
use Rattle.meaning.specs.declared.catalog.Column.{Column}
use Rattle.meaning.specs.declared.catalog.Table.{Table}
use Rattle.meaning.specs.declared.catalog.Dimension.{Dimension}
use Rattle.meaning.specs.declared.catalog.Catalog.{Catalog}
use Rattle.meaning.specs.declared.plan.JoinType.{JoinType}
use Rattle.meaning.specs.declared.plan.JoinType.TheVariants.{Inner, Left}
use Rattle.sql_syntax.specs.declared.tree.Table as written
use Rattle.sql_syntax.specs.declared.tree.JoinKind.{JoinKind}
use Rattle.sql_syntax.specs.declared.tree.JoinKind.TheVariants as join_kind
use Rattle.sql_syntax.specs.declared.tree.Joined.{Joined}
use Rattle.sql_syntax.specs.declared.tree.Source.{Source}
use Rattle.planner_expressions.specs.declared.fault.PlanFault.{PlanFault}
use Rattle.planner_expressions.specs.declared.fault.PlanFault.TheVariants as fault
use Rattle.planner_expressions.specs.declared.scope.ScopeColumn.{ScopeColumn}
use Rattle.planner_expressions.specs.declared.scope.Scope.{Scope}
use Rattle.planner_expressions.specs.declared.scope.Times.{Times}
use Rattle.planner_expressions.specs.declared.scope.Times.TheVariants.{Never, Once, Often}

-- the name that a table goes by: its alias alone, and without one its own
abbrev pub called : written.Table → List ℕ
called t = unwrap_or t.alias t.name

-- a comma joins as JOIN does
abbrev pub join_type_of : JoinKind → JoinType
join_type_of join_kind.Comma = Inner
join_type_of (join_kind.Inner e) = Inner
join_type_of (join_kind.Left e) = Left

abbrev pub is_left : JoinType → Bool
is_left Inner = false
is_left Left = true

abbrev pub is_at : ℕ → Option ℕ → Bool
is_at n None = false
is_at n (Some m) = n == m

-- a column of a table that goes by this name, of this dimension of FROM or of the fact, whose key is this column
abbrev pub scope_column_of : List ℕ → Option ℕ → Option ℕ → ℕ × Column → ScopeColumn
scope_column_of name join key c =
    record { owner = name; join = join; column = c.0; is_key = is_at c.0 key; name = c.1.name; col_type = c.1.col_type }

abbrev pub scope_columns : List ℕ → Option ℕ → Option ℕ → List Column → List ScopeColumn
scope_columns name join key columns = map (scope_column_of name join key) (enumerate_from 0 columns)

abbrev pub once_more : Times → Times
once_more Never = Once
once_more Once = Often
once_more Often = Often

-- with the fact
abbrev pub with_fact : Scope → List ℕ → Table → Scope
with_fact s name t = record {
  names = s.names ++ name ∷ [];
  fact = once_more s.fact;
  dims = s.dims;
  columns = s.columns ++ scope_columns name None None t.columns;
}

-- with one more dimension, joined so
abbrev pub with_dim : Scope → List ℕ → JoinType → Dimension → Scope
with_dim s name by d = record {
  names = s.names ++ name ∷ [];
  fact = s.fact;
  dims = s.dims ++ record { called = name; name = d.table.name; key = d.key; join_type = by } ∷ [];
  columns = s.columns ++ scope_columns name (Some (length s.dims)) (Some d.key) d.table.columns;
}

-- with one more table, if the catalogue has it
abbrev pub with_table : Catalog → Scope → JoinType → written.Table → Option Scope
with_table catalog s by t =
    if bytes_eq catalog.fact.name t.name then Some (with_fact s (called t) catalog.fact)
    else option_map (with_dim s (called t) by) (find (λ d. bytes_eq d.table.name t.name) catalog.dims)

-- a value that is there, or isn't
abbrev pub if_there : {X : Type 0} → Bool → X → Option X
if_there there x = if there then Some x else None

-- where the table is declared and no other goes by its name
abbrev pub if_new : Bool → Option Scope → Result Scope PlanFault
if_new taken None = Err fault.TableUnknown
if_new taken (Some s) = if taken then Err fault.Ambiguous else Ok s

abbrev pub enter : Catalog → Scope → JoinType → written.Table → Result Scope PlanFault
enter catalog s by t = if_new (list_any (bytes_eq (called t)) s.names) (with_table catalog s by t)

-- the further tables in turn
abbrev pub enter_all : Catalog → Scope → List Joined → Result Scope PlanFault
enter_all catalog s [] = Ok s
enter_all catalog s (j ∷ js) = and_then (enter catalog s (join_type_of j.kind) j.table) (λ with_one. enter_all catalog with_one js)

abbrev pub no_tables : Scope
no_tables = record { names = []; fact = Never; dims = []; columns = [] }

-- FROM as a whole: the fact is named just once, and there are no more joins than may be
abbrev pub whole : Scope → Times → Result Scope PlanFault
whole s Never = Err fault.FactNotOnce
whole s Once = if nat_lt max_joins (length s.dims) then Err fault.OverLimit else Ok s
whole s Often = Err fault.FactNotOnce

abbrev pub is_fact : List ℕ → written.Table → Bool
is_fact fact t = bytes_eq fact t.name

-- behind these tables: each LEFT join has the fact before it. So its own table is a dimension, as the fact is named just
-- once
abbrev pub is_before_lefts : List ℕ → List written.Table → List Joined → Bool
is_before_lefts fact before [] = true
is_before_lefts fact before (j ∷ js) =
    (not (is_left (join_type_of j.kind)) || list_any (is_fact fact) before) && is_before_lefts fact (before ++ j.table ∷ []) js

-- of the joins up to the fact's none is LEFT
abbrev pub no_left_before : List ℕ → List Joined → Bool
no_left_before fact [] = true
no_left_before fact (j ∷ js) = not (is_left (join_type_of j.kind)) && (is_fact fact j.table || no_left_before fact js)

abbrev pub if_behind : Bool → Scope → Result Scope PlanFault
if_behind behind s = if behind then Ok s else Err fault.LeftNotBehindFact

-- each LEFT join of FROM has the fact before it
abbrev pub if_lefts_behind : List ℕ → Source → Scope → Result Scope PlanFault
if_lefts_behind fact source s = if_behind (is_before_lefts fact (source.first ∷ []) source.others) s

-- the tables in turn, and then all of them
abbrev pub source_from : Catalog → Scope → Source → Result Scope PlanFault
source_from catalog s source =
    and_then (enter catalog s Inner source.first)
    (λ with_first. and_then (enter_all catalog with_first source.others)
    (λ all. and_then (whole all all.fact) (if_lefts_behind catalog.fact.name source)))

-- the tables of FROM, or the first fault
abbrev pub scope_of : Catalog → Source → Result Scope PlanFault
scope_of catalog source = source_from catalog no_tables source
