-- A comma and JOIN ask the same.
use Rattle.std.specs.Prelude.{◌≡◌, ℕ, List, [], ◌∷◌, map, Some, None, Ok}
use Rattle.meaning.specs.Cut.{Numbered}
use Rattle.meaning.specs.Meaning.{meaning}
use Rattle.meaning.specs.Order.{Row}
use Rattle.meaning.specs.declared.catalog.Catalog.{Catalog}
use Rattle.meaning.specs.declared.plan.Plan.{Plan}
use Rattle.sql_syntax.specs.declared.tree.JoinKind.TheVariants as join_kind
use Rattle.sql_syntax.specs.declared.tree.Expr.{Expr}
use Rattle.sql_syntax.specs.declared.tree.Query.{Query}
use Rattle.sql_syntax.specs.declared.tree.Table as written
use Rattle.sql_syntax.specs.Canonical.{canonical}
use Rattle.planner_expressions.specs.Results.{map_ok}
use Rattle.planner_clauses.specs.Checked.{conditions, row_conditions}
use Rattle.planner_clauses.specs.Conjuncts.{left_on}
use Rattle.planner.specs.Planned.{planned}

-- two queries that differ at most in which of their conditions stand behind ON, and which behind WHERE, and have the same
-- LEFT joins
pub record AskTheSame (q r : Query) : Type 0 where
  pub distinct : q.distinct ≡ r.distinct
  pub items : q.items ≡ r.items
  pub first : q.source.first ≡ r.source.first
  pub tables : map (λ j. j.table) q.source.others ≡ map (λ j. j.table) r.source.others
  pub left_ons : map (λ j. left_on j.kind) q.source.others ≡ map (λ j. left_on j.kind) r.source.others
  pub conditions_are : conditions q ≡ conditions r
  pub row_conditions_are : row_conditions q ≡ row_conditions r
  pub group_by : q.group_by ≡ r.group_by
  pub having : q.having ≡ r.having
  pub order_by : q.order_by ≡ r.order_by
  pub limit : q.limit ≡ r.limit

-- the plan with another text
abbrev pub with_text : List ℕ → Plan → Plan
with_text text p = record p { text = text }

-- they have one plan but for its text, or one fault
abbrev pub FormsAgree : Type 0
FormsAgree = (catalog : Catalog) (q r : Query) → AskTheSame q r → map_ok (with_text (canonical r)) (planned catalog q) ≡ planned catalog r

-- FROM first, other WHERE condition
abbrev pub with_comma : Query → written.Table → written.Table → Expr → Query
with_comma q first other condition =
    record q { source = record { first = first; others = record { table = other; kind = join_kind.Comma } ∷ [] }; filter = Some condition }

-- FROM first JOIN other ON condition
abbrev pub with_join : Query → written.Table → written.Table → Expr → Query
with_join q first other condition =
    record q { source = record { first = first; others = record { table = other; kind = join_kind.Inner condition } ∷ [] }; filter = None }

-- a comma with its condition behind WHERE has the plan of JOIN but for its text, or its fault; and the plans mean the same
-- over all tables
abbrev pub CommaIsJoin : Type 0
CommaIsJoin = (catalog : Catalog) (q : Query) (first other : written.Table) (condition : Expr)
    → (map_ok (with_text (canonical (with_join q first other condition))) (planned catalog (with_comma q first other condition)) ≡ planned catalog (with_join q first other condition))
    × ((p r : Plan) (dims : List (List Row)) (rows : Numbered)
    → planned catalog (with_comma q first other condition) ≡ Ok p
    → planned catalog (with_join q first other condition) ≡ Ok r
    → meaning p dims rows ≡ meaning r dims rows)
