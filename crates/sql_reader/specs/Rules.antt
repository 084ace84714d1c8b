-- Reading the tokens of a query from front to back: one definition a rule of the grammar.
use Rattle.std.specs.Prelude.{ℕ, zero, suc, Bool, true, false, if◌then◌else◌, List, [], ◌∷◌, ◌++◌, length, Option, Some, None, Result, Ok, Err}
use Rattle.meaning.specs.declared.plan.JoinType.{JoinType}
use Rattle.meaning.specs.declared.plan.JoinType.TheVariants as join_type
use Rattle.sql_syntax.specs.declared.keyword.Keyword.{Keyword}
use Rattle.sql_syntax.specs.declared.keyword.Keyword.TheVariants as keyword
use Rattle.sql_syntax.specs.declared.token.Sign.TheVariants as sign
use Rattle.sql_syntax.specs.declared.strength.Level.{Level}
use Rattle.sql_syntax.specs.declared.strength.Level.TheVariants as level
use Rattle.sql_syntax.specs.declared.tree.JoinKind.TheVariants as join_kind
use Rattle.sql_syntax.specs.declared.tree.Expr.{Expr}
use Rattle.sql_syntax.specs.declared.tree.Direction.{Direction}
use Rattle.sql_syntax.specs.declared.tree.Direction.TheVariants as direction
use Rattle.sql_syntax.specs.declared.tree.OrderTarget.{OrderTarget}
use Rattle.sql_syntax.specs.declared.tree.OrderTarget.TheVariants as target
use Rattle.sql_syntax.specs.declared.tree.OrderKey.{OrderKey}
use Rattle.sql_syntax.specs.declared.tree.Item.{Item}
use Rattle.sql_syntax.specs.declared.tree.Table.{Table}
use Rattle.sql_syntax.specs.declared.tree.Joined.{Joined}
use Rattle.sql_syntax.specs.declared.tree.Source.{Source}
use Rattle.sql_syntax.specs.declared.tree.Query.{Query}
use Rattle.sql_syntax.specs.Joins.{kind_of}
use Rattle.sql_syntax.specs.Tokens.{Terminal}
use Rattle.sql_expressions.specs.declared.stop.Stop.{Stop}
use Rattle.sql_expressions.specs.declared.stop.Stop.TheVariants as stop
use Rattle.sql_expressions.specs.Rules.{◌>>=◌, Reader, Reads, begins_integer, begins_name, begins_other, behind, choose, inner_at, integer_at, is_keyword, is_sign, list_at, name_at, past, stops_at}

-- ---- the parts of a query

-- an expression, by what reads one of each rule
abbrev pub expr_at : (Level → Reader) → Reader
expr_at inner = inner level.Disjunction

-- a name behind AS, or alone, or none
abbrev pub alias_at : List Terminal → Reads (Option (List ℕ))
alias_at ts =
    choose (behind (is_keyword keyword.As) ts) (λ us. name_at us >>= (λ n. Ok (Some n.0, n.1)))
    (if begins_name ts then name_at ts >>= (λ n. Ok (Some n.0, n.1)) else Ok (None, ts))

abbrev pub item_at : (Level → Reader) → List Terminal → Reads Item
item_at inner ts = expr_at inner ts >>= (λ e. alias_at e.1 >>= (λ a. Ok (record { expr = e.0.expr; alias = a.0 }, a.1)))

-- an item, put behind others
abbrev pub put_item : (Level → Reader) → List Item → List Terminal → Reads (List Item)
put_item inner before ts = item_at inner ts >>= (λ x. Ok (before ++ x.0 ∷ [], x.1))

-- items behind commas, fewer than n of them, put behind others
abbrev pub more_items : (Level → Reader) → ℕ → List Item → List Terminal → Reads (List Item)
more_items inner zero before ts = Err stop.TooDeep
more_items inner (suc n) before ts = choose (behind (is_sign sign.Comma) ts) (λ us. put_item inner before us >>= (λ x. more_items inner n x.0 x.1)) (Ok (before, ts))

-- items with commas between
abbrev pub items_at : (Level → Reader) → List Item → List Terminal → Reads (List Item)
items_at inner before ts = put_item inner before ts >>= (λ x. more_items inner (suc (length x.1)) x.0 x.1)

abbrev pub table_at : List Terminal → Reads Table
table_at ts = name_at ts >>= (λ n. alias_at n.1 >>= (λ a. Ok (record { name = n.0; alias = a.0 }, a.1)))

-- a keyword that has to stand, and an expression
abbrev pub condition_at : (Level → Reader) → Keyword → List Terminal → Reads Expr
condition_at inner k ts = past (is_keyword k) ts >>= (λ us. expr_at inner us >>= (λ e. Ok (e.0.expr, e.1)))

-- what stands behind a keyword that may be left out
abbrev pub past_if : Keyword → List Terminal → List Terminal
past_if k ts = choose (behind (is_keyword k) ts) (λ us. us) ts

-- a word that may be left out, and JOIN
abbrev pub past_join : Keyword → JoinType → List Terminal → Reads JoinType
past_join k by ts = past (is_keyword keyword.Join) (past_if k ts) >>= (λ us. Ok (by, us))

-- LEFT [OUTER] JOIN, or [INNER] JOIN
abbrev pub join_at : List Terminal → Reads JoinType
join_at ts = choose (behind (is_keyword keyword.Left) ts) (past_join keyword.Outer join_type.Left) (past_join keyword.Inner join_type.Inner ts)

-- the table behind a comma, and that behind JOIN, with its condition
abbrev pub listed_at : List Terminal → Reads Joined
listed_at ts = table_at ts >>= (λ t. Ok (record { table = t.0; kind = join_kind.Comma }, t.1))

abbrev pub joined_at : (Level → Reader) → JoinType → List Terminal → Reads Joined
joined_at inner by ts = table_at ts >>= (λ t. condition_at inner keyword.On t.1 >>= (λ e. Ok (record { table = t.0; kind = kind_of by e.0 }, e.1)))

-- a further table: behind a comma, or behind JOIN
abbrev pub other_at : (Level → Reader) → List Terminal → Reads Joined
other_at inner ts = choose (behind (is_sign sign.Comma) ts) listed_at (join_at ts >>= (λ j. joined_at inner j.0 j.1))

-- such a table, put behind others
abbrev pub put_other : (Level → Reader) → List Joined → List Terminal → Reads (List Joined)
put_other inner before ts = other_at inner ts >>= (λ j. Ok (before ++ j.0 ∷ [], j.1))

-- such tables, fewer than n of them, put behind others
abbrev pub more_others : (Level → Reader) → ℕ → List Joined → List Terminal → Reads (List Joined)
more_others inner zero before ts = Err stop.TooDeep
more_others inner (suc n) before ts = if begins_other ts then put_other inner before ts >>= (λ x. more_others inner n x.0 x.1) else Ok (before, ts)

-- the first table, and the others, put behind others
abbrev pub tables_at : (Level → Reader) → List Joined → List Terminal → Result ((Table × List Joined) × List Terminal) Stop
tables_at inner before ts = table_at ts >>= (λ t. more_others inner (suc (length t.1)) before t.1 >>= (λ o. Ok ((t.0, o.0), o.1)))

-- FROM and the tables
abbrev pub source_at : (Level → Reader) → List Terminal → Reads Source
source_at inner ts = past (is_keyword keyword.From) ts >>= (λ us. tables_at inner [] us >>= (λ x. Ok (record { first = x.0.0; others = x.0.1 }, x.1)))

-- a keyword and an expression, or nothing
abbrev pub clause_at : (Level → Reader) → Keyword → List Terminal → Reads (Option Expr)
clause_at inner k ts = choose (behind (is_keyword k) ts) (λ us. expr_at inner us >>= (λ e. Ok (Some e.0.expr, e.1))) (Ok (None, ts))

-- the expressions of GROUP BY, behind that word and others
abbrev pub group_keys_at : (Level → Reader) → List Expr → List Terminal → Reads (List Expr)
group_keys_at inner before ts =
    past (is_keyword keyword.By) ts >>= (λ us. list_at inner (record { exprs = before; deepest = 0 }) us >>= (λ es. Ok (es.0.exprs, es.1)))

-- the expressions of GROUP BY, or none
abbrev pub groups_at : (Level → Reader) → List Terminal → Reads (List Expr)
groups_at inner ts = choose (behind (is_keyword keyword.Group) ts) (group_keys_at inner []) (Ok ([], ts))

-- what ORDER BY names, and its direction
abbrev pub target_at : List Terminal → Reads OrderTarget
target_at ts = if begins_integer ts then integer_at ts >>= (λ n. Ok (target.Position n.0, n.1)) else name_at ts >>= (λ n. Ok (target.Name n.0, n.1))

abbrev pub direction_at : List Terminal → Direction × List Terminal
direction_at ts =
    choose (behind (is_keyword keyword.Desc) ts) (λ us. (direction.Descending, us))
    (choose (behind (is_keyword keyword.Asc) ts) (λ us. (direction.Ascending, us)) (direction.Ascending, ts))

abbrev pub key_at : List Terminal → Reads OrderKey
key_at ts = target_at ts >>= (λ t. Ok (record { target = t.0; direction = (direction_at t.1).0 }, (direction_at t.1).1))

-- a key, put behind others
abbrev pub put_key : List OrderKey → List Terminal → Reads (List OrderKey)
put_key before ts = key_at ts >>= (λ x. Ok (before ++ x.0 ∷ [], x.1))

-- keys behind commas, fewer than n of them, put behind others
abbrev pub more_keys : ℕ → List OrderKey → List Terminal → Reads (List OrderKey)
more_keys zero before ts = Err stop.TooDeep
more_keys (suc n) before ts = choose (behind (is_sign sign.Comma) ts) (λ us. put_key before us >>= (λ x. more_keys n x.0 x.1)) (Ok (before, ts))

-- keys with commas between
abbrev pub keys_at : List OrderKey → List Terminal → Reads (List OrderKey)
keys_at before ts = put_key before ts >>= (λ x. more_keys (suc (length x.1)) x.0 x.1)

-- the keys of ORDER BY, or none
abbrev pub order_at : List Terminal → Reads (List OrderKey)
order_at ts = choose (behind (is_keyword keyword.Order) ts) (λ us. past (is_keyword keyword.By) us >>= keys_at []) (Ok ([], ts))

abbrev pub limit_at : List Terminal → Reads (Option ℕ)
limit_at ts = choose (behind (is_keyword keyword.Limit) ts) (λ us. integer_at us >>= (λ n. Ok (Some n.0, n.1))) (Ok (None, ts))

-- no token is left
abbrev pub ended : List Terminal → Result (Unit {0}) Stop
ended [] = Ok tt
ended (t ∷ ts) = stops_at (t ∷ ts)

-- nothing or a semicolon, and then the end
abbrev pub ending_at : List Terminal → Result (Unit {0}) Stop
ending_at ts = choose (behind (is_sign sign.Semicolon) ts) ended (ended ts)

-- LIMIT, and the end
abbrev pub ended_limit_at : List Terminal → Result (Option ℕ) Stop
ended_limit_at ts = limit_at ts >>= (λ l. ending_at l.1 >>= (λ _. Ok l.0))

-- ORDER BY and LIMIT, and the end
abbrev pub Tail : Type 0
Tail = List OrderKey × Option ℕ

abbrev pub tail_at : List Terminal → Result Tail Stop
tail_at ts = order_at ts >>= (λ o. ended_limit_at o.1 >>= (λ l. Ok (o.0, l)))

-- HAVING, and all behind it
abbrev pub having_at : (Level → Reader) → List Terminal → Result (Option Expr × Tail) Stop
having_at inner ts = clause_at inner keyword.Having ts >>= (λ h. tail_at h.1 >>= (λ t. Ok (h.0, t)))

-- GROUP BY, and all behind it
abbrev pub grouping_at : (Level → Reader) → List Terminal → Result (List Expr × (Option Expr × Tail)) Stop
grouping_at inner ts = groups_at inner ts >>= (λ g. having_at inner g.1 >>= (λ h. Ok (g.0, h)))

-- WHERE, and all behind it
abbrev pub conditions_at : (Level → Reader) → List Terminal → Result (Option Expr × (List Expr × (Option Expr × Tail))) Stop
conditions_at inner ts = clause_at inner keyword.Where ts >>= (λ f. grouping_at inner f.1 >>= (λ g. Ok (f.0, g)))

-- FROM, and all behind it
abbrev pub from_at : (Level → Reader) → List Terminal → Result (Source × (Option Expr × (List Expr × (Option Expr × Tail)))) Stop
from_at inner ts = source_at inner ts >>= (λ s. conditions_at inner s.1 >>= (λ c. Ok (s.0, c)))

-- the query of its parts
abbrev pub query_of_parts : Bool → List Item → Source × (Option Expr × (List Expr × (Option Expr × Tail))) → Query
query_of_parts distinct items from = record {
  distinct = distinct;
  items = items;
  source = from.0;
  filter = from.1.0;
  group_by = from.1.1.0;
  having = from.1.1.1.0;
  order_by = from.1.1.1.1.0;
  limit = from.1.1.1.1.1;
}

-- items behind others, and all behind them
abbrev pub selected_at : (Level → Reader) → List Item → List Terminal → Result (List Item × (Source × (Option Expr × (List Expr × (Option Expr × Tail))))) Stop
selected_at inner before ts = items_at inner before ts >>= (λ i. from_at inner i.1 >>= (λ f. Ok (i.0, f)))

-- whether DISTINCT is at the front, and what stands behind it
abbrev pub distinct_at : List Terminal → Bool × List Terminal
distinct_at ts = choose (behind (is_keyword keyword.Distinct) ts) (λ us. (true, us)) (false, ts)

-- a query, behind SELECT
abbrev pub query_behind : (Level → Reader) → Bool × List Terminal → Result Query Stop
query_behind inner d = selected_at inner [] d.1 >>= (λ x. Ok (query_of_parts d.0 x.0 x.1))

-- a whole query
abbrev pub query_at : (Level → Reader) → List Terminal → Result Query Stop
query_at inner ts = past (is_keyword keyword.Select) ts >>= (λ us. query_behind inner (distinct_at us))

-- an expression of a rule, within the limits: its depth, and 256 that are opened within the outermost
abbrev pub within : Level → Reader
within = inner_at 128 257
