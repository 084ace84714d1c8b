-- Which tokens spell which query, and its canonical tokens and text.
use Rattle.std.specs.Prelude.{◌≡◌, ℕ, ◌≤◌, Bool, true, false, ◌||◌, not, if◌then◌else◌, List, [], ◌∷◌, ◌++◌, map, Option, Some, None, max, codes}
use Rattle.std.specs.Fmt.{decimal}
use Rattle.meaning.specs.declared.plan.JoinType.{JoinType}
use Rattle.meaning.specs.declared.plan.JoinType.TheVariants as join_type
use Rattle.sql_syntax.specs.declared.keyword.Keyword.{Keyword}
use Rattle.sql_syntax.specs.declared.keyword.Keyword.TheVariants as keyword
use Rattle.sql_syntax.specs.declared.token.Sign.{Sign}
use Rattle.sql_syntax.specs.declared.token.Sign.TheVariants as sign
use Rattle.sql_syntax.specs.Joins.{condition_of, kind_of}
use Rattle.sql_syntax.specs.declared.tree.JoinKind.{JoinKind}
use Rattle.sql_syntax.specs.declared.tree.JoinKind.TheVariants as join_kind
use Rattle.sql_syntax.specs.declared.tree.Direction.{Direction}
use Rattle.sql_syntax.specs.declared.tree.Direction.TheVariants as direction
use Rattle.sql_syntax.specs.declared.tree.OrderTarget.{OrderTarget}
use Rattle.sql_syntax.specs.declared.tree.OrderTarget.TheVariants as target
use Rattle.sql_syntax.specs.declared.tree.OrderKey.{OrderKey}
use Rattle.sql_syntax.specs.declared.tree.Expr.{Expr}
use Rattle.sql_syntax.specs.declared.tree.Item.{Item}
use Rattle.sql_syntax.specs.declared.tree.Table.{Table}
use Rattle.sql_syntax.specs.declared.tree.Joined.{Joined}
use Rattle.sql_syntax.specs.declared.tree.Query.{Query}
use Rattle.sql_syntax.specs.Words.{lower, spelling_of}
use Rattle.sql_syntax.specs.Tokens as terminal
use Rattle.sql_syntax.specs.Tokens.{Terminal}
use Rattle.sql_syntax.specs.declared.strength.Level.TheVariants as level
use Rattle.sql_syntax.specs.Phrases.{word, mark, distinct_if, Spells, SpellsList, open_in, open_in_list}
use Rattle.sql_syntax.specs.CanonicalTokens.{printed, free, list_tokens, depth, deepest}

-- ---- names and keys

-- a name behind an expression or a table, with AS or without it
pub data SpellsAlias : List Terminal → Option (List ℕ) → Type 0 where
  none : SpellsAlias [] None
  bare : (n : List ℕ) → SpellsAlias (terminal.name n ∷ []) (Some (lower n))
  behind_as : (n : List ℕ) → SpellsAlias (word keyword.As ∷ terminal.name n ∷ []) (Some (lower n))

pub data SpellsTable : List Terminal → Table → Type 0 where
  table : (n : List ℕ) {ts : List Terminal} {alias : Option (List ℕ)} → SpellsAlias ts alias → SpellsTable (terminal.name n ∷ ts) (record { name = lower n; alias = alias })

-- what ORDER BY names
pub data SpellsTarget : Terminal → OrderTarget → Type 0 where
  position : (n : ℕ) → n ≤ 9223372036854775807 → SpellsTarget (terminal.integer n) (target.Position n)
  name : (n : List ℕ) → SpellsTarget (terminal.name n) (target.Name (lower n))

-- ASC, which may be left out, or DESC
pub data SpellsDirection : List Terminal → Direction → Type 0 where
  unsaid : SpellsDirection [] direction.Ascending
  ascending : SpellsDirection (word keyword.Asc ∷ []) direction.Ascending
  descending : SpellsDirection (word keyword.Desc ∷ []) direction.Descending

-- ---- the parts of a query, each with how many are open at some token of it

-- expr [[AS] name] {"," expr [[AS] name]}
pub data SpellsItems : List Terminal → List Item → ℕ → Type 0 where
  last_item : {ts us : List Terminal} {e : Expr} {alias : Option (List ℕ)} (d : Spells level.Disjunction ts e) → SpellsAlias us alias
      → SpellsItems (ts ++ us) (record { expr = e; alias = alias } ∷ []) (open_in d)
  more_items : {ts us vs : List Terminal} {e : Expr} {alias : Option (List ℕ)} {items : List Item} {most : ℕ} (d : Spells level.Disjunction ts e) → SpellsAlias us alias → SpellsItems vs items most
      → SpellsItems (ts ++ us ++ mark sign.Comma ∷ vs) (record { expr = e; alias = alias } ∷ items) (max (open_in d) most)

-- [INNER] JOIN, or LEFT [OUTER] JOIN
pub data SpellsJoin : List Terminal → JoinType → Type 0 where
  join : SpellsJoin (word keyword.Join ∷ []) join_type.Inner
  inner_join : SpellsJoin (word keyword.Inner ∷ word keyword.Join ∷ []) join_type.Inner
  left_join : SpellsJoin (word keyword.Left ∷ word keyword.Join ∷ []) join_type.Left
  left_outer_join : SpellsJoin (word keyword.Left ∷ word keyword.Outer ∷ word keyword.Join ∷ []) join_type.Left

-- {"," table | join table ON expr}
pub data SpellsOthers : List Terminal → List Joined → ℕ → Type 0 where
  no_others : SpellsOthers [] [] 0
  behind_comma : {ts us : List Terminal} {t : Table} {others : List Joined} {most : ℕ} → SpellsTable ts t → SpellsOthers us others most
      → SpellsOthers (mark sign.Comma ∷ ts ++ us) (record { table = t; kind = join_kind.Comma } ∷ others) most
  behind_join : {is ts us vs : List Terminal} {by : JoinType} {t : Table} {e : Expr} {others : List Joined} {most : ℕ}
      → SpellsJoin is by → SpellsTable ts t → (d : Spells level.Disjunction us e) → SpellsOthers vs others most
      → SpellsOthers (is ++ (ts ++ (word keyword.On ∷ us ++ vs))) (record { table = t; kind = kind_of by e } ∷ others) (max (open_in d) most)

-- a keyword and an expression, or nothing
pub data SpellsClause (k : Keyword) : List Terminal → Option Expr → ℕ → Type 0 where
  no_clause : SpellsClause k [] None 0
  clause : {ts : List Terminal} {e : Expr} (d : Spells level.Disjunction ts e) → SpellsClause k (word k ∷ ts) (Some e) (open_in d)

-- [GROUP BY expr {"," expr}]
pub data SpellsGroups : List Terminal → List Expr → ℕ → Type 0 where
  no_groups : SpellsGroups [] [] 0
  groups : {ts : List Terminal} {es : List Expr} (d : SpellsList ts es) → SpellsGroups (word keyword.Group ∷ word keyword.By ∷ ts) es (open_in_list d)

-- okey {"," okey}
pub data SpellsKeys : List Terminal → List OrderKey → Type 0 where
  last_key : {t : Terminal} {ts : List Terminal} {o : OrderTarget} {d : Direction} → SpellsTarget t o → SpellsDirection ts d → SpellsKeys (t ∷ ts) (record { target = o; direction = d } ∷ [])
  more_keys : {t : Terminal} {ts us : List Terminal} {o : OrderTarget} {d : Direction} {keys : List OrderKey} → SpellsTarget t o → SpellsDirection ts d → SpellsKeys us keys
      → SpellsKeys (t ∷ ts ++ mark sign.Comma ∷ us) (record { target = o; direction = d } ∷ keys)

-- [ORDER BY okey {"," okey}]
pub data SpellsOrder : List Terminal → List OrderKey → Type 0 where
  no_order : SpellsOrder [] []
  order : {ts : List Terminal} {keys : List OrderKey} → SpellsKeys ts keys → SpellsOrder (word keyword.Order ∷ word keyword.By ∷ ts) keys

-- [LIMIT integer]
pub data SpellsLimit : List Terminal → Option ℕ → Type 0 where
  no_limit : SpellsLimit [] None
  limit : (n : ℕ) → n ≤ 9223372036854775807 → SpellsLimit (word keyword.Limit ∷ terminal.integer n ∷ []) (Some n)

-- nothing, or a semicolon
pub data SpellsEnd : List Terminal → Type 0 where
  no_end : SpellsEnd []
  semicolon : SpellsEnd (mark sign.Semicolon ∷ [])

-- ---- a query

-- the tokens of a query, and how many are open at the token where most are
pub record SpellsQuery (ts : List Terminal) (q : Query) : Type 0 where
  pub items_tokens : List Terminal
  pub items_open : ℕ
  pub items : SpellsItems items_tokens q.items items_open
  pub first_tokens : List Terminal
  pub first : SpellsTable first_tokens q.source.first
  pub others_tokens : List Terminal
  pub others_open : ℕ
  pub others : SpellsOthers others_tokens q.source.others others_open
  pub filter_tokens : List Terminal
  pub filter_open : ℕ
  pub filter : SpellsClause keyword.Where filter_tokens q.filter filter_open
  pub groups_tokens : List Terminal
  pub groups_open : ℕ
  pub groups : SpellsGroups groups_tokens q.group_by groups_open
  pub having_tokens : List Terminal
  pub having_open : ℕ
  pub having : SpellsClause keyword.Having having_tokens q.having having_open
  pub order_tokens : List Terminal
  pub order : SpellsOrder order_tokens q.order_by
  pub limit_tokens : List Terminal
  pub limit : SpellsLimit limit_tokens q.limit
  pub end_tokens : List Terminal
  pub ends : SpellsEnd end_tokens
  pub tokens : ts ≡ word keyword.Select ∷ distinct_if q.distinct
      ++ (items_tokens ++ (word keyword.From ∷ first_tokens ++ (others_tokens ++ (filter_tokens ++ (groups_tokens ++ (having_tokens ++ (order_tokens ++ (limit_tokens ++ end_tokens))))))))

-- how many are open at some token of the query
abbrev pub open_in_query : {ts : List Terminal} {q : Query} → SpellsQuery ts q → ℕ
open_in_query s = deepest (s.items_open ∷ s.others_open ∷ s.filter_open ∷ s.groups_open ∷ s.having_open ∷ [])

-- ---- its canonical tokens

abbrev pub alias_tokens : Option (List ℕ) → List Terminal
alias_tokens None = []
alias_tokens (Some n) = word keyword.As ∷ terminal.name n ∷ []

abbrev pub table_tokens : Table → List Terminal
table_tokens t = terminal.name t.name ∷ alias_tokens t.alias

abbrev pub item_tokens : Item → List Terminal
item_tokens item = free (printed item.expr) ++ alias_tokens item.alias

-- lists of tokens with commas between
abbrev pub with_commas : List (List Terminal) → List Terminal
with_commas [] = []
with_commas (ts ∷ []) = ts
with_commas (ts ∷ us ∷ rest) = ts ++ mark sign.Comma ∷ with_commas (us ∷ rest)

-- JOIN, a table and its condition, in front of the rest
abbrev pub on_tokens : Table → Expr → List Terminal → List Terminal
on_tokens t e rest = word keyword.Join ∷ table_tokens t ++ (word keyword.On ∷ free (printed e) ++ rest)

-- a further table in front of the rest
abbrev pub other_tokens : JoinKind → Table → List Terminal → List Terminal
other_tokens join_kind.Comma t rest = mark sign.Comma ∷ table_tokens t ++ rest
other_tokens (join_kind.Inner e) t rest = on_tokens t e rest
other_tokens (join_kind.Left e) t rest = word keyword.Left ∷ on_tokens t e rest

abbrev pub others_tokens_of : List Joined → List Terminal
others_tokens_of [] = []
others_tokens_of (j ∷ others) = other_tokens j.kind j.table (others_tokens_of others)

abbrev pub clause_tokens : Keyword → Option Expr → List Terminal
clause_tokens k None = []
clause_tokens k (Some e) = word k ∷ free (printed e)

-- GROUP BY and the list, or nothing
abbrev pub groups_tokens_of : List Expr → List Terminal
groups_tokens_of [] = []
groups_tokens_of (e ∷ es) = word keyword.Group ∷ word keyword.By ∷ list_tokens (map printed (e ∷ es))

abbrev pub target_token : OrderTarget → Terminal
target_token (target.Position n) = terminal.integer n
target_token (target.Name n) = terminal.name n

abbrev pub direction_tokens : Direction → List Terminal
direction_tokens direction.Ascending = []
direction_tokens direction.Descending = word keyword.Desc ∷ []

abbrev pub key_tokens : OrderKey → List Terminal
key_tokens key = target_token key.target ∷ direction_tokens key.direction

-- ORDER BY and its keys, or nothing
abbrev pub order_tokens_of : List OrderKey → List Terminal
order_tokens_of [] = []
order_tokens_of (key ∷ keys) = word keyword.Order ∷ word keyword.By ∷ with_commas (map key_tokens (key ∷ keys))

abbrev pub limit_tokens_of : Option ℕ → List Terminal
limit_tokens_of None = []
limit_tokens_of (Some n) = word keyword.Limit ∷ terminal.integer n ∷ []

-- the canonical tokens of a query
abbrev pub query_tokens : Query → List Terminal
query_tokens q =
    word keyword.Select ∷ distinct_if q.distinct ++ (with_commas (map item_tokens q.items) ++ (word keyword.From ∷ table_tokens q.source.first ++ (others_tokens_of q.source.others
    ++ (clause_tokens keyword.Where q.filter ++ (groups_tokens_of q.group_by
    ++ (clause_tokens keyword.Having q.having ++ (order_tokens_of q.order_by ++ limit_tokens_of q.limit)))))))

-- ---- their text

abbrev pub sign_text : Sign → List ℕ
sign_text sign.Open = codes "("
sign_text sign.Close = codes ")"
sign_text sign.Comma = codes ","
sign_text sign.Dot = codes "."
sign_text sign.Semicolon = codes ";"
sign_text sign.Plus = codes "+"
sign_text sign.Minus = codes "-"
sign_text sign.Star = codes "*"
sign_text sign.Slash = codes "/"
sign_text sign.Equal = codes "="
sign_text sign.NotEqual = codes "<>"
sign_text sign.Less = codes "<"
sign_text sign.AtMost = codes "<="
sign_text sign.Greater = codes ">"
sign_text sign.AtLeast = codes ">="

-- a token as it is written; the rest are no tokens of a query
abbrev pub token_text : Terminal → List ℕ
token_text (terminal.keyword k) = spelling_of k
token_text (terminal.name n) = n
token_text (terminal.integer n) = decimal n
token_text (terminal.text t) = codes "'" ++ t ++ codes "'"
token_text (terminal.sign_is s) = sign_text s
token_text _ = []

-- An operand may end with the token, so a minus behind it has two operands.
abbrev pub ends_operand : Terminal → Bool
ends_operand (terminal.name n) = true
ends_operand (terminal.integer n) = true
ends_operand (terminal.text t) = true
ends_operand (terminal.sign_is sign.Close) = true
ends_operand (terminal.keyword keyword.End) = true
ends_operand _ = false

-- no blank stands before the token
abbrev pub hugs_left : Terminal → Bool
hugs_left (terminal.sign_is sign.Close) = true
hugs_left (terminal.sign_is sign.Comma) = true
hugs_left (terminal.sign_is sign.Dot) = true
hugs_left _ = false

-- no blank stands behind the token, which stands behind an operand or not
abbrev pub hugs_right : Bool → Terminal → Bool
hugs_right operand (terminal.sign_is sign.Open) = true
hugs_right operand (terminal.sign_is sign.Dot) = true
hugs_right operand (terminal.sign_is sign.Minus) = not operand
hugs_right operand (terminal.keyword keyword.Count) = true
hugs_right operand (terminal.keyword keyword.Sum) = true
hugs_right operand (terminal.keyword keyword.Min) = true
hugs_right operand (terminal.keyword keyword.Max) = true
hugs_right operand (terminal.keyword keyword.Avg) = true
hugs_right operand (terminal.keyword keyword.Coalesce) = true
hugs_right operand _ = false

-- tokens behind others, which ended an operand or not, and want no blank behind them or do
abbrev pub text_behind : Bool → Bool → List Terminal → List ℕ
text_behind operand hugs [] = []
text_behind operand hugs (t ∷ ts) = (if hugs || hugs_left t then [] else codes " ") ++ (token_text t ++ text_behind (ends_operand t) (hugs_right operand t) ts)

-- one blank between two tokens, but where none stands
abbrev pub text_of : List Terminal → List ℕ
text_of = text_behind false true

-- ---- limits

abbrev pub option_depth : Option Expr → ℕ
option_depth None = 0
option_depth (Some e) = depth e

-- the depth of the deepest expression
abbrev pub query_depth : Query → ℕ
query_depth q =
    deepest (option_depth q.filter ∷ option_depth q.having ∷ deepest (map (λ item. depth item.expr) q.items) ∷ deepest (map (λ j. option_depth (condition_of j.kind)) q.source.others) ∷ deepest (map depth q.group_by) ∷ [])
