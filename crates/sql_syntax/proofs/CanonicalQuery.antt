-- The canonical tokens of a query spell it.
use Rattle.std.proofs.Common.{◌≡◌, ℕ, List, [], ◌∷◌, map, Option, Some, refl, subst}
use Rattle.std.proofs.lemmas.List.{append-nil}
use Rattle.meaning.specs.declared.plan.JoinType.{JoinType}
use Rattle.meaning.specs.declared.plan.JoinType.TheVariants as join_type
use Rattle.sql_syntax.specs.declared.keyword.Keyword.{Keyword}
use Rattle.sql_syntax.specs.declared.keyword.Keyword.TheVariants as keyword
use Rattle.sql_syntax.specs.declared.tree.Direction.{Direction}
use Rattle.sql_syntax.specs.declared.tree.OrderTarget.{OrderTarget}
use Rattle.sql_syntax.specs.declared.tree.OrderTarget.TheVariants as target
use Rattle.sql_syntax.specs.declared.tree.OrderKey.{OrderKey}
use Rattle.sql_syntax.specs.declared.tree.Expr.{Expr}
use Rattle.sql_syntax.specs.declared.tree.Item.{Item}
use Rattle.sql_syntax.specs.declared.tree.Table.{Table}
use Rattle.sql_syntax.specs.declared.tree.Joined.{Joined}
use Rattle.sql_syntax.specs.declared.tree.Query.{Query}
use Rattle.sql_syntax.specs.Words.{lower}
use Rattle.sql_syntax.specs.Tokens as terminal
use Rattle.sql_syntax.specs.Tokens.{Terminal}
use Rattle.sql_syntax.specs.declared.strength.Level.TheVariants as level
use Rattle.sql_syntax.specs.Joins.{kind_of}
use Rattle.sql_syntax.specs.Phrases.{word, Spells, SpellsList, last, more}
use Rattle.sql_syntax.specs.CanonicalTokens.{printed, free, list_tokens}
use Rattle.sql_syntax.specs.Queries.{SpellsAlias, none, bare, behind_as, SpellsTable, table, SpellsTarget, position, name, SpellsDirection, unsaid, ascending, descending, SpellsItems, last_item, more_items, join, left_join, SpellsOthers, no_others, behind_comma, behind_join, SpellsClause, no_clause, clause, SpellsGroups, no_groups, groups, SpellsKeys, last_key, more_keys, SpellsOrder, no_order, order, SpellsLimit, no_limit, limit, no_end, SpellsQuery, alias_tokens, table_tokens, item_tokens, with_commas, other_tokens, others_tokens_of, clause_tokens, groups_tokens_of, target_token, direction_tokens, key_tokens, order_tokens_of, limit_tokens_of, query_tokens}
use Rattle.sql_syntax.proofs.Names.{lower_lower}
use Rattle.sql_syntax.proofs.Canonical.{spells_at_level, good, good_list}

free_good : {ts : List Terminal} {e : Expr} → Spells level.Disjunction ts e → Spells level.Disjunction (free (printed e)) e
free_good {e = e} d = spells_at_level level.Disjunction e (good d)

alias_good : {ts : List Terminal} {alias : Option (List ℕ)} → SpellsAlias ts alias → SpellsAlias (alias_tokens alias) alias
alias_good none = none
alias_good (bare n) = subst (λ m. SpellsAlias (word keyword.As ∷ terminal.name (lower n) ∷ []) (Some m)) (lower_lower n) (behind_as (lower n))
alias_good (behind_as n) = subst (λ m. SpellsAlias (word keyword.As ∷ terminal.name (lower n) ∷ []) (Some m)) (lower_lower n) (behind_as (lower n))

table_good : {ts : List Terminal} {t : Table} → SpellsTable ts t → SpellsTable (table_tokens t) t
table_good (table n {alias = a} d) = subst (λ m. SpellsTable (terminal.name (lower n) ∷ alias_tokens a) (record { name = m; alias = a })) (lower_lower n) (table (lower n) (alias_good d))

target_good : {t : Terminal} {o : OrderTarget} → SpellsTarget t o → SpellsTarget (target_token o) o
target_good (position n h) = position n h
target_good (name n) = subst (λ m. SpellsTarget (terminal.name (lower n)) (target.Name m)) (lower_lower n) (name (lower n))

direction_good : {ts : List Terminal} {d : Direction} → SpellsDirection ts d → SpellsDirection (direction_tokens d) d
direction_good unsaid = unsaid
direction_good ascending = unsaid
direction_good descending = descending

some_items : {ts : List Terminal} {n : ℕ} → SpellsItems ts [] n → ⊥
some_items d = none_of d refl
  where
    none_of : {ts : List Terminal} {items : List Item} {n : ℕ} → SpellsItems ts items n → items ≡ [] → ⊥
    none_of (last_item d a) h = cc
    none_of (more_items d a rest) h = cc

more_items_good : (e : Expr) (alias : Option (List ℕ)) (items : List Item) (n : ℕ) → Spells level.Disjunction (free (printed e)) e → SpellsAlias (alias_tokens alias) alias → SpellsItems (with_commas (map item_tokens items)) items n
    → (m : ℕ) × SpellsItems (with_commas (map item_tokens (record { expr = e; alias = alias } ∷ items))) (record { expr = e; alias = alias } ∷ items) m
more_items_good e alias [] n d a rest = absurd (some_items rest)
more_items_good e alias (item ∷ items) n d a rest = (_, more_items d a rest)

items_good : {ts : List Terminal} {items : List Item} {n : ℕ} → SpellsItems ts items n → (m : ℕ) × SpellsItems (with_commas (map item_tokens items)) items m
items_good (last_item d a) = (_, last_item (free_good d) (alias_good a))
items_good (more_items {e = e} {alias = alias} {items = items} d a rest) = let r = items_good rest in more_items_good e alias items r.0 (free_good d) (alias_good a) r.1

kind_good : (by : JoinType) {t : Table} {e : Expr} {rest : List Terminal} {others : List Joined} {n : ℕ} → SpellsTable (table_tokens t) t → Spells level.Disjunction (free (printed e)) e → SpellsOthers rest others n
    → (m : ℕ) × SpellsOthers (other_tokens (kind_of by e) t rest) (record { table = t; kind = kind_of by e } ∷ others) m
kind_good join_type.Inner t d rest = (_, behind_join join t d rest)
kind_good join_type.Left t d rest = (_, behind_join left_join t d rest)

others_good : {ts : List Terminal} {others : List Joined} {n : ℕ} → SpellsOthers ts others n → (m : ℕ) × SpellsOthers (others_tokens_of others) others m
others_good no_others = (_, no_others)
others_good (behind_comma t rest) = let r = others_good rest in (_, behind_comma (table_good t) r.1)
others_good (behind_join {by = by} which t d rest) = let r = others_good rest in kind_good by (table_good t) (free_good d) r.1

clause_good : {k : Keyword} {ts : List Terminal} {o : Option Expr} {n : ℕ} → SpellsClause k ts o n → (m : ℕ) × SpellsClause k (clause_tokens k o) o m
clause_good no_clause = (_, no_clause)
clause_good (clause d) = (_, clause (free_good d))

some_groups : {us : List Terminal} {es : List Expr} → SpellsList us es → SpellsList (list_tokens (map printed es)) es → (m : ℕ) × SpellsGroups (groups_tokens_of es) es m
some_groups (last d) g = (_, groups g)
some_groups (more d ds) g = (_, groups g)

groups_good : {ts : List Terminal} {es : List Expr} {n : ℕ} → SpellsGroups ts es n → (m : ℕ) × SpellsGroups (groups_tokens_of es) es m
groups_good no_groups = (_, no_groups)
groups_good (groups d) = some_groups d (good_list d)

keys_good : {ts : List Terminal} {keys : List OrderKey} → SpellsKeys ts keys → SpellsKeys (with_commas (map key_tokens keys)) keys
keys_good (last_key t d) = last_key (target_good t) (direction_good d)
keys_good (more_keys t d (last_key t' d')) = more_keys (target_good t) (direction_good d) (keys_good (last_key t' d'))
keys_good (more_keys t d (more_keys t' d' rest)) = more_keys (target_good t) (direction_good d) (keys_good (more_keys t' d' rest))

order_good : {ts : List Terminal} {keys : List OrderKey} → SpellsOrder ts keys → SpellsOrder (order_tokens_of keys) keys
order_good no_order = no_order
order_good (order (last_key t d)) = order (keys_good (last_key t d))
order_good (order (more_keys t d rest)) = order (keys_good (more_keys t d rest))

limit_good : {ts : List Terminal} {o : Option ℕ} → SpellsLimit ts o → SpellsLimit (limit_tokens_of o) o
limit_good no_limit = no_limit
limit_good (limit n h) = limit n h

pub query_good : {ts : List Terminal} {q : Query} → SpellsQuery ts q → SpellsQuery (query_tokens q) q
query_good {ts} {q} s =
    let items = items_good s.items in
    let others = others_good s.others in
    let filter = clause_good s.filter in
    let groups = groups_good s.groups in
    let having = clause_good s.having in
    record {
      items_tokens = with_commas (map item_tokens q.items);
      items_open = items.0;
      items = items.1;
      first_tokens = table_tokens q.source.first;
      first = table_good s.first;
      others_tokens = others_tokens_of q.source.others;
      others_open = others.0;
      others = others.1;
      filter_tokens = clause_tokens keyword.Where q.filter;
      filter_open = filter.0;
      filter = filter.1;
      groups_tokens = groups_tokens_of q.group_by;
      groups_open = groups.0;
      groups = groups.1;
      having_tokens = clause_tokens keyword.Having q.having;
      having_open = having.0;
      having = having.1;
      order_tokens = order_tokens_of q.order_by;
      order = order_good s.order;
      limit_tokens = limit_tokens_of q.limit;
      limit = limit_good s.limit;
      end_tokens = [];
      ends = no_end;
      tokens = search (append-nil);
    }
