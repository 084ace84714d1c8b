-- The canonical tokens of a query may stand one behind the other in a text, and so are read again from it.
use Rattle.std.proofs.Common.{◌≡◌, ℕ, true, false, List, [], ◌∷◌, ◌++◌, map, Option, refl, sym, subst, append_assoc, arith}
use Rattle.std.proofs.lemmas.List.{append-nil}
use Rattle.std.specs.List.{AllByRecursion}
use Rattle.meaning.specs.declared.plan.JoinType.{JoinType}
use Rattle.meaning.specs.declared.plan.JoinType.TheVariants as join_type
use Rattle.sql_syntax.specs.declared.keyword.Keyword.TheVariants as keyword
use Rattle.sql_syntax.specs.declared.token.Sign.TheVariants as sign
use Rattle.sql_syntax.specs.declared.strength.Level.TheVariants as level
use Rattle.sql_syntax.specs.declared.tree.Direction.{Direction}
use Rattle.sql_syntax.specs.declared.tree.OrderTarget.{OrderTarget}
use Rattle.sql_syntax.specs.declared.tree.OrderKey.{OrderKey}
use Rattle.sql_syntax.specs.declared.tree.Expr.{Expr}
use Rattle.sql_syntax.specs.declared.tree.Item.{Item}
use Rattle.sql_syntax.specs.declared.tree.Table.{Table}
use Rattle.sql_syntax.specs.declared.tree.Joined.{Joined}
use Rattle.sql_syntax.specs.declared.tree.Query.{Query}
use Rattle.sql_syntax.specs.Tokens.{Terminal, tokens_of, terminals}
use Rattle.sql_syntax.specs.Canonical.{canonical}
use Rattle.sql_syntax.specs.Joins.{kind_of}
use Rattle.sql_syntax.specs.Phrases.{word, mark, distinct_if, Spells}
use Rattle.sql_syntax.specs.CanonicalTokens.{printed, free, list_tokens}
use Rattle.sql_syntax.specs.Queries.{SpellsAlias, none, bare, behind_as, SpellsTable, table, SpellsTarget, position, name, SpellsDirection, unsaid, ascending, descending, SpellsItems, last_item, more_items, SpellsOthers, no_others, behind_comma, behind_join, SpellsClause, no_clause, clause, SpellsGroups, no_groups, groups, SpellsKeys, last_key, more_keys, SpellsOrder, no_order, order, SpellsLimit, no_limit, limit, SpellsQuery, alias_tokens, table_tokens, item_tokens, with_commas, other_tokens, others_tokens_of, clause_tokens, groups_tokens_of, target_token, direction_tokens, key_tokens, order_tokens_of, limit_tokens_of, query_tokens}
use Rattle.sql_syntax.proofs.Names.{IsProper, lower_name, tokens_proper}
use Rattle.sql_syntax.proofs.ReadAgain.{AreApart, tokens_again}
use Rattle.sql_syntax.proofs.CanonicalQuery.{query_good}
use Rattle.sql_syntax.proofs.Apart.{Ends, Goes, Fits, distinct_fits, free_fits, weak_parts, split_all, no_arms, apt, apt_list}

after : (ts us : List Terminal) → Goes ts → Goes us → Goes (ts ++ us)
after ts us x y = λ rest ends. subst Ends (sym (append_assoc ts us rest)) (x (us ++ rest) (y rest ends))

fits_then : (ts us : List Terminal) → Fits false ts → Goes us → Fits false (ts ++ us)
fits_then ts us fits goes = weak_parts ts us fits goes

alias_goes : {ts : List Terminal} {alias : Option (List ℕ)} → SpellsAlias ts alias → AllByRecursion IsProper ts → Goes (alias_tokens alias)
alias_goes none all = no_arms
alias_goes (bare n) all = λ rest ends o. (tt, refl, (lower_name n all.0, refl, ends true))
alias_goes (behind_as n) all = λ rest ends o. (tt, refl, (lower_name n all.1.0, refl, ends true))

-- a name in front needs nothing
table_fits : {ts : List Terminal} {t : Table} → SpellsTable ts t → AllByRecursion IsProper ts → Fits false (table_tokens t)
table_fits (table n d) all = let goes = alias_goes d all.1 in λ rest ends. (lower_name n all.0, refl, goes rest ends true)

expr_fits : {ts : List Terminal} {e : Expr} → Spells level.Disjunction ts e → AllByRecursion IsProper ts → Fits false (free (printed e))
expr_fits {e = e} d all = free_fits level.Disjunction e (apt d all)

some_items : {ts : List Terminal} {n : ℕ} → SpellsItems ts [] n → ⊥
some_items d = none_of d refl
  where
    none_of : {ts : List Terminal} {items : List Item} {n : ℕ} → SpellsItems ts items n → items ≡ [] → ⊥
    none_of (last_item d a) h = cc
    none_of (more_items d a rest) h = cc

items_more : (item : Item) (items : List Item) {ts : List Terminal} {n : ℕ} → SpellsItems ts items n → Fits false (item_tokens item) → Fits false (with_commas (map item_tokens items)) → Fits false (with_commas (map item_tokens (item ∷ items)))
items_more item [] d fits others = absurd (some_items d)
items_more item (next ∷ items) d fits others = fits_then (item_tokens item) (mark sign.Comma ∷ with_commas (map item_tokens (next ∷ items))) fits (λ rest ends o. (tt, refl, others rest ends))

items_fit : {ts : List Terminal} {items : List Item} {n : ℕ} → SpellsItems ts items n → AllByRecursion IsProper ts → Fits false (with_commas (map item_tokens items))
items_fit (last_item {ts = ts} {us = us} {e = e} {alias = alias} d a) all =
    let s = split_all ts us all in fits_then (free (printed e)) (alias_tokens alias) (expr_fits d s.0) (alias_goes a s.1)
items_fit (more_items {ts = ts} {us = us} {vs = vs} {e = e} {alias = alias} {items = items} d a others) all =
    let s = split_all ts (us ++ mark sign.Comma ∷ vs) (subst (AllByRecursion IsProper) (append_assoc ts us (mark sign.Comma ∷ vs)) all) in
    let t = split_all us (mark sign.Comma ∷ vs) s.1 in
    items_more (record { expr = e; alias = alias }) items others (fits_then (free (printed e)) (alias_tokens alias) (expr_fits d s.0) (alias_goes a t.0)) (items_fit others t.1.1)

-- the parts of a table with a condition
on_parts : (is ts us vs : List Terminal) → AllByRecursion IsProper (is ++ (ts ++ (word keyword.On ∷ us ++ vs)))
    → AllByRecursion IsProper ts × (AllByRecursion IsProper us × AllByRecursion IsProper vs)
on_parts is ts us vs all =
    let p = split_all is (ts ++ (word keyword.On ∷ us ++ vs)) all in
    let s = split_all ts (word keyword.On ∷ us ++ vs) p.1 in
    (s.0, split_all us vs s.1.1)

on_fits : (t : Table) (e : Expr) (rest : List Terminal) → Fits false (table_tokens t) → Fits false (free (printed e)) → Goes rest
    → Fits false (table_tokens t ++ (word keyword.On ∷ free (printed e) ++ rest))
on_fits t e rest x y goes =
    let on = fits_then (free (printed e)) rest y goes in
    fits_then (table_tokens t) (word keyword.On ∷ free (printed e) ++ rest) x (λ more ends o. (tt, refl, on more ends))

kind_goes : (by : JoinType) (t : Table) (e : Expr) (rest : List Terminal) → Fits false (table_tokens t) → Fits false (free (printed e)) → Goes rest → Goes (other_tokens (kind_of by e) t rest)
kind_goes join_type.Inner t e rest x y goes = let fits = on_fits t e rest x y goes in λ more ends o. (tt, refl, fits more ends)
kind_goes join_type.Left t e rest x y goes = let fits = on_fits t e rest x y goes in λ more ends o. (tt, refl, (tt, refl, fits more ends))

others_goes : {ts : List Terminal} {others : List Joined} {n : ℕ} → SpellsOthers ts others n → AllByRecursion IsProper ts → Goes (others_tokens_of others)
others_goes no_others all = no_arms
others_goes (behind_comma {ts = ts} {us = us} {t = t} {others = others} d rest_of) all =
    let s = split_all ts us all.1 in
    let fits = fits_then (table_tokens t) (others_tokens_of others) (table_fits d s.0) (others_goes rest_of s.1) in
    λ rest ends o. (tt, refl, fits rest ends)
others_goes (behind_join {is = is} {ts = ts} {us = us} {vs = vs} {by = by} {t = t} {e = e} {others = others} which d x rest_of) all =
    let p = on_parts is ts us vs all in kind_goes by t e (others_tokens_of others) (table_fits d p.0) (expr_fits x p.1.0) (others_goes rest_of p.1.1)

where_goes : {ts : List Terminal} {c : Option Expr} {n : ℕ} → SpellsClause keyword.Where ts c n → AllByRecursion IsProper ts → Goes (clause_tokens keyword.Where c)
where_goes no_clause all = no_arms
where_goes (clause d) all = let fits = expr_fits d all.1 in λ rest ends o. (tt, refl, fits rest ends)

having_goes : {ts : List Terminal} {c : Option Expr} {n : ℕ} → SpellsClause keyword.Having ts c n → AllByRecursion IsProper ts → Goes (clause_tokens keyword.Having c)
having_goes no_clause all = no_arms
having_goes (clause d) all = let fits = expr_fits d all.1 in λ rest ends o. (tt, refl, fits rest ends)

group_goes : (es : List Expr) → Fits false (list_tokens (map printed es)) → Goes (groups_tokens_of es)
group_goes [] fits = no_arms
group_goes (e ∷ es) fits = λ rest ends o. (tt, refl, (tt, refl, fits rest ends))

groups_goes : {ts : List Terminal} {es : List Expr} {n : ℕ} → SpellsGroups ts es n → AllByRecursion IsProper ts → Goes (groups_tokens_of es)
groups_goes no_groups all = no_arms
groups_goes (groups {es = es} d) all = group_goes es (apt_list d all.1.1)

direction_goes : {ts : List Terminal} {d : Direction} → SpellsDirection ts d → Goes (direction_tokens d)
direction_goes unsaid = no_arms
direction_goes ascending = no_arms
direction_goes descending = λ rest ends o. (tt, refl, ends false)

key_fits : {t : Terminal} {ts : List Terminal} {o : OrderTarget} {d : Direction} → SpellsTarget t o → SpellsDirection ts d → AllByRecursion IsProper (t ∷ ts) → Fits false (target_token o ∷ direction_tokens d)
key_fits (position n h) d all = let goes = direction_goes d in λ rest ends. (omega (arith, h), refl, goes rest ends true)
key_fits (name n) d all = let goes = direction_goes d in λ rest ends. (lower_name n all.0, refl, goes rest ends true)

some_keys : {ts : List Terminal} → SpellsKeys ts [] → ⊥
some_keys d = none_of d refl
  where
    none_of : {ts : List Terminal} {keys : List OrderKey} → SpellsKeys ts keys → keys ≡ [] → ⊥
    none_of (last_key t d) h = cc
    none_of (more_keys t d rest) h = cc

keys_more : (key : OrderKey) (keys : List OrderKey) {ts : List Terminal} → SpellsKeys ts keys → Fits false (key_tokens key) → Fits false (with_commas (map key_tokens keys)) → Fits false (with_commas (map key_tokens (key ∷ keys)))
keys_more key [] d fits others = absurd (some_keys d)
keys_more key (next ∷ keys) d fits others = fits_then (key_tokens key) (mark sign.Comma ∷ with_commas (map key_tokens (next ∷ keys))) fits (λ rest ends o. (tt, refl, others rest ends))

keys_fit : {ts : List Terminal} {keys : List OrderKey} → SpellsKeys ts keys → AllByRecursion IsProper ts → Fits false (with_commas (map key_tokens keys))
keys_fit (last_key t d) all = key_fits t d all
keys_fit (more_keys {t = x} {ts = ts} {us = us} {o = o} {d = direction} {keys = keys} t d others) all =
    let s = split_all (x ∷ ts) (mark sign.Comma ∷ us) all in keys_more (record { target = o; direction = direction }) keys others (key_fits t d s.0) (keys_fit others s.1.1)

order_is : (keys : List OrderKey) → Fits false (with_commas (map key_tokens keys)) → Goes (order_tokens_of keys)
order_is [] fits = no_arms
order_is (key ∷ keys) fits = λ rest ends o. (tt, refl, (tt, refl, fits rest ends))

order_goes : {ts : List Terminal} {keys : List OrderKey} → SpellsOrder ts keys → AllByRecursion IsProper ts → Goes (order_tokens_of keys)
order_goes no_order all = no_arms
order_goes (order {keys = keys} d) all = order_is keys (keys_fit d all.1.1)

limit_goes : {ts : List Terminal} {o : Option ℕ} → SpellsLimit ts o → Goes (limit_tokens_of o)
limit_goes no_limit = no_arms
limit_goes (limit n h) = λ rest ends o. (tt, refl, (omega (arith, h), refl, ends true))

pub query_apart : {ts : List Terminal} {q : Query} → SpellsQuery ts q → AllByRecursion IsProper ts → AreApart false (query_tokens q)
query_apart {ts} {q} s proper =
    let all = subst (AllByRecursion IsProper) s.tokens proper in
    let distinct = split_all (distinct_if q.distinct) (s.items_tokens ++ (word keyword.From ∷ s.first_tokens ++ (s.others_tokens ++ (s.filter_tokens ++ (s.groups_tokens ++ (s.having_tokens ++ (s.order_tokens ++ (s.limit_tokens ++ s.end_tokens)))))))) all.1 in
    let items = split_all s.items_tokens (word keyword.From ∷ s.first_tokens ++ (s.others_tokens ++ (s.filter_tokens ++ (s.groups_tokens ++ (s.having_tokens ++ (s.order_tokens ++ (s.limit_tokens ++ s.end_tokens))))))) distinct.1 in
    let first = split_all s.first_tokens (s.others_tokens ++ (s.filter_tokens ++ (s.groups_tokens ++ (s.having_tokens ++ (s.order_tokens ++ (s.limit_tokens ++ s.end_tokens)))))) items.1.1 in
    let others = split_all s.others_tokens (s.filter_tokens ++ (s.groups_tokens ++ (s.having_tokens ++ (s.order_tokens ++ (s.limit_tokens ++ s.end_tokens))))) first.1 in
    let filter = split_all s.filter_tokens (s.groups_tokens ++ (s.having_tokens ++ (s.order_tokens ++ (s.limit_tokens ++ s.end_tokens)))) others.1 in
    let groups = split_all s.groups_tokens (s.having_tokens ++ (s.order_tokens ++ (s.limit_tokens ++ s.end_tokens))) filter.1 in
    let having = split_all s.having_tokens (s.order_tokens ++ (s.limit_tokens ++ s.end_tokens)) groups.1 in
    let order = split_all s.order_tokens (s.limit_tokens ++ s.end_tokens) having.1 in
    let limit : Goes (limit_tokens_of q.limit) = limit_goes s.limit in
    let from_order = after (order_tokens_of q.order_by) (limit_tokens_of q.limit) (order_goes s.order order.0) limit in
    let from_having = after (clause_tokens keyword.Having q.having) (order_tokens_of q.order_by ++ limit_tokens_of q.limit) (having_goes s.having having.0) from_order in
    let from_groups = after (groups_tokens_of q.group_by) (clause_tokens keyword.Having q.having ++ (order_tokens_of q.order_by ++ limit_tokens_of q.limit)) (groups_goes s.groups groups.0) from_having in
    let from_filter = after (clause_tokens keyword.Where q.filter) (groups_tokens_of q.group_by ++ (clause_tokens keyword.Having q.having ++ (order_tokens_of q.order_by ++ limit_tokens_of q.limit))) (where_goes s.filter filter.0) from_groups in
    let from_others = after (others_tokens_of q.source.others) (clause_tokens keyword.Where q.filter ++ (groups_tokens_of q.group_by ++ (clause_tokens keyword.Having q.having ++ (order_tokens_of q.order_by ++ limit_tokens_of q.limit)))) (others_goes s.others others.0) from_filter in
    let tail : List Terminal = others_tokens_of q.source.others ++ (clause_tokens keyword.Where q.filter ++ (groups_tokens_of q.group_by ++ (clause_tokens keyword.Having q.having ++ (order_tokens_of q.order_by ++ limit_tokens_of q.limit)))) in
    let from = fits_then (table_tokens q.source.first) tail (table_fits s.first first.0) from_others in
    let whole = fits_then (with_commas (map item_tokens q.items)) (word keyword.From ∷ table_tokens q.source.first ++ tail) (items_fit s.items items.0) (λ rest ends o. (tt, refl, from rest ends)) in
    let items_on : List Terminal = with_commas (map item_tokens q.items) ++ (word keyword.From ∷ table_tokens q.source.first ++ tail) in
    (tt, refl, subst (AreApart false) (append-nil (distinct_if q.distinct ++ items_on)) (distinct_fits q.distinct items_on whole [] (λ o. tt)))

-- the tokens of the canonical text are the canonical tokens
pub canonical_tokens_again : (bs : List ℕ) (q : Query) → SpellsQuery (terminals (tokens_of bs)) q → terminals (tokens_of (canonical q)) ≡ query_tokens q
unfolding canonical
canonical_tokens_again bs q s = tokens_again (query_tokens q) (query_apart s (tokens_proper bs))

-- so the canonical text spells the query again
pub canonical_again : (bs : List ℕ) (q : Query) → SpellsQuery (terminals (tokens_of bs)) q → SpellsQuery (terminals (tokens_of (canonical q))) q
canonical_again bs q s = subst (λ ts. SpellsQuery ts q) (sym (canonical_tokens_again bs q s)) (query_good s)
