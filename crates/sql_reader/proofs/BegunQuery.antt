-- Where reading a query stops at a token, the tokens before it begin a query: some tokens behind them spell one.
use Rattle.std.proofs.Common.{◌≡◌, ◌⊎◌, ℕ, zero, suc, ◌+◌, ◌≤◌, Bool, true, false, cond, List, [], ◌∷◌, ◌++◌, length, Option, Some, None, Result, Ok, Err, refl, sym, ap, ◌∙◌, subst, arith, append_assoc, inl, inr}
use Rattle.std.specs.Prelude.{max}
use Rattle.std.proofs.lemmas.List.{append-nil}
use Rattle.meaning.specs.declared.plan.JoinType.{JoinType}
use Rattle.meaning.specs.declared.plan.JoinType.TheVariants as join_type
use Rattle.sql_syntax.specs.declared.keyword.Keyword.{Keyword}
use Rattle.sql_syntax.specs.declared.keyword.Keyword.TheVariants as keyword
use Rattle.sql_syntax.specs.declared.token.Sign.TheVariants as sign
use Rattle.sql_syntax.specs.Joins.{kind_of}
use Rattle.sql_syntax.specs.declared.tree.JoinKind.TheVariants as join_kind
use Rattle.sql_syntax.specs.declared.tree.OrderTarget.{OrderTarget}
use Rattle.sql_syntax.specs.declared.tree.OrderTarget.TheVariants as target
use Rattle.sql_syntax.specs.declared.tree.OrderKey.{OrderKey}
use Rattle.sql_syntax.specs.declared.tree.Expr.{Expr}
use Rattle.sql_syntax.specs.declared.tree.Item.{Item}
use Rattle.sql_syntax.specs.declared.tree.Table.{Table}
use Rattle.sql_syntax.specs.declared.tree.Joined.{Joined}
use Rattle.sql_syntax.specs.declared.tree.Source.{Source}
use Rattle.sql_syntax.specs.declared.tree.Query.{Query}
use Rattle.sql_syntax.specs.Tokens as terminal
use Rattle.sql_syntax.specs.Tokens.{Terminal}
use Rattle.sql_syntax.specs.declared.strength.Level.{Level}
use Rattle.sql_syntax.specs.declared.strength.Level.TheVariants as level
use Rattle.sql_syntax.specs.Phrases.{word, mark, distinct_if, Spells, last, open_in, open_in_list}
use Rattle.sql_syntax.specs.Queries.{SpellsAlias, none, bare, behind_as, SpellsTable, table, name, unsaid, SpellsItems, last_item, more_items, SpellsJoin, join, inner_join, left_join, left_outer_join, SpellsOthers, no_others, behind_comma, behind_join, SpellsClause, no_clause, clause, SpellsGroups, no_groups, groups, SpellsKeys, last_key, more_keys, SpellsOrder, no_order, order, SpellsLimit, no_limit, limit, SpellsEnd, no_end, semicolon, SpellsQuery}
use Rattle.sql_expressions.specs.declared.parsed.Parsed.{Parsed}
use Rattle.sql_expressions.specs.declared.stop.Stop.{Stop}
use Rattle.sql_expressions.specs.declared.stop.Stop.TheVariants as stop
use Rattle.sql_expressions.specs.Rules as phrase
use Rattle.sql_expressions.specs.Rules.{◌>>=◌, choose, is_keyword, is_sign, behind, past, first_is, inner_at}
use Rattle.sql_reader.specs.Rules as rule
use Rattle.sql_expressions.proofs.Local as local
use Rattle.sql_expressions.proofs.Sound.{IsInner, word_taken, mark_taken, word_past, bind_ok, inner_sound}
use Rattle.sql_expressions.proofs.Begun.{Begun, begun_here, begun_end, begun_as, begun_into, begun_before, IsOf, AreViable, filled, bind_err, choose_err, needed_err, behind_it, list_begun}
use Rattle.sql_expressions.proofs.BegunRules.{inner_begun}
use Rattle.sql_reader.proofs.SoundQuery as sound

-- ---- parts

abbrev IsAlias : List Terminal → Type 0
IsAlias us = (a : Option (List ℕ)) × SpellsAlias us a

abbrev IsTable : List Terminal → Type 0
IsTable us = (t : Table) × SpellsTable us t

abbrev AreItems : List Terminal → Type 0
AreItems us = (items : List Item) × (most : ℕ) × SpellsItems us items most

abbrev AreOthers : List Terminal → Type 0
AreOthers us = (others : List Joined) × (most : ℕ) × SpellsOthers us others most

abbrev IsClause : Keyword → List Terminal → Type 0
IsClause k us = (x : Option Expr) × (most : ℕ) × SpellsClause k us x most

abbrev AreGroups : List Terminal → Type 0
AreGroups us = (es : List Expr) × (most : ℕ) × SpellsGroups us es most

abbrev AreKeys : List Terminal → Type 0
AreKeys us = (keys : List OrderKey) × SpellsKeys us keys

abbrev IsOrder : List Terminal → Type 0
IsOrder us = (keys : List OrderKey) × SpellsOrder us keys

abbrev IsLimit : List Terminal → Type 0
IsLimit us = (l : Option ℕ) × SpellsLimit us l

abbrev IsJoin : List Terminal → Type 0
IsJoin us = (by : JoinType) × SpellsJoin us by

-- one behind the other
abbrev IsPair : (List Terminal → Type 0) → (List Terminal → Type 0) → List Terminal → Type 0
IsPair IsFirst IsSecond us = (ts vs : List Terminal) × (us ≡ ts ++ vs) × IsFirst ts × IsSecond vs

-- behind a keyword
abbrev IsBehind : Keyword → (List Terminal → Type 0) → List Terminal → Type 0
IsBehind k IsRest us = (ts : List Terminal) × (us ≡ word k ∷ ts) × IsRest ts

abbrev IsTail : List Terminal → Type 0
IsTail = IsPair IsOrder (IsPair IsLimit SpellsEnd)

abbrev AreConditions : List Terminal → Type 0
AreConditions = IsPair (IsClause keyword.Where) (IsPair AreGroups (IsPair (IsClause keyword.Having) IsTail))

abbrev AreTables : List Terminal → Type 0
AreTables = IsPair IsTable AreOthers

abbrev IsFrom : List Terminal → Type 0
IsFrom = IsPair (IsBehind keyword.From AreTables) AreConditions

abbrev pub IsQuery : List Terminal → Type 0
IsQuery us = (q : Query) × SpellsQuery us q

-- parts that may be empty
no_tail : IsTail []
no_tail = ([], [], refl, ([], no_order), ([], [], refl, (None, no_limit), no_end))

no_having : IsPair (IsClause keyword.Having) IsTail []
no_having = ([], [], refl, (None, 0, no_clause), no_tail)

no_grouping : IsPair AreGroups (IsPair (IsClause keyword.Having) IsTail) []
no_grouping = ([], [], refl, ([], 0, no_groups), no_having)

no_conditions : AreConditions []
no_conditions = ([], [], refl, (None, 0, no_clause), no_grouping)

some_table : IsTable (terminal.name [] ∷ [])
some_table = (_, table [] none)

some_from : IsFrom (word keyword.From ∷ terminal.name [] ∷ [])
some_from = (word keyword.From ∷ terminal.name [] ∷ [], [], refl, (terminal.name [] ∷ [], refl, (terminal.name [] ∷ [], [], refl, some_table, ([], 0, no_others))), no_conditions)

some_items : AreItems (terminal.text [] ∷ [])
some_items = (_, _, last_item (filled level.Disjunction) none)

-- the first of two is begun, or read and the second begun
first_begun : {IsFirst IsSecond : List Terminal → Type 0} (ts : List Terminal) (left : ℕ) → IsSecond [] → Begun IsFirst ts left → Begun (IsPair IsFirst IsSecond) ts left
first_begun ts left empty b = begun_as ts left (λ vs p. (vs, [], sym (append-nil vs), p, empty)) b

second_begun : {IsFirst IsSecond : List Terminal → Type 0} (front ts us : List Terminal) (left : ℕ) → ts ≡ front ++ us → IsFirst front → Begun IsSecond us left → Begun (IsPair IsFirst IsSecond) ts left
second_begun front ts us left parts first b = begun_into (λ us. front ++ us) front (λ us. refl) ts us left parts (λ vs p. (front, vs, refl, first, p)) b

name_err : (ts : List Terminal) (left : ℕ) → phrase.name_at ts ≡ Err (stop.At left) → length ts ≡ left
name_err ts left e = needed_err ts (first_is local.name_of ts) left (sym (local.name_is ts) ∙ e)

integer_err : (ts : List Terminal) (left : ℕ) → phrase.integer_at ts ≡ Err (stop.At left) → length ts ≡ left
integer_err ts left e = needed_err ts (first_is local.integer_of ts) left (sym (local.integer_is ts) ∙ e)

past_err : (passes : Terminal → Bool) (ts : List Terminal) (left : ℕ) → past passes ts ≡ Err (stop.At left) → length ts ≡ left
past_err passes ts left e = needed_err ts (behind passes ts) left e

-- ---- names and tables

alias_begun : (ts : List Terminal) (left : ℕ) → rule.alias_at ts ≡ Err (stop.At left) → Begun IsAlias ts left
alias_begun ts left e = turn (choose_err (behind (is_keyword keyword.As) ts) (λ (us : List Terminal). aliased us) (cond (phrase.begins_name ts) (aliased ts) (Ok (None, ts))) (stop.At left) e)
  where
    aliased : List Terminal → phrase.Reads (Option (List ℕ))
    aliased us = phrase.name_at us >>= (λ n. Ok (Some n.0, n.1))

    named : (us : List Terminal) → aliased us ≡ Err (stop.At left) → length us ≡ left
    named us e = by_name (bind_err (phrase.name_at us) (λ (n : List ℕ × List Terminal). Ok (Some n.0, n.1)) (stop.At left) e)
      where
        by_name : (phrase.name_at us ≡ Err (stop.At left)) ⊎ ((n : List ℕ × List Terminal) × (phrase.name_at us ≡ Ok n) × (◌≡◌ {A = Result (Option (List ℕ) × List Terminal) Stop} (Ok (Some n.0, n.1)) (Err (stop.At left)))) → length us ≡ left
        by_name (inl e) = name_err us left e
        by_name (inr n) = absurd cc n.2

    by_test : (b : Bool) → cond b (aliased ts) (Ok (None, ts)) ≡ Err (stop.At left) → Begun IsAlias ts left
    by_test true e = begun_here ts (terminal.name [] ∷ []) left (named ts e) (_, bare [])
    by_test false e = absurd cc e

    turn : ((us : List Terminal) × (behind (is_keyword keyword.As) ts ≡ Some us) × (aliased us ≡ Err (stop.At left))) ⊎ ((behind (is_keyword keyword.As) ts ≡ None) × (cond (phrase.begins_name ts) (aliased ts) (Ok (None, ts)) ≡ Err (stop.At left))) → Begun IsAlias ts left
    turn (inl p) = begun_end (word keyword.As ∷ []) ts p.0 (terminal.name [] ∷ []) left (word_taken keyword.As ts p.0 p.1) (named p.0 p.2) (_, behind_as [])
    turn (inr p) = by_test (phrase.begins_name ts) p.1

table_begun : (ts : List Terminal) (left : ℕ) → rule.table_at ts ≡ Err (stop.At left) → Begun IsTable ts left
table_begun ts left e = turn (bind_err (phrase.name_at ts) (λ (n : List ℕ × List Terminal). rule.alias_at n.1 >>= (λ a. Ok (record { name = n.0; alias = a.0 }, a.1))) (stop.At left) e)
  where
    by_alias : (n : List ℕ × List Terminal) → phrase.name_at ts ≡ Ok n → (rule.alias_at n.1 ≡ Err (stop.At left)) ⊎ ((a : Option (List ℕ) × List Terminal) × (rule.alias_at n.1 ≡ Ok a) × (◌≡◌ {A = Result (Table × List Terminal) Stop} (Ok (record { name = n.0; alias = a.0 }, a.1)) (Err (stop.At left)))) → Begun IsTable ts left
    by_alias n is (inl e) =
        let m = sound.name_taken ts n is in
        begun_into (λ us. terminal.name m.0 ∷ us) (terminal.name m.0 ∷ []) (λ us. refl) ts n.1 left m.1 (λ vs p. (_, table m.0 p.1)) (alias_begun n.1 left e)
    by_alias n is (inr a) = absurd cc a.2

    turn : (phrase.name_at ts ≡ Err (stop.At left)) ⊎ ((n : List ℕ × List Terminal) × (phrase.name_at ts ≡ Ok n) × (◌>>=◌ {B = Table × List Terminal} (rule.alias_at n.1) (λ a. Ok (record { name = n.0; alias = a.0 }, a.1)) ≡ Err (stop.At left))) → Begun IsTable ts left
    turn (inl e) = begun_here ts (terminal.name [] ∷ []) left (name_err ts left e) some_table
    turn (inr n) = by_alias n.0 n.1 (bind_err (rule.alias_at n.0.1) (λ (a : Option (List ℕ) × List Terminal). Ok (record { name = n.0.0; alias = a.0 }, a.1)) (stop.At left) n.2)

-- the words before a table with a condition
past_join_begun : (k : Keyword) (by : JoinType) (front ts us : List Terminal) (left : ℕ) → SpellsJoin (front ++ word keyword.Join ∷ []) by → SpellsJoin ((front ++ word k ∷ []) ++ word keyword.Join ∷ []) by → ts ≡ front ++ us
    → rule.past_join k by us ≡ Err (stop.At left) → Begun IsJoin ts left
past_join_begun k by front ts us left short long parts e = turn (bind_err (past (is_keyword keyword.Join) (rule.past_if k us)) (λ (vs : List Terminal). Ok (by, vs)) (stop.At left) e)
  where
    by_word : (o : Option (List Terminal)) → behind (is_keyword k) us ≡ o → length (choose o (λ vs. vs) us) ≡ left → Begun IsJoin ts left
    by_word None is counts = begun_end front ts us (word keyword.Join ∷ []) left parts counts (by, short)
    by_word (Some vs) is counts = begun_end (front ++ word k ∷ []) ts vs (word keyword.Join ∷ []) left (parts ∙ ap (λ (x : List Terminal). front ++ x) (word_taken k us vs is) ∙ behind_it front (word k) vs) counts (by, long)

    turn : (past (is_keyword keyword.Join) (rule.past_if k us) ≡ Err (stop.At left)) ⊎ ((vs : List Terminal) × (past (is_keyword keyword.Join) (rule.past_if k us) ≡ Ok vs) × (◌≡◌ {A = Result (JoinType × List Terminal) Stop} (Ok (by, vs)) (Err (stop.At left)))) → Begun IsJoin ts left
    turn (inl e) = by_word (behind (is_keyword k) us) refl (past_err (is_keyword keyword.Join) (rule.past_if k us) left e)
    turn (inr vs) = absurd cc vs.2

join_begun : (ts : List Terminal) (left : ℕ) → rule.join_at ts ≡ Err (stop.At left) → Begun IsJoin ts left
join_begun ts left e = turn (choose_err (behind (is_keyword keyword.Left) ts) (rule.past_join keyword.Outer join_type.Left) (rule.past_join keyword.Inner join_type.Inner ts) (stop.At left) e)
  where
    turn : ((us : List Terminal) × (behind (is_keyword keyword.Left) ts ≡ Some us) × (rule.past_join keyword.Outer join_type.Left us ≡ Err (stop.At left))) ⊎ ((behind (is_keyword keyword.Left) ts ≡ None) × (rule.past_join keyword.Inner join_type.Inner ts ≡ Err (stop.At left))) → Begun IsJoin ts left
    turn (inl p) = past_join_begun keyword.Outer join_type.Left (word keyword.Left ∷ []) ts p.0 left left_join left_outer_join (word_taken keyword.Left ts p.0 p.1) p.2
    turn (inr p) = past_join_begun keyword.Inner join_type.Inner [] ts ts left join inner_join refl p.1

-- ---- keys, LIMIT and the end

target_err : (ts : List Terminal) (left : ℕ) → rule.target_at ts ≡ Err (stop.At left) → length ts ≡ left
target_err ts left e = by_test (phrase.begins_integer ts) e
  where
    by_integer : (phrase.integer_at ts ≡ Err (stop.At left)) ⊎ ((n : ℕ × List Terminal) × (phrase.integer_at ts ≡ Ok n) × (◌≡◌ {A = Result (OrderTarget × List Terminal) Stop} (Ok (target.Position n.0, n.1)) (Err (stop.At left)))) → length ts ≡ left
    by_integer (inl e) = integer_err ts left e
    by_integer (inr n) = absurd cc n.2

    by_name : (phrase.name_at ts ≡ Err (stop.At left)) ⊎ ((n : List ℕ × List Terminal) × (phrase.name_at ts ≡ Ok n) × (◌≡◌ {A = Result (OrderTarget × List Terminal) Stop} (Ok (target.Name n.0, n.1)) (Err (stop.At left)))) → length ts ≡ left
    by_name (inl e) = name_err ts left e
    by_name (inr n) = absurd cc n.2

    by_test : (b : Bool) → cond b (◌>>=◌ {B = OrderTarget × List Terminal} (phrase.integer_at ts) (λ n. Ok (target.Position n.0, n.1))) (◌>>=◌ {B = OrderTarget × List Terminal} (phrase.name_at ts) (λ n. Ok (target.Name n.0, n.1))) ≡ Err (stop.At left) → length ts ≡ left
    by_test true e = by_integer (bind_err (phrase.integer_at ts) (λ (n : ℕ × List Terminal). Ok (target.Position n.0, n.1)) (stop.At left) e)
    by_test false e = by_name (bind_err (phrase.name_at ts) (λ (n : List ℕ × List Terminal). Ok (target.Name n.0, n.1)) (stop.At left) e)

some_keys : AreKeys (terminal.name [] ∷ [])
some_keys = (_, last_key (name []) unsaid)

put_key_begun : (before : List OrderKey) (ts : List Terminal) (left : ℕ) → rule.put_key before ts ≡ Err (stop.At left) → Begun AreKeys ts left
put_key_begun before ts left e = turn (bind_err (rule.key_at ts) (λ (x : OrderKey × List Terminal). Ok (before ++ x.0 ∷ [], x.1)) (stop.At left) e)
  where
    by_target : (rule.target_at ts ≡ Err (stop.At left)) ⊎ ((t : OrderTarget × List Terminal) × (rule.target_at ts ≡ Ok t) × (◌≡◌ {A = Result (OrderKey × List Terminal) Stop} (Ok (record { target = t.0; direction = (rule.direction_at t.1).0 }, (rule.direction_at t.1).1)) (Err (stop.At left)))) → Begun AreKeys ts left
    by_target (inl e) = begun_here ts (terminal.name [] ∷ []) left (target_err ts left e) some_keys
    by_target (inr t) = absurd cc t.2

    turn : (rule.key_at ts ≡ Err (stop.At left)) ⊎ ((x : OrderKey × List Terminal) × (rule.key_at ts ≡ Ok x) × (◌≡◌ {A = Result (List OrderKey × List Terminal) Stop} (Ok (before ++ x.0 ∷ [], x.1)) (Err (stop.At left)))) → Begun AreKeys ts left
    turn (inl e) = by_target (bind_err (rule.target_at ts) (λ (t : OrderTarget × List Terminal). Ok (record { target = t.0; direction = (rule.direction_at t.1).0 }, (rule.direction_at t.1).1)) (stop.At left) e)
    turn (inr x) = absurd cc x.2

more_keyed : (ts us : List Terminal) (p : OrderKey × List Terminal) (left : ℕ) → sound.TookKey ts p → p.1 ≡ mark sign.Comma ∷ us → Begun AreKeys us left → Begun AreKeys ts left
more_keyed ts us p left t comma b =
    begun_into (λ us. t.first ∷ t.front ++ mark sign.Comma ∷ us) (t.first ∷ t.front ++ mark sign.Comma ∷ []) (λ us. ap (λ (x : List Terminal). t.first ∷ x) (behind_it t.front (mark sign.Comma) us)) ts us left (t.parts ∙ ap (λ (x : List Terminal). t.first ∷ t.front ++ x) comma)
    (λ vs q. (_, more_keys t.names t.directs q.1)) b

keys_loop : (m : ℕ) (before : List OrderKey) (ts : List Terminal) (p : OrderKey × List Terminal) (left : ℕ) → sound.TookKey ts p → rule.more_keys m before p.1 ≡ Err (stop.At left) → Begun AreKeys ts left
keys_loop zero before ts p left t e = absurd cc
keys_loop (suc m) before ts p left t e =
    turn (choose_err (behind (is_sign sign.Comma) p.1) (λ (us : List Terminal). rule.put_key before us >>= (λ x. rule.more_keys m x.0 x.1)) (Ok (before, p.1)) (stop.At left) e) (λ kept us q t2 e2. keys_loop m kept us q left t2 e2)
  where
    by_key : (us : List Terminal) → (rule.put_key before us ≡ Err (stop.At left)) ⊎ ((x : List OrderKey × List Terminal) × (rule.put_key before us ≡ Ok x) × (rule.more_keys m x.0 x.1 ≡ Err (stop.At left)))
        → ((kept : List OrderKey) (us : List Terminal) (q : OrderKey × List Terminal) → sound.TookKey us q → rule.more_keys m kept q.1 ≡ Err (stop.At left) → Begun AreKeys us left) → Begun AreKeys us left
    by_key us (inl e) again = put_key_begun before us left e
    by_key us (inr x) again =
        let s = bind_ok (rule.key_at us) (λ (y : OrderKey × List Terminal). Ok (before ++ y.0 ∷ [], y.1)) x.0 x.1 in
        let same : ◌≡◌ {A = List OrderKey × List Terminal} x.0 (before ++ s.0.0 ∷ [], s.0.1) = sym (cc s.2) in
        let stops : rule.more_keys m (before ++ s.0.0 ∷ []) s.0.1 ≡ Err (stop.At left) = subst (λ (y : List OrderKey × List Terminal). rule.more_keys m y.0 y.1 ≡ Err (stop.At left)) same x.2 in
        again (before ++ s.0.0 ∷ []) us s.0 (sound.key_sound us s.0 s.1) stops

    turn : ((us : List Terminal) × (behind (is_sign sign.Comma) p.1 ≡ Some us) × ((rule.put_key before us >>= (λ x. rule.more_keys m x.0 x.1)) ≡ Err (stop.At left))) ⊎ ((behind (is_sign sign.Comma) p.1 ≡ None) × (◌≡◌ {A = Result (List OrderKey × List Terminal) Stop} (Ok (before, p.1)) (Err (stop.At left))))
        → ((kept : List OrderKey) (us : List Terminal) (q : OrderKey × List Terminal) → sound.TookKey us q → rule.more_keys m kept q.1 ≡ Err (stop.At left) → Begun AreKeys us left) → Begun AreKeys ts left
    turn (inl q) again = more_keyed ts q.0 p left t (mark_taken sign.Comma p.1 q.0 q.1) (by_key q.0 (bind_err (rule.put_key before q.0) (λ (x : List OrderKey × List Terminal). rule.more_keys m x.0 x.1) (stop.At left) q.2) again)
    turn (inr q) again = absurd cc q.1

keys_begun : (before : List OrderKey) (ts : List Terminal) (left : ℕ) → rule.keys_at before ts ≡ Err (stop.At left) → Begun AreKeys ts left
keys_begun before ts left e = turn (bind_err (rule.put_key before ts) (λ (x : List OrderKey × List Terminal). rule.more_keys (suc (length x.1)) x.0 x.1) (stop.At left) e)
  where
    turn : (rule.put_key before ts ≡ Err (stop.At left)) ⊎ ((x : List OrderKey × List Terminal) × (rule.put_key before ts ≡ Ok x) × (rule.more_keys (suc (length x.1)) x.0 x.1 ≡ Err (stop.At left))) → Begun AreKeys ts left
    turn (inl e) = put_key_begun before ts left e
    turn (inr x) =
        let s = bind_ok (rule.key_at ts) (λ (y : OrderKey × List Terminal). Ok (before ++ y.0 ∷ [], y.1)) x.0 x.1 in
        let same : ◌≡◌ {A = List OrderKey × List Terminal} x.0 (before ++ s.0.0 ∷ [], s.0.1) = sym (cc s.2) in
        let stops : rule.more_keys (suc (length s.0.1)) (before ++ s.0.0 ∷ []) s.0.1 ≡ Err (stop.At left) = subst (λ (y : List OrderKey × List Terminal). rule.more_keys (suc (length y.1)) y.0 y.1 ≡ Err (stop.At left)) same x.2 in
        keys_loop (suc (length s.0.1)) (before ++ s.0.0 ∷ []) ts s.0 left (sound.key_sound ts s.0 s.1) stops

order_begun : (ts : List Terminal) (left : ℕ) → rule.order_at ts ≡ Err (stop.At left) → Begun IsOrder ts left
order_begun ts left e = turn (choose_err (behind (is_keyword keyword.Order) ts) (λ (us : List Terminal). past (is_keyword keyword.By) us >>= rule.keys_at []) (Ok ([], ts)) (stop.At left) e)
  where
    by_by : (us : List Terminal) → ts ≡ word keyword.Order ∷ us → (past (is_keyword keyword.By) us ≡ Err (stop.At left)) ⊎ ((vs : List Terminal) × (past (is_keyword keyword.By) us ≡ Ok vs) × (rule.keys_at [] vs ≡ Err (stop.At left))) → Begun IsOrder ts left
    by_by us parts (inl e) = begun_end (word keyword.Order ∷ []) ts us (word keyword.By ∷ terminal.name [] ∷ []) left parts (past_err (is_keyword keyword.By) us left e) (some_keys.0, order some_keys.1)
    by_by us parts (inr vs) =
        begun_into (λ us. word keyword.Order ∷ word keyword.By ∷ us) (word keyword.Order ∷ word keyword.By ∷ []) (λ us. refl) ts vs.0 left (parts ∙ ap (λ (x : List Terminal). word keyword.Order ∷ x) (word_past keyword.By us vs.0 vs.1)) (λ ws p. (p.0, order p.1)) (keys_begun [] vs.0 left vs.2)

    turn : ((us : List Terminal) × (behind (is_keyword keyword.Order) ts ≡ Some us) × ((past (is_keyword keyword.By) us >>= rule.keys_at []) ≡ Err (stop.At left))) ⊎ ((behind (is_keyword keyword.Order) ts ≡ None) × (◌≡◌ {A = Result (List OrderKey × List Terminal) Stop} (Ok ([], ts)) (Err (stop.At left)))) → Begun IsOrder ts left
    turn (inl p) = by_by p.0 (word_taken keyword.Order ts p.0 p.1) (bind_err (past (is_keyword keyword.By) p.0) (rule.keys_at []) (stop.At left) p.2)
    turn (inr p) = absurd cc p.1

limit_begun : (ts : List Terminal) (left : ℕ) → rule.limit_at ts ≡ Err (stop.At left) → Begun IsLimit ts left
limit_begun ts left e = turn (choose_err (behind (is_keyword keyword.Limit) ts) (λ (us : List Terminal). limited us) (Ok (None, ts)) (stop.At left) e)
  where
    limited : List Terminal → phrase.Reads (Option ℕ)
    limited us = phrase.integer_at us >>= (λ n. Ok (Some n.0, n.1))

    by_integer : (us : List Terminal) → ts ≡ word keyword.Limit ∷ us → (phrase.integer_at us ≡ Err (stop.At left)) ⊎ ((n : ℕ × List Terminal) × (phrase.integer_at us ≡ Ok n) × (◌≡◌ {A = Result (Option ℕ × List Terminal) Stop} (Ok (Some n.0, n.1)) (Err (stop.At left)))) → Begun IsLimit ts left
    by_integer us parts (inl e) = begun_end (word keyword.Limit ∷ []) ts us (terminal.integer 0 ∷ []) left parts (integer_err us left e) (Some 0, limit 0 (omega arith))
    by_integer us parts (inr n) = absurd cc n.2

    turn : ((us : List Terminal) × (behind (is_keyword keyword.Limit) ts ≡ Some us) × (limited us ≡ Err (stop.At left))) ⊎ ((behind (is_keyword keyword.Limit) ts ≡ None) × (◌≡◌ {A = Result (Option ℕ × List Terminal) Stop} (Ok (None, ts)) (Err (stop.At left)))) → Begun IsLimit ts left
    turn (inl p) = by_integer p.0 (word_taken keyword.Limit ts p.0 p.1) (bind_err (phrase.integer_at p.0) (λ (n : ℕ × List Terminal). Ok (Some n.0, n.1)) (stop.At left) p.2)
    turn (inr p) = absurd cc p.1

ended_err : (ts : List Terminal) (left : ℕ) → rule.ended ts ≡ Err (stop.At left) → length ts ≡ left
ended_err [] left e = absurd cc e
ended_err (t ∷ ts) left e = cc e

ending_begun : (ts : List Terminal) (left : ℕ) → rule.ending_at ts ≡ Err (stop.At left) → Begun SpellsEnd ts left
ending_begun ts left e = turn (choose_err (behind (is_sign sign.Semicolon) ts) rule.ended (rule.ended ts) (stop.At left) e)
  where
    turn : ((us : List Terminal) × (behind (is_sign sign.Semicolon) ts ≡ Some us) × (rule.ended us ≡ Err (stop.At left))) ⊎ ((behind (is_sign sign.Semicolon) ts ≡ None) × (rule.ended ts ≡ Err (stop.At left))) → Begun SpellsEnd ts left
    turn (inl p) = begun_end (mark sign.Semicolon ∷ []) ts p.0 [] left (mark_taken sign.Semicolon ts p.0 p.1) (ended_err p.0 left p.2) semicolon
    turn (inr p) = begun_here ts [] left (ended_err ts left p.1) no_end

tail_begun : (ts : List Terminal) (left : ℕ) → rule.tail_at ts ≡ Err (stop.At left) → Begun IsTail ts left
tail_begun ts left e = turn (bind_err (rule.order_at ts) (λ (o : List OrderKey × List Terminal). rule.ended_limit_at o.1 >>= (λ l. Ok (o.0, l))) (stop.At left) e)
  where
    by_end : (us : List Terminal) (l : Option ℕ × List Terminal) → rule.limit_at us ≡ Ok l → (rule.ending_at l.1 ≡ Err (stop.At left)) ⊎ ((u : Unit {0}) × (rule.ending_at l.1 ≡ Ok u) × (◌≡◌ {A = Result (Option ℕ) Stop} (Ok l.0) (Err (stop.At left)))) → Begun (IsPair IsLimit SpellsEnd) us left
    by_end us l is (inl e) =
        let k = sound.limit_sound us l is in
        second_begun k.front us l.1 left k.parts (l.0, k.spells) (ending_begun l.1 left e)
    by_end us l is (inr u) = absurd cc u.2

    limit_turn : (us : List Terminal) → (rule.limit_at us ≡ Err (stop.At left)) ⊎ ((l : Option ℕ × List Terminal) × (rule.limit_at us ≡ Ok l) × ((rule.ending_at l.1 >>= (λ _. Ok l.0)) ≡ Err (stop.At left))) → Begun (IsPair IsLimit SpellsEnd) us left
    limit_turn us (inl e) = first_begun us left no_end (limit_begun us left e)
    limit_turn us (inr l) = by_end us l.0 l.1 (bind_err (rule.ending_at l.0.1) (λ (u : Unit {0}). Ok l.0.0) (stop.At left) l.2)

    by_limit : (o : List OrderKey × List Terminal) → rule.order_at ts ≡ Ok o → (rule.ended_limit_at o.1 ≡ Err (stop.At left)) ⊎ ((l : Option ℕ) × (rule.ended_limit_at o.1 ≡ Ok l) × (◌≡◌ {A = Result rule.Tail Stop} (Ok (o.0, l)) (Err (stop.At left)))) → Begun IsTail ts left
    by_limit o is (inl e) =
        let k = sound.order_sound ts o is in
        second_begun k.front ts o.1 left k.parts (o.0, k.spells) (limit_turn o.1 (bind_err (rule.limit_at o.1) (λ (l : Option ℕ × List Terminal). rule.ending_at l.1 >>= (λ _. Ok l.0)) (stop.At left) e))
    by_limit o is (inr l) = absurd cc l.2

    turn : (rule.order_at ts ≡ Err (stop.At left)) ⊎ ((o : List OrderKey × List Terminal) × (rule.order_at ts ≡ Ok o) × (◌>>=◌ {B = rule.Tail} (rule.ended_limit_at o.1) (λ l. Ok (o.0, l)) ≡ Err (stop.At left))) → Begun IsTail ts left
    turn (inl e) = first_begun ts left ([], [], refl, (None, no_limit), no_end) (order_begun ts left e)
    turn (inr o) = by_limit o.0 o.1 (bind_err (rule.ended_limit_at o.0.1) (λ (l : Option ℕ). Ok (o.0.0, l)) (stop.At left) o.2)

-- ---- parts with expressions

-- an item, which others may follow
abbrev IsItem : List Terminal → Type 0
IsItem = IsPair (IsOf level.Disjunction) IsAlias

-- a further table, which others may follow
abbrev IsOther : List Terminal → Type 0
IsOther us = (j : Joined) × ((vs : List Terminal) (others : List Joined) (most : ℕ) → SpellsOthers vs others most → (all : ℕ) × SpellsOthers (us ++ vs) (j ∷ others) all)

-- what is read with no more open than allowed is so where more is
more_open : (n m : ℕ) (inner : Level → phrase.Reader) → n ≤ m → IsInner n inner → IsInner m inner
more_open n m inner few h l ts x e =
    let t = h l ts x e in
    record { front = t.front; spells = t.spells; parts = t.parts; opens = omega (arith, t.opens, few); deep = t.deep; bounded = t.bounded }

-- a table with a condition, which others may follow
joined_other : (is ts us vs : List Terminal) (by : JoinType) (t : Table) (e : Expr) → SpellsJoin is by → SpellsTable ts t → (d : Spells level.Disjunction us e) → vs ≡ is ++ (ts ++ word keyword.On ∷ us) → IsOther vs
joined_other is ts us vs by t e words named d whole = (record { table = t; kind = kind_of by e }, λ ws others most rest. (max (open_in d) most, subst (λ (x : List Terminal). SpellsOthers x (record { table = t; kind = kind_of by e } ∷ others) (max (open_in d) most)) (shape ws) (behind_join words named d rest)))
  where
    shape : (ws : List Terminal) → is ++ (ts ++ (word keyword.On ∷ us ++ ws)) ≡ vs ++ ws
    shape ws = ap (λ (x : List Terminal). is ++ x) (sym (append_assoc ts (word keyword.On ∷ us) ws)) ∙ sym (append_assoc is (ts ++ word keyword.On ∷ us) ws) ∙ ap (λ (x : List Terminal). x ++ ws) (sym whole)

abbrev IsCondition : List Terminal → Type 0
IsCondition = IsBehind keyword.On (IsOf level.Disjunction)

module _ (n : ℕ) (inner : Level → phrase.Reader) (h : IsInner (suc n) inner) (v : AreViable inner) where
  -- ---- items

  item_begun : (ts : List Terminal) (left : ℕ) → rule.item_at inner ts ≡ Err (stop.At left) → Begun IsItem ts left
  item_begun ts left e = turn (bind_err (inner level.Disjunction ts) (λ (x : Parsed × List Terminal). rule.alias_at x.1 >>= (λ a. Ok (record { expr = x.0.expr; alias = a.0 }, a.1))) (stop.At left) e)
    where
      by_alias : (x : Parsed × List Terminal) → inner level.Disjunction ts ≡ Ok x → (rule.alias_at x.1 ≡ Err (stop.At left)) ⊎ ((a : Option (List ℕ) × List Terminal) × (rule.alias_at x.1 ≡ Ok a) × (◌≡◌ {A = Result (Item × List Terminal) Stop} (Ok (record { expr = x.0.expr; alias = a.0 }, a.1)) (Err (stop.At left)))) → Begun IsItem ts left
      by_alias x is (inl e) =
          let t = h level.Disjunction ts x is in
          second_begun t.front ts x.1 left t.parts (x.0.expr, t.spells) (alias_begun x.1 left e)
      by_alias x is (inr a) = absurd cc a.2

      turn : (inner level.Disjunction ts ≡ Err (stop.At left)) ⊎ ((x : Parsed × List Terminal) × (inner level.Disjunction ts ≡ Ok x) × (◌>>=◌ {B = Item × List Terminal} (rule.alias_at x.1) (λ a. Ok (record { expr = x.0.expr; alias = a.0 }, a.1)) ≡ Err (stop.At left))) → Begun IsItem ts left
      turn (inl e) = first_begun ts left (None, none) (v level.Disjunction ts left e)
      turn (inr x) = by_alias x.0 x.1 (bind_err (rule.alias_at x.0.1) (λ (a : Option (List ℕ) × List Terminal). Ok (record { expr = x.0.0.expr; alias = a.0 }, a.1)) (stop.At left) x.2)

  put_item_begun : (before : List Item) (ts : List Terminal) (left : ℕ) → rule.put_item inner before ts ≡ Err (stop.At left) → Begun AreItems ts left
  put_item_begun before ts left e = turn (bind_err (rule.item_at inner ts) (λ (x : Item × List Terminal). Ok (before ++ x.0 ∷ [], x.1)) (stop.At left) e)
    where
      one : (us : List Terminal) → IsItem us → AreItems us
      one us p = subst AreItems (sym p.2) (record { expr = p.3.0; alias = p.4.0 } ∷ [], open_in p.3.1, last_item p.3.1 p.4.1)

      turn : (rule.item_at inner ts ≡ Err (stop.At left)) ⊎ ((x : Item × List Terminal) × (rule.item_at inner ts ≡ Ok x) × (◌≡◌ {A = Result (List Item × List Terminal) Stop} (Ok (before ++ x.0 ∷ [], x.1)) (Err (stop.At left)))) → Begun AreItems ts left
      turn (inl e) = begun_as ts left one (item_begun ts left e)
      turn (inr x) = absurd cc x.2

  more_itemed : (ts us : List Terminal) (p : Item × List Terminal) (left : ℕ) → sound.TookItem n ts p → p.1 ≡ mark sign.Comma ∷ us → Begun AreItems us left → Begun AreItems ts left
  more_itemed ts us p left t comma b =
      begun_into (λ us. t.front ++ t.name_front ++ mark sign.Comma ∷ us) (t.front ++ t.name_front ++ mark sign.Comma ∷ []) (behind_it (t.front ++ t.name_front) (mark sign.Comma)) ts us left
      (t.parts ∙ sym (append_assoc t.front t.name_front p.1) ∙ ap (λ (x : List Terminal). t.front ++ t.name_front ++ x) comma) (λ vs q. (record { expr = t.item_expr; alias = t.item_alias } ∷ q.0, max (open_in t.spells) q.1, more_items t.spells t.named_so q.2)) b

  items_loop : (m : ℕ) (before : List Item) (ts : List Terminal) (p : Item × List Terminal) (left : ℕ) → sound.TookItem n ts p → rule.more_items inner m before p.1 ≡ Err (stop.At left) → Begun AreItems ts left
  items_loop zero before ts p left t e = absurd cc
  items_loop (suc m) before ts p left t e =
      turn (choose_err (behind (is_sign sign.Comma) p.1) (λ (us : List Terminal). rule.put_item inner before us >>= (λ x. rule.more_items inner m x.0 x.1)) (Ok (before, p.1)) (stop.At left) e) (λ kept us q t2 e2. items_loop m kept us q left t2 e2)
    where
      by_item : (us : List Terminal) → (rule.put_item inner before us ≡ Err (stop.At left)) ⊎ ((x : List Item × List Terminal) × (rule.put_item inner before us ≡ Ok x) × (rule.more_items inner m x.0 x.1 ≡ Err (stop.At left)))
          → ((kept : List Item) (us : List Terminal) (q : Item × List Terminal) → sound.TookItem n us q → rule.more_items inner m kept q.1 ≡ Err (stop.At left) → Begun AreItems us left) → Begun AreItems us left
      by_item us (inl e) again = put_item_begun before us left e
      by_item us (inr x) again =
          let s = bind_ok (rule.item_at inner us) (λ (y : Item × List Terminal). Ok (before ++ y.0 ∷ [], y.1)) x.0 x.1 in
          let same : ◌≡◌ {A = List Item × List Terminal} x.0 (before ++ s.0.0 ∷ [], s.0.1) = sym (cc s.2) in
          let stops : rule.more_items inner m (before ++ s.0.0 ∷ []) s.0.1 ≡ Err (stop.At left) = subst (λ (y : List Item × List Terminal). rule.more_items inner m y.0 y.1 ≡ Err (stop.At left)) same x.2 in
          again (before ++ s.0.0 ∷ []) us s.0 (sound.item_sound n inner h us s.0 s.1) stops

      turn : ((us : List Terminal) × (behind (is_sign sign.Comma) p.1 ≡ Some us) × ((rule.put_item inner before us >>= (λ x. rule.more_items inner m x.0 x.1)) ≡ Err (stop.At left))) ⊎ ((behind (is_sign sign.Comma) p.1 ≡ None) × (◌≡◌ {A = Result (List Item × List Terminal) Stop} (Ok (before, p.1)) (Err (stop.At left))))
          → ((kept : List Item) (us : List Terminal) (q : Item × List Terminal) → sound.TookItem n us q → rule.more_items inner m kept q.1 ≡ Err (stop.At left) → Begun AreItems us left) → Begun AreItems ts left
      turn (inl q) again = more_itemed ts q.0 p left t (mark_taken sign.Comma p.1 q.0 q.1) (by_item q.0 (bind_err (rule.put_item inner before q.0) (λ (x : List Item × List Terminal). rule.more_items inner m x.0 x.1) (stop.At left) q.2) again)
      turn (inr q) again = absurd cc q.1

  items_begun : (before : List Item) (ts : List Terminal) (left : ℕ) → rule.items_at inner before ts ≡ Err (stop.At left) → Begun AreItems ts left
  items_begun before ts left e = turn (bind_err (rule.put_item inner before ts) (λ (x : List Item × List Terminal). rule.more_items inner (suc (length x.1)) x.0 x.1) (stop.At left) e)
    where
      turn : (rule.put_item inner before ts ≡ Err (stop.At left)) ⊎ ((x : List Item × List Terminal) × (rule.put_item inner before ts ≡ Ok x) × (rule.more_items inner (suc (length x.1)) x.0 x.1 ≡ Err (stop.At left))) → Begun AreItems ts left
      turn (inl e) = put_item_begun before ts left e
      turn (inr x) =
          let s = bind_ok (rule.item_at inner ts) (λ (y : Item × List Terminal). Ok (before ++ y.0 ∷ [], y.1)) x.0 x.1 in
          let same : ◌≡◌ {A = List Item × List Terminal} x.0 (before ++ s.0.0 ∷ [], s.0.1) = sym (cc s.2) in
          let stops : rule.more_items inner (suc (length s.0.1)) (before ++ s.0.0 ∷ []) s.0.1 ≡ Err (stop.At left) = subst (λ (y : List Item × List Terminal). rule.more_items inner (suc (length y.1)) y.0 y.1 ≡ Err (stop.At left)) same x.2 in
          items_loop (suc (length s.0.1)) (before ++ s.0.0 ∷ []) ts s.0 left (sound.item_sound n inner h ts s.0 s.1) stops

  -- ---- tables

  condition_begun : (ts : List Terminal) (left : ℕ) → rule.condition_at inner keyword.On ts ≡ Err (stop.At left) → Begun IsCondition ts left
  condition_begun ts left e = turn (bind_err (past (is_keyword keyword.On) ts) (λ (us : List Terminal). conditioned us) (stop.At left) e)
    where
      conditioned : List Terminal → phrase.Reads Expr
      conditioned us = inner level.Disjunction us >>= (λ x. Ok (x.0.expr, x.1))

      by_inner : (us : List Terminal) → ts ≡ word keyword.On ∷ us → (inner level.Disjunction us ≡ Err (stop.At left)) ⊎ ((x : Parsed × List Terminal) × (inner level.Disjunction us ≡ Ok x) × (◌≡◌ {A = Result (Expr × List Terminal) Stop} (Ok (x.0.expr, x.1)) (Err (stop.At left)))) → Begun IsCondition ts left
      by_inner us parts (inl e) = begun_into (λ us. word keyword.On ∷ us) (word keyword.On ∷ []) (λ us. refl) ts us left parts (λ vs p. (vs, refl, p)) (v level.Disjunction us left e)
      by_inner us parts (inr x) = absurd cc x.2

      turn : (past (is_keyword keyword.On) ts ≡ Err (stop.At left)) ⊎ ((us : List Terminal) × (past (is_keyword keyword.On) ts ≡ Ok us) × (conditioned us ≡ Err (stop.At left))) → Begun IsCondition ts left
      turn (inl e) = begun_here ts (word keyword.On ∷ terminal.text [] ∷ []) left (past_err (is_keyword keyword.On) ts left e) (terminal.text [] ∷ [], refl, (_, filled level.Disjunction))
      turn (inr us) = by_inner us.0 (word_past keyword.On ts us.0 us.1) (bind_err (inner level.Disjunction us.0) (λ (x : Parsed × List Terminal). Ok (x.0.expr, x.1)) (stop.At left) us.2)

  listed_begun : (ts us : List Terminal) (left : ℕ) → ts ≡ mark sign.Comma ∷ us → rule.listed_at us ≡ Err (stop.At left) → Begun IsOther ts left
  listed_begun ts us left parts e = turn (bind_err (rule.table_at us) (λ (t : Table × List Terminal). Ok (record { table = t.0; kind = join_kind.Comma }, t.1)) (stop.At left) e)
    where
      turn : (rule.table_at us ≡ Err (stop.At left)) ⊎ ((t : Table × List Terminal) × (rule.table_at us ≡ Ok t) × (◌≡◌ {A = Result (Joined × List Terminal) Stop} (Ok (record { table = t.0; kind = join_kind.Comma }, t.1)) (Err (stop.At left)))) → Begun IsOther ts left
      turn (inl e) =
          begun_into (λ us. mark sign.Comma ∷ us) (mark sign.Comma ∷ []) (λ us. refl) ts us left parts (λ vs p. (record { table = p.0; kind = join_kind.Comma }, λ ws others most rest. (most, behind_comma p.1 rest))) (table_begun us left e)
      turn (inr t) = absurd cc t.2

  joined_begun : (is ts us : List Terminal) (by : JoinType) (left : ℕ) → SpellsJoin is by → ts ≡ is ++ us → rule.joined_at inner by us ≡ Err (stop.At left) → Begun IsOther ts left
  joined_begun is ts us by left words parts e = turn (bind_err (rule.table_at us) (λ (t : Table × List Terminal). rule.condition_at inner keyword.On t.1 >>= (λ x. Ok (record { table = t.0; kind = kind_of by x.0 }, x.1))) (stop.At left) e)
    where
      by_condition : (t : Table × List Terminal) → rule.table_at us ≡ Ok t → (rule.condition_at inner keyword.On t.1 ≡ Err (stop.At left)) ⊎ ((x : Expr × List Terminal) × (rule.condition_at inner keyword.On t.1 ≡ Ok x) × (◌≡◌ {A = Result (Joined × List Terminal) Stop} (Ok (record { table = t.0; kind = kind_of by x.0 }, x.1)) (Err (stop.At left))))
          → Begun IsOther ts left
      by_condition t found (inl e) =
          let a = sound.table_sound us t found in
          begun_into (λ us. is ++ (a.front ++ us)) (is ++ a.front) (λ us. sym (append_assoc is a.front us)) ts t.1 left (parts ∙ ap (λ (x : List Terminal). is ++ x) a.parts)
          (λ vs p. joined_other is a.front p.0 (is ++ (a.front ++ vs)) by t.0 p.2.0 words a.spells p.2.1 (ap (λ (x : List Terminal). is ++ (a.front ++ x)) p.1)) (condition_begun t.1 left e)
      by_condition t found (inr x) = absurd cc x.2

      turn : (rule.table_at us ≡ Err (stop.At left)) ⊎ ((t : Table × List Terminal) × (rule.table_at us ≡ Ok t) × (◌>>=◌ {B = Joined × List Terminal} (rule.condition_at inner keyword.On t.1) (λ x. Ok (record { table = t.0; kind = kind_of by x.0 }, x.1)) ≡ Err (stop.At left))) → Begun IsOther ts left
      turn (inl e) =
          begun_into (λ us. is ++ us) is (λ us. refl) ts us left parts (λ vs p. joined_other is p.0 (terminal.text [] ∷ []) (is ++ vs) by p.2.0 _ words p.2.1 (filled level.Disjunction) (ap (λ (x : List Terminal). is ++ x) p.1))
          (begun_before {IsPart = IsTable} {IsSpelled = λ us. (ts : List Terminal) × (us ≡ ts ++ word keyword.On ∷ terminal.text [] ∷ []) × IsTable ts} (word keyword.On ∷ terminal.text [] ∷ []) us left (λ vs p. (vs, refl, p)) (table_begun us left e))
      turn (inr t) = by_condition t.0 t.1 (bind_err (rule.condition_at inner keyword.On t.0.1) (λ (x : Expr × List Terminal). Ok (record { table = t.0.0; kind = kind_of by x.0 }, x.1)) (stop.At left) t.2)

  other_begun : (ts : List Terminal) (left : ℕ) → rule.other_at inner ts ≡ Err (stop.At left) → Begun IsOther ts left
  other_begun ts left e = turn (choose_err (behind (is_sign sign.Comma) ts) rule.listed_at (rule.join_at ts >>= (λ j. rule.joined_at inner j.0 j.1)) (stop.At left) e)
    where
      by_join : (rule.join_at ts ≡ Err (stop.At left)) ⊎ ((j : JoinType × List Terminal) × (rule.join_at ts ≡ Ok j) × (rule.joined_at inner j.0 j.1 ≡ Err (stop.At left))) → Begun IsOther ts left
      by_join (inl e) =
          begun_as ts left (λ vs p. joined_other p.0 (terminal.name [] ∷ []) (terminal.text [] ∷ []) vs p.2.0 some_table.0 _ p.2.1 some_table.1 (filled level.Disjunction) p.1)
          (begun_before {IsPart = IsJoin} {IsSpelled = λ us. (ts : List Terminal) × (us ≡ ts ++ terminal.name [] ∷ word keyword.On ∷ terminal.text [] ∷ []) × IsJoin ts} (terminal.name [] ∷ word keyword.On ∷ terminal.text [] ∷ []) ts left (λ vs p. (vs, refl, p)) (join_begun ts left e))
      by_join (inr j) =
          let w = sound.join_sound ts j.0 j.1 in
          joined_begun w.front ts j.0.1 j.0.0 left w.spells w.parts j.2

      turn : ((us : List Terminal) × (behind (is_sign sign.Comma) ts ≡ Some us) × (rule.listed_at us ≡ Err (stop.At left))) ⊎ ((behind (is_sign sign.Comma) ts ≡ None) × ((rule.join_at ts >>= (λ j. rule.joined_at inner j.0 j.1)) ≡ Err (stop.At left))) → Begun IsOther ts left
      turn (inl p) = listed_begun ts p.0 left (mark_taken sign.Comma ts p.0 p.1) p.2
      turn (inr p) = by_join (bind_err (rule.join_at ts) (λ (j : JoinType × List Terminal). rule.joined_at inner j.0 j.1) (stop.At left) p.1)

  -- behind a further table others are begun
  more_othered : (ts : List Terminal) (x : Joined × List Terminal) (left : ℕ) → rule.other_at inner ts ≡ Ok x → Begun AreOthers x.1 left → Begun AreOthers ts left
  more_othered ts x left e b =
      let most : ℕ = max n b.spelled.1 in
      let t = sound.other_sound most inner (more_open (suc n) (suc most) inner (omega arith) h) ts x e in
      let all = t.with_others (b.front ++ b.further) b.spelled.0 b.spelled.1 b.spelled.2 (omega arith) in
      begun_end (t.front ++ b.front) ts b.rest b.further left (t.parts ∙ ap (λ (y : List Terminal). t.front ++ y) b.parts ∙ sym (append_assoc t.front b.front b.rest)) b.counts
      (subst AreOthers (sym (append_assoc t.front b.front b.further)) (x.0 ∷ b.spelled.0, all.0, all.1))

  others_begun : (m : ℕ) (before : List Joined) (ts : List Terminal) (left : ℕ) → rule.more_others inner m before ts ≡ Err (stop.At left) → Begun AreOthers ts left
  others_begun zero before ts left e = absurd cc
  others_begun (suc m) before ts left e = by_test (phrase.begins_other ts) e (λ kept us e2. others_begun m kept us left e2)
    where
      alone : (us : List Terminal) → IsOther us → AreOthers us
      alone us p = let all = p.1 [] [] 0 no_others in subst AreOthers (append-nil us) (p.0 ∷ [], all.0, all.1)

      by_put : (rule.other_at inner ts ≡ Err (stop.At left)) ⊎ ((j : Joined × List Terminal) × (rule.other_at inner ts ≡ Ok j) × (◌≡◌ {A = Result (List Joined × List Terminal) Stop} (Ok (before ++ j.0 ∷ [], j.1)) (Err (stop.At left)))) → Begun AreOthers ts left
      by_put (inl e) = begun_as ts left alone (other_begun ts left e)
      by_put (inr j) = absurd cc j.2

      by_other : (rule.put_other inner before ts ≡ Err (stop.At left)) ⊎ ((x : List Joined × List Terminal) × (rule.put_other inner before ts ≡ Ok x) × (rule.more_others inner m x.0 x.1 ≡ Err (stop.At left)))
          → ((kept : List Joined) (us : List Terminal) → rule.more_others inner m kept us ≡ Err (stop.At left) → Begun AreOthers us left) → Begun AreOthers ts left
      by_other (inl e) again = by_put (bind_err (rule.other_at inner ts) (λ (j : Joined × List Terminal). Ok (before ++ j.0 ∷ [], j.1)) (stop.At left) e)
      by_other (inr x) again =
          let s = bind_ok (rule.other_at inner ts) (λ (j : Joined × List Terminal). Ok (before ++ j.0 ∷ [], j.1)) x.0 x.1 in
          let same : ◌≡◌ {A = List Joined × List Terminal} x.0 (before ++ s.0.0 ∷ [], s.0.1) = sym (cc s.2) in
          let stops : rule.more_others inner m (before ++ s.0.0 ∷ []) s.0.1 ≡ Err (stop.At left) = subst (λ (y : List Joined × List Terminal). rule.more_others inner m y.0 y.1 ≡ Err (stop.At left)) same x.2 in
          more_othered ts s.0 left s.1 (again (before ++ s.0.0 ∷ []) s.0.1 stops)

      by_test : (b : Bool) → cond b (rule.put_other inner before ts >>= (λ x. rule.more_others inner m x.0 x.1)) (Ok (before, ts)) ≡ Err (stop.At left)
          → ((kept : List Joined) (us : List Terminal) → rule.more_others inner m kept us ≡ Err (stop.At left) → Begun AreOthers us left) → Begun AreOthers ts left
      by_test true e again = by_other (bind_err (rule.put_other inner before ts) (λ (x : List Joined × List Terminal). rule.more_others inner m x.0 x.1) (stop.At left) e) again
      by_test false e again = absurd cc e

  tables_begun : (ts : List Terminal) (left : ℕ) → rule.tables_at inner [] ts ≡ Err (stop.At left) → Begun AreTables ts left
  tables_begun ts left e = turn (bind_err (rule.table_at ts) (λ (t : Table × List Terminal). rule.more_others inner (suc (length t.1)) [] t.1 >>= (λ o. Ok ((t.0, o.0), o.1))) (stop.At left) e)
    where
      by_others : (t : Table × List Terminal) → rule.table_at ts ≡ Ok t
          → (rule.more_others inner (suc (length t.1)) [] t.1 ≡ Err (stop.At left)) ⊎ ((o : List Joined × List Terminal) × (rule.more_others inner (suc (length t.1)) [] t.1 ≡ Ok o) × (◌≡◌ {A = Result ((Table × List Joined) × List Terminal) Stop} (Ok ((t.0, o.0), o.1)) (Err (stop.At left)))) → Begun AreTables ts left
      by_others t is (inl e) =
          let a = sound.table_sound ts t is in
          second_begun a.front ts t.1 left a.parts (t.0, a.spells) (others_begun (suc (length t.1)) [] t.1 left e)
      by_others t is (inr o) = absurd cc o.2

      turn : (rule.table_at ts ≡ Err (stop.At left)) ⊎ ((t : Table × List Terminal) × (rule.table_at ts ≡ Ok t) × (◌>>=◌ {B = (Table × List Joined) × List Terminal} (rule.more_others inner (suc (length t.1)) [] t.1) (λ o. Ok ((t.0, o.0), o.1)) ≡ Err (stop.At left))) → Begun AreTables ts left
      turn (inl e) = first_begun ts left ([], 0, no_others) (table_begun ts left e)
      turn (inr t) = by_others t.0 t.1 (bind_err (rule.more_others inner (suc (length t.0.1)) [] t.0.1) (λ (o : List Joined × List Terminal). Ok ((t.0.0, o.0), o.1)) (stop.At left) t.2)

  source_begun : (ts : List Terminal) (left : ℕ) → rule.source_at inner ts ≡ Err (stop.At left) → Begun (IsBehind keyword.From AreTables) ts left
  source_begun ts left e = turn (bind_err (past (is_keyword keyword.From) ts) (λ (us : List Terminal). sourced us) (stop.At left) e)
    where
      sourced : List Terminal → phrase.Reads Source
      sourced us = rule.tables_at inner [] us >>= (λ x. Ok (record { first = x.0.0; others = x.0.1 }, x.1))

      by_tables : (us : List Terminal) → ts ≡ word keyword.From ∷ us → (rule.tables_at inner [] us ≡ Err (stop.At left)) ⊎ ((x : (Table × List Joined) × List Terminal) × (rule.tables_at inner [] us ≡ Ok x) × (◌≡◌ {A = Result (Source × List Terminal) Stop} (Ok (record { first = x.0.0; others = x.0.1 }, x.1)) (Err (stop.At left))))
          → Begun (IsBehind keyword.From AreTables) ts left
      by_tables us parts (inl e) = begun_into (λ us. word keyword.From ∷ us) (word keyword.From ∷ []) (λ us. refl) ts us left parts (λ vs p. (vs, refl, p)) (tables_begun us left e)
      by_tables us parts (inr x) = absurd cc x.2

      turn : (past (is_keyword keyword.From) ts ≡ Err (stop.At left)) ⊎ ((us : List Terminal) × (past (is_keyword keyword.From) ts ≡ Ok us) × (sourced us ≡ Err (stop.At left))) → Begun (IsBehind keyword.From AreTables) ts left
      turn (inl e) = begun_here ts (word keyword.From ∷ terminal.name [] ∷ []) left (past_err (is_keyword keyword.From) ts left e) (terminal.name [] ∷ [], refl, (terminal.name [] ∷ [], [], refl, some_table, ([], 0, no_others)))
      turn (inr us) = by_tables us.0 (word_past keyword.From ts us.0 us.1) (bind_err (rule.tables_at inner [] us.0) (λ (x : (Table × List Joined) × List Terminal). Ok (record { first = x.0.0; others = x.0.1 }, x.1)) (stop.At left) us.2)

  -- ---- clauses

  clause_begun : (k : Keyword) (ts : List Terminal) (left : ℕ) → rule.clause_at inner k ts ≡ Err (stop.At left) → Begun (IsClause k) ts left
  clause_begun k ts left e = turn (choose_err (behind (is_keyword k) ts) (λ (us : List Terminal). held us) (Ok (None, ts)) (stop.At left) e)
    where
      held : List Terminal → phrase.Reads (Option Expr)
      held us = inner level.Disjunction us >>= (λ x. Ok (Some x.0.expr, x.1))

      by_inner : (us : List Terminal) → ts ≡ word k ∷ us → (inner level.Disjunction us ≡ Err (stop.At left)) ⊎ ((x : Parsed × List Terminal) × (inner level.Disjunction us ≡ Ok x) × (◌≡◌ {A = Result (Option Expr × List Terminal) Stop} (Ok (Some x.0.expr, x.1)) (Err (stop.At left)))) → Begun (IsClause k) ts left
      by_inner us parts (inl e) = begun_into (λ us. word k ∷ us) (word k ∷ []) (λ us. refl) ts us left parts (λ vs p. (Some p.0, open_in p.1, clause p.1)) (v level.Disjunction us left e)
      by_inner us parts (inr x) = absurd cc x.2

      turn : ((us : List Terminal) × (behind (is_keyword k) ts ≡ Some us) × (held us ≡ Err (stop.At left))) ⊎ ((behind (is_keyword k) ts ≡ None) × (◌≡◌ {A = Result (Option Expr × List Terminal) Stop} (Ok (None, ts)) (Err (stop.At left)))) → Begun (IsClause k) ts left
      turn (inl p) = by_inner p.0 (word_taken k ts p.0 p.1) (bind_err (inner level.Disjunction p.0) (λ (x : Parsed × List Terminal). Ok (Some x.0.expr, x.1)) (stop.At left) p.2)
      turn (inr p) = absurd cc p.1

  groups_begun : (ts : List Terminal) (left : ℕ) → rule.groups_at inner ts ≡ Err (stop.At left) → Begun AreGroups ts left
  groups_begun ts left e = turn (choose_err (behind (is_keyword keyword.Group) ts) (rule.group_keys_at inner []) (Ok ([], ts)) (stop.At left) e)
    where
      nothing : phrase.Listed
      nothing = record { exprs = []; deepest = 0 }

      listed : List Terminal → phrase.Reads (List Expr)
      listed us = phrase.list_at inner nothing us >>= (λ es. Ok (es.0.exprs, es.1))

      by_list : (us vs : List Terminal) → ts ≡ word keyword.Group ∷ us → us ≡ word keyword.By ∷ vs → (phrase.list_at inner nothing vs ≡ Err (stop.At left)) ⊎ ((es : phrase.Listed × List Terminal) × (phrase.list_at inner nothing vs ≡ Ok es) × (◌≡◌ {A = Result (List Expr × List Terminal) Stop} (Ok (es.0.exprs, es.1)) (Err (stop.At left))))
          → Begun AreGroups ts left
      by_list us vs parts by_word (inl e) =
          begun_into (λ us. word keyword.Group ∷ word keyword.By ∷ us) (word keyword.Group ∷ word keyword.By ∷ []) (λ us. refl) ts vs left (parts ∙ ap (λ (x : List Terminal). word keyword.Group ∷ x) by_word) (λ ws p. (p.0, open_in_list p.1, groups p.1)) (list_begun (suc n) inner h v nothing vs left e)
      by_list us vs parts by_word (inr es) = absurd cc es.2

      by_by : (us : List Terminal) → ts ≡ word keyword.Group ∷ us → (past (is_keyword keyword.By) us ≡ Err (stop.At left)) ⊎ ((vs : List Terminal) × (past (is_keyword keyword.By) us ≡ Ok vs) × (listed vs ≡ Err (stop.At left))) → Begun AreGroups ts left
      by_by us parts (inl e) = begun_end (word keyword.Group ∷ []) ts us (word keyword.By ∷ terminal.text [] ∷ []) left parts (past_err (is_keyword keyword.By) us left e) (_, _, groups (last (filled level.Disjunction)))
      by_by us parts (inr vs) = by_list us vs.0 parts (word_past keyword.By us vs.0 vs.1) (bind_err (phrase.list_at inner nothing vs.0) (λ (es : phrase.Listed × List Terminal). Ok (es.0.exprs, es.1)) (stop.At left) vs.2)

      turn : ((us : List Terminal) × (behind (is_keyword keyword.Group) ts ≡ Some us) × (rule.group_keys_at inner [] us ≡ Err (stop.At left))) ⊎ ((behind (is_keyword keyword.Group) ts ≡ None) × (◌≡◌ {A = Result (List Expr × List Terminal) Stop} (Ok ([], ts)) (Err (stop.At left)))) → Begun AreGroups ts left
      turn (inl p) = by_by p.0 (word_taken keyword.Group ts p.0 p.1) (bind_err (past (is_keyword keyword.By) p.0) (λ (us : List Terminal). listed us) (stop.At left) p.2)
      turn (inr p) = absurd cc p.1

  -- a clause, and all behind it
  with_begun : {Y : Type 0} (k : Keyword) (read : List Terminal → Result Y Stop) (IsRest : List Terminal → Type 0) → IsRest [] → ((us : List Terminal) (left : ℕ) → read us ≡ Err (stop.At left) → Begun IsRest us left) → (ts : List Terminal) (left : ℕ)
      → (rule.clause_at inner k ts >>= (λ x. ◌>>=◌ {B = Option Expr × Y} (read x.1) (λ y. Ok (x.0, y)))) ≡ Err (stop.At left) → Begun (IsPair (IsClause k) IsRest) ts left
  with_begun {Y = Y} k read IsRest empty viable ts left e = turn (bind_err (rule.clause_at inner k ts) (λ (x : Option Expr × List Terminal). read x.1 >>= (λ y. Ok (x.0, y))) (stop.At left) e)
    where
      by_rest : (x : Option Expr × List Terminal) → rule.clause_at inner k ts ≡ Ok x → (read x.1 ≡ Err (stop.At left)) ⊎ ((y : Y) × (read x.1 ≡ Ok y) × (◌≡◌ {A = Result (Option Expr × Y) Stop} (Ok (x.0, y)) (Err (stop.At left)))) → Begun (IsPair (IsClause k) IsRest) ts left
      by_rest x is (inl e) =
          let c = sound.clause_sound n inner h k ts x is in
          second_begun c.front ts x.1 left c.parts (x.0, c.most, c.spells) (viable x.1 left e)
      by_rest x is (inr y) = absurd cc y.2

      turn : (rule.clause_at inner k ts ≡ Err (stop.At left)) ⊎ ((x : Option Expr × List Terminal) × (rule.clause_at inner k ts ≡ Ok x) × (◌>>=◌ {B = Option Expr × Y} (read x.1) (λ y. Ok (x.0, y)) ≡ Err (stop.At left))) → Begun (IsPair (IsClause k) IsRest) ts left
      turn (inl e) = first_begun ts left empty (clause_begun k ts left e)
      turn (inr x) = by_rest x.0 x.1 (bind_err (read x.0.1) (λ (y : Y). Ok (x.0.0, y)) (stop.At left) x.2)

  having_begun : (ts : List Terminal) (left : ℕ) → rule.having_at inner ts ≡ Err (stop.At left) → Begun (IsPair (IsClause keyword.Having) IsTail) ts left
  having_begun ts left e = with_begun keyword.Having rule.tail_at IsTail no_tail tail_begun ts left e

  grouping_begun : (ts : List Terminal) (left : ℕ) → rule.grouping_at inner ts ≡ Err (stop.At left) → Begun (IsPair AreGroups (IsPair (IsClause keyword.Having) IsTail)) ts left
  grouping_begun ts left e = turn (bind_err (rule.groups_at inner ts) (λ (g : List Expr × List Terminal). rule.having_at inner g.1 >>= (λ y. Ok (g.0, y))) (stop.At left) e)
    where
      by_having : (g : List Expr × List Terminal) → rule.groups_at inner ts ≡ Ok g → (rule.having_at inner g.1 ≡ Err (stop.At left)) ⊎ ((y : Option Expr × rule.Tail) × (rule.having_at inner g.1 ≡ Ok y) × (◌≡◌ {A = Result (List Expr × (Option Expr × rule.Tail)) Stop} (Ok (g.0, y)) (Err (stop.At left))))
          → Begun (IsPair AreGroups (IsPair (IsClause keyword.Having) IsTail)) ts left
      by_having g is (inl e) =
          let c = sound.groups_sound n inner h ts g is in
          second_begun c.front ts g.1 left c.parts (g.0, c.most, c.spells) (having_begun g.1 left e)
      by_having g is (inr y) = absurd cc y.2

      turn : (rule.groups_at inner ts ≡ Err (stop.At left)) ⊎ ((g : List Expr × List Terminal) × (rule.groups_at inner ts ≡ Ok g) × (◌>>=◌ {B = List Expr × (Option Expr × rule.Tail)} (rule.having_at inner g.1) (λ y. Ok (g.0, y)) ≡ Err (stop.At left))) → Begun (IsPair AreGroups (IsPair (IsClause keyword.Having) IsTail)) ts left
      turn (inl e) = first_begun ts left no_having (groups_begun ts left e)
      turn (inr g) = by_having g.0 g.1 (bind_err (rule.having_at inner g.0.1) (λ (y : Option Expr × rule.Tail). Ok (g.0.0, y)) (stop.At left) g.2)

  conditions_begun : (ts : List Terminal) (left : ℕ) → rule.conditions_at inner ts ≡ Err (stop.At left) → Begun AreConditions ts left
  conditions_begun ts left e = with_begun keyword.Where (rule.grouping_at inner) (IsPair AreGroups (IsPair (IsClause keyword.Having) IsTail)) no_grouping grouping_begun ts left e

  -- ---- the query from its parts

  from_begun : (ts : List Terminal) (left : ℕ) → rule.from_at inner ts ≡ Err (stop.At left) → Begun IsFrom ts left
  from_begun ts left e = turn (bind_err (rule.source_at inner ts) (λ (s : Source × List Terminal). rule.conditions_at inner s.1 >>= (λ c. Ok (s.0, c))) (stop.At left) e)
    where
      by_conditions : (s : Source × List Terminal) → rule.source_at inner ts ≡ Ok s → (rule.conditions_at inner s.1 ≡ Err (stop.At left)) ⊎ ((c : sound.Conditions) × (rule.conditions_at inner s.1 ≡ Ok c) × (◌≡◌ {A = Result (Source × sound.Conditions) Stop} (Ok (s.0, c)) (Err (stop.At left)))) → Begun IsFrom ts left
      by_conditions s is (inl e) =
          let t = sound.source_sound n inner h ts s is in
          second_begun (word keyword.From ∷ t.first_front ++ t.front) ts s.1 left (t.parts ∙ ap (λ (x : List Terminal). word keyword.From ∷ x) (sym (append_assoc t.first_front t.front s.1))) (t.first_front ++ t.front, refl, (t.first_front, t.front, refl, (_, t.first), (_, t.most, t.spells))) (conditions_begun s.1 left e)
      by_conditions s is (inr c) = absurd cc c.2

      turn : (rule.source_at inner ts ≡ Err (stop.At left)) ⊎ ((s : Source × List Terminal) × (rule.source_at inner ts ≡ Ok s) × (◌>>=◌ {B = Source × sound.Conditions} (rule.conditions_at inner s.1) (λ c. Ok (s.0, c)) ≡ Err (stop.At left))) → Begun IsFrom ts left
      turn (inl e) = first_begun ts left no_conditions (source_begun ts left e)
      turn (inr s) = by_conditions s.0 s.1 (bind_err (rule.conditions_at inner s.0.1) (λ (c : sound.Conditions). Ok (s.0.0, c)) (stop.At left) s.2)

  selected_begun : (ts : List Terminal) (left : ℕ) → rule.selected_at inner [] ts ≡ Err (stop.At left) → Begun (IsPair AreItems IsFrom) ts left
  selected_begun ts left e = turn (bind_err (rule.items_at inner [] ts) (λ (i : List Item × List Terminal). rule.from_at inner i.1 >>= (λ f. Ok (i.0, f))) (stop.At left) e)
    where
      by_from : (i : List Item × List Terminal) → rule.items_at inner [] ts ≡ Ok i → (rule.from_at inner i.1 ≡ Err (stop.At left)) ⊎ ((f : Source × sound.Conditions) × (rule.from_at inner i.1 ≡ Ok f) × (◌≡◌ {A = Result (List Item × (Source × sound.Conditions)) Stop} (Ok (i.0, f)) (Err (stop.At left)))) → Begun (IsPair AreItems IsFrom) ts left
      by_from i is (inl e) =
          let t = sound.items_sound n inner h [] ts i is in
          second_begun t.front ts i.1 left t.parts (t.items, t.most, t.spells) (from_begun i.1 left e)
      by_from i is (inr f) = absurd cc f.2

      turn : (rule.items_at inner [] ts ≡ Err (stop.At left)) ⊎ ((i : List Item × List Terminal) × (rule.items_at inner [] ts ≡ Ok i) × (◌>>=◌ {B = List Item × (Source × sound.Conditions)} (rule.from_at inner i.1) (λ f. Ok (i.0, f)) ≡ Err (stop.At left))) → Begun (IsPair AreItems IsFrom) ts left
      turn (inl e) = begun_before (word keyword.From ∷ terminal.name [] ∷ []) ts left (λ vs p. (vs, word keyword.From ∷ terminal.name [] ∷ [], refl, p, some_from)) (items_begun [] ts left e)
      turn (inr i) = by_from i.0 i.1 (bind_err (rule.from_at inner i.0.1) (λ (f : Source × sound.Conditions). Ok (i.0.0, f)) (stop.At left) i.2)

-- the query of its parts
query_of : (distinct : Bool) (us : List Terminal) → IsPair AreItems IsFrom us → IsQuery (word keyword.Select ∷ distinct_if distinct ++ us)
query_of distinct us p = (
  query,
  record {
    items_tokens = p.0;
    items_open = p.3.1;
    items = p.3.2;
    first_tokens = a.0;
    first = a.3.1;
    others_tokens = a.1;
    others_open = a.4.1;
    others = a.4.2;
    filter_tokens = c.0;
    filter_open = c.3.1;
    filter = c.3.2;
    groups_tokens = g.0;
    groups_open = g.3.1;
    groups = g.3.2;
    having_tokens = h.0;
    having_open = h.3.1;
    having = h.3.2;
    order_tokens = t.0;
    order = t.3.1;
    limit_tokens = l.0;
    limit = l.3.1;
    end_tokens = l.1;
    ends = l.4;
    tokens = ap (λ (x : List Terminal). word keyword.Select ∷ distinct_if distinct ++ x) (p.2 ∙ ap (λ (x : List Terminal). p.0 ++ x) tables);
  },
)
  where
    f : IsFrom p.1
    f = p.4

    a : AreTables f.3.0
    a = f.3.2

    c : AreConditions f.1
    c = f.4

    g : IsPair AreGroups (IsPair (IsClause keyword.Having) IsTail) c.1
    g = c.4

    h : IsPair (IsClause keyword.Having) IsTail g.1
    h = g.4

    t : IsTail h.1
    t = h.4

    l : IsPair IsLimit SpellsEnd t.1
    l = t.4

    query : Query
    query = record { distinct = distinct; items = p.3.0; source = record { first = a.3.0; others = a.4.0 }; filter = c.3.0; group_by = g.3.0; having = h.3.0; order_by = t.3.0; limit = l.3.0 }

    behind_tables : f.1 ≡ c.0 ++ (g.0 ++ (h.0 ++ (t.0 ++ (l.0 ++ l.1))))
    behind_tables = c.2 ∙ ap (λ (x : List Terminal). c.0 ++ x) (g.2 ∙ ap (λ (x : List Terminal). g.0 ++ x) (h.2 ∙ ap (λ (x : List Terminal). h.0 ++ x) (t.2 ∙ ap (λ (x : List Terminal). t.0 ++ x) l.2)))

    tables : p.1 ≡ word keyword.From ∷ a.0 ++ (a.1 ++ (c.0 ++ (g.0 ++ (h.0 ++ (t.0 ++ (l.0 ++ l.1))))))
    tables =
        f.2 ∙ ap (λ (x : List Terminal). x ++ f.1) (f.3.1 ∙ ap (λ (x : List Terminal). word keyword.From ∷ x) a.2) ∙ ap (λ (x : List Terminal). word keyword.From ∷ x) (append_assoc a.0 a.1 f.1)
        ∙ ap (λ (x : List Terminal). word keyword.From ∷ a.0 ++ (a.1 ++ x)) behind_tables

-- Where reading a query stops at a token, those before it begin one.
pub query_begun : (ts : List Terminal) (left : ℕ) → rule.query_at rule.within ts ≡ Err (stop.At left) → Begun IsQuery ts left
query_begun ts left e = turn (bind_err (past (is_keyword keyword.Select) ts) (λ (us : List Terminal). rule.query_behind rule.within (rule.distinct_at us)) (stop.At left) e)
  where
    by_parts : (us : List Terminal) → ts ≡ word keyword.Select ∷ us
        → (rule.selected_at rule.within [] (rule.distinct_at us).1 ≡ Err (stop.At left)) ⊎ ((x : List Item × (Source × sound.Conditions)) × (rule.selected_at rule.within [] (rule.distinct_at us).1 ≡ Ok x) × (◌≡◌ {A = Result Query Stop} (Ok (rule.query_of_parts (rule.distinct_at us).0 x.0 x.1)) (Err (stop.At left))))
        → Begun IsQuery ts left
    by_parts us parts (inl e) =
        begun_into (λ vs. word keyword.Select ∷ distinct_if (rule.distinct_at us).0 ++ vs) (word keyword.Select ∷ distinct_if (rule.distinct_at us).0) (λ vs. refl) ts (rule.distinct_at us).1 left (parts ∙ ap (λ (x : List Terminal). word keyword.Select ∷ x) (sound.distinct_sound us))
        (query_of (rule.distinct_at us).0) (selected_begun 256 (inner_at 128 257) (inner_sound 257) (inner_begun 257) (rule.distinct_at us).1 left e)
    by_parts us parts (inr x) = absurd cc x.2

    turn : (past (is_keyword keyword.Select) ts ≡ Err (stop.At left)) ⊎ ((us : List Terminal) × (past (is_keyword keyword.Select) ts ≡ Ok us) × (rule.query_behind rule.within (rule.distinct_at us) ≡ Err (stop.At left))) → Begun IsQuery ts left
    turn (inl e) =
        begun_here ts (word keyword.Select ∷ terminal.text [] ∷ word keyword.From ∷ terminal.name [] ∷ []) left (past_err (is_keyword keyword.Select) ts left e)
        (query_of false (terminal.text [] ∷ word keyword.From ∷ terminal.name [] ∷ []) (terminal.text [] ∷ [], word keyword.From ∷ terminal.name [] ∷ [], refl, some_items, some_from))
    turn (inr us) =
        by_parts us.0 (word_past keyword.Select ts us.0 us.1) (bind_err (rule.selected_at rule.within [] (rule.distinct_at us.0).1) (λ (x : List Item × (Source × sound.Conditions)). Ok (rule.query_of_parts (rule.distinct_at us.0).0 x.0 x.1)) (stop.At left) us.2)
