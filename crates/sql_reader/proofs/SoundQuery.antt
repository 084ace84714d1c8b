-- What is read of a query is spelled.
use Rattle.std.proofs.Common.{◌≡◌, ◌⊎◌, ℕ, zero, suc, ◌+◌, ◌≤◌, Bool, true, false, cond, List, [], ◌∷◌, ◌++◌, length, map, Option, Some, None, Result, Ok, refl, sym, ap, ◌∙◌, subst, arith, append_assoc, inl, inr}
use Rattle.std.specs.Prelude.{max, nat_le}
use Rattle.std.proofs.lemmas.Bool.{leb-true}
use Rattle.std.proofs.lemmas.List.{append-nil}
use Rattle.meaning.specs.declared.plan.JoinType.{JoinType}
use Rattle.meaning.specs.declared.plan.JoinType.TheVariants as join_type
use Rattle.sql_syntax.specs.declared.keyword.Keyword.{Keyword}
use Rattle.sql_syntax.specs.declared.keyword.Keyword.TheVariants as keyword
use Rattle.sql_syntax.specs.declared.token.Sign.TheVariants as sign
use Rattle.sql_syntax.specs.Joins.{condition_of, kind_of}
use Rattle.sql_syntax.specs.declared.tree.JoinKind.TheVariants as join_kind
use Rattle.sql_syntax.specs.declared.tree.Direction.{Direction}
use Rattle.sql_syntax.specs.declared.tree.Direction.TheVariants as direction
use Rattle.sql_syntax.specs.declared.tree.OrderTarget.{OrderTarget}
use Rattle.sql_syntax.specs.declared.tree.OrderTarget.TheVariants as target
use Rattle.sql_syntax.specs.declared.tree.OrderKey.{OrderKey}
use Rattle.sql_syntax.specs.declared.tree.Expr.{Expr}
use Rattle.sql_syntax.specs.declared.tree.Item.{Item}
use Rattle.sql_syntax.specs.declared.tree.Table.{Table}
use Rattle.sql_syntax.specs.declared.tree.Joined.{Joined}
use Rattle.sql_syntax.specs.declared.tree.Source.{Source}
use Rattle.sql_syntax.specs.declared.tree.Query.{Query}
use Rattle.sql_syntax.specs.Words.{lower}
use Rattle.sql_syntax.specs.Tokens as terminal
use Rattle.sql_syntax.specs.Tokens.{Terminal}
use Rattle.sql_syntax.specs.declared.strength.Level.{Level}
use Rattle.sql_syntax.specs.declared.strength.Level.TheVariants as level
use Rattle.sql_syntax.specs.Phrases.{word, mark, distinct_if, Spells, open_in, open_in_list}
use Rattle.sql_syntax.specs.CanonicalTokens.{depth, deepest}
use Rattle.sql_syntax.specs.Queries.{SpellsAlias, none, bare, behind_as, SpellsTable, table, SpellsTarget, position, name, SpellsDirection, unsaid, ascending, descending, SpellsItems, last_item, more_items, SpellsJoin, join, inner_join, left_join, left_outer_join, SpellsOthers, no_others, behind_comma, behind_join, SpellsClause, no_clause, clause, SpellsGroups, no_groups, groups, SpellsKeys, last_key, more_keys, SpellsOrder, no_order, order, SpellsLimit, no_limit, limit, SpellsEnd, no_end, semicolon, SpellsQuery, open_in_query, option_depth, query_depth}
use Rattle.sql_expressions.specs.declared.parsed.Parsed.{Parsed}
use Rattle.sql_expressions.specs.declared.stop.Stop.{Stop}
use Rattle.sql_expressions.specs.declared.stop.Stop.TheVariants as stop
use Rattle.sql_reader.specs.Rules as rule
use Rattle.sql_expressions.specs.Rules as phrase
use Rattle.sql_expressions.specs.Rules.{◌>>=◌, choose, is_keyword, is_sign, behind, past, inner_at}
use Rattle.sql_expressions.proofs.Sound.{bind_ok, choose_ok, word_taken, mark_taken, word_past, allowed, IsInner, list_sound, inner_sound}
use Rattle.sql_reader.proofs.Tables.{condition_is}

-- ---- names

pub name_taken : (ts : List Terminal) (x : List ℕ × List Terminal) → phrase.name_at ts ≡ Ok x → (m : List ℕ) × (ts ≡ terminal.name m ∷ x.1) × (lower m ≡ x.0)
name_taken [] x e = absurd cc
name_taken (terminal.name m ∷ ts) x e =
    let same : ◌≡◌ {A = List ℕ × List Terminal} (lower m, ts) x = cc e in
    (m, ap (λ (p : List ℕ × List Terminal). terminal.name m ∷ p.1) same, ap (λ (p : List ℕ × List Terminal). p.0) same)
name_taken (t ∷ ts) x e = absurd cc

pub record TookAlias (ts : List Terminal) (x : Option (List ℕ) × List Terminal) : Type 0 where
  pub front : List Terminal
  pub spells : SpellsAlias front x.0
  pub parts : ts ≡ front ++ x.1

-- a name that is an alias, behind AS or alone
named : (ts us : List Terminal) (x : Option (List ℕ) × List Terminal) (front : List ℕ → List Terminal) → ((m : List ℕ) → SpellsAlias (front m) (Some (lower m))) → ((m : List ℕ) (vs : List Terminal) → us ≡ terminal.name m ∷ vs → ts ≡ front m ++ vs)
    → (phrase.name_at us >>= (λ n. Ok (Some n.0, n.1))) ≡ Ok x → TookAlias ts x
named ts us x front spells before e =
    let r = bind_ok (phrase.name_at us) (λ (n : List ℕ × List Terminal). Ok (Some n.0, n.1)) x e in
    let m = name_taken us r.0 r.1 in
    let same : ◌≡◌ {A = Option (List ℕ) × List Terminal} (Some (lower m.0), r.0.1) x = ap (λ (w : List ℕ). (Some w, r.0.1)) m.2 ∙ cc r.2 in
    subst (λ (y : Option (List ℕ) × List Terminal). TookAlias ts y) same (record { front = front m.0; spells = spells m.0; parts = before m.0 r.0.1 m.1 })

bare_turn : (ts : List Terminal) (x : Option (List ℕ) × List Terminal) (begins : Bool) → cond begins (phrase.name_at ts >>= (λ n. Ok (Some n.0, n.1))) (Ok (None, ts)) ≡ Ok x → TookAlias ts x
bare_turn ts x true e = named ts ts x (λ m. terminal.name m ∷ []) (λ m. bare m) (λ m vs is. is) e
bare_turn ts x false e =
    let same : ◌≡◌ {A = Option (List ℕ) × List Terminal} (None, ts) x = cc e in
    subst (λ (y : Option (List ℕ) × List Terminal). TookAlias ts y) same (record { front = []; spells = none; parts = refl })

alias_turn : (ts : List Terminal) (x : Option (List ℕ) × List Terminal)
    → ((us : List Terminal) × (behind (is_keyword keyword.As) ts ≡ Some us) × ((phrase.name_at us >>= (λ n. Ok (Some n.0, n.1))) ≡ Ok x)) ⊎ ((behind (is_keyword keyword.As) ts ≡ None) × (cond (phrase.begins_name ts) (phrase.name_at ts >>= (λ n. Ok (Some n.0, n.1))) (Ok (None, ts)) ≡ Ok x))
    → TookAlias ts x
alias_turn ts x (inl p) =
    let as_word = word_taken keyword.As ts p.0 p.1 in
    named ts p.0 x (λ m. word keyword.As ∷ terminal.name m ∷ []) (λ m. behind_as m) (λ m vs is. as_word ∙ ap (λ (v : List Terminal). word keyword.As ∷ v) is) p.2
alias_turn ts x (inr p) = bare_turn ts x (phrase.begins_name ts) p.1

pub alias_sound : (ts : List Terminal) (x : Option (List ℕ) × List Terminal) → rule.alias_at ts ≡ Ok x → TookAlias ts x
alias_sound ts x e =
    alias_turn ts x (choose_ok (behind (is_keyword keyword.As) ts) (λ (us : List Terminal). phrase.name_at us >>= (λ n. Ok (Some n.0, n.1))) (cond (phrase.begins_name ts) (phrase.name_at ts >>= (λ n. Ok (Some n.0, n.1))) (Ok (None, ts))) x e)

-- ---- items

pub record TookItem (n : ℕ) (ts : List Terminal) (x : Item × List Terminal) : Type 0 where
  pub item_expr : Expr
  pub item_alias : Option (List ℕ)
  pub is : x.0 ≡ record { expr = item_expr; alias = item_alias }
  pub front : List Terminal
  pub spells : Spells level.Disjunction front item_expr
  pub name_front : List Terminal
  pub named_so : SpellsAlias name_front item_alias
  pub parts : ts ≡ front ++ (name_front ++ x.1)
  pub opens : open_in spells ≤ n
  pub bounded : depth item_expr ≤ 128

pub item_sound : (n : ℕ) (inner : Level → phrase.Reader) → IsInner (suc n) inner → (ts : List Terminal) (x : Item × List Terminal) → rule.item_at inner ts ≡ Ok x → TookItem n ts x
item_sound n inner h ts x e =
    let r = bind_ok (inner level.Disjunction ts) (λ (e : Parsed × List Terminal). rule.alias_at e.1 >>= (λ a. Ok (record { expr = e.0.expr; alias = a.0 }, a.1))) x e in
    let s = bind_ok (rule.alias_at r.0.1) (λ (a : Option (List ℕ) × List Terminal). Ok (record { expr = r.0.0.expr; alias = a.0 }, a.1)) x r.2 in
    let t = h level.Disjunction ts r.0 r.1 in
    let a = alias_sound r.0.1 s.0 s.1 in
    let opened : open_in t.spells + 1 ≤ suc n = t.opens in
    let few : open_in t.spells ≤ n = omega arith in
    let deep : r.0.0.depth ≡ depth r.0.0.expr = t.deep in
    let most : r.0.0.depth ≤ 128 = t.bounded in
    let bound : depth r.0.0.expr ≤ 128 = omega arith in
    let same : ◌≡◌ {A = Item × List Terminal} (record { expr = r.0.0.expr; alias = s.0.0 }, s.0.1) x = cc s.2 in
    subst (λ (y : Item × List Terminal). TookItem n ts y) same
    (record { item_expr = r.0.0.expr; item_alias = s.0.0; is = refl; front = t.front; spells = t.spells; name_front = a.front; named_so = a.spells; parts = t.parts ∙ ap (λ (v : List Terminal). t.front ++ v) a.parts; opens = few; bounded = bound })

pub record TookItems (n : ℕ) (before : List Item) (ts : List Terminal) (x : List Item × List Terminal) : Type 0 where
  pub front : List Terminal
  pub items : List Item
  pub most : ℕ
  pub spells : SpellsItems front items most
  pub parts : ts ≡ front ++ x.1
  pub opens : most ≤ n
  pub are : x.0 ≡ before ++ items
  pub bounded : deepest (map (λ (item : Item). depth item.expr) items) ≤ 128

last_item_took : (n : ℕ) (before : List Item) (ts : List Terminal) (p : Item × List Terminal) → TookItem n ts p → TookItems n before ts (before ++ p.0 ∷ [], p.1)
last_item_took n before ts p t =
    let deep : depth t.item_expr ≤ 128 = t.bounded in
    let bound : max (depth t.item_expr) 0 ≤ 128 = omega arith in
    record { front = t.front ++ t.name_front; items = record { expr = t.item_expr; alias = t.item_alias } ∷ []; most = open_in t.spells; spells = last_item t.spells t.named_so; parts = t.parts ∙ sym (append_assoc t.front t.name_front p.1); opens = t.opens; are = ap (λ (i : Item). before ++ i ∷ []) t.is; bounded = bound }

more_items_took : (n : ℕ) (before : List Item) (ts us : List Terminal) (p : Item × List Terminal) (x : List Item × List Terminal) → TookItem n ts p → p.1 ≡ mark sign.Comma ∷ us → TookItems n (before ++ p.0 ∷ []) us x → TookItems n before ts x
more_items_took n before ts us p x t comma l =
    let deep : depth t.item_expr ≤ 128 = t.bounded in
    let rest_deep : deepest (map (λ (item : Item). depth item.expr) l.items) ≤ 128 = l.bounded in
    let bound : max (depth t.item_expr) (deepest (map (λ (item : Item). depth item.expr) l.items)) ≤ 128 = omega arith in
    let first_open : open_in t.spells ≤ n = t.opens in
    let rest_open : l.most ≤ n = l.opens in
    let few : max (open_in t.spells) l.most ≤ n = omega arith in
    let tail : p.1 ≡ (mark sign.Comma ∷ l.front) ++ x.1 = comma ∙ ap (λ (v : List Terminal). mark sign.Comma ∷ v) l.parts in
    let parts : ts ≡ (t.front ++ t.name_front ++ mark sign.Comma ∷ l.front) ++ x.1 = t.parts ∙ sym (append_assoc t.front t.name_front p.1) ∙ ap (λ (v : List Terminal). t.front ++ t.name_front ++ v) tail ∙ sym (append_assoc (t.front ++ t.name_front) (mark sign.Comma ∷ l.front) x.1) in
    let lists : x.0 ≡ before ++ record { expr = t.item_expr; alias = t.item_alias } ∷ l.items = l.are ∙ append_assoc before (p.0 ∷ []) l.items ∙ ap (λ (i : Item). before ++ i ∷ l.items) t.is in
    record { front = t.front ++ t.name_front ++ mark sign.Comma ∷ l.front; items = record { expr = t.item_expr; alias = t.item_alias } ∷ l.items; most = max (open_in t.spells) l.most; spells = more_items t.spells t.named_so l.spells; parts = parts; opens = few; are = lists; bounded = bound }

item_turn : (m n : ℕ) (inner : Level → phrase.Reader) → IsInner (suc n) inner → (before : List Item) (ts : List Terminal) (p : Item × List Terminal) (x : List Item × List Terminal) → TookItem n ts p
    → ((us : List Terminal) (q : Item × List Terminal) → TookItem n us q → rule.more_items inner m ((before ++ p.0 ∷ []) ++ q.0 ∷ []) q.1 ≡ Ok x → TookItems n (before ++ p.0 ∷ []) us x)
    → ((us : List Terminal) × (behind (is_sign sign.Comma) p.1 ≡ Some us) × ((rule.put_item inner (before ++ p.0 ∷ []) us >>= (λ y. rule.more_items inner m y.0 y.1)) ≡ Ok x)) ⊎ ((behind (is_sign sign.Comma) p.1 ≡ None) × (◌≡◌ {A = Result (List Item × List Terminal) Stop} (Ok (before ++ p.0 ∷ [], p.1)) (Ok x)))
    → TookItems n before ts x
item_turn m n inner h before ts p x t again (inl q) =
    let r = bind_ok (rule.put_item inner (before ++ p.0 ∷ []) q.0) (λ (y : List Item × List Terminal). rule.more_items inner m y.0 y.1) x q.2 in
    let s = bind_ok (rule.item_at inner q.0) (λ (y : Item × List Terminal). Ok ((before ++ p.0 ∷ []) ++ y.0 ∷ [], y.1)) r.0 r.1 in
    let same : ◌≡◌ {A = List Item × List Terminal} r.0 ((before ++ p.0 ∷ []) ++ s.0.0 ∷ [], s.0.1) = sym (cc s.2) in
    let reads : rule.more_items inner m ((before ++ p.0 ∷ []) ++ s.0.0 ∷ []) s.0.1 ≡ Ok x = subst (λ (y : List Item × List Terminal). rule.more_items inner m y.0 y.1 ≡ Ok x) same r.2 in
    more_items_took n before ts q.0 p x t (mark_taken sign.Comma p.1 q.0 q.1) (again q.0 s.0 (item_sound n inner h q.0 s.0 s.1) reads)
item_turn m n inner h before ts p x t again (inr q) =
    let same : ◌≡◌ {A = List Item × List Terminal} (before ++ p.0 ∷ [], p.1) x = cc q.1 in
    subst (λ (y : List Item × List Terminal). TookItems n before ts y) same (last_item_took n before ts p t)

items_go : (m n : ℕ) (inner : Level → phrase.Reader) → IsInner (suc n) inner → (before : List Item) (ts : List Terminal) (p : Item × List Terminal) (x : List Item × List Terminal) → TookItem n ts p
    → rule.more_items inner m (before ++ p.0 ∷ []) p.1 ≡ Ok x → TookItems n before ts x
items_go zero n inner h before ts p x t e = absurd cc
items_go (suc m) n inner h before ts p x t e =
    item_turn m n inner h before ts p x t (λ us q t2 e2. items_go m n inner h (before ++ p.0 ∷ []) us q x t2 e2)
    (choose_ok (behind (is_sign sign.Comma) p.1) (λ (us : List Terminal). rule.put_item inner (before ++ p.0 ∷ []) us >>= (λ y. rule.more_items inner m y.0 y.1)) (Ok (before ++ p.0 ∷ [], p.1)) x e)

pub items_sound : (n : ℕ) (inner : Level → phrase.Reader) → IsInner (suc n) inner → (before : List Item) (ts : List Terminal) (x : List Item × List Terminal) → rule.items_at inner before ts ≡ Ok x → TookItems n before ts x
items_sound n inner h before ts x e =
    let r = bind_ok (rule.put_item inner before ts) (λ (y : List Item × List Terminal). rule.more_items inner (suc (length y.1)) y.0 y.1) x e in
    let s = bind_ok (rule.item_at inner ts) (λ (y : Item × List Terminal). Ok (before ++ y.0 ∷ [], y.1)) r.0 r.1 in
    let same : ◌≡◌ {A = List Item × List Terminal} r.0 (before ++ s.0.0 ∷ [], s.0.1) = sym (cc s.2) in
    let reads : rule.more_items inner (suc (length s.0.1)) (before ++ s.0.0 ∷ []) s.0.1 ≡ Ok x = subst (λ (y : List Item × List Terminal). rule.more_items inner (suc (length y.1)) y.0 y.1 ≡ Ok x) same r.2 in
    items_go (suc (length s.0.1)) n inner h before ts s.0 x (item_sound n inner h ts s.0 s.1) reads

-- ---- tables

pub record TookTable (ts : List Terminal) (x : Table × List Terminal) : Type 0 where
  pub front : List Terminal
  pub spells : SpellsTable front x.0
  pub parts : ts ≡ front ++ x.1

pub table_sound : (ts : List Terminal) (x : Table × List Terminal) → rule.table_at ts ≡ Ok x → TookTable ts x
table_sound ts x e =
    let r = bind_ok (phrase.name_at ts) (λ (n : List ℕ × List Terminal). rule.alias_at n.1 >>= (λ a. Ok (record { name = n.0; alias = a.0 }, a.1))) x e in
    let s = bind_ok (rule.alias_at r.0.1) (λ (a : Option (List ℕ) × List Terminal). Ok (record { name = r.0.0; alias = a.0 }, a.1)) x r.2 in
    let m = name_taken ts r.0 r.1 in
    let a = alias_sound r.0.1 s.0 s.1 in
    let renamed : ◌≡◌ {A = Table × List Terminal} (record { name = lower m.0; alias = s.0.0 }, s.0.1) (record { name = r.0.0; alias = s.0.0 }, s.0.1) = ap (λ (w : List ℕ). (record { name = w; alias = s.0.0 }, s.0.1)) m.2 in
    let same : ◌≡◌ {A = Table × List Terminal} (record { name = lower m.0; alias = s.0.0 }, s.0.1) x = renamed ∙ cc s.2 in
    subst (λ (y : Table × List Terminal). TookTable ts y) same (record { front = terminal.name m.0 ∷ a.front; spells = table m.0 a.spells; parts = m.1 ∙ ap (λ (v : List Terminal). terminal.name m.0 ∷ v) a.parts })

-- A further table was taken. With others behind it there are those.
pub record TookOther (n : ℕ) (ts : List Terminal) (x : Joined × List Terminal) : Type 0 where
  pub front : List Terminal
  pub parts : ts ≡ front ++ x.1
  pub bounded : option_depth (condition_of x.0.kind) ≤ 128
  pub with_others : (us : List Terminal) (others : List Joined) (most : ℕ) → SpellsOthers us others most → most ≤ n → (all : ℕ) × SpellsOthers (front ++ us) (x.0 ∷ others) all × (all ≤ n)

listed_sound : (n : ℕ) (ts us : List Terminal) (x : Joined × List Terminal) → ts ≡ mark sign.Comma ∷ us → rule.listed_at us ≡ Ok x → TookOther n ts x
listed_sound n ts us x comma e =
    let r = bind_ok (rule.table_at us) (λ (t : Table × List Terminal). Ok (record { table = t.0; kind = join_kind.Comma }, t.1)) x e in
    let t = table_sound us r.0 r.1 in
    let same : ◌≡◌ {A = Joined × List Terminal} (record { table = r.0.0; kind = join_kind.Comma }, r.0.1) x = cc r.2 in
    subst (λ (y : Joined × List Terminal). TookOther n ts y) same
    (record { front = mark sign.Comma ∷ t.front; parts = comma ∙ ap (λ (v : List Terminal). mark sign.Comma ∷ v) t.parts; bounded = omega arith; with_others = λ vs others most d o. (most, behind_comma t.spells d, o) })

joined_sound : (n : ℕ) (inner : Level → phrase.Reader) → IsInner (suc n) inner → (by : JoinType) (is ts us : List Terminal) (x : Joined × List Terminal) → SpellsJoin is by → ts ≡ is ++ us → rule.joined_at inner by us ≡ Ok x → TookOther n ts x
joined_sound n inner h by is ts us x words before e =
    let r = bind_ok (rule.table_at us) (λ (t : Table × List Terminal). rule.condition_at inner keyword.On t.1 >>= (λ e. Ok (record { table = t.0; kind = kind_of by e.0 }, e.1))) x e in
    let s = bind_ok (rule.condition_at inner keyword.On r.0.1) (λ (e : Expr × List Terminal). Ok (record { table = r.0.0; kind = kind_of by e.0 }, e.1)) x r.2 in
    let o = bind_ok (past (is_keyword keyword.On) r.0.1) (λ (vs : List Terminal). inner level.Disjunction vs >>= (λ e. Ok (e.0.expr, e.1))) s.0 s.1 in
    let c = bind_ok (inner level.Disjunction o.0) (λ (e : Parsed × List Terminal). Ok (e.0.expr, e.1)) s.0 o.2 in
    let t = table_sound us r.0 r.1 in
    let d = h level.Disjunction o.0 c.0 c.1 in
    let on_word : r.0.1 ≡ word keyword.On ∷ o.0 = word_past keyword.On r.0.1 o.0 o.1 in
    let found : ◌≡◌ {A = Expr × List Terminal} (c.0.0.expr, c.0.1) s.0 = cc c.2 in
    let same : ◌≡◌ {A = Joined × List Terminal} (record { table = r.0.0; kind = kind_of by c.0.0.expr }, c.0.1) x = ap (λ (e : Expr × List Terminal). (record { table = r.0.0; kind = kind_of by e.0 }, e.1)) found ∙ cc s.2 in
    let opened : open_in d.spells + 1 ≤ suc n = d.opens in
    let deep : c.0.0.depth ≡ depth c.0.0.expr = d.deep in
    let most_deep : c.0.0.depth ≤ 128 = d.bounded in
    let shallow : depth c.0.0.expr ≤ 128 = omega arith in
    let bound : option_depth (condition_of (kind_of by c.0.0.expr)) ≤ 128 = subst (λ o. option_depth o ≤ 128) (sym (condition_is by c.0.0.expr)) shallow in
    let inner_parts : us ≡ (t.front ++ (word keyword.On ∷ d.front)) ++ c.0.1 = t.parts ∙ ap (λ (v : List Terminal). t.front ++ v) (on_word ∙ ap (λ (v : List Terminal). word keyword.On ∷ v) d.parts) ∙ sym (append_assoc t.front (word keyword.On ∷ d.front) c.0.1) in
    let parts : ts ≡ (is ++ (t.front ++ (word keyword.On ∷ d.front))) ++ c.0.1 = before ∙ ap (λ (v : List Terminal). is ++ v) inner_parts ∙ sym (append_assoc is (t.front ++ (word keyword.On ∷ d.front)) c.0.1) in
    subst (λ (y : Joined × List Terminal). TookOther n ts y) same
    (record { front = is ++ (t.front ++ (word keyword.On ∷ d.front)); parts = parts; bounded = bound; with_others = λ vs others most rest o. with_rest t.front r.0.0 t.spells d.front c.0.0.expr d.spells (omega arith) vs others most rest o })
  where
    with_rest : (t_front : List Terminal) (t : Table) → SpellsTable t_front t → (d_front : List Terminal) (e : Expr) (d : Spells level.Disjunction d_front e) → open_in d ≤ n → (vs : List Terminal) (others : List Joined) (most : ℕ) → SpellsOthers vs others most → most ≤ n
        → (all : ℕ) × SpellsOthers ((is ++ (t_front ++ (word keyword.On ∷ d_front))) ++ vs) (record { table = t; kind = kind_of by e } ∷ others) all × (all ≤ n)
    with_rest t_front t t_spells d_front e d few vs others most rest o =
        let assoc : is ++ (t_front ++ (word keyword.On ∷ d_front ++ vs)) ≡ (is ++ (t_front ++ (word keyword.On ∷ d_front))) ++ vs = ap (λ (v : List Terminal). is ++ v) (sym (append_assoc t_front (word keyword.On ∷ d_front) vs)) ∙ sym (append_assoc is (t_front ++ (word keyword.On ∷ d_front)) vs) in
        (max (open_in d) most, subst (λ (v : List Terminal). SpellsOthers v (record { table = t; kind = kind_of by e } ∷ others) (max (open_in d) most)) assoc (behind_join words t_spells d rest), omega arith)

-- the words before a table with a condition were taken
pub record TookJoin (ts : List Terminal) (x : JoinType × List Terminal) : Type 0 where
  pub front : List Terminal
  pub spells : SpellsJoin front x.0
  pub parts : ts ≡ front ++ x.1

-- a word that may be left out stands there, or not
past_if_turn : (k : Keyword) (ts : List Terminal) (found : Option (List Terminal)) → behind (is_keyword k) ts ≡ found
    → (choose found (λ us. us) ts ≡ ts) ⊎ (ts ≡ word k ∷ choose found (λ us. us) ts)
past_if_turn k ts None e = inl refl
past_if_turn k ts (Some us) e = inr (word_taken k ts us e)

past_join_turn : (k : Keyword) (by : JoinType) (front ts us vs rest : List Terminal) → SpellsJoin (front ++ word keyword.Join ∷ []) by → SpellsJoin (front ++ word k ∷ word keyword.Join ∷ []) by
    → ts ≡ front ++ us → vs ≡ word keyword.Join ∷ rest → (vs ≡ us) ⊎ (us ≡ word k ∷ vs) → TookJoin ts (by, rest)
past_join_turn k by front ts us vs rest short long before join_word (inl is) =
    record { front = front ++ word keyword.Join ∷ []; spells = short; parts = before ∙ ap (λ (v : List Terminal). front ++ v) (sym is ∙ join_word) ∙ sym (append_assoc front (word keyword.Join ∷ []) rest) }
past_join_turn k by front ts us vs rest short long before join_word (inr is) =
    record { front = front ++ word k ∷ word keyword.Join ∷ []; spells = long; parts = before ∙ ap (λ (v : List Terminal). front ++ v) (is ∙ ap (λ (v : List Terminal). word k ∷ v) join_word) ∙ sym (append_assoc front (word k ∷ word keyword.Join ∷ []) rest) }

past_join_sound : (k : Keyword) (by : JoinType) (front ts us : List Terminal) (x : JoinType × List Terminal) → SpellsJoin (front ++ word keyword.Join ∷ []) by → SpellsJoin (front ++ word k ∷ word keyword.Join ∷ []) by
    → ts ≡ front ++ us → rule.past_join k by us ≡ Ok x → TookJoin ts x
past_join_sound k by front ts us x short long before e =
    let r = bind_ok (past (is_keyword keyword.Join) (rule.past_if k us)) (λ (vs : List Terminal). Ok (by, vs)) x e in
    let same : ◌≡◌ {A = JoinType × List Terminal} (by, r.0) x = cc r.2 in
    let join_word : rule.past_if k us ≡ word keyword.Join ∷ r.0 = word_past keyword.Join (rule.past_if k us) r.0 r.1 in
    subst (λ (y : JoinType × List Terminal). TookJoin ts y) same (past_join_turn k by front ts us (rule.past_if k us) r.0 short long before join_word (past_if_turn k us (behind (is_keyword k) us) refl))

join_turn : (ts : List Terminal) (x : JoinType × List Terminal)
    → ((us : List Terminal) × (behind (is_keyword keyword.Left) ts ≡ Some us) × (rule.past_join keyword.Outer join_type.Left us ≡ Ok x)) ⊎ ((behind (is_keyword keyword.Left) ts ≡ None) × (rule.past_join keyword.Inner join_type.Inner ts ≡ Ok x)) → TookJoin ts x
join_turn ts x (inl p) = past_join_sound keyword.Outer join_type.Left (word keyword.Left ∷ []) ts p.0 x left_join left_outer_join (word_taken keyword.Left ts p.0 p.1) p.2
join_turn ts x (inr p) = past_join_sound keyword.Inner join_type.Inner [] ts ts x join inner_join refl p.1

pub join_sound : (ts : List Terminal) (x : JoinType × List Terminal) → rule.join_at ts ≡ Ok x → TookJoin ts x
join_sound ts x e = join_turn ts x (choose_ok (behind (is_keyword keyword.Left) ts) (rule.past_join keyword.Outer join_type.Left) (rule.past_join keyword.Inner join_type.Inner ts) x e)

-- what stands before a table with a condition, and that table
abbrev behind_join_at : (Level → phrase.Reader) → List Terminal → phrase.Reads Joined
behind_join_at inner ts = rule.join_at ts >>= (λ j. rule.joined_at inner j.0 j.1)

behind_join_sound : (n : ℕ) (inner : Level → phrase.Reader) → IsInner (suc n) inner → (ts : List Terminal) (x : Joined × List Terminal) → behind_join_at inner ts ≡ Ok x → TookOther n ts x
behind_join_sound n inner h ts x e =
    let r = bind_ok (rule.join_at ts) (λ (j : JoinType × List Terminal). rule.joined_at inner j.0 j.1) x e in
    let j = join_sound ts r.0 r.1 in
    joined_sound n inner h r.0.0 j.front ts r.0.1 x j.spells j.parts r.2

other_turn : (n : ℕ) (inner : Level → phrase.Reader) → IsInner (suc n) inner → (ts : List Terminal) (x : Joined × List Terminal)
    → ((us : List Terminal) × (behind (is_sign sign.Comma) ts ≡ Some us) × (rule.listed_at us ≡ Ok x)) ⊎ ((behind (is_sign sign.Comma) ts ≡ None) × (behind_join_at inner ts ≡ Ok x)) → TookOther n ts x
other_turn n inner h ts x (inl p) = listed_sound n ts p.0 x (mark_taken sign.Comma ts p.0 p.1) p.2
other_turn n inner h ts x (inr p) = behind_join_sound n inner h ts x p.1

pub other_sound : (n : ℕ) (inner : Level → phrase.Reader) → IsInner (suc n) inner → (ts : List Terminal) (x : Joined × List Terminal) → rule.other_at inner ts ≡ Ok x → TookOther n ts x
other_sound n inner h ts x e = other_turn n inner h ts x (choose_ok (behind (is_sign sign.Comma) ts) rule.listed_at (behind_join_at inner ts) x e)

-- a joined table's condition is so deep
abbrev on_depth : Joined → ℕ
on_depth j = option_depth (condition_of j.kind)

pub record TookOthers (n : ℕ) (before : List Joined) (ts : List Terminal) (x : List Joined × List Terminal) : Type 0 where
  pub front : List Terminal
  pub others : List Joined
  pub most : ℕ
  pub spells : SpellsOthers front others most
  pub parts : ts ≡ front ++ x.1
  pub opens : most ≤ n
  pub are : x.0 ≡ before ++ others
  pub bounded : deepest (map on_depth others) ≤ 128

no_others_took : (n : ℕ) (before : List Joined) (ts : List Terminal) → TookOthers n before ts (before, ts)
no_others_took n before ts = record { front = []; others = []; most = 0; spells = no_others; parts = refl; opens = omega arith; are = sym (append-nil before); bounded = omega arith }

more_others_took : (n : ℕ) (before : List Joined) (ts : List Terminal) (j : Joined × List Terminal) (x : List Joined × List Terminal) → TookOther n ts j → TookOthers n (before ++ j.0 ∷ []) j.1 x → TookOthers n before ts x
more_others_took n before ts j x t l =
    let rest_deep : deepest (map on_depth l.others) ≤ 128 = l.bounded in
    let first_deep : option_depth (condition_of j.0.kind) ≤ 128 = t.bounded in
    let bound : max (option_depth (condition_of j.0.kind)) (deepest (map on_depth l.others)) ≤ 128 = omega arith in
    let all = t.with_others l.front l.others l.most l.spells l.opens in
    record { front = t.front ++ l.front; others = j.0 ∷ l.others; most = all.0; spells = all.1; parts = t.parts ∙ ap (λ (v : List Terminal). t.front ++ v) l.parts ∙ sym (append_assoc t.front l.front x.1); opens = all.2; are = l.are ∙ append_assoc before (j.0 ∷ []) l.others; bounded = bound }

others_turn : (m n : ℕ) (inner : Level → phrase.Reader) → IsInner (suc n) inner → (before : List Joined) (ts : List Terminal) (x : List Joined × List Terminal)
    → ((now : List Joined) (us : List Terminal) → rule.more_others inner m now us ≡ Ok x → TookOthers n now us x)
    → (begins : Bool) → cond begins (rule.put_other inner before ts >>= (λ y. rule.more_others inner m y.0 y.1)) (Ok (before, ts)) ≡ Ok x → TookOthers n before ts x
others_turn m n inner h before ts x again true e =
    let r = bind_ok (rule.put_other inner before ts) (λ (y : List Joined × List Terminal). rule.more_others inner m y.0 y.1) x e in
    let s = bind_ok (rule.other_at inner ts) (λ (j : Joined × List Terminal). Ok (before ++ j.0 ∷ [], j.1)) r.0 r.1 in
    let same : ◌≡◌ {A = List Joined × List Terminal} r.0 (before ++ s.0.0 ∷ [], s.0.1) = sym (cc s.2) in
    let reads : rule.more_others inner m (before ++ s.0.0 ∷ []) s.0.1 ≡ Ok x = subst (λ (y : List Joined × List Terminal). rule.more_others inner m y.0 y.1 ≡ Ok x) same r.2 in
    more_others_took n before ts s.0 x (other_sound n inner h ts s.0 s.1) (again (before ++ s.0.0 ∷ []) s.0.1 reads)
others_turn m n inner h before ts x again false e =
    let same : ◌≡◌ {A = List Joined × List Terminal} (before, ts) x = cc e in
    subst (λ (y : List Joined × List Terminal). TookOthers n before ts y) same (no_others_took n before ts)

others_sound : (m n : ℕ) (inner : Level → phrase.Reader) → IsInner (suc n) inner → (before : List Joined) (ts : List Terminal) (x : List Joined × List Terminal) → rule.more_others inner m before ts ≡ Ok x → TookOthers n before ts x
others_sound zero n inner h before ts x e = absurd cc
others_sound (suc m) n inner h before ts x e = others_turn m n inner h before ts x (λ now us e2. others_sound m n inner h now us x e2) (phrase.begins_other ts) e

-- ---- clauses

pub record TookClause (n : ℕ) (k : Keyword) (ts : List Terminal) (x : Option Expr × List Terminal) : Type 0 where
  pub front : List Terminal
  pub most : ℕ
  pub spells : SpellsClause k front x.0 most
  pub parts : ts ≡ front ++ x.1
  pub opens : most ≤ n
  pub bounded : option_depth x.0 ≤ 128

clause_turn : (n : ℕ) (inner : Level → phrase.Reader) → IsInner (suc n) inner → (k : Keyword) (ts : List Terminal) (x : Option Expr × List Terminal)
    → ((us : List Terminal) × (behind (is_keyword k) ts ≡ Some us) × ((inner level.Disjunction us >>= (λ e. Ok (Some e.0.expr, e.1))) ≡ Ok x)) ⊎ ((behind (is_keyword k) ts ≡ None) × (◌≡◌ {A = Result (Option Expr × List Terminal) Stop} (Ok (None, ts)) (Ok x))) → TookClause n k ts x
clause_turn n inner h k ts x (inl p) =
    let r = bind_ok (inner level.Disjunction p.0) (λ (e : Parsed × List Terminal). Ok (Some e.0.expr, e.1)) x p.2 in
    let t = h level.Disjunction p.0 r.0 r.1 in
    let opened : open_in t.spells + 1 ≤ suc n = t.opens in
    let few : open_in t.spells ≤ n = omega arith in
    let deep : r.0.0.depth ≡ depth r.0.0.expr = t.deep in
    let most : r.0.0.depth ≤ 128 = t.bounded in
    let bound : depth r.0.0.expr ≤ 128 = omega arith in
    let same : ◌≡◌ {A = Option Expr × List Terminal} (Some r.0.0.expr, r.0.1) x = cc r.2 in
    subst (λ (y : Option Expr × List Terminal). TookClause n k ts y) same
    (record { front = word k ∷ t.front; most = open_in t.spells; spells = clause t.spells; parts = word_taken k ts p.0 p.1 ∙ ap (λ (v : List Terminal). word k ∷ v) t.parts; opens = few; bounded = bound })
clause_turn n inner h k ts x (inr p) =
    let same : ◌≡◌ {A = Option Expr × List Terminal} (None, ts) x = cc p.1 in
    subst (λ (y : Option Expr × List Terminal). TookClause n k ts y) same (record { front = []; most = 0; spells = no_clause; parts = refl; opens = omega arith; bounded = omega arith })

pub clause_sound : (n : ℕ) (inner : Level → phrase.Reader) → IsInner (suc n) inner → (k : Keyword) (ts : List Terminal) (x : Option Expr × List Terminal) → rule.clause_at inner k ts ≡ Ok x → TookClause n k ts x
clause_sound n inner h k ts x e = clause_turn n inner h k ts x (choose_ok (behind (is_keyword k) ts) (λ (us : List Terminal). inner level.Disjunction us >>= (λ e. Ok (Some e.0.expr, e.1))) (Ok (None, ts)) x e)

pub record TookGroups (n : ℕ) (ts : List Terminal) (x : List Expr × List Terminal) : Type 0 where
  pub front : List Terminal
  pub most : ℕ
  pub spells : SpellsGroups front x.0 most
  pub parts : ts ≡ front ++ x.1
  pub opens : most ≤ n
  pub bounded : deepest (map depth x.0) ≤ 128

groups_turn : (n : ℕ) (inner : Level → phrase.Reader) → IsInner (suc n) inner → (ts : List Terminal) (x : List Expr × List Terminal)
    → ((us : List Terminal) × (behind (is_keyword keyword.Group) ts ≡ Some us) × (rule.group_keys_at inner [] us ≡ Ok x)) ⊎ ((behind (is_keyword keyword.Group) ts ≡ None) × (◌≡◌ {A = Result (List Expr × List Terminal) Stop} (Ok ([], ts)) (Ok x))) → TookGroups n ts x
groups_turn n inner h ts x (inl p) =
    let b = bind_ok (past (is_keyword keyword.By) p.0) (λ (us : List Terminal). phrase.list_at inner (record { exprs = []; deepest = 0 }) us >>= (λ es. Ok (es.0.exprs, es.1))) x p.2 in
    let r = bind_ok (phrase.list_at inner (record { exprs = []; deepest = 0 }) b.0) (λ (es : phrase.Listed × List Terminal). Ok (es.0.exprs, es.1)) x b.2 in
    let l = list_sound (suc n) inner h (record { exprs = []; deepest = 0 }) b.0 r.0 r.1 in
    let opened : open_in_list l.spells + 1 ≤ suc n = l.opens in
    let few : open_in_list l.spells ≤ n = omega arith in
    let group_word : ts ≡ word keyword.Group ∷ p.0 = word_taken keyword.Group ts p.0 p.1 in
    let by_word : p.0 ≡ word keyword.By ∷ b.0 = word_past keyword.By p.0 b.0 b.1 in
    let listed : l.exprs ≡ r.0.0.exprs = sym l.are in
    let same : ◌≡◌ {A = List Expr × List Terminal} (l.exprs, r.0.1) x = ap (λ (es : List Expr). (es, r.0.1)) listed ∙ cc r.2 in
    subst (λ (y : List Expr × List Terminal). TookGroups n ts y) same
    (record { front = word keyword.Group ∷ word keyword.By ∷ l.front; most = open_in_list l.spells; spells = groups l.spells; parts = group_word ∙ ap (λ (v : List Terminal). word keyword.Group ∷ v) (by_word ∙ ap (λ (v : List Terminal). word keyword.By ∷ v) l.parts); opens = few; bounded = l.bounded })
groups_turn n inner h ts x (inr p) =
    let same : ◌≡◌ {A = List Expr × List Terminal} ([], ts) x = cc p.1 in
    subst (λ (y : List Expr × List Terminal). TookGroups n ts y) same (record { front = []; most = 0; spells = no_groups; parts = refl; opens = omega arith; bounded = omega arith })

pub groups_sound : (n : ℕ) (inner : Level → phrase.Reader) → IsInner (suc n) inner → (ts : List Terminal) (x : List Expr × List Terminal) → rule.groups_at inner ts ≡ Ok x → TookGroups n ts x
groups_sound n inner h ts x e = groups_turn n inner h ts x (choose_ok (behind (is_keyword keyword.Group) ts) (rule.group_keys_at inner []) (Ok ([], ts)) x e)

-- ---- keys

integer_taken : (ts : List Terminal) (x : ℕ × List Terminal) → phrase.integer_at ts ≡ Ok x → (ts ≡ terminal.integer x.0 ∷ x.1) × (x.0 ≤ 9223372036854775807)
integer_taken [] x e = absurd cc
integer_taken (terminal.integer n ∷ ts) x e =
    let p = allowed {A = ℕ × List Terminal} (nat_le n 9223372036854775807) (stop.At (suc (length ts))) (n, ts) x e in
    let small : n ≤ 9223372036854775807 = leb-true n 9223372036854775807 p.0 in
    (ap (λ (y : ℕ × List Terminal). terminal.integer y.0 ∷ y.1) p.1, subst (λ (y : ℕ × List Terminal). y.0 ≤ 9223372036854775807) p.1 small)
integer_taken (t ∷ ts) x e = absurd cc

pub record TookTarget (ts : List Terminal) (x : OrderTarget × List Terminal) : Type 0 where
  pub first : Terminal
  pub spells : SpellsTarget first x.0
  pub parts : ts ≡ first ∷ x.1

target_turn : (ts : List Terminal) (x : OrderTarget × List Terminal) (begins : Bool) → cond begins (phrase.integer_at ts >>= (λ n. Ok (target.Position n.0, n.1))) (phrase.name_at ts >>= (λ n. Ok (target.Name n.0, n.1))) ≡ Ok x → TookTarget ts x
target_turn ts x true e =
    let r = bind_ok (phrase.integer_at ts) (λ (n : ℕ × List Terminal). Ok (target.Position n.0, n.1)) x e in
    let p = integer_taken ts r.0 r.1 in
    let same : ◌≡◌ {A = OrderTarget × List Terminal} (target.Position r.0.0, r.0.1) x = cc r.2 in
    subst (λ (y : OrderTarget × List Terminal). TookTarget ts y) same (record { first = terminal.integer r.0.0; spells = position r.0.0 p.1; parts = p.0 })
target_turn ts x false e =
    let r = bind_ok (phrase.name_at ts) (λ (n : List ℕ × List Terminal). Ok (target.Name n.0, n.1)) x e in
    let m = name_taken ts r.0 r.1 in
    let same : ◌≡◌ {A = OrderTarget × List Terminal} (target.Name (lower m.0), r.0.1) x = ap (λ (w : List ℕ). (target.Name w, r.0.1)) m.2 ∙ cc r.2 in
    subst (λ (y : OrderTarget × List Terminal). TookTarget ts y) same (record { first = terminal.name m.0; spells = name m.0; parts = m.1 })

target_sound : (ts : List Terminal) (x : OrderTarget × List Terminal) → rule.target_at ts ≡ Ok x → TookTarget ts x
target_sound ts x e = target_turn ts x (phrase.begins_integer ts) e

pub record TookDirection (ts : List Terminal) (x : Direction × List Terminal) : Type 0 where
  pub front : List Terminal
  pub spells : SpellsDirection front x.0
  pub parts : ts ≡ front ++ x.1

direction_by : (ts : List Terminal) (desc asc : Option (List Terminal)) → ((us : List Terminal) → desc ≡ Some us → ts ≡ word keyword.Desc ∷ us) → ((us : List Terminal) → asc ≡ Some us → ts ≡ word keyword.Asc ∷ us)
    → TookDirection ts (choose desc (λ us. (direction.Descending, us)) (choose asc (λ us. (direction.Ascending, us)) (direction.Ascending, ts)))
direction_by ts (Some us) asc d a = record { front = word keyword.Desc ∷ []; spells = descending; parts = d us refl }
direction_by ts None (Some us) d a = record { front = word keyword.Asc ∷ []; spells = ascending; parts = a us refl }
direction_by ts None None d a = record { front = []; spells = unsaid; parts = refl }

direction_sound : (ts : List Terminal) → TookDirection ts (rule.direction_at ts)
direction_sound ts = direction_by ts (behind (is_keyword keyword.Desc) ts) (behind (is_keyword keyword.Asc) ts) (λ us e. word_taken keyword.Desc ts us e) (λ us e. word_taken keyword.Asc ts us e)

pub record TookKey (ts : List Terminal) (x : OrderKey × List Terminal) : Type 0 where
  pub to : OrderTarget
  pub toward : Direction
  pub is : x.0 ≡ record { target = to; direction = toward }
  pub first : Terminal
  pub names : SpellsTarget first to
  pub front : List Terminal
  pub directs : SpellsDirection front toward
  pub parts : ts ≡ first ∷ front ++ x.1

pub key_sound : (ts : List Terminal) (x : OrderKey × List Terminal) → rule.key_at ts ≡ Ok x → TookKey ts x
key_sound ts x e =
    let r = bind_ok (rule.target_at ts) (λ (t : OrderTarget × List Terminal). Ok (record { target = t.0; direction = (rule.direction_at t.1).0 }, (rule.direction_at t.1).1)) x e in
    let t = target_sound ts r.0 r.1 in
    let d = direction_sound r.0.1 in
    let same : ◌≡◌ {A = OrderKey × List Terminal} (record { target = r.0.0; direction = (rule.direction_at r.0.1).0 }, (rule.direction_at r.0.1).1) x = cc r.2 in
    subst (λ (y : OrderKey × List Terminal). TookKey ts y) same
    (record { to = r.0.0; toward = (rule.direction_at r.0.1).0; is = refl; first = t.first; names = t.spells; front = d.front; directs = d.spells; parts = t.parts ∙ ap (λ (v : List Terminal). t.first ∷ v) d.parts })

pub record TookKeys (before : List OrderKey) (ts : List Terminal) (x : List OrderKey × List Terminal) : Type 0 where
  pub front : List Terminal
  pub keys : List OrderKey
  pub spells : SpellsKeys front keys
  pub parts : ts ≡ front ++ x.1
  pub are : x.0 ≡ before ++ keys

last_key_took : (before : List OrderKey) (ts : List Terminal) (p : OrderKey × List Terminal) → TookKey ts p → TookKeys before ts (before ++ p.0 ∷ [], p.1)
last_key_took before ts p t =
    record { front = t.first ∷ t.front; keys = record { target = t.to; direction = t.toward } ∷ []; spells = last_key t.names t.directs; parts = t.parts; are = ap (λ (k : OrderKey). before ++ k ∷ []) t.is }

more_keys_took : (before : List OrderKey) (ts us : List Terminal) (p : OrderKey × List Terminal) (x : List OrderKey × List Terminal) → TookKey ts p → p.1 ≡ mark sign.Comma ∷ us → TookKeys (before ++ p.0 ∷ []) us x → TookKeys before ts x
more_keys_took before ts us p x t comma l =
    let tail : t.front ++ p.1 ≡ (t.front ++ mark sign.Comma ∷ l.front) ++ x.1 = ap (λ (v : List Terminal). t.front ++ v) (comma ∙ ap (λ (v : List Terminal). mark sign.Comma ∷ v) l.parts) ∙ sym (append_assoc t.front (mark sign.Comma ∷ l.front) x.1) in
    let lists : x.0 ≡ before ++ record { target = t.to; direction = t.toward } ∷ l.keys = l.are ∙ append_assoc before (p.0 ∷ []) l.keys ∙ ap (λ (k : OrderKey). before ++ k ∷ l.keys) t.is in
    record { front = t.first ∷ t.front ++ mark sign.Comma ∷ l.front; keys = record { target = t.to; direction = t.toward } ∷ l.keys; spells = more_keys t.names t.directs l.spells; parts = t.parts ∙ ap (λ (v : List Terminal). t.first ∷ v) tail; are = lists }

key_turn : (m : ℕ) (before : List OrderKey) (ts : List Terminal) (p : OrderKey × List Terminal) (x : List OrderKey × List Terminal) → TookKey ts p
    → ((us : List Terminal) (q : OrderKey × List Terminal) → TookKey us q → rule.more_keys m ((before ++ p.0 ∷ []) ++ q.0 ∷ []) q.1 ≡ Ok x → TookKeys (before ++ p.0 ∷ []) us x)
    → ((us : List Terminal) × (behind (is_sign sign.Comma) p.1 ≡ Some us) × ((rule.put_key (before ++ p.0 ∷ []) us >>= (λ y. rule.more_keys m y.0 y.1)) ≡ Ok x)) ⊎ ((behind (is_sign sign.Comma) p.1 ≡ None) × (◌≡◌ {A = Result (List OrderKey × List Terminal) Stop} (Ok (before ++ p.0 ∷ [], p.1)) (Ok x)))
    → TookKeys before ts x
key_turn m before ts p x t again (inl q) =
    let r = bind_ok (rule.put_key (before ++ p.0 ∷ []) q.0) (λ (y : List OrderKey × List Terminal). rule.more_keys m y.0 y.1) x q.2 in
    let s = bind_ok (rule.key_at q.0) (λ (y : OrderKey × List Terminal). Ok ((before ++ p.0 ∷ []) ++ y.0 ∷ [], y.1)) r.0 r.1 in
    let same : ◌≡◌ {A = List OrderKey × List Terminal} r.0 ((before ++ p.0 ∷ []) ++ s.0.0 ∷ [], s.0.1) = sym (cc s.2) in
    let reads : rule.more_keys m ((before ++ p.0 ∷ []) ++ s.0.0 ∷ []) s.0.1 ≡ Ok x = subst (λ (y : List OrderKey × List Terminal). rule.more_keys m y.0 y.1 ≡ Ok x) same r.2 in
    more_keys_took before ts q.0 p x t (mark_taken sign.Comma p.1 q.0 q.1) (again q.0 s.0 (key_sound q.0 s.0 s.1) reads)
key_turn m before ts p x t again (inr q) =
    let same : ◌≡◌ {A = List OrderKey × List Terminal} (before ++ p.0 ∷ [], p.1) x = cc q.1 in
    subst (λ (y : List OrderKey × List Terminal). TookKeys before ts y) same (last_key_took before ts p t)

keys_go : (m : ℕ) (before : List OrderKey) (ts : List Terminal) (p : OrderKey × List Terminal) (x : List OrderKey × List Terminal) → TookKey ts p → rule.more_keys m (before ++ p.0 ∷ []) p.1 ≡ Ok x → TookKeys before ts x
keys_go zero before ts p x t e = absurd cc
keys_go (suc m) before ts p x t e =
    key_turn m before ts p x t (λ us q t2 e2. keys_go m (before ++ p.0 ∷ []) us q x t2 e2)
    (choose_ok (behind (is_sign sign.Comma) p.1) (λ (us : List Terminal). rule.put_key (before ++ p.0 ∷ []) us >>= (λ y. rule.more_keys m y.0 y.1)) (Ok (before ++ p.0 ∷ [], p.1)) x e)

keys_sound : (before : List OrderKey) (ts : List Terminal) (x : List OrderKey × List Terminal) → rule.keys_at before ts ≡ Ok x → TookKeys before ts x
keys_sound before ts x e =
    let r = bind_ok (rule.put_key before ts) (λ (y : List OrderKey × List Terminal). rule.more_keys (suc (length y.1)) y.0 y.1) x e in
    let s = bind_ok (rule.key_at ts) (λ (y : OrderKey × List Terminal). Ok (before ++ y.0 ∷ [], y.1)) r.0 r.1 in
    let same : ◌≡◌ {A = List OrderKey × List Terminal} r.0 (before ++ s.0.0 ∷ [], s.0.1) = sym (cc s.2) in
    let reads : rule.more_keys (suc (length s.0.1)) (before ++ s.0.0 ∷ []) s.0.1 ≡ Ok x = subst (λ (y : List OrderKey × List Terminal). rule.more_keys (suc (length y.1)) y.0 y.1 ≡ Ok x) same r.2 in
    keys_go (suc (length s.0.1)) before ts s.0 x (key_sound ts s.0 s.1) reads

pub record TookOrder (ts : List Terminal) (x : List OrderKey × List Terminal) : Type 0 where
  pub front : List Terminal
  pub spells : SpellsOrder front x.0
  pub parts : ts ≡ front ++ x.1

order_turn : (ts : List Terminal) (x : List OrderKey × List Terminal)
    → ((us : List Terminal) × (behind (is_keyword keyword.Order) ts ≡ Some us) × ((past (is_keyword keyword.By) us >>= rule.keys_at []) ≡ Ok x)) ⊎ ((behind (is_keyword keyword.Order) ts ≡ None) × (◌≡◌ {A = Result (List OrderKey × List Terminal) Stop} (Ok ([], ts)) (Ok x))) → TookOrder ts x
order_turn ts x (inl p) =
    let r = bind_ok (past (is_keyword keyword.By) p.0) (rule.keys_at []) x p.2 in
    let l = keys_sound [] r.0 x r.2 in
    let order_word : ts ≡ word keyword.Order ∷ p.0 = word_taken keyword.Order ts p.0 p.1 in
    let by_word : p.0 ≡ word keyword.By ∷ r.0 = word_past keyword.By p.0 r.0 r.1 in
    let same : l.keys ≡ x.0 = sym l.are in
    record { front = word keyword.Order ∷ word keyword.By ∷ l.front; spells = subst (λ (ks : List OrderKey). SpellsOrder (word keyword.Order ∷ word keyword.By ∷ l.front) ks) same (order l.spells); parts = order_word ∙ ap (λ (v : List Terminal). word keyword.Order ∷ v) (by_word ∙ ap (λ (v : List Terminal). word keyword.By ∷ v) l.parts) }
order_turn ts x (inr p) =
    let same : ◌≡◌ {A = List OrderKey × List Terminal} ([], ts) x = cc p.1 in
    subst (λ (y : List OrderKey × List Terminal). TookOrder ts y) same (record { front = []; spells = no_order; parts = refl })

pub order_sound : (ts : List Terminal) (x : List OrderKey × List Terminal) → rule.order_at ts ≡ Ok x → TookOrder ts x
order_sound ts x e = order_turn ts x (choose_ok (behind (is_keyword keyword.Order) ts) (λ (us : List Terminal). past (is_keyword keyword.By) us >>= rule.keys_at []) (Ok ([], ts)) x e)

-- ---- LIMIT and the end

pub record TookLimit (ts : List Terminal) (x : Option ℕ × List Terminal) : Type 0 where
  pub front : List Terminal
  pub spells : SpellsLimit front x.0
  pub parts : ts ≡ front ++ x.1

limit_turn : (ts : List Terminal) (x : Option ℕ × List Terminal)
    → ((us : List Terminal) × (behind (is_keyword keyword.Limit) ts ≡ Some us) × ((phrase.integer_at us >>= (λ n. Ok (Some n.0, n.1))) ≡ Ok x)) ⊎ ((behind (is_keyword keyword.Limit) ts ≡ None) × (◌≡◌ {A = Result (Option ℕ × List Terminal) Stop} (Ok (None, ts)) (Ok x))) → TookLimit ts x
limit_turn ts x (inl p) =
    let r = bind_ok (phrase.integer_at p.0) (λ (n : ℕ × List Terminal). Ok (Some n.0, n.1)) x p.2 in
    let k = integer_taken p.0 r.0 r.1 in
    let same : ◌≡◌ {A = Option ℕ × List Terminal} (Some r.0.0, r.0.1) x = cc r.2 in
    subst (λ (y : Option ℕ × List Terminal). TookLimit ts y) same
    (record { front = word keyword.Limit ∷ terminal.integer r.0.0 ∷ []; spells = limit r.0.0 k.1; parts = word_taken keyword.Limit ts p.0 p.1 ∙ ap (λ (v : List Terminal). word keyword.Limit ∷ v) k.0 })
limit_turn ts x (inr p) =
    let same : ◌≡◌ {A = Option ℕ × List Terminal} (None, ts) x = cc p.1 in
    subst (λ (y : Option ℕ × List Terminal). TookLimit ts y) same (record { front = []; spells = no_limit; parts = refl })

pub limit_sound : (ts : List Terminal) (x : Option ℕ × List Terminal) → rule.limit_at ts ≡ Ok x → TookLimit ts x
limit_sound ts x e = limit_turn ts x (choose_ok (behind (is_keyword keyword.Limit) ts) (λ (us : List Terminal). phrase.integer_at us >>= (λ n. Ok (Some n.0, n.1))) (Ok (None, ts)) x e)

ended_is : (ts : List Terminal) (u : Unit {0}) → rule.ended ts ≡ Ok u → ts ≡ []
ended_is [] u e = refl
ended_is (t ∷ ts) u e = absurd cc

ending_turn : (ts : List Terminal) (u : Unit {0}) → ((us : List Terminal) × (behind (is_sign sign.Semicolon) ts ≡ Some us) × (rule.ended us ≡ Ok u)) ⊎ ((behind (is_sign sign.Semicolon) ts ≡ None) × (rule.ended ts ≡ Ok u)) → SpellsEnd ts
ending_turn ts u (inl p) =
    let all : ts ≡ mark sign.Semicolon ∷ [] = mark_taken sign.Semicolon ts p.0 p.1 ∙ ap (λ (v : List Terminal). mark sign.Semicolon ∷ v) (ended_is p.0 u p.2) in
    subst (λ (v : List Terminal). SpellsEnd v) (sym all) semicolon
ending_turn ts u (inr p) = subst (λ (v : List Terminal). SpellsEnd v) (sym (ended_is ts u p.1)) no_end

ending_sound : (ts : List Terminal) (u : Unit {0}) → rule.ending_at ts ≡ Ok u → SpellsEnd ts
ending_sound ts u e = ending_turn ts u (choose_ok (behind (is_sign sign.Semicolon) ts) rule.ended (rule.ended ts) u e)

-- ---- the query from its parts

pub record TookTail (ts : List Terminal) (x : rule.Tail) : Type 0 where
  pub order_tokens : List Terminal
  pub order : SpellsOrder order_tokens x.0
  pub limit_tokens : List Terminal
  pub limit : SpellsLimit limit_tokens x.1
  pub end_tokens : List Terminal
  pub ends : SpellsEnd end_tokens
  pub parts : ts ≡ order_tokens ++ (limit_tokens ++ end_tokens)

tail_sound : (ts : List Terminal) (x : rule.Tail) → rule.tail_at ts ≡ Ok x → TookTail ts x
tail_sound ts x e =
    let r = bind_ok (rule.order_at ts) (λ (o : List OrderKey × List Terminal). rule.ended_limit_at o.1 >>= (λ l. Ok (o.0, l))) x e in
    let s = bind_ok (rule.ended_limit_at r.0.1) (λ (l : Option ℕ). Ok (r.0.0, l)) x r.2 in
    let l = bind_ok (rule.limit_at r.0.1) (λ (l : Option ℕ × List Terminal). rule.ending_at l.1 >>= (λ _. Ok l.0)) s.0 s.1 in
    let u = bind_ok (rule.ending_at l.0.1) (λ (u : Unit {0}). Ok l.0.0) s.0 l.2 in
    let o = order_sound ts r.0 r.1 in
    let k = limit_sound r.0.1 l.0 l.1 in
    let limit_is : l.0.0 ≡ s.0 = cc u.2 in
    let same : ◌≡◌ {A = rule.Tail} (r.0.0, l.0.0) x = ap (λ (v : Option ℕ). (r.0.0, v)) limit_is ∙ cc s.2 in
    subst (λ (y : rule.Tail). TookTail ts y) same
    (record { order_tokens = o.front; order = o.spells; limit_tokens = k.front; limit = k.spells; end_tokens = l.0.1; ends = ending_sound l.0.1 u.0 u.1; parts = o.parts ∙ ap (λ (v : List Terminal). o.front ++ v) k.parts })

-- a clause, and all behind it
pub record TookWith (n : ℕ) (k : Keyword) (Rest : Type 0) (Behind : List Terminal → Rest → Type 0) (ts : List Terminal) (x : Option Expr × Rest) : Type 0 where
  pub front : List Terminal
  pub most : ℕ
  pub spells : SpellsClause k front x.0 most
  pub opens : most ≤ n
  pub bounded : option_depth x.0 ≤ 128
  pub left : List Terminal
  pub others : Behind left x.1
  pub parts : ts ≡ front ++ left

with_sound : (n : ℕ) (inner : Level → phrase.Reader) → IsInner (suc n) inner → (k : Keyword) (Rest : Type 0) (Behind : List Terminal → Rest → Type 0) (read : List Terminal → Result Rest Stop) → ((us : List Terminal) (y : Rest) → read us ≡ Ok y → Behind us y)
    → (ts : List Terminal) (x : Option Expr × Rest) → (rule.clause_at inner k ts >>= (λ h. read h.1 >>= (λ t. Ok (h.0, t)))) ≡ Ok x → TookWith n k Rest Behind ts x
with_sound n inner h k Rest Behind read sound ts x e =
    let r = bind_ok (rule.clause_at inner k ts) (λ (h : Option Expr × List Terminal). read h.1 >>= (λ t. Ok (h.0, t))) x e in
    let s = bind_ok (read r.0.1) (λ (t : Rest). Ok (r.0.0, t)) x r.2 in
    let c = clause_sound n inner h k ts r.0 r.1 in
    let same : ◌≡◌ {A = Option Expr × Rest} (r.0.0, s.0) x = cc s.2 in
    subst (λ (y : Option Expr × Rest). TookWith n k Rest Behind ts y) same
    (record { front = c.front; most = c.most; spells = c.spells; opens = c.opens; bounded = c.bounded; left = r.0.1; others = sound r.0.1 s.0 s.1; parts = c.parts })

abbrev TookHaving : ℕ → List Terminal → Option Expr × rule.Tail → Type 0
TookHaving n = TookWith n keyword.Having rule.Tail TookTail

having_sound : (n : ℕ) (inner : Level → phrase.Reader) → IsInner (suc n) inner → (ts : List Terminal) (x : Option Expr × rule.Tail) → rule.having_at inner ts ≡ Ok x → TookHaving n ts x
having_sound n inner h ts x e = with_sound n inner h keyword.Having rule.Tail TookTail rule.tail_at tail_sound ts x e

pub record TookGrouping (n : ℕ) (ts : List Terminal) (x : List Expr × (Option Expr × rule.Tail)) : Type 0 where
  pub front : List Terminal
  pub most : ℕ
  pub spells : SpellsGroups front x.0 most
  pub opens : most ≤ n
  pub bounded : deepest (map depth x.0) ≤ 128
  pub left : List Terminal
  pub having : TookHaving n left x.1
  pub parts : ts ≡ front ++ left

grouping_sound : (n : ℕ) (inner : Level → phrase.Reader) → IsInner (suc n) inner → (ts : List Terminal) (x : List Expr × (Option Expr × rule.Tail)) → rule.grouping_at inner ts ≡ Ok x → TookGrouping n ts x
grouping_sound n inner h ts x e =
    let r = bind_ok (rule.groups_at inner ts) (λ (g : List Expr × List Terminal). rule.having_at inner g.1 >>= (λ h. Ok (g.0, h))) x e in
    let s = bind_ok (rule.having_at inner r.0.1) (λ (h : Option Expr × rule.Tail). Ok (r.0.0, h)) x r.2 in
    let g = groups_sound n inner h ts r.0 r.1 in
    let same : ◌≡◌ {A = List Expr × (Option Expr × rule.Tail)} (r.0.0, s.0) x = cc s.2 in
    subst (λ (y : List Expr × (Option Expr × rule.Tail)). TookGrouping n ts y) same
    (record { front = g.front; most = g.most; spells = g.spells; opens = g.opens; bounded = g.bounded; left = r.0.1; having = having_sound n inner h r.0.1 s.0 s.1; parts = g.parts })

-- what stands behind the tables
abbrev pub Conditions : Type 0
Conditions = Option Expr × (List Expr × (Option Expr × rule.Tail))

abbrev TookConditions : ℕ → List Terminal → Conditions → Type 0
TookConditions n = TookWith n keyword.Where (List Expr × (Option Expr × rule.Tail)) (TookGrouping n)

conditions_sound : (n : ℕ) (inner : Level → phrase.Reader) → IsInner (suc n) inner → (ts : List Terminal) (x : Conditions) → rule.conditions_at inner ts ≡ Ok x → TookConditions n ts x
conditions_sound n inner h ts x e = with_sound n inner h keyword.Where (List Expr × (Option Expr × rule.Tail)) (TookGrouping n) (rule.grouping_at inner) (grouping_sound n inner h) ts x e

pub record TookSource (n : ℕ) (ts : List Terminal) (x : Source × List Terminal) : Type 0 where
  pub first_front : List Terminal
  pub first : SpellsTable first_front x.0.first
  pub front : List Terminal
  pub most : ℕ
  pub spells : SpellsOthers front x.0.others most
  pub opens : most ≤ n
  pub bounded : deepest (map on_depth x.0.others) ≤ 128
  pub parts : ts ≡ word keyword.From ∷ first_front ++ (front ++ x.1)

pub source_sound : (n : ℕ) (inner : Level → phrase.Reader) → IsInner (suc n) inner → (ts : List Terminal) (x : Source × List Terminal) → rule.source_at inner ts ≡ Ok x → TookSource n ts x
source_sound n inner h ts x e =
    let f = bind_ok (past (is_keyword keyword.From) ts) (λ (us : List Terminal). rule.tables_at inner [] us >>= (λ x. Ok (record { first = x.0.0; others = x.0.1 }, x.1))) x e in
    let r = bind_ok (rule.tables_at inner [] f.0) (λ (x : (Table × List Joined) × List Terminal). Ok (record { first = x.0.0; others = x.0.1 }, x.1)) x f.2 in
    let t = bind_ok (rule.table_at f.0) (λ (t : Table × List Terminal). rule.more_others inner (suc (length t.1)) [] t.1 >>= (λ o. Ok ((t.0, o.0), o.1))) r.0 r.1 in
    let o = bind_ok (rule.more_others inner (suc (length t.0.1)) [] t.0.1) (λ (o : List Joined × List Terminal). Ok ((t.0.0, o.0), o.1)) r.0 t.2 in
    let a = table_sound f.0 t.0 t.1 in
    let b = others_sound (suc (length t.0.1)) n inner h [] t.0.1 o.0 o.1 in
    let from_word : ts ≡ word keyword.From ∷ f.0 = word_past keyword.From ts f.0 f.1 in
    let listed : b.others ≡ o.0.0 = sym b.are in
    let tables : ◌≡◌ {A = (Table × List Joined) × List Terminal} ((t.0.0, b.others), o.0.1) r.0 = ap (λ (js : List Joined). ((t.0.0, js), o.0.1)) listed ∙ cc o.2 in
    let same : ◌≡◌ {A = Source × List Terminal} (record { first = t.0.0; others = b.others }, o.0.1) x = ap (λ (y : (Table × List Joined) × List Terminal). (record { first = y.0.0; others = y.0.1 }, y.1)) tables ∙ cc r.2 in
    subst (λ (y : Source × List Terminal). TookSource n ts y) same
    (record { first_front = a.front; first = a.spells; front = b.front; most = b.most; spells = b.spells; opens = b.opens; bounded = b.bounded; parts = from_word ∙ ap (λ (v : List Terminal). word keyword.From ∷ v) (a.parts ∙ ap (λ (v : List Terminal). a.front ++ v) b.parts) })

pub record TookFrom (n : ℕ) (ts : List Terminal) (x : Source × Conditions) : Type 0 where
  pub left : List Terminal
  pub source : TookSource n ts (x.0, left)
  pub conditions : TookConditions n left x.1

from_sound : (n : ℕ) (inner : Level → phrase.Reader) → IsInner (suc n) inner → (ts : List Terminal) (x : Source × Conditions) → rule.from_at inner ts ≡ Ok x → TookFrom n ts x
from_sound n inner h ts x e =
    let r = bind_ok (rule.source_at inner ts) (λ (s : Source × List Terminal). rule.conditions_at inner s.1 >>= (λ c. Ok (s.0, c))) x e in
    let s = bind_ok (rule.conditions_at inner r.0.1) (λ (c : Conditions). Ok (r.0.0, c)) x r.2 in
    let same : ◌≡◌ {A = Source × Conditions} (r.0.0, s.0) x = cc s.2 in
    subst (λ (y : Source × Conditions). TookFrom n ts y) same (record { left = r.0.1; source = source_sound n inner h ts r.0 r.1; conditions = conditions_sound n inner h r.0.1 s.0 s.1 })

-- a query, with no more open and nothing deeper than allowed
pub record TookQuery (n : ℕ) (ts : List Terminal) (q : Query) : Type 0 where
  pub spells : SpellsQuery ts q
  pub opens : open_in_query spells ≤ n
  pub bounded : query_depth q ≤ 128

query_took : (n : ℕ) (ts us : List Terminal) (distinct : Bool) (i : List Item × List Terminal) (from : Source × Conditions) → ts ≡ word keyword.Select ∷ distinct_if distinct ++ us → TookItems n [] us i → TookFrom n i.1 from
    → TookQuery n ts (rule.query_of_parts distinct i.0 from)
query_took n ts us distinct i from select t f =
    let c = f.conditions in
    let g = c.others in
    let v = g.having in
    let tail = v.others in
    let s = f.source in
    let items_deep : deepest (map (λ (item : Item). depth item.expr) t.items) ≤ 128 = t.bounded in
    let same_items : t.items ≡ i.0 = sym t.are in
    let items_bound : deepest (map (λ (item : Item). depth item.expr) i.0) ≤ 128 = subst (λ (is : List Item). deepest (map (λ (item : Item). depth item.expr) is) ≤ 128) same_items items_deep in
    let items_open : t.most ≤ n = t.opens in
    let others_open : s.most ≤ n = s.opens in
    let filter_open : c.most ≤ n = c.opens in
    let groups_open : g.most ≤ n = g.opens in
    let having_open : v.most ≤ n = v.opens in
    let others_deep : deepest (map on_depth from.0.others) ≤ 128 = s.bounded in
    let filter_deep : option_depth from.1.0 ≤ 128 = c.bounded in
    let groups_deep : deepest (map depth from.1.1.0) ≤ 128 = g.bounded in
    let having_deep : option_depth from.1.1.1.0 ≤ 128 = v.bounded in
    let few : max t.most (max s.most (max c.most (max g.most (max v.most 0)))) ≤ n = omega arith in
    let deep : max (option_depth from.1.0) (max (option_depth from.1.1.1.0) (max (deepest (map (λ (item : Item). depth item.expr) i.0)) (max (deepest (map on_depth from.0.others)) (max (deepest (map depth from.1.1.0)) 0)))) ≤ 128 = omega arith in
    let at_having : v.left ≡ tail.order_tokens ++ (tail.limit_tokens ++ tail.end_tokens) = tail.parts in
    let at_groups : g.left ≡ v.front ++ (tail.order_tokens ++ (tail.limit_tokens ++ tail.end_tokens)) = v.parts ∙ ap (λ (w : List Terminal). v.front ++ w) at_having in
    let at_filter : c.left ≡ g.front ++ (v.front ++ (tail.order_tokens ++ (tail.limit_tokens ++ tail.end_tokens))) = g.parts ∙ ap (λ (w : List Terminal). g.front ++ w) at_groups in
    let at_source : f.left ≡ c.front ++ (g.front ++ (v.front ++ (tail.order_tokens ++ (tail.limit_tokens ++ tail.end_tokens)))) = c.parts ∙ ap (λ (w : List Terminal). c.front ++ w) at_filter in
    let at_items : i.1 ≡ word keyword.From ∷ s.first_front ++ (s.front ++ (c.front ++ (g.front ++ (v.front ++ (tail.order_tokens ++ (tail.limit_tokens ++ tail.end_tokens)))))) = s.parts ∙ ap (λ (w : List Terminal). word keyword.From ∷ s.first_front ++ (s.front ++ w)) at_source in
    let all : ts ≡ word keyword.Select ∷ distinct_if distinct ++ (t.front ++ (word keyword.From ∷ s.first_front ++ (s.front ++ (c.front ++ (g.front ++ (v.front ++ (tail.order_tokens ++ (tail.limit_tokens ++ tail.end_tokens)))))))) = select ∙ ap (λ (w : List Terminal). word keyword.Select ∷ distinct_if distinct ++ w) (t.parts ∙ ap (λ (w : List Terminal). t.front ++ w) at_items) in
    record {
      spells = record {
        items_tokens = t.front;
        items_open = t.most;
        items = subst (λ (is : List Item). SpellsItems t.front is t.most) same_items t.spells;
        first_tokens = s.first_front;
        first = s.first;
        others_tokens = s.front;
        others_open = s.most;
        others = s.spells;
        filter_tokens = c.front;
        filter_open = c.most;
        filter = c.spells;
        groups_tokens = g.front;
        groups_open = g.most;
        groups = g.spells;
        having_tokens = v.front;
        having_open = v.most;
        having = v.spells;
        order_tokens = tail.order_tokens;
        order = tail.order;
        limit_tokens = tail.limit_tokens;
        limit = tail.limit;
        end_tokens = tail.end_tokens;
        ends = tail.ends;
        tokens = all;
      };
      opens = few;
      bounded = deep;
    }

-- DISTINCT, where it was taken
distinct_by : (ts : List Terminal) (o : Option (List Terminal)) → ((us : List Terminal) → o ≡ Some us → ts ≡ word keyword.Distinct ∷ us)
    → ts ≡ distinct_if (choose {B = Bool × List Terminal} o (λ us. (true, us)) (false, ts)).0 ++ (choose {B = Bool × List Terminal} o (λ us. (true, us)) (false, ts)).1
distinct_by ts (Some us) taken = taken us refl
distinct_by ts None taken = refl

pub distinct_sound : (ts : List Terminal) → ts ≡ distinct_if (rule.distinct_at ts).0 ++ (rule.distinct_at ts).1
distinct_sound ts = distinct_by ts (behind (is_keyword keyword.Distinct) ts) (λ us e. word_taken keyword.Distinct ts us e)

parts_sound : (n : ℕ) (inner : Level → phrase.Reader) → IsInner (suc n) inner → (ts : List Terminal) (q : Query) → rule.query_at inner ts ≡ Ok q → TookQuery n ts q
parts_sound n inner h ts q e =
    let a = bind_ok (past (is_keyword keyword.Select) ts) (λ (us : List Terminal). rule.query_behind inner (rule.distinct_at us)) q e in
    let distinct : Bool = (rule.distinct_at a.0).0 in
    let rest : List Terminal = (rule.distinct_at a.0).1 in
    let b = bind_ok (rule.selected_at inner [] rest) (λ (x : List Item × (Source × Conditions)). Ok (rule.query_of_parts distinct x.0 x.1)) q a.2 in
    let c = bind_ok (rule.items_at inner [] rest) (λ (i : List Item × List Terminal). rule.from_at inner i.1 >>= (λ f. Ok (i.0, f))) b.0 b.1 in
    let d = bind_ok (rule.from_at inner c.0.1) (λ (f : Source × Conditions). Ok (c.0.0, f)) b.0 c.2 in
    let found : ◌≡◌ {A = List Item × (Source × Conditions)} (c.0.0, d.0) b.0 = cc d.2 in
    let same : rule.query_of_parts distinct c.0.0 d.0 ≡ q = ap (λ (x : List Item × (Source × Conditions)). rule.query_of_parts distinct x.0 x.1) found ∙ cc b.2 in
    let select : ts ≡ word keyword.Select ∷ distinct_if distinct ++ rest = word_past keyword.Select ts a.0 a.1 ∙ ap (λ (w : List Terminal). word keyword.Select ∷ w) (distinct_sound a.0) in
    subst (λ (y : Query). TookQuery n ts y) same (query_took n ts rest distinct c.0 d.0 select (items_sound n inner h [] rest c.0 c.1) (from_sound n inner h c.0.1 d.0 d.1))

-- what is read as a query is spelled by the tokens, within the limits
pub query_sound : (ts : List Terminal) (q : Query) → rule.query_at rule.within ts ≡ Ok q → TookQuery 256 ts q
query_sound ts q e = parts_sound 256 (inner_at 128 257) (inner_sound 257) ts q e
