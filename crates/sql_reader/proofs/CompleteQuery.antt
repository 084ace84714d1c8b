-- A query that is spelled is read.
use Rattle.std.proofs.Common.{◌≡◌, ℕ, zero, suc, ◌+◌, ◌<◌, ◌≤◌, Bool, true, false, cond, List, [], ◌∷◌, ◌++◌, length, map, Option, Some, None, Result, Ok, refl, sym, ap, ◌∙◌, subst, arith, append_assoc, length-append}
use Rattle.std.specs.Prelude.{max}
use Rattle.std.proofs.lemmas.Bool.{le-leb}
use Rattle.std.proofs.lemmas.List.{append-nil}
use Rattle.meaning.specs.declared.plan.JoinType.{JoinType}
use Rattle.sql_syntax.specs.declared.keyword.Keyword.{Keyword}
use Rattle.sql_syntax.specs.declared.keyword.Keyword.TheVariants as keyword
use Rattle.sql_syntax.specs.declared.token.Sign.{Sign}
use Rattle.sql_syntax.specs.declared.token.Sign.TheVariants as sign
use Rattle.sql_syntax.specs.Joins.{condition_of, kind_of}
use Rattle.sql_syntax.specs.declared.tree.JoinKind.TheVariants as join_kind
use Rattle.sql_syntax.specs.declared.tree.Direction.{Direction}
use Rattle.sql_syntax.specs.declared.tree.OrderTarget.{OrderTarget}
use Rattle.sql_syntax.specs.declared.tree.OrderKey.{OrderKey}
use Rattle.sql_syntax.specs.declared.tree.Expr.{Expr}
use Rattle.sql_syntax.specs.declared.tree.Item.{Item}
use Rattle.sql_syntax.specs.declared.tree.Table.{Table}
use Rattle.sql_syntax.specs.declared.tree.Joined.{Joined}
use Rattle.sql_syntax.specs.declared.tree.Source.{Source}
use Rattle.sql_syntax.specs.declared.tree.Query.{Query}
use Rattle.sql_syntax.specs.Tokens as terminal
use Rattle.sql_syntax.specs.Tokens.{Terminal}
use Rattle.sql_syntax.specs.declared.strength.Level.TheVariants as level
use Rattle.sql_syntax.specs.Phrases.{word, mark, distinct_if, Spells, open_in}
use Rattle.sql_syntax.specs.CanonicalTokens.{depth, deepest}
use Rattle.sql_syntax.specs.Queries.{SpellsAlias, none, bare, behind_as, SpellsTable, table, SpellsTarget, position, name, SpellsDirection, unsaid, ascending, descending, SpellsItems, last_item, more_items, SpellsJoin, join, inner_join, left_join, left_outer_join, SpellsOthers, no_others, behind_comma, behind_join, SpellsClause, no_clause, clause, SpellsGroups, no_groups, groups, SpellsKeys, last_key, more_keys, SpellsOrder, no_order, order, SpellsLimit, no_limit, limit, SpellsEnd, no_end, semicolon, SpellsQuery, open_in_query, option_depth, query_depth}
use Rattle.sql_reader.specs.Rules as rule
use Rattle.sql_expressions.specs.declared.stop.Stop.{Stop}
use Rattle.sql_expressions.specs.Rules as phrase
use Rattle.sql_expressions.specs.Rules.{◌>>=◌, is_keyword, is_sign, behind, inner_at}
use Rattle.sql_expressions.proofs.Ahead.{reach, reach_of, not_keyword, not_sign}
use Rattle.sql_expressions.proofs.Complete.{opens, begins, whole, freely, complete, complete_list, list_reads, none_listed}
use Rattle.sql_reader.proofs.Tables.{condition_is}

-- ---- what may stand behind a part of a query

-- how far on in a query a token stands; 0 for one that begins none of its parts
abbrev pub stage : Terminal → ℕ
stage (terminal.keyword keyword.From) = 8
stage (terminal.keyword keyword.On) = 9
stage (terminal.keyword keyword.Inner) = 1
stage (terminal.keyword keyword.Join) = 1
stage (terminal.keyword keyword.Left) = 1
stage (terminal.keyword keyword.Where) = 2
stage (terminal.keyword keyword.Group) = 3
stage (terminal.keyword keyword.Having) = 4
stage (terminal.keyword keyword.Order) = 5
stage (terminal.keyword keyword.Limit) = 6
stage (terminal.sign_is sign.Comma) = 1
stage (terminal.sign_is sign.Semicolon) = 7
stage _ = 0

abbrev pub stage_of : List Terminal → ℕ
stage_of [] = 10
stage_of (t ∷ ts) = stage t

no_word : (k : Keyword) (rest : List Terminal) → stage (word k) < stage_of rest → behind (is_keyword k) rest ≡ None
no_word k [] h = refl
no_word k (t ∷ ts) h = ap (λ b. cond b (Some ts) None) (not_keyword k t (λ e. let same : stage t ≡ stage (word k) = ap stage e in omega arith))

no_mark : (s : Sign) (rest : List Terminal) → stage (mark s) < stage_of rest → behind (is_sign s) rest ≡ None
no_mark s [] h = refl
no_mark s (t ∷ ts) h = ap (λ b. cond b (Some ts) None) (not_sign s t (λ e. let same : stage t ≡ stage (mark s) = ap stage e in omega arith))

keyword_reach : (k : Keyword) → 1 ≤ stage (word k) → reach (word k) ≤ 0
keyword_reach keyword.And h = omega arith
keyword_reach keyword.As h = omega arith
keyword_reach keyword.Asc h = omega arith
keyword_reach keyword.Avg h = omega arith
keyword_reach keyword.Between h = omega arith
keyword_reach keyword.By h = omega arith
keyword_reach keyword.Case h = omega arith
keyword_reach keyword.Coalesce h = omega arith
keyword_reach keyword.Count h = omega arith
keyword_reach keyword.Desc h = omega arith
keyword_reach keyword.Distinct h = omega arith
keyword_reach keyword.Else h = omega arith
keyword_reach keyword.End h = omega arith
keyword_reach keyword.From h = omega arith
keyword_reach keyword.Group h = omega arith
keyword_reach keyword.Having h = omega arith
keyword_reach keyword.In h = omega arith
keyword_reach keyword.Inner h = omega arith
keyword_reach keyword.Is h = omega arith
keyword_reach keyword.Join h = omega arith
keyword_reach keyword.Left h = omega arith
keyword_reach keyword.Like h = omega arith
keyword_reach keyword.Limit h = omega arith
keyword_reach keyword.Max h = omega arith
keyword_reach keyword.Min h = omega arith
keyword_reach keyword.Not h = omega arith
keyword_reach keyword.Null h = omega arith
keyword_reach keyword.On h = omega arith
keyword_reach keyword.Or h = omega arith
keyword_reach keyword.Order h = omega arith
keyword_reach keyword.Outer h = omega arith
keyword_reach keyword.Select h = omega arith
keyword_reach keyword.Sum h = omega arith
keyword_reach keyword.Then h = omega arith
keyword_reach keyword.When h = omega arith
keyword_reach keyword.Where h = omega arith

sign_reach : (s : Sign) → 1 ≤ stage (mark s) → reach (mark s) ≤ 0
sign_reach sign.Open h = omega arith
sign_reach sign.Close h = omega arith
sign_reach sign.Comma h = omega arith
sign_reach sign.Dot h = omega arith
sign_reach sign.Semicolon h = omega arith
sign_reach sign.Plus h = omega arith
sign_reach sign.Minus h = omega arith
sign_reach sign.Star h = omega arith
sign_reach sign.Slash h = omega arith
sign_reach sign.Equal h = omega arith
sign_reach sign.NotEqual h = omega arith
sign_reach sign.Less h = omega arith
sign_reach sign.AtMost h = omega arith
sign_reach sign.Greater h = omega arith
sign_reach sign.AtLeast h = omega arith

stage_reach : (rest : List Terminal) → 1 ≤ stage_of rest → reach_of rest ≤ 0
stage_reach [] h = omega arith
stage_reach (terminal.keyword k ∷ ts) h = keyword_reach k h
stage_reach (terminal.name n ∷ ts) h = omega arith
stage_reach (terminal.integer n ∷ ts) h = omega arith
stage_reach (terminal.text n ∷ ts) h = omega arith
stage_reach (terminal.sign_is s ∷ ts) h = sign_reach s h
stage_reach (terminal.left_out n ∷ ts) h = omega arith
stage_reach (terminal.out_of_range ∷ ts) h = omega arith
stage_reach (terminal.not_closed ∷ ts) h = omega arith
stage_reach (terminal.unknown ∷ ts) h = omega arith

no_name : (rest : List Terminal) → 1 ≤ stage_of rest → phrase.begins_name rest ≡ false
no_name [] h = refl
no_name (terminal.keyword k ∷ ts) h = refl
no_name (terminal.name n ∷ ts) h = absurd (omega arith)
no_name (terminal.integer n ∷ ts) h = refl
no_name (terminal.text n ∷ ts) h = refl
no_name (terminal.sign_is s ∷ ts) h = refl
no_name (terminal.left_out n ∷ ts) h = refl
no_name (terminal.out_of_range ∷ ts) h = refl
no_name (terminal.not_closed ∷ ts) h = refl
no_name (terminal.unknown ∷ ts) h = refl

not_that : (k : Keyword) (t : Terminal) → stage (word k) < stage t → is_keyword k t ≡ false
not_that k t h = not_keyword k t (λ e. let same : stage t ≡ stage (word k) = ap stage e in omega arith)

no_other : (rest : List Terminal) → 2 ≤ stage_of rest → phrase.begins_other rest ≡ false
no_other [] h = refl
no_other (t ∷ ts) h =
    let comma : is_sign sign.Comma t ≡ false = not_sign sign.Comma t (λ e. let same : stage t ≡ 1 = ap stage e in omega arith) in
    rw (comma, not_that keyword.Inner t (omega arith), not_that keyword.Join t (omega arith), not_that keyword.Left t (omega arith)) refl

-- ---- an expression, a name, a table

free : {ts : List Terminal} {e : Expr} (d : Spells level.Disjunction ts e) (most n : ℕ) (rest : List Terminal) → suc (open_in d) ≤ n → depth e ≤ most → reach_of rest ≤ 0 → inner_at most n level.Disjunction (ts ++ rest) ≡ Ok (whole e, rest)
free {ts} {e} d most n rest o h r = freely most n ts e rest (open_in d) o r (λ m j s. complete d most m rest j h s)

alias_reads : {ts : List Terminal} {alias : Option (List ℕ)} (a : SpellsAlias ts alias) (rest : List Terminal) → 1 ≤ stage_of rest → rule.alias_at (ts ++ rest) ≡ Ok (alias, rest)
alias_reads none rest h = rw (no_word keyword.As rest h, no_name rest h) refl
alias_reads (bare n) rest h = refl
alias_reads (behind_as n) rest h = refl

alias_reach : {ts : List Terminal} {alias : Option (List ℕ)} (a : SpellsAlias ts alias) (rest : List Terminal) → 1 ≤ stage_of rest → reach_of (ts ++ rest) ≤ 0
alias_reach none rest h = stage_reach rest h
alias_reach (bare n) rest h = omega arith
alias_reach (behind_as n) rest h = omega arith

table_reads : {ts : List Terminal} {t : Table} (d : SpellsTable ts t) (rest : List Terminal) → 1 ≤ stage_of rest → rule.table_at (ts ++ rest) ≡ Ok (t, rest)
table_reads (table n a) rest h = rw (alias_reads a rest h) refl

-- ---- items

item_reads : {ts us : List Terminal} {e : Expr} {alias : Option (List ℕ)} (d : Spells level.Disjunction ts e) (a : SpellsAlias us alias) (most n : ℕ) (rest : List Terminal) → suc (open_in d) ≤ n → depth e ≤ most → 1 ≤ stage_of rest
    → rule.item_at (inner_at most n) ((ts ++ us) ++ rest) ≡ Ok (record { expr = e; alias = alias }, rest)
item_reads {ts} {us} d a most n rest o h s =
    ap (rule.item_at (inner_at most n)) (append_assoc ts us rest) ∙ (rw (free d most n (us ++ rest) o h (alias_reach a rest s), alias_reads a rest s) refl)

-- the first item is read, and then the others, and all are kept
record Itemed (most n : ℕ) (ts : List Terminal) (items before : List Item) (rest : List Terminal) : Type 0 where
  pub first : List Item
  pub others : List Terminal
  pub put : rule.put_item (inner_at most n) before (ts ++ rest) ≡ Ok (first, others)
  pub fewer : length others ≤ length (ts ++ rest)
  pub more_read : (m : ℕ) → length others < m → rule.more_items (inner_at most n) m first others ≡ Ok (before ++ items, rest)

items_end : (m most n : ℕ) (before : List Item) (rest : List Terminal) → 0 < m → 2 ≤ stage_of rest → rule.more_items (inner_at most n) m before rest ≡ Ok (before, rest)
items_end zero most n before rest h s = absurd (omega arith)
items_end (suc m) most n before rest h s = rw (no_mark sign.Comma rest s) refl

items_go_on : (m most n : ℕ) (before first : List Item) (us others : List Terminal) (r : Result (List Item × List Terminal) Stop) → rule.put_item (inner_at most n) before us ≡ Ok (first, others) → rule.more_items (inner_at most n) m first others ≡ r
    → rule.more_items (inner_at most n) (suc m) before (mark sign.Comma ∷ us) ≡ r
items_go_on m most n before first us others r put more_read = rw put more_read

put_is : (most n : ℕ) (before : List Item) (ts rest : List Terminal) (item : Item) → rule.item_at (inner_at most n) ts ≡ Ok (item, rest) → rule.put_item (inner_at most n) before ts ≡ Ok (before ++ item ∷ [], rest)
put_is most n before ts rest item reads = rw reads refl

items_onward : (most n : ℕ) (vs : List Terminal) (item : Item) (items before : List Item) (rest : List Terminal) → Itemed most n vs items (before ++ item ∷ []) rest → (m : ℕ) → length (mark sign.Comma ∷ vs ++ rest) < m
    → rule.more_items (inner_at most n) m (before ++ item ∷ []) (mark sign.Comma ∷ vs ++ rest) ≡ Ok (before ++ item ∷ items, rest)
items_onward most n vs item items before rest l zero h = absurd (omega arith)
items_onward most n vs item items before rest l (suc m) h =
    let f : length l.others ≤ length (vs ++ rest) = l.fewer in
    items_go_on m most n (before ++ item ∷ []) l.first (vs ++ rest) l.others _ l.put (l.more_read m (omega arith)) ∙ ap (λ x. Ok (x, rest)) (append_assoc before (item ∷ []) items)

items_read : {ts : List Terminal} {items : List Item} {k : ℕ} (d : SpellsItems ts items k) (most n : ℕ) (before : List Item) (rest : List Terminal) → suc k ≤ n → deepest (map (λ (item : Item). depth item.expr) items) ≤ most → 2 ≤ stage_of rest
    → Itemed most n ts items before rest
items_read (last_item {ts = ts} {us = us} {e = e} {alias = alias} d a) most n before rest o h s =
    let deep : max (depth e) 0 ≤ most = h in
    let len : length ((ts ++ us) ++ rest) ≡ length (ts ++ us) + length rest = length-append (ts ++ us) rest in
    record {
      first = before ++ record { expr = e; alias = alias } ∷ [];
      others = rest;
      put = put_is most n before ((ts ++ us) ++ rest) rest (record { expr = e; alias = alias }) (item_reads d a most n rest o (omega arith) (omega arith));
      fewer = omega arith;
      more_read = λ m k. items_end m most n (before ++ record { expr = e; alias = alias } ∷ []) rest (omega arith) s;
    }
items_read (more_items {ts = ts} {us = us} {vs = vs} {e = e} {alias = alias} {items = items} {most = k} d a ds) most n before rest o h s =
    let both : suc (max (open_in d) k) ≤ n = o in
    let deep : max (depth e) (deepest (map (λ (item : Item). depth item.expr) items)) ≤ most = h in
    let assoc : ((ts ++ us) ++ mark sign.Comma ∷ vs) ++ rest ≡ (ts ++ us) ++ (mark sign.Comma ∷ vs ++ rest) = append_assoc (ts ++ us) (mark sign.Comma ∷ vs) rest in
    let len : length ((ts ++ us) ++ (mark sign.Comma ∷ vs ++ rest)) ≡ length (ts ++ us) + length (mark sign.Comma ∷ vs ++ rest) = length-append (ts ++ us) (mark sign.Comma ∷ vs ++ rest) in
    let same_len : length (((ts ++ us) ++ mark sign.Comma ∷ vs) ++ rest) ≡ length ((ts ++ us) ++ (mark sign.Comma ∷ vs ++ rest)) = ap length assoc in
    let first_open : suc (open_in d) ≤ n = omega arith in
    let first_depth : depth e ≤ most = omega arith in
    record {
      first = before ++ record { expr = e; alias = alias } ∷ [];
      others = mark sign.Comma ∷ vs ++ rest;
      put = ap (rule.put_item (inner_at most n) before) assoc
          ∙ put_is most n before ((ts ++ us) ++ (mark sign.Comma ∷ vs ++ rest)) (mark sign.Comma ∷ vs ++ rest) (record { expr = e; alias = alias }) (item_reads d a most n (mark sign.Comma ∷ vs ++ rest) first_open first_depth (omega arith));
      fewer = omega arith;
      more_read = items_onward most n vs (record { expr = e; alias = alias }) items before rest (items_read ds most n (before ++ record { expr = e; alias = alias } ∷ []) rest (omega arith) (omega arith) s);
    }

-- ---- further tables

join_stage : {is : List Terminal} {by : JoinType} → SpellsJoin is by → (tokens rest : List Terminal) → 1 ≤ stage_of ((is ++ tokens) ++ rest)
join_stage join tokens rest = omega arith
join_stage inner_join tokens rest = omega arith
join_stage left_join tokens rest = omega arith
join_stage left_outer_join tokens rest = omega arith

others_stage : {ts : List Terminal} {others : List Joined} {k : ℕ} (d : SpellsOthers ts others k) (rest : List Terminal) → 2 ≤ stage_of rest → 1 ≤ stage_of (ts ++ rest)
others_stage no_others rest s = omega arith
others_stage (behind_comma t ds) rest s = omega arith
others_stage (behind_join {ts = ts} {us = us} {vs = vs} j t d ds) rest s = join_stage j (ts ++ (word keyword.On ∷ us ++ vs)) rest

put_other_is : (most n : ℕ) (before : List Joined) (ts rest : List Terminal) (j : Joined) → rule.other_at (inner_at most n) ts ≡ Ok (j, rest) → rule.put_other (inner_at most n) before ts ≡ Ok (before ++ j ∷ [], rest)
put_other_is most n before ts rest j reads = rw reads refl

others_step : (m most n : ℕ) (before : List Joined) (ts rest : List Terminal) (j : Joined) (r : Result (List Joined × List Terminal) Stop) → phrase.begins_other ts ≡ true → rule.other_at (inner_at most n) ts ≡ Ok (j, rest)
    → rule.more_others (inner_at most n) m (before ++ j ∷ []) rest ≡ r → rule.more_others (inner_at most n) (suc m) before ts ≡ r
others_step m most n before ts rest j r begins reads more_read = rw (begins, reads) more_read

comma_reads : (most n : ℕ) (ts rest : List Terminal) (t : Table) → rule.table_at ts ≡ Ok (t, rest) → rule.other_at (inner_at most n) (mark sign.Comma ∷ ts) ≡ Ok (record { table = t; kind = join_kind.Comma }, rest)
comma_reads most n ts rest t reads = rw reads refl

joined_reads : (most n : ℕ) (by : JoinType) (ts us rest : List Terminal) (t : Table) (e : Expr) → rule.table_at ts ≡ Ok (t, word keyword.On ∷ us) → inner_at most n level.Disjunction us ≡ Ok (whole e, rest)
    → rule.joined_at (inner_at most n) by ts ≡ Ok (record { table = t; kind = kind_of by e }, rest)
joined_reads most n by ts us rest t e first second = rw (first, second) refl

join_reads : (most n : ℕ) {is : List Terminal} {by : JoinType} → SpellsJoin is by → (ts rest : List Terminal) (j : Joined) → rule.joined_at (inner_at most n) by ts ≡ Ok (j, rest)
    → (phrase.begins_other (is ++ ts) ≡ true) × (rule.other_at (inner_at most n) (is ++ ts) ≡ Ok (j, rest))
join_reads most n join ts rest j reads = (refl, reads)
join_reads most n inner_join ts rest j reads = (refl, reads)
join_reads most n left_join ts rest j reads = (refl, reads)
join_reads most n left_outer_join ts rest j reads = (refl, reads)

-- the deepest conditions of tables
abbrev on_depth : Joined → ℕ
on_depth j = option_depth (condition_of j.kind)

others_read : {ts : List Terminal} {others : List Joined} {k : ℕ} (d : SpellsOthers ts others k) (most n m : ℕ) (before : List Joined) (rest : List Terminal) → suc k ≤ n → deepest (map on_depth others) ≤ most → 2 ≤ stage_of rest → length (ts ++ rest) < m
    → rule.more_others (inner_at most n) m before (ts ++ rest) ≡ Ok (before ++ others, rest)
others_read no_others most n zero before rest o h s f = absurd (omega arith)
others_read no_others most n (suc m) before rest o h s f = (rw (no_other rest s) refl) ∙ ap (λ x. Ok (x, rest)) (sym (append-nil before))
others_read (behind_comma {ts = ts} {us = us} {t = t} d ds) most n zero before rest o h s f = absurd (omega arith)
others_read (behind_comma {ts = ts} {us = us} {t = t} {others = others} d ds) most n (suc m) before rest o h s f =
    let assoc : (ts ++ us) ++ rest ≡ ts ++ (us ++ rest) = append_assoc ts us rest in
    let len : length (ts ++ (us ++ rest)) ≡ length ts + length (us ++ rest) = length-append ts (us ++ rest) in
    let same_len : length ((ts ++ us) ++ rest) ≡ length (ts ++ (us ++ rest)) = ap length assoc in
    let deep : max 0 (deepest (map on_depth others)) ≤ most = h in
    ap (λ (x : List Terminal). rule.more_others (inner_at most n) (suc m) before (mark sign.Comma ∷ x)) assoc
    ∙ others_step m most n before (mark sign.Comma ∷ ts ++ (us ++ rest)) (us ++ rest) (record { table = t; kind = join_kind.Comma }) (Ok ((before ++ record { table = t; kind = join_kind.Comma } ∷ []) ++ others, rest)) refl
    (comma_reads most n (ts ++ (us ++ rest)) (us ++ rest) t (table_reads d (us ++ rest) (others_stage ds rest s)))
    (others_read ds most n m (before ++ record { table = t; kind = join_kind.Comma } ∷ []) rest o (omega arith) s (omega arith))
    ∙ ap (λ x. Ok (x, rest)) (append_assoc before (record { table = t; kind = join_kind.Comma } ∷ []) others)
others_read (behind_join {is = is} {ts = ts} {us = us} {vs = vs} j t d ds) most n zero before rest o h s f = absurd (omega arith)
others_read (behind_join {is = is} {ts = ts} {us = us} {vs = vs} {by = by} {t = t} {e = e} {others = others} {most = k} j dt d ds) most n (suc m) before rest o h s f =
    let both : suc (max (open_in d) k) ≤ n = o in
    let deep : max (depth e) (deepest (map on_depth others)) ≤ most = subst (λ c. max (option_depth c) (deepest (map on_depth others)) ≤ most) (condition_is by e) h in
    let behind_on : List Terminal = us ++ (vs ++ rest) in
    let assoc : (is ++ (ts ++ (word keyword.On ∷ us ++ vs))) ++ rest ≡ is ++ (ts ++ (word keyword.On ∷ us ++ (vs ++ rest))) =
    append_assoc is (ts ++ (word keyword.On ∷ us ++ vs)) rest ∙ ap (λ (x : List Terminal). is ++ x) (append_assoc ts (word keyword.On ∷ us ++ vs) rest ∙ ap (λ (x : List Terminal). ts ++ word keyword.On ∷ x) (append_assoc us vs rest)) in
    let same_len : length ((is ++ (ts ++ (word keyword.On ∷ us ++ vs))) ++ rest) ≡ length (is ++ (ts ++ (word keyword.On ∷ us ++ (vs ++ rest)))) = ap length assoc in
    let len : length (is ++ (ts ++ (word keyword.On ∷ us ++ (vs ++ rest)))) ≡ length is + length (ts ++ (word keyword.On ∷ us ++ (vs ++ rest))) = length-append is (ts ++ (word keyword.On ∷ us ++ (vs ++ rest))) in
    let len2 : length (ts ++ (word keyword.On ∷ us ++ (vs ++ rest))) ≡ length ts + length (word keyword.On ∷ us ++ (vs ++ rest)) = length-append ts (word keyword.On ∷ us ++ (vs ++ rest)) in
    let len3 : length (us ++ (vs ++ rest)) ≡ length us + length (vs ++ rest) = length-append us (vs ++ rest) in
    let first_open : suc (open_in d) ≤ n = omega arith in
    let first_depth : depth e ≤ most = omega arith in
    let parts = join_reads most n j (ts ++ (word keyword.On ∷ us ++ (vs ++ rest))) (vs ++ rest) (record { table = t; kind = kind_of by e })
    (joined_reads most n by (ts ++ (word keyword.On ∷ us ++ (vs ++ rest))) (us ++ (vs ++ rest)) (vs ++ rest) t e (table_reads dt (word keyword.On ∷ us ++ (vs ++ rest)) (omega arith)) (free d most n (vs ++ rest) first_open first_depth (stage_reach (vs ++ rest) (others_stage ds rest s)))) in
    ap (rule.more_others (inner_at most n) (suc m) before) assoc
    ∙ others_step m most n before (is ++ (ts ++ (word keyword.On ∷ us ++ (vs ++ rest)))) (vs ++ rest) (record { table = t; kind = kind_of by e }) (Ok ((before ++ record { table = t; kind = kind_of by e } ∷ []) ++ others, rest)) parts.0 parts.1
    (others_read ds most n m (before ++ record { table = t; kind = kind_of by e } ∷ []) rest (omega arith) (omega arith) s (omega arith))
    ∙ ap (λ x. Ok (x, rest)) (append_assoc before (record { table = t; kind = kind_of by e } ∷ []) others)

-- ---- clauses

clause_reads : {k : Keyword} {ts : List Terminal} {x : Option Expr} {o : ℕ} (d : SpellsClause k ts x o) (most n : ℕ) (rest : List Terminal) → is_keyword k (word k) ≡ true → suc o ≤ n → option_depth x ≤ most → stage (word k) < stage_of rest
    → rule.clause_at (inner_at most n) k (ts ++ rest) ≡ Ok (x, rest)
clause_reads {k} no_clause most n rest is o h s = rw (no_word k rest s) refl
clause_reads {k} (clause d) most n rest is o h s =
    let one : 1 ≤ stage_of rest = omega arith in
    rw (is, free d most n rest o h (stage_reach rest one)) refl

clause_stage : {k : Keyword} {ts : List Terminal} {x : Option Expr} {o : ℕ} (d : SpellsClause k ts x o) (rest : List Terminal) (l : ℕ) → l ≤ stage (word k) → l ≤ stage_of rest → l ≤ stage_of (ts ++ rest)
clause_stage no_clause rest l h s = s
clause_stage (clause d) rest l h s = h

groups_read : {ts : List Terminal} {es : List Expr} {o : ℕ} (d : SpellsGroups ts es o) (most n : ℕ) (rest : List Terminal) → suc o ≤ n → deepest (map depth es) ≤ most → 4 ≤ stage_of rest → rule.groups_at (inner_at most n) (ts ++ rest) ≡ Ok (es, rest)
groups_read no_groups most n rest o h s = rw (no_word keyword.Group rest s) refl
groups_read (groups {ts = ts} {es = es} d) most n rest o h s =
    let one : 1 ≤ stage_of rest = omega arith in
    let two : 1 < stage_of rest = omega arith in
    rw (list_reads most n ts es none_listed rest (complete_list d most n none_listed rest o h (stage_reach rest one) (no_mark sign.Comma rest two))) refl

groups_stage : {ts : List Terminal} {es : List Expr} {o : ℕ} (d : SpellsGroups ts es o) (rest : List Terminal) (l : ℕ) → l ≤ 3 → l ≤ stage_of rest → l ≤ stage_of (ts ++ rest)
groups_stage no_groups rest l h s = s
groups_stage (groups d) rest l h s = h

-- ---- ORDER BY and LIMIT

target_reads : {t : Terminal} {o : OrderTarget} (d : SpellsTarget t o) (rest : List Terminal) → rule.target_at (t ∷ rest) ≡ Ok (o, rest)
target_reads (position n h) rest = rw (le-leb n 9223372036854775807 h) refl
target_reads (name n) rest = refl

direction_reads : {ts : List Terminal} {o : Direction} (d : SpellsDirection ts o) (rest : List Terminal) → 1 ≤ stage_of rest → rule.direction_at (ts ++ rest) ≡ (o, rest)
direction_reads unsaid rest s = rw (no_word keyword.Desc rest s, no_word keyword.Asc rest s) refl
direction_reads ascending rest s = refl
direction_reads descending rest s = refl

key_reads : {t : Terminal} {ts : List Terminal} {o : OrderTarget} {d : Direction} (a : SpellsTarget t o) (b : SpellsDirection ts d) (rest : List Terminal) → 1 ≤ stage_of rest → rule.key_at (t ∷ ts ++ rest) ≡ Ok (record { target = o; direction = d }, rest)
key_reads {t} {ts} a b rest s = rw (target_reads a (ts ++ rest), direction_reads b rest s) refl

-- the first key is read, and then the others, and all are kept
record Keyed (ts : List Terminal) (keys before : List OrderKey) (rest : List Terminal) : Type 0 where
  pub first : List OrderKey
  pub others : List Terminal
  pub put : rule.put_key before (ts ++ rest) ≡ Ok (first, others)
  pub fewer : length others ≤ length (ts ++ rest)
  pub more_read : (m : ℕ) → length others < m → rule.more_keys m first others ≡ Ok (before ++ keys, rest)

keys_end : (m : ℕ) (before : List OrderKey) (rest : List Terminal) → 0 < m → 2 ≤ stage_of rest → rule.more_keys m before rest ≡ Ok (before, rest)
keys_end zero before rest h s = absurd (omega arith)
keys_end (suc m) before rest h s = rw (no_mark sign.Comma rest s) refl

keys_go_on : (m : ℕ) (before first : List OrderKey) (us others : List Terminal) (r : Result (List OrderKey × List Terminal) Stop) → rule.put_key before us ≡ Ok (first, others) → rule.more_keys m first others ≡ r → rule.more_keys (suc m) before (mark sign.Comma ∷ us) ≡ r
keys_go_on m before first us others r put more_read = rw put more_read

put_key_is : (before : List OrderKey) (ts rest : List Terminal) (key : OrderKey) → rule.key_at ts ≡ Ok (key, rest) → rule.put_key before ts ≡ Ok (before ++ key ∷ [], rest)
put_key_is before ts rest key reads = rw reads refl

keys_onward : (vs : List Terminal) (key : OrderKey) (keys before : List OrderKey) (rest : List Terminal) → Keyed vs keys (before ++ key ∷ []) rest → (m : ℕ) → length (mark sign.Comma ∷ vs ++ rest) < m
    → rule.more_keys m (before ++ key ∷ []) (mark sign.Comma ∷ vs ++ rest) ≡ Ok (before ++ key ∷ keys, rest)
keys_onward vs key keys before rest l zero h = absurd (omega arith)
keys_onward vs key keys before rest l (suc m) h =
    let f : length l.others ≤ length (vs ++ rest) = l.fewer in
    keys_go_on m (before ++ key ∷ []) l.first (vs ++ rest) l.others _ l.put (l.more_read m (omega arith)) ∙ ap (λ x. Ok (x, rest)) (append_assoc before (key ∷ []) keys)

keys_read : {ts : List Terminal} {keys : List OrderKey} (d : SpellsKeys ts keys) (before : List OrderKey) (rest : List Terminal) → 2 ≤ stage_of rest → Keyed ts keys before rest
keys_read (last_key {t = t} {ts = ts} {o = o} {d = d} a b) before rest s =
    let len : length ((t ∷ ts) ++ rest) ≡ length (t ∷ ts) + length rest = length-append (t ∷ ts) rest in
    record {
      first = before ++ record { target = o; direction = d } ∷ [];
      others = rest;
      put = put_key_is before ((t ∷ ts) ++ rest) rest (record { target = o; direction = d }) (key_reads a b rest (omega arith));
      fewer = omega arith;
      more_read = λ m k. keys_end m (before ++ record { target = o; direction = d } ∷ []) rest (omega arith) s;
    }
keys_read (more_keys {t = t} {ts = ts} {us = us} {o = o} {d = d} {keys = keys} a b ds) before rest s =
    let assoc : (ts ++ mark sign.Comma ∷ us) ++ rest ≡ ts ++ (mark sign.Comma ∷ us ++ rest) = append_assoc ts (mark sign.Comma ∷ us) rest in
    let len : length (ts ++ (mark sign.Comma ∷ us ++ rest)) ≡ length ts + length (mark sign.Comma ∷ us ++ rest) = length-append ts (mark sign.Comma ∷ us ++ rest) in
    let same_len : length ((ts ++ mark sign.Comma ∷ us) ++ rest) ≡ length (ts ++ (mark sign.Comma ∷ us ++ rest)) = ap length assoc in
    record {
      first = before ++ record { target = o; direction = d } ∷ [];
      others = mark sign.Comma ∷ us ++ rest;
      put = ap (λ (x : List Terminal). rule.put_key before (t ∷ x)) assoc ∙ put_key_is before (t ∷ ts ++ (mark sign.Comma ∷ us ++ rest)) (mark sign.Comma ∷ us ++ rest) (record { target = o; direction = d }) (key_reads a b (mark sign.Comma ∷ us ++ rest) (omega arith));
      fewer = omega arith;
      more_read = keys_onward us (record { target = o; direction = d }) keys before rest (keys_read ds (before ++ record { target = o; direction = d } ∷ []) rest s);
    }

order_reads : {ts : List Terminal} {keys : List OrderKey} (d : SpellsOrder ts keys) (rest : List Terminal) → 6 ≤ stage_of rest → rule.order_at (ts ++ rest) ≡ Ok (keys, rest)
order_reads no_order rest s = rw (no_word keyword.Order rest s) refl
order_reads (order d) rest s =
    let l = keys_read d [] rest (omega arith) in
    rw l.put (l.more_read (suc (length l.others)) (omega arith))

order_stage : {ts : List Terminal} {keys : List OrderKey} (d : SpellsOrder ts keys) (rest : List Terminal) (l : ℕ) → l ≤ 5 → l ≤ stage_of rest → l ≤ stage_of (ts ++ rest)
order_stage no_order rest l h s = s
order_stage (order d) rest l h s = h

limit_reads : {ts : List Terminal} {x : Option ℕ} (d : SpellsLimit ts x) (rest : List Terminal) → 7 ≤ stage_of rest → rule.limit_at (ts ++ rest) ≡ Ok (x, rest)
limit_reads no_limit rest s = rw (no_word keyword.Limit rest s) refl
limit_reads (limit n h) rest s = rw (le-leb n 9223372036854775807 h) refl

limit_stage : {ts : List Terminal} {x : Option ℕ} (d : SpellsLimit ts x) (rest : List Terminal) (l : ℕ) → l ≤ 6 → l ≤ stage_of rest → l ≤ stage_of (ts ++ rest)
limit_stage no_limit rest l h s = s
limit_stage (limit n e) rest l h s = h

end_reads : {ts : List Terminal} (d : SpellsEnd ts) → rule.ending_at ts ≡ Ok tt
end_reads no_end = refl
end_reads semicolon = refl

end_stage : {ts : List Terminal} (d : SpellsEnd ts) → 7 ≤ stage_of ts
end_stage no_end = omega arith
end_stage semicolon = omega arith

-- ---- a whole query

limit_of : (ts rest : List Terminal) (l : Option ℕ) → rule.limit_at ts ≡ Ok (l, rest) → rule.ending_at rest ≡ Ok tt → rule.ended_limit_at ts ≡ Ok l
limit_of ts rest l a b = rw (a, b) refl

tail_of : (ts rest : List Terminal) (keys : List OrderKey) (l : Option ℕ) → rule.order_at ts ≡ Ok (keys, rest) → rule.ended_limit_at rest ≡ Ok l → rule.tail_at ts ≡ Ok (keys, l)
tail_of ts rest keys l a b = rw (a, b) refl

having_of : (most n : ℕ) (ts rest : List Terminal) (x : Option Expr) (t : rule.Tail) → rule.clause_at (inner_at most n) keyword.Having ts ≡ Ok (x, rest) → rule.tail_at rest ≡ Ok t → rule.having_at (inner_at most n) ts ≡ Ok (x, t)
having_of most n ts rest x t a b = rw (a, b) refl

grouping_of : (most n : ℕ) (ts rest : List Terminal) (es : List Expr) (h : Option Expr × rule.Tail) → rule.groups_at (inner_at most n) ts ≡ Ok (es, rest) → rule.having_at (inner_at most n) rest ≡ Ok h → rule.grouping_at (inner_at most n) ts ≡ Ok (es, h)
grouping_of most n ts rest es h a b = rw (a, b) refl

conditions_of : (most n : ℕ) (ts rest : List Terminal) (x : Option Expr) (g : List Expr × (Option Expr × rule.Tail)) → rule.clause_at (inner_at most n) keyword.Where ts ≡ Ok (x, rest) → rule.grouping_at (inner_at most n) rest ≡ Ok g
    → rule.conditions_at (inner_at most n) ts ≡ Ok (x, g)
conditions_of most n ts rest x g a b = rw (a, b) refl

source_of : (most n : ℕ) (ts us rest : List Terminal) (t : Table) (others : List Joined) → rule.table_at ts ≡ Ok (t, us) → rule.more_others (inner_at most n) (suc (length us)) [] us ≡ Ok (others, rest)
    → rule.source_at (inner_at most n) (word keyword.From ∷ ts) ≡ Ok (record { first = t; others = others }, rest)
source_of most n ts us rest t others a b = rw (a, b) refl

from_of : (most n : ℕ) (ts rest : List Terminal) (source : Source) (c : Option Expr × (List Expr × (Option Expr × rule.Tail))) → rule.source_at (inner_at most n) ts ≡ Ok (source, rest) → rule.conditions_at (inner_at most n) rest ≡ Ok c
    → rule.from_at (inner_at most n) ts ≡ Ok (source, c)
from_of most n ts rest source c a b = rw (a, b) refl

items_of : (most n : ℕ) (ts : List Terminal) (items : List Item) (rest : List Terminal) → Itemed most n ts items [] rest → rule.items_at (inner_at most n) [] (ts ++ rest) ≡ Ok (items, rest)
items_of most n ts items rest l = rw l.put (l.more_read (suc (length l.others)) (omega arith))

-- no expression begins with DISTINCT, and so no list of items
not_distinct : {ts : List Terminal} {e : Expr} → Spells level.Disjunction ts e → (rest : List Terminal) → behind (is_keyword keyword.Distinct) (ts ++ rest) ≡ None
not_distinct d rest =
    let b = begins d in
    let opened : 0 < opens b.first = b.opened in
    ap (λ (x : List Terminal). behind (is_keyword keyword.Distinct) (x ++ rest)) b.are
    ∙ ap (λ x. cond x (Some (b.others ++ rest)) None) (not_keyword keyword.Distinct b.first (λ e. let same : opens b.first ≡ opens (word keyword.Distinct) = ap opens e in omega arith))

no_distinct : {ts : List Terminal} {items : List Item} {k : ℕ} → SpellsItems ts items k → (rest : List Terminal) → behind (is_keyword keyword.Distinct) (ts ++ rest) ≡ None
no_distinct (last_item {ts = ts} {us = us} d a) rest = ap (behind (is_keyword keyword.Distinct)) (append_assoc ts us rest) ∙ not_distinct d (us ++ rest)
no_distinct (more_items {ts = ts} {us = us} {vs = vs} d a ds) rest =
    let behind_items : List Terminal = mark sign.Comma ∷ vs ++ rest in
    ap (behind (is_keyword keyword.Distinct)) (append_assoc (ts ++ us) (mark sign.Comma ∷ vs) rest ∙ append_assoc ts us behind_items) ∙ not_distinct d (us ++ behind_items)

query_of : (most n : ℕ) (distinct : Bool) (ts rest : List Terminal) (items : List Item) (from : Source × (Option Expr × (List Expr × (Option Expr × rule.Tail)))) → rule.items_at (inner_at most n) [] ts ≡ Ok (items, rest) → rule.from_at (inner_at most n) rest ≡ Ok from
    → behind (is_keyword keyword.Distinct) ts ≡ None → rule.query_at (inner_at most n) (word keyword.Select ∷ distinct_if distinct ++ ts) ≡ Ok (rule.query_of_parts distinct items from)
query_of most n true ts rest items from a b plain = rw (a, b) refl
query_of most n false ts rest items from a b plain = rw (plain, a, b) refl

-- what spells a query is read, where so many may be opened and it may be so deep
pub complete_query : {ts : List Terminal} {q : Query} (s : SpellsQuery ts q) (most n : ℕ) → suc (open_in_query s) ≤ n → query_depth q ≤ most → rule.query_at (inner_at most n) ts ≡ Ok q
complete_query {ts} {q} s most n o h =
    let opened : suc (max s.items_open (max s.others_open (max s.filter_open (max s.groups_open (max s.having_open 0))))) ≤ n = o in
    let deep : max (option_depth q.filter) (max (option_depth q.having) (max (deepest (map (λ (item : Item). depth item.expr) q.items)) (max (deepest (map on_depth q.source.others)) (max (deepest (map depth q.group_by)) 0)))) ≤ most = h in
    let at_end = end_stage s.ends in
    let at_limit : 6 ≤ stage_of (s.limit_tokens ++ s.end_tokens) = limit_stage s.limit s.end_tokens 6 (omega arith) (omega arith) in
    let at_order : 5 ≤ stage_of (s.order_tokens ++ (s.limit_tokens ++ s.end_tokens)) = order_stage s.order (s.limit_tokens ++ s.end_tokens) 5 (omega arith) (omega arith) in
    let at_having : 4 ≤ stage_of (s.having_tokens ++ (s.order_tokens ++ (s.limit_tokens ++ s.end_tokens))) = clause_stage s.having (s.order_tokens ++ (s.limit_tokens ++ s.end_tokens)) 4 (omega arith) (omega arith) in
    let at_groups : 3 ≤ stage_of (s.groups_tokens ++ (s.having_tokens ++ (s.order_tokens ++ (s.limit_tokens ++ s.end_tokens)))) = groups_stage s.groups (s.having_tokens ++ (s.order_tokens ++ (s.limit_tokens ++ s.end_tokens))) 3 (omega arith) (omega arith) in
    let at_filter : 2 ≤ stage_of (s.filter_tokens ++ (s.groups_tokens ++ (s.having_tokens ++ (s.order_tokens ++ (s.limit_tokens ++ s.end_tokens))))) = clause_stage s.filter (s.groups_tokens ++ (s.having_tokens ++ (s.order_tokens ++ (s.limit_tokens ++ s.end_tokens)))) 2 (omega arith) (omega arith) in
    let ends = limit_of (s.limit_tokens ++ s.end_tokens) s.end_tokens q.limit (limit_reads s.limit s.end_tokens at_end) (end_reads s.ends) in
    let tail = tail_of (s.order_tokens ++ (s.limit_tokens ++ s.end_tokens)) (s.limit_tokens ++ s.end_tokens) q.order_by q.limit (order_reads s.order (s.limit_tokens ++ s.end_tokens) at_limit) ends in
    let having = having_of most n (s.having_tokens ++ (s.order_tokens ++ (s.limit_tokens ++ s.end_tokens))) (s.order_tokens ++ (s.limit_tokens ++ s.end_tokens)) q.having (q.order_by, q.limit) (clause_reads s.having most n (s.order_tokens ++ (s.limit_tokens ++ s.end_tokens)) refl (omega arith) (omega arith) at_order) tail in
    let grouping = grouping_of most n (s.groups_tokens ++ (s.having_tokens ++ (s.order_tokens ++ (s.limit_tokens ++ s.end_tokens)))) (s.having_tokens ++ (s.order_tokens ++ (s.limit_tokens ++ s.end_tokens))) q.group_by (q.having, (q.order_by, q.limit)) (groups_read s.groups most n (s.having_tokens ++ (s.order_tokens ++ (s.limit_tokens ++ s.end_tokens))) (omega arith) (omega arith) at_having) having in
    let conditions = conditions_of most n (s.filter_tokens ++ (s.groups_tokens ++ (s.having_tokens ++ (s.order_tokens ++ (s.limit_tokens ++ s.end_tokens))))) (s.groups_tokens ++ (s.having_tokens ++ (s.order_tokens ++ (s.limit_tokens ++ s.end_tokens)))) q.filter (q.group_by, (q.having, (q.order_by, q.limit))) (clause_reads s.filter most n (s.groups_tokens ++ (s.having_tokens ++ (s.order_tokens ++ (s.limit_tokens ++ s.end_tokens)))) refl (omega arith) (omega arith) at_groups) grouping in
    let rest : List Terminal = s.filter_tokens ++ (s.groups_tokens ++ (s.having_tokens ++ (s.order_tokens ++ (s.limit_tokens ++ s.end_tokens)))) in
    let source = source_of most n (s.first_tokens ++ (s.others_tokens ++ rest)) (s.others_tokens ++ rest) rest q.source.first q.source.others (table_reads s.first (s.others_tokens ++ rest) (others_stage s.others rest at_filter))
    (others_read s.others most n (suc (length (s.others_tokens ++ rest))) [] rest (omega arith) (omega arith) at_filter (omega arith)) in
    let from = from_of most n (word keyword.From ∷ s.first_tokens ++ (s.others_tokens ++ (s.filter_tokens ++ (s.groups_tokens ++ (s.having_tokens ++ (s.order_tokens ++ (s.limit_tokens ++ s.end_tokens))))))) (s.filter_tokens ++ (s.groups_tokens ++ (s.having_tokens ++ (s.order_tokens ++ (s.limit_tokens ++ s.end_tokens))))) q.source (q.filter, (q.group_by, (q.having, (q.order_by, q.limit)))) source conditions in
    let items = items_of most n s.items_tokens q.items (word keyword.From ∷ s.first_tokens ++ (s.others_tokens ++ (s.filter_tokens ++ (s.groups_tokens ++ (s.having_tokens ++ (s.order_tokens ++ (s.limit_tokens ++ s.end_tokens))))))) (items_read s.items most n [] (word keyword.From ∷ s.first_tokens ++ (s.others_tokens ++ rest)) (omega arith) (omega arith) (omega arith)) in
    ap (rule.query_at (inner_at most n)) s.tokens
    ∙ query_of most n q.distinct (s.items_tokens ++ (word keyword.From ∷ s.first_tokens ++ (s.others_tokens ++ (s.filter_tokens ++ (s.groups_tokens ++ (s.having_tokens ++ (s.order_tokens ++ (s.limit_tokens ++ s.end_tokens)))))))) (word keyword.From ∷ s.first_tokens ++ (s.others_tokens ++ (s.filter_tokens ++ (s.groups_tokens ++ (s.having_tokens ++ (s.order_tokens ++ (s.limit_tokens ++ s.end_tokens))))))) q.items (q.source, (q.filter, (q.group_by, (q.having, (q.order_by, q.limit))))) items from
    (no_distinct s.items (word keyword.From ∷ s.first_tokens ++ (s.others_tokens ++ (s.filter_tokens ++ (s.groups_tokens ++ (s.having_tokens ++ (s.order_tokens ++ (s.limit_tokens ++ s.end_tokens))))))))

-- a list of tokens spells at most one query
pub unique_query : {ts : List Terminal} {q r : Query} → SpellsQuery ts q → SpellsQuery ts r → q ≡ r
unique_query {ts} {q} {r} s t =
    let most : ℕ = max (query_depth q) (query_depth r) in
    let n : ℕ = suc (max (open_in_query s) (open_in_query t)) in
    let first = complete_query s most n (omega arith) (omega arith) in
    let second = complete_query t most n (omega arith) (omega arith) in
    let same : ◌≡◌ {A = Result Query Stop} (Ok q) (Ok r) = sym first ∙ second in
    cc same
