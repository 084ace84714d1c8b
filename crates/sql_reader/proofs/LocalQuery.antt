-- Where reading a query stops doesn't depend on what stands behind, nor, where it stops at a token, on the limits.
use Rattle.std.proofs.Common.{◌≡◌, ℕ, zero, suc, ◌+◌, ◌<◌, ◌≤◌, Bool, true, false, cond, List, [], ◌∷◌, ◌++◌, length, Option, Some, None, Result, Ok, Err, refl, sym, subst, arith}
use Rattle.meaning.specs.declared.plan.JoinType.{JoinType}
use Rattle.meaning.specs.declared.plan.JoinType.TheVariants as join_type
use Rattle.sql_syntax.specs.declared.keyword.Keyword.{Keyword}
use Rattle.sql_syntax.specs.declared.keyword.Keyword.TheVariants as keyword
use Rattle.sql_syntax.specs.declared.token.Sign.TheVariants as sign
use Rattle.sql_syntax.specs.declared.tree.JoinKind.TheVariants as join_kind
use Rattle.sql_syntax.specs.declared.tree.Direction.{Direction}
use Rattle.sql_syntax.specs.declared.tree.Direction.TheVariants as direction
use Rattle.sql_syntax.specs.declared.tree.OrderTarget.{OrderTarget}
use Rattle.sql_syntax.specs.declared.tree.OrderTarget.TheVariants as target
use Rattle.sql_syntax.specs.declared.tree.OrderKey.{OrderKey}
use Rattle.sql_syntax.specs.declared.tree.Expr.{Expr}
use Rattle.sql_syntax.specs.declared.tree.Item.{Item}
use Rattle.sql_syntax.specs.declared.tree.Table.{Table}
use Rattle.sql_syntax.specs.declared.tree.Joined.{Joined}
use Rattle.sql_syntax.specs.declared.tree.Source.{Source}
use Rattle.sql_syntax.specs.declared.tree.Query.{Query}
use Rattle.sql_syntax.specs.Joins.{kind_of}
use Rattle.sql_syntax.specs.Tokens as terminal
use Rattle.sql_syntax.specs.Tokens.{Terminal}
use Rattle.sql_syntax.specs.declared.strength.Level.{Level}
use Rattle.sql_syntax.specs.declared.strength.Level.TheVariants as level
use Rattle.sql_expressions.specs.declared.parsed.Parsed.{Parsed}
use Rattle.sql_expressions.specs.declared.stop.Stop.{Stop}
use Rattle.sql_expressions.specs.Rules as phrase
use Rattle.sql_expressions.specs.Rules.{Reader, ◌>>=◌, choose, is_keyword, is_sign, behind, past, stops_at, inner_at}
use Rattle.sql_reader.specs.Rules as rule
use Rattle.sql_expressions.proofs.Local as local
use Rattle.sql_expressions.proofs.Local.{IsSameAhead, at_end, at_token, Alike, here, Outcome, IsWithin, Agrees, beyond, reads, stops, Local}
use Rattle.sql_expressions.proofs.LocalRules.{local_list, local_inner}

-- ---- what a token at the front decides

names_alike : (ts us : List Terminal) → IsSameAhead ts us → phrase.begins_name ts ≡ phrase.begins_name us
names_alike _ _ at_end = refl
names_alike _ _ (at_token t ts us) = by_token t
  where
    by_token : (t : Terminal) → phrase.begins_name (t ∷ ts) ≡ phrase.begins_name (t ∷ us)
    by_token (terminal.keyword k) = refl
    by_token (terminal.name n) = refl
    by_token (terminal.integer n) = refl
    by_token (terminal.text t) = refl
    by_token (terminal.sign_is s) = refl
    by_token (terminal.left_out w) = refl
    by_token terminal.out_of_range = refl
    by_token terminal.not_closed = refl
    by_token terminal.unknown = refl

integers_alike : (ts us : List Terminal) → IsSameAhead ts us → phrase.begins_integer ts ≡ phrase.begins_integer us
integers_alike _ _ at_end = refl
integers_alike _ _ (at_token t ts us) = by_token t
  where
    by_token : (t : Terminal) → phrase.begins_integer (t ∷ ts) ≡ phrase.begins_integer (t ∷ us)
    by_token (terminal.keyword k) = refl
    by_token (terminal.name n) = refl
    by_token (terminal.integer n) = refl
    by_token (terminal.text t) = refl
    by_token (terminal.sign_is s) = refl
    by_token (terminal.left_out w) = refl
    by_token terminal.out_of_range = refl
    by_token terminal.not_closed = refl
    by_token terminal.unknown = refl

others_alike : (ts us : List Terminal) → IsSameAhead ts us → phrase.begins_other ts ≡ phrase.begins_other us
others_alike _ _ at_end = refl
others_alike _ _ (at_token t ts us) = refl

-- ---- the same in another form

-- a word that may be left out
if_is : {X : Type 0} (o : Option (List Terminal)) (ts : List Terminal) (read : List Terminal → X) → read (choose o (λ us. us) ts) ≡ choose o read (read ts)
if_is None ts read = refl
if_is (Some us) ts read = refl

-- a direction, where it stands
key_is : (o : OrderTarget) (desc asc : Option (List Terminal)) (ts : List Terminal)
    → ◌≡◌ {A = Outcome OrderKey} (Ok (record { target = o; direction = (choose {B = Direction × List Terminal} desc (λ us. (direction.Descending, us)) (choose asc (λ us. (direction.Ascending, us)) (direction.Ascending, ts))).0 }, (choose {B = Direction × List Terminal} desc (λ us. (direction.Descending, us)) (choose asc (λ us. (direction.Ascending, us)) (direction.Ascending, ts))).1))
    (choose desc (λ us. Ok (record { target = o; direction = direction.Descending }, us)) (choose asc (λ us. Ok (record { target = o; direction = direction.Ascending }, us)) (Ok (record { target = o; direction = direction.Ascending }, ts))))
key_is o None None ts = refl
key_is o None (Some us) ts = refl
key_is o (Some us) asc ts = refl

-- ---- readers of all tokens

-- what reads all tokens, as one that leaves none
abbrev ended : {X : Type 0} → Result X Stop → Outcome X
ended r = r >>= (λ x. Ok (x, []))

abbrev whole : {X : Type 0} → (List Terminal → Result X Stop) → List Terminal → Outcome X
whole read ts = ended (read ts)

choose_whole : {X : Type 0} (o : Option (List Terminal)) (k : List Terminal → Result X Stop) (d : Result X Stop) → ended (choose o k d) ≡ choose o (λ us. ended (k us)) (ended d)
choose_whole None k d = refl
choose_whole (Some us) k d = refl

rest_whole : {X Y Z : Type 0} (r : Outcome X) (k : List Terminal → Result Y Stop) (with : X → Y → Z) → ended (r >>= (λ p. k p.1 >>= (λ y. Ok (with p.0 y)))) ≡ (r >>= (λ p. ended (k p.1) >>= (λ z. Ok (with p.0 z.0, []))))
rest_whole (Err e) k with = refl
rest_whole {Y = Y} {Z = Z} (Ok p) k with = by_rest (k p.1)
  where
    by_rest : (s : Result Y Stop) → ◌≡◌ {A = Outcome Z} (ended (s >>= (λ y. Ok (with p.0 y)))) (ended s >>= (λ z. Ok (with p.0 z.0, [])))
    by_rest (Err e) = refl
    by_rest (Ok y) = refl

as_whole : {X Y : Type 0} (r : Result X Stop) (made : X → Y) → ended (r >>= (λ x. Ok (made x))) ≡ (ended r >>= (λ z. Ok (made z.0, [])))
as_whole (Err e) made = refl
as_whole (Ok x) made = refl

past_whole : {X : Type 0} (o : Result (List Terminal) Stop) (k : List Terminal → Result X Stop) → ended (o >>= k) ≡ (o >>= (λ us. ended (k us)))
past_whole (Err e) k = refl
past_whole (Ok us) k = refl

-- ---- a further table takes a token

-- fewer tokens are left than there were
abbrev IsFewer : {X : Type 0} → ℕ → Outcome X → Type 0
IsFewer n (Ok x) = length x.1 < n
IsFewer n (Err e) = Unit {0}

choose_fewer : {X : Type 0} (passes : Terminal → Bool) (k : List Terminal → Outcome X) (d : Outcome X) → ((ts : List Terminal) → IsWithin (length ts) (k ts)) → (ts : List Terminal) → IsFewer (length ts) d → IsFewer (length ts) (choose (behind passes ts) k d)
choose_fewer passes k d w [] h = h
choose_fewer {X = X} passes k d w (t ∷ ts) h = by_test (passes t)
  where
    fewer : (r : Outcome X) → IsWithin (length ts) r → IsFewer (suc (length ts)) r
    fewer (Ok x) v = omega (arith, v)
    fewer (Err e) v = tt

    by_test : (b : Bool) → IsFewer (suc (length ts)) (choose (cond b (Some ts) None) k d)
    by_test true = fewer (k ts) (w ts)
    by_test false = h

past_fewer : {X : Type 0} (passes : Terminal → Bool) (k : List Terminal → Outcome X) → ((ts : List Terminal) → IsWithin (length ts) (k ts)) → (ts : List Terminal) → IsFewer (length ts) (past passes ts >>= k)
past_fewer {X = X} passes k w ts = subst (λ (x : Outcome X). IsFewer (length ts) x) (sym (local.needed_is (behind passes ts) ts k)) (choose_fewer passes k (stops_at ts) w ts tt)

bind_fewer : {X Y : Type 0} (n : ℕ) (r : Outcome X) (k : X × List Terminal → Outcome Y) → IsFewer n r → ((x : X × List Terminal) → IsWithin (length x.1) (k x)) → IsFewer n (r >>= k)
bind_fewer n (Err e) k h w = tt
bind_fewer {Y = Y} n (Ok x) k h w = fewer (k x) (w x)
  where
    fewer : (r : Outcome Y) → IsWithin (length x.1) r → IsFewer n r
    fewer (Ok y) v = omega (arith, v, h)
    fewer (Err e) v = tt

module _ (f g : List Terminal) (ahead : IsSameAhead f g) where
  local_all : {X : Type 0} (x : X) → Local X f g (λ ts. Ok (x, [])) (λ ts. Ok (x, []))
  local_all {X = X} x = record { left = λ ts. omega arith; right = λ ts. omega arith; agrees = λ ts us u. by_end f g ahead }
    where
      by_end : (f g : List Terminal) → IsSameAhead f g → Agrees X f g (Ok (x, [])) (Ok (x, []))
      by_end _ _ at_end = reads x here
      by_end _ _ (at_token t ts us) = beyond (omega arith)

  -- a part, and all behind it
  local_rest : {X Y Z : Type 0} (r s : List Terminal → Outcome X) (k m : List Terminal → Result Y Stop) (with : X → Y → Z) → Local X f g r s → Local Y f g (whole k) (whole m)
      → Local Z f g (whole (λ ts. r ts >>= (λ p. k p.1 >>= (λ y. Ok (with p.0 y))))) (whole (λ ts. s ts >>= (λ p. m p.1 >>= (λ y. Ok (with p.0 y)))))
  local_rest r s k m with l behind_it =
      local.local_same f g ahead _ _ _ _ (λ ts. rest_whole (r ts) k with) (λ ts. rest_whole (s ts) m with)
      (local.local_bind f g ahead r s (λ p. whole k p.1 >>= (λ z. Ok (with p.0 z.0, []))) (λ p. whole m p.1 >>= (λ z. Ok (with p.0 z.0, []))) l
      (λ x. local.local_bind f g ahead (whole k) (whole m) (λ z. Ok (with x z.0, [])) (λ z. Ok (with x z.0, [])) behind_it (λ y. local_all (with x y))))

  local_ended : Local (Unit {0}) f g (whole rule.ended) (whole rule.ended)
  local_ended = local.local_steps f g ahead (λ ts. Ok (tt, [])) (λ ts. Ok (tt, [])) (whole rule.ended) (whole rule.ended) (local_all tt) refl refl (λ t. local.stops_there (λ ts. refl) (λ ts. refl))

  local_ending : Local (Unit {0}) f g (whole rule.ending_at) (whole rule.ending_at)
  local_ending =
      local.local_same f g ahead _ _ _ _ (λ ts. choose_whole (behind (is_sign sign.Semicolon) ts) rule.ended (rule.ended ts)) (λ ts. choose_whole (behind (is_sign sign.Semicolon) ts) rule.ended (rule.ended ts))
      (local.local_choose f g ahead (is_sign sign.Semicolon) (whole rule.ended) (whole rule.ended) (whole rule.ended) (whole rule.ended) local_ended local_ended)

  local_limit : Local (Option ℕ) f g rule.limit_at rule.limit_at
  local_limit =
      local.local_choose f g ahead (is_keyword keyword.Limit) _ _ _ _ (local.local_bind f g ahead phrase.integer_at phrase.integer_at _ _ (local.local_integer f g ahead) (λ n. local.local_done f g ahead (Some n))) (local.local_done f g ahead None)

  -- ---- keys

  local_target : Local OrderTarget f g rule.target_at rule.target_at
  local_target =
      local.local_if f g ahead phrase.begins_integer _ _ _ _ integers_alike
      (local.local_bind f g ahead phrase.integer_at phrase.integer_at _ _ (local.local_integer f g ahead) (λ n. local.local_done f g ahead (target.Position n)))
      (local.local_bind f g ahead phrase.name_at phrase.name_at _ _ (local.local_name f g ahead) (λ n. local.local_done f g ahead (target.Name n)))

  local_key : Local OrderKey f g rule.key_at rule.key_at
  local_key = local.local_bind f g ahead rule.target_at rule.target_at _ _ local_target (λ o. directed o)
    where
      directed : (o : OrderTarget) → Local OrderKey f g (λ ts. Ok (record { target = o; direction = (rule.direction_at ts).0 }, (rule.direction_at ts).1)) (λ ts. Ok (record { target = o; direction = (rule.direction_at ts).0 }, (rule.direction_at ts).1))
      directed o =
          local.local_same f g ahead _ _ _ _ (λ ts. key_is o (behind (is_keyword keyword.Desc) ts) (behind (is_keyword keyword.Asc) ts) ts) (λ ts. key_is o (behind (is_keyword keyword.Desc) ts) (behind (is_keyword keyword.Asc) ts) ts)
          (local.local_choose f g ahead (is_keyword keyword.Desc) _ _ _ _ (local.local_done f g ahead (record { target = o; direction = direction.Descending }))
          (local.local_choose f g ahead (is_keyword keyword.Asc) _ _ _ _ (local.local_done f g ahead (record { target = o; direction = direction.Ascending })) (local.local_done f g ahead (record { target = o; direction = direction.Ascending }))))

  local_put_key : (before : List OrderKey) → Local (List OrderKey) f g (rule.put_key before) (rule.put_key before)
  local_put_key before = local.local_bind f g ahead rule.key_at rule.key_at _ _ local_key (λ x. local.local_done f g ahead (before ++ x ∷ []))

  local_keys : (before : List OrderKey) → Local (List OrderKey) f g (rule.keys_at before) (rule.keys_at before)
  local_keys before =
      local.local_bind f g ahead (rule.put_key before) (rule.put_key before) _ _ (local_put_key before)
      (λ x. local.local_loop f g ahead (is_sign sign.Comma) (λ n b ts. rule.more_keys n b ts) (λ n b ts. rule.more_keys n b ts) (λ b ts. rule.put_key b ts) (λ b ts. rule.put_key b ts)
      (λ b ts. refl) (λ n b ts. refl) (λ b ts. refl) (λ n b ts. refl) local_put_key x)

  local_order : Local (List OrderKey) f g rule.order_at rule.order_at
  local_order = local.local_choose f g ahead (is_keyword keyword.Order) _ _ _ _ (local.local_past f g ahead (is_keyword keyword.By) _ _ (local_keys [])) (local.local_done f g ahead [])

  local_tail : Local rule.Tail f g (whole rule.tail_at) (whole rule.tail_at)
  local_tail = local_rest rule.order_at rule.order_at rule.ended_limit_at rule.ended_limit_at (λ o l. (o, l)) local_order (local_rest rule.limit_at rule.limit_at rule.ending_at rule.ending_at (λ l u. l) local_limit local_ending)

  -- ---- tables

  local_alias : Local (Option (List ℕ)) f g rule.alias_at rule.alias_at
  local_alias =
      local.local_choose f g ahead (is_keyword keyword.As) _ _ _ _ (local.local_bind f g ahead phrase.name_at phrase.name_at _ _ (local.local_name f g ahead) (λ n. local.local_done f g ahead (Some n)))
      (local.local_if f g ahead phrase.begins_name _ _ _ _ names_alike (local.local_bind f g ahead phrase.name_at phrase.name_at _ _ (local.local_name f g ahead) (λ n. local.local_done f g ahead (Some n))) (local.local_done f g ahead None))

  local_table : Local Table f g rule.table_at rule.table_at
  local_table =
      local.local_bind f g ahead phrase.name_at phrase.name_at _ _ (local.local_name f g ahead) (λ n. local.local_bind f g ahead rule.alias_at rule.alias_at _ _ local_alias (λ a. local.local_done f g ahead (record { name = n; alias = a })))

  local_past_join : (k : Keyword) (by : JoinType) → Local JoinType f g (rule.past_join k by) (rule.past_join k by)
  local_past_join k by =
      local.local_same f g ahead _ _ _ _ (λ ts. if_is (behind (is_keyword k) ts) ts (λ us. past (is_keyword keyword.Join) us >>= (λ vs. Ok (by, vs)))) (λ ts. if_is (behind (is_keyword k) ts) ts (λ us. past (is_keyword keyword.Join) us >>= (λ vs. Ok (by, vs))))
      (local.local_choose f g ahead (is_keyword k) _ _ _ _ joined joined)
    where
      joined : Local JoinType f g (λ us. past (is_keyword keyword.Join) us >>= (λ vs. Ok (by, vs))) (λ us. past (is_keyword keyword.Join) us >>= (λ vs. Ok (by, vs)))
      joined = local.local_past f g ahead (is_keyword keyword.Join) (λ vs. Ok (by, vs)) (λ vs. Ok (by, vs)) (local.local_done f g ahead by)

  local_join : Local JoinType f g rule.join_at rule.join_at
  local_join = local.local_choose f g ahead (is_keyword keyword.Left) _ _ _ _ (local_past_join keyword.Outer join_type.Left) (local_past_join keyword.Inner join_type.Inner)

  local_listed : Local Joined f g rule.listed_at rule.listed_at
  local_listed = local.local_bind f g ahead rule.table_at rule.table_at _ _ local_table (λ t. local.local_done f g ahead (record { table = t; kind = join_kind.Comma }))

  module _ (inner other : Level → Reader) (h : (l : Level) → Local Parsed f g (inner l) (other l)) where
    local_condition : (k : Keyword) → Local Expr f g (rule.condition_at inner k) (rule.condition_at other k)
    local_condition k = local.local_past f g ahead (is_keyword k) _ _ (local.local_bind f g ahead (inner level.Disjunction) (other level.Disjunction) _ _ (h level.Disjunction) (λ e. local.local_done f g ahead e.expr))

    local_joined : (by : JoinType) → Local Joined f g (rule.joined_at inner by) (rule.joined_at other by)
    local_joined by =
        local.local_bind f g ahead rule.table_at rule.table_at _ _ local_table
        (λ t. local.local_bind f g ahead (rule.condition_at inner keyword.On) (rule.condition_at other keyword.On) _ _ (local_condition keyword.On) (λ e. local.local_done f g ahead (record { table = t; kind = kind_of by e })))

    local_other : Local Joined f g (rule.other_at inner) (rule.other_at other)
    local_other = local.local_choose f g ahead (is_sign sign.Comma) _ _ _ _ local_listed (local.local_bind f g ahead rule.join_at rule.join_at _ _ local_join (λ by. local_joined by))

    local_put_other : (before : List Joined) → Local (List Joined) f g (rule.put_other inner before) (rule.put_other other before)
    local_put_other before = local.local_bind f g ahead (rule.other_at inner) (rule.other_at other) _ _ local_other (λ j. local.local_done f g ahead (before ++ j ∷ []))

    local_clause : (k : Keyword) → Local (Option Expr) f g (rule.clause_at inner k) (rule.clause_at other k)
    local_clause k =
        local.local_choose f g ahead (is_keyword k) _ _ _ _ (local.local_bind f g ahead (inner level.Disjunction) (other level.Disjunction) _ _ (h level.Disjunction) (λ e. local.local_done f g ahead (Some e.expr))) (local.local_done f g ahead None)

    local_item : Local Item f g (rule.item_at inner) (rule.item_at other)
    local_item =
        local.local_bind f g ahead (inner level.Disjunction) (other level.Disjunction) _ _ (h level.Disjunction)
        (λ e. local.local_bind f g ahead rule.alias_at rule.alias_at _ _ local_alias (λ a. local.local_done f g ahead (record { expr = e.expr; alias = a })))

    local_put_item : (before : List Item) → Local (List Item) f g (rule.put_item inner before) (rule.put_item other before)
    local_put_item before = local.local_bind f g ahead (rule.item_at inner) (rule.item_at other) _ _ local_item (λ x. local.local_done f g ahead (before ++ x ∷ []))

    local_items : (before : List Item) → Local (List Item) f g (rule.items_at inner before) (rule.items_at other before)
    local_items before =
        local.local_bind f g ahead (rule.put_item inner before) (rule.put_item other before) _ _ (local_put_item before)
        (λ x. local.local_loop f g ahead (is_sign sign.Comma) (λ n b ts. rule.more_items inner n b ts) (λ n b ts. rule.more_items other n b ts) (λ b ts. rule.put_item inner b ts) (λ b ts. rule.put_item other b ts)
        (λ b ts. refl) (λ n b ts. refl) (λ b ts. refl) (λ n b ts. refl) local_put_item x)

    -- a further table takes a token, which the loop counts
    join_fewer : (ts : List Terminal) → IsFewer (length ts) (rule.join_at ts)
    join_fewer ts =
        choose_fewer (is_keyword keyword.Left) (rule.past_join keyword.Outer join_type.Left) (rule.past_join keyword.Inner join_type.Inner ts) (local_past_join keyword.Outer join_type.Left).right ts
        (subst (λ (x : Outcome JoinType). IsFewer (length ts) x) (sym (if_is (behind (is_keyword keyword.Inner) ts) ts (λ us. past (is_keyword keyword.Join) us >>= (λ vs. Ok (join_type.Inner, vs)))))
        (choose_fewer (is_keyword keyword.Inner) (λ us. past (is_keyword keyword.Join) us >>= (λ vs. Ok (join_type.Inner, vs))) (past (is_keyword keyword.Join) ts >>= (λ vs. Ok (join_type.Inner, vs)))
        joined.right ts (past_fewer (is_keyword keyword.Join) (λ vs. Ok (join_type.Inner, vs)) (λ vs. omega arith) ts)))
      where
        joined : Local JoinType f g (λ us. past (is_keyword keyword.Join) us >>= (λ vs. Ok (join_type.Inner, vs))) (λ us. past (is_keyword keyword.Join) us >>= (λ vs. Ok (join_type.Inner, vs)))
        joined = local.local_past f g ahead (is_keyword keyword.Join) (λ vs. Ok (join_type.Inner, vs)) (λ vs. Ok (join_type.Inner, vs)) (local.local_done f g ahead join_type.Inner)

    put_fewer : (before : List Joined) (ts : List Terminal) → IsFewer (length ts) (rule.put_other other before ts)
    put_fewer before ts =
        bind_fewer (length ts) (rule.other_at other ts) (λ j. Ok (before ++ j.0 ∷ [], j.1))
        (choose_fewer (is_sign sign.Comma) rule.listed_at (rule.join_at ts >>= (λ j. rule.joined_at other j.0 j.1)) local_listed.right ts
        (bind_fewer (length ts) (rule.join_at ts) (λ j. rule.joined_at other j.0 j.1) (join_fewer ts) (λ j. (local_joined j.0).right j.1))) (λ j. omega arith)

    more_within : (read : Level → Reader) → ((before : List Joined) (ts : List Terminal) → IsWithin (length ts) (rule.put_other read before ts)) → (n : ℕ) (before : List Joined) (ts : List Terminal) → IsWithin (length ts) (rule.more_others read n before ts)
    more_within read w zero before ts = tt
    more_within read w (suc n) before ts =
        by_test (phrase.begins_other ts) (length ts) (rule.put_other read before ts >>= (λ x. rule.more_others read n x.0 x.1)) (Ok (before, ts))
        (local.within_bind (length ts) (rule.put_other read before ts) (λ x. rule.more_others read n x.0 x.1) (w before ts) (λ x. more_within read w n x.0 x.1)) (omega arith)
      where
        by_test : (b : Bool) (len : ℕ) (r d : Outcome (List Joined)) → IsWithin len r → IsWithin len d → IsWithin len (cond b r d)
        by_test true len r d v w = v
        by_test false len r d v w = w

    more_agree : (n m : ℕ) (before : List Joined) (ts us : List Terminal) → Alike f g ts us → length us < m → Agrees (List Joined) f g (rule.more_others inner n before ts) (rule.more_others other m before us)
    more_agree zero m before ts us u few = beyond tt
    more_agree (suc n) zero before ts us u few = absurd (omega (arith, few))
    more_agree (suc n) (suc m) before ts us u few =
        subst (λ (b : Bool). Agrees (List Joined) f g (rule.more_others inner (suc n) before ts) (cond b (rule.put_other other before us >>= (λ x. rule.more_others other m x.0 x.1)) (Ok (before, us)))) (others_alike ts us (local.heads f g ahead ts us u))
        (by_test (phrase.begins_other ts) (λ x vs ws v fewer. more_agree n m x vs ws v (omega (arith, few, fewer))))
      where
        bound : (r s : Outcome (List Joined)) → Agrees (List Joined) f g r s → IsFewer (length us) s
            → ((x : List Joined) (vs ws : List Terminal) → Alike f g vs ws → length ws < length us → Agrees (List Joined) f g (rule.more_others inner n x vs) (rule.more_others other m x ws))
            → Agrees (List Joined) f g (r >>= (λ x. rule.more_others inner n x.0 x.1)) (s >>= (λ x. rule.more_others other m x.0 x.1))
        bound r s (beyond b) w again = beyond (local.beyond_bind f r (λ x. rule.more_others inner n x.0 x.1) b (λ x. more_within inner (λ before ts. (local_put_other before).left ts) n x.0 x.1))
        bound r s (reads x {us = vs} {vs = ws} v) w again = again x vs ws v w
        bound r s (stops v) w again = stops v

        by_test : (b : Bool) → ((x : List Joined) (vs ws : List Terminal) → Alike f g vs ws → length ws < length us → Agrees (List Joined) f g (rule.more_others inner n x vs) (rule.more_others other m x ws))
            → Agrees (List Joined) f g (cond b (rule.put_other inner before ts >>= (λ x. rule.more_others inner n x.0 x.1)) (Ok (before, ts))) (cond b (rule.put_other other before us >>= (λ x. rule.more_others other m x.0 x.1)) (Ok (before, us)))
        by_test true again = bound (rule.put_other inner before ts) (rule.put_other other before us) ((local_put_other before).agrees ts us u) (put_fewer before us) again
        by_test false again = reads before u

    local_others : (before : List Joined) → Local (List Joined) f g (λ ts. rule.more_others inner (suc (length ts)) before ts) (λ ts. rule.more_others other (suc (length ts)) before ts)
    local_others before = record {
      left = λ ts. more_within inner (λ b us. (local_put_other b).left us) (suc (length ts)) before ts;
      right = λ ts. more_within other (λ b us. (local_put_other b).right us) (suc (length ts)) before ts;
      agrees = λ ts us u. more_agree (suc (length ts)) (suc (length us)) before ts us u (omega arith);
    }

    local_tables : (before : List Joined) → Local (Table × List Joined) f g (rule.tables_at inner before) (rule.tables_at other before)
    local_tables before =
        local.local_bind f g ahead rule.table_at rule.table_at _ _ local_table
        (λ t. local.local_bind f g ahead (λ ts. rule.more_others inner (suc (length ts)) before ts) (λ ts. rule.more_others other (suc (length ts)) before ts) _ _ (local_others before) (λ o. local.local_done f g ahead (t, o)))

    local_source : Local Source f g (rule.source_at inner) (rule.source_at other)
    local_source =
        local.local_past f g ahead (is_keyword keyword.From) _ _
        (local.local_bind f g ahead (rule.tables_at inner []) (rule.tables_at other []) _ _ (local_tables []) (λ x. local.local_done f g ahead (record { first = x.0; others = x.1 })))

  -- ---- the query from its parts

  module _ (most more : ℕ) (deep : most ≤ more) (n m : ℕ) (few : n ≤ m) where
    read : (l : Level) → Local Parsed f g (inner_at most n l) (inner_at more m l)
    read = local_inner f g ahead most more deep n m few

    local_groups : Local (List Expr) f g (rule.groups_at (inner_at most n)) (rule.groups_at (inner_at more m))
    local_groups =
        local.local_choose f g ahead (is_keyword keyword.Group) _ _ _ _
        (local.local_past f g ahead (is_keyword keyword.By) _ _
        (local.local_bind f g ahead (phrase.list_at (inner_at most n) (record { exprs = []; deepest = 0 })) (phrase.list_at (inner_at more m) (record { exprs = []; deepest = 0 })) _ _
        (local_list f g ahead most more deep (inner_at most n) (inner_at more m) read (record { exprs = []; deepest = 0 })) (λ es. local.local_done f g ahead es.exprs)))
        (local.local_done f g ahead [])

    local_having : Local (Option Expr × rule.Tail) f g (whole (rule.having_at (inner_at most n))) (whole (rule.having_at (inner_at more m)))
    local_having = local_rest (rule.clause_at (inner_at most n) keyword.Having) (rule.clause_at (inner_at more m) keyword.Having) rule.tail_at rule.tail_at (λ h t. (h, t)) (local_clause (inner_at most n) (inner_at more m) read keyword.Having) local_tail

    local_grouping : Local (List Expr × (Option Expr × rule.Tail)) f g (whole (rule.grouping_at (inner_at most n))) (whole (rule.grouping_at (inner_at more m)))
    local_grouping = local_rest (rule.groups_at (inner_at most n)) (rule.groups_at (inner_at more m)) (rule.having_at (inner_at most n)) (rule.having_at (inner_at more m)) (λ a h. (a, h)) local_groups local_having

    local_conditions : Local (Option Expr × (List Expr × (Option Expr × rule.Tail))) f g (whole (rule.conditions_at (inner_at most n))) (whole (rule.conditions_at (inner_at more m)))
    local_conditions =
        local_rest (rule.clause_at (inner_at most n) keyword.Where) (rule.clause_at (inner_at more m) keyword.Where) (rule.grouping_at (inner_at most n)) (rule.grouping_at (inner_at more m)) (λ w a. (w, a))
        (local_clause (inner_at most n) (inner_at more m) read keyword.Where) local_grouping

    local_from : Local (Source × (Option Expr × (List Expr × (Option Expr × rule.Tail)))) f g (whole (rule.from_at (inner_at most n))) (whole (rule.from_at (inner_at more m)))
    local_from =
        local_rest (rule.source_at (inner_at most n)) (rule.source_at (inner_at more m)) (rule.conditions_at (inner_at most n)) (rule.conditions_at (inner_at more m)) (λ s c. (s, c)) (local_source (inner_at most n) (inner_at more m) read) local_conditions

    local_selected : Local (List Item × (Source × (Option Expr × (List Expr × (Option Expr × rule.Tail))))) f g (whole (rule.selected_at (inner_at most n) [])) (whole (rule.selected_at (inner_at more m) []))
    local_selected =
        local_rest (rule.items_at (inner_at most n) []) (rule.items_at (inner_at more m) []) (rule.from_at (inner_at most n)) (rule.from_at (inner_at more m)) (λ i s. (i, s)) (local_items (inner_at most n) (inner_at more m) read []) local_from

    local_behind : (distinct : Bool) → Local Query f g (whole (λ ts. rule.query_behind (inner_at most n) (distinct, ts))) (whole (λ ts. rule.query_behind (inner_at more m) (distinct, ts)))
    local_behind distinct =
        local.local_same f g ahead _ _ _ _ (λ ts. as_whole (rule.selected_at (inner_at most n) [] ts) (λ x. rule.query_of_parts distinct x.0 x.1)) (λ ts. as_whole (rule.selected_at (inner_at more m) [] ts) (λ x. rule.query_of_parts distinct x.0 x.1))
        (local.local_bind f g ahead (whole (rule.selected_at (inner_at most n) [])) (whole (rule.selected_at (inner_at more m) [])) _ _ local_selected (λ x. local_all (rule.query_of_parts distinct x.0 x.1)))

    pub local_query : Local Query f g (whole (rule.query_at (inner_at most n))) (whole (rule.query_at (inner_at more m)))
    local_query =
        local.local_same f g ahead _ _ _ _ (λ ts. past_whole (past (is_keyword keyword.Select) ts) (λ us. rule.query_behind (inner_at most n) (rule.distinct_at us))) (λ ts. past_whole (past (is_keyword keyword.Select) ts) (λ us. rule.query_behind (inner_at more m) (rule.distinct_at us)))
        (local.local_past f g ahead (is_keyword keyword.Select) _ _
        (local.local_same f g ahead _ _ _ _ (λ us. distinct_first (inner_at most n) (behind (is_keyword keyword.Distinct) us) us) (λ us. distinct_first (inner_at more m) (behind (is_keyword keyword.Distinct) us) us)
        (local.local_choose f g ahead (is_keyword keyword.Distinct) _ _ _ _ (local_behind true) (local_behind false))))
      where
        distinct_first : (inner : Level → Reader) (o : Option (List Terminal)) (us : List Terminal)
            → ◌≡◌ {A = Outcome Query} (rule.query_behind inner (choose {B = Bool × List Terminal} o (λ vs. (true, vs)) (false, us)) >>= (λ q. Ok (q, []))) (choose o (λ vs. rule.query_behind inner (true, vs) >>= (λ q. Ok (q, []))) (rule.query_behind inner (false, us) >>= (λ q. Ok (q, []))))
        distinct_first inner None us = refl
        distinct_first inner (Some vs) us = refl
