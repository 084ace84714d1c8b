-- Where reading stops at a token, the tokens before it begin an expression: some tokens behind them spell one.
use Rattle.std.proofs.Common.{◌≡◌, ◌⊎◌, ℕ, zero, suc, ◌+◌, Bool, true, false, cond, List, [], ◌∷◌, ◌++◌, length, Option, Some, None, Result, Ok, Err, refl, sym, ap, ◌∙◌, subst, append_assoc, inl, inr}
use Rattle.std.specs.Prelude.{max, nat_lt}
use Rattle.sql_syntax.specs.declared.token.Sign.TheVariants as sign
use Rattle.sql_syntax.specs.declared.tree.Expr.{Expr}
use Rattle.sql_syntax.specs.declared.tree.Expr.TheVariants as expr
use Rattle.sql_syntax.specs.Tokens as terminal
use Rattle.sql_syntax.specs.Tokens.{Terminal}
use Rattle.sql_syntax.specs.declared.strength.Level.{Level}
use Rattle.sql_syntax.specs.declared.strength.Level.TheVariants as level
use Rattle.sql_syntax.specs.declared.strength.Operator.{Operator}
use Rattle.sql_syntax.specs.Strength.{next, level_of, token_of, node_of}
use Rattle.sql_syntax.specs.Phrases.{mark, bracketed, undoubled, Spells, as_next, joined, text, SpellsList, last, more}
use Rattle.sql_expressions.specs.declared.parsed.Parsed.{Parsed}
use Rattle.sql_expressions.specs.declared.stop.Stop.{Stop}
use Rattle.sql_expressions.specs.declared.stop.Stop.TheVariants as stop
use Rattle.sql_expressions.specs.Rules as rule
use Rattle.sql_expressions.specs.Rules.{Reader, ◌>>=◌, choose, is_sign, behind, past, needed, first_is, operator_of, node, then_left, more_of}
use Rattle.sql_expressions.proofs.Sound as sound
use Rattle.sql_expressions.proofs.Sound.{Took, IsSound, IsInner, mark_taken, mark_past}

-- ---- steps

pub bind_err : {A B : Type 0} (r : Result A Stop) (f : A → Result B Stop) (e : Stop) → (r >>= f) ≡ Err e → (r ≡ Err e) ⊎ ((x : A) × (r ≡ Ok x) × (f x ≡ Err e))
bind_err {A = A} {B = B} (Err reason) f e is = inl (ap_reason reason e is)
  where
    ap_reason : (reason e : Stop) → ◌≡◌ {A = Result B Stop} (Err reason) (Err e) → ◌≡◌ {A = Result A Stop} (Err reason) (Err e)
    ap_reason reason e is = let same : reason ≡ e = cc is in ap (λ (x : Stop). Err x) same
bind_err (Ok x) f e is = inr (x, refl, is)

pub choose_err : {A B : Type 0} (o : Option A) (f : A → Result B Stop) (d : Result B Stop) (e : Stop) → choose o f d ≡ Err e → ((x : A) × (o ≡ Some x) × (f x ≡ Err e)) ⊎ ((o ≡ None) × (d ≡ Err e))
choose_err None f d e is = inr (refl, is)
choose_err (Some x) f d e is = inl (x, refl, is)

-- nothing is made that isn't at a token
pub node_err : {B : Type 0} (k : ℕ) (x : Expr) (f : Parsed → Result B Stop) (left : ℕ) → (node 128 k x >>= f) ≡ Err (stop.At left) → (p : Parsed) × (node 128 k x ≡ Ok p) × (f p ≡ Err (stop.At left))
node_err {B = B} k x f left is = by_test (nat_lt k 128) refl is
  where
    made : Bool → Result Parsed Stop
    made b = cond b (Ok (k + 1)) (Err stop.TooDeep) >>= (λ d. Ok (record { expr = x; depth = d }))

    by_test : (b : Bool) → nat_lt k 128 ≡ b → (made b >>= f) ≡ Err (stop.At left) → (p : Parsed) × (node 128 k x ≡ Ok p) × (f p ≡ Err (stop.At left))
    by_test true test is = (record { expr = x; depth = k + 1 }, rw test refl, is)
    by_test false test is = absurd cc

pub made_err : (k : ℕ) (x : Expr) (rest : List Terminal) (left : ℕ) → then_left (node 128 k x) rest ≡ Err (stop.At left) → ⊥
made_err k x rest left is = let p = node_err k x (λ p. Ok (p, rest)) left is in absurd cc p.2

pub needed_err : {A : Type 0} (ts : List Terminal) (o : Option A) (left : ℕ) → needed ts o ≡ Err (stop.At left) → length ts ≡ left
needed_err ts None left is = cc is
needed_err ts (Some x) left is = absurd cc

-- ---- what begins something

-- some tokens behind those in front of the last spell it
pub record Begun (IsSpelled : List Terminal → Type 0) (ts : List Terminal) (left : ℕ) : Type 0 where
  pub front : List Terminal
  pub rest : List Terminal
  pub further : List Terminal
  pub parts : ts ≡ front ++ rest
  pub counts : length rest ≡ left
  pub spelled : IsSpelled (front ++ further)

-- nothing of it is there
pub begun_here : {IsSpelled : List Terminal → Type 0} (ts further : List Terminal) (left : ℕ) → length ts ≡ left → IsSpelled further → Begun IsSpelled ts left
begun_here ts further left counts spelled = record { front = []; rest = ts; further = further; parts = refl; counts = counts; spelled = spelled }

-- all of it but the end is there
pub begun_end : {IsSpelled : List Terminal → Type 0} (front ts rest further : List Terminal) (left : ℕ) → ts ≡ front ++ rest → length rest ≡ left → IsSpelled (front ++ further) → Begun IsSpelled ts left
begun_end front ts rest further left parts counts spelled = record { front = front; rest = rest; further = further; parts = parts; counts = counts; spelled = spelled }

pub begun_as : {IsPart IsSpelled : List Terminal → Type 0} (ts : List Terminal) (left : ℕ) → ((vs : List Terminal) → IsPart vs → IsSpelled vs) → Begun IsPart ts left → Begun IsSpelled ts left
begun_as ts left made b = record { front = b.front; rest = b.rest; further = b.further; parts = b.parts; counts = b.counts; spelled = made (b.front ++ b.further) b.spelled }

-- a part of it is begun, behind others
pub begun_into : {IsPart IsSpelled : List Terminal → Type 0} (put : List Terminal → List Terminal) (before : List Terminal) → ((us : List Terminal) → put us ≡ before ++ us) → (ts us : List Terminal) (left : ℕ) → ts ≡ put us
    → ((vs : List Terminal) → IsPart vs → IsSpelled (put vs)) → Begun IsPart us left → Begun IsSpelled ts left
begun_into {IsSpelled = IsSpelled} put before is ts us left whole made b =
    let all : put (b.front ++ b.further) ≡ (before ++ b.front) ++ b.further = is (b.front ++ b.further) ∙ sym (append_assoc before b.front b.further) in
    record {
      front = before ++ b.front;
      rest = b.rest;
      further = b.further;
      parts = whole ∙ is us ∙ ap (λ (x : List Terminal). before ++ x) b.parts ∙ sym (append_assoc before b.front b.rest);
      counts = b.counts;
      spelled = subst IsSpelled all (made (b.front ++ b.further) b.spelled);
    }

-- a part of it is begun, and others follow
pub begun_before : {IsPart IsSpelled : List Terminal → Type 0} (after ts : List Terminal) (left : ℕ) → ((vs : List Terminal) → IsPart vs → IsSpelled (vs ++ after)) → Begun IsPart ts left → Begun IsSpelled ts left
begun_before {IsSpelled = IsSpelled} after ts left made b = record {
  front = b.front;
  rest = b.rest;
  further = b.further ++ after;
  parts = b.parts;
  counts = b.counts;
  spelled = subst IsSpelled (append_assoc b.front b.further after) (made (b.front ++ b.further) b.spelled);
}

-- the tokens of an expression
abbrev pub IsOf : Level → List Terminal → Type 0
IsOf l ts = (e : Expr) × Spells l ts e

abbrev pub IsViable : Level → Reader → Type 0
IsViable l read = (ts : List Terminal) (left : ℕ) → read ts ≡ Err (stop.At left) → Begun (IsOf l) ts left

-- an expression of each rule
filled_sum : Spells level.Sum (terminal.text [] ∷ []) (expr.Text (undoubled []))
filled_sum = as_next {l = level.Sum} (as_next {l = level.Term} (as_next {l = level.Factor} (text [])))

filled_negation : Spells level.Negation (terminal.text [] ∷ []) (expr.Text (undoubled []))
filled_negation = as_next {l = level.Negation} (as_next {l = level.Predicate} filled_sum)

pub filled : (l : Level) → Spells l (terminal.text [] ∷ []) (expr.Text (undoubled []))
filled level.Primary = text []
filled level.Factor = as_next {l = level.Factor} (text [])
filled level.Term = as_next {l = level.Term} (as_next {l = level.Factor} (text []))
filled level.Sum = filled_sum
filled level.Predicate = as_next {l = level.Predicate} filled_sum
filled level.Negation = filled_negation
filled level.Conjunction = as_next {l = level.Conjunction} filled_negation
filled level.Disjunction = as_next {l = level.Disjunction} (as_next {l = level.Conjunction} filled_negation)

pub next_begun : (l : Level) (ts : List Terminal) (left : ℕ) → Begun (IsOf (next l)) ts left → Begun (IsOf l) ts left
next_begun l ts left b = begun_as ts left (λ vs p. (p.0, as_next {l = l} p.1)) b

-- tokens and one behind them
pub behind_it : (front : List Terminal) (t : Terminal) (us : List Terminal) → front ++ t ∷ us ≡ (front ++ t ∷ []) ++ us
behind_it front t us = sym (append_assoc front (t ∷ []) us)

-- ---- chains of operators

joined_begun : (n : ℕ) (l : Level) (o : Operator) (ts vs : List Terminal) (a : Parsed) (left : ℕ) → level_of o ≡ l → Took 0 n l ts (a, token_of o ∷ vs) → Begun (IsOf (next l)) vs left → Begun (IsOf l) ts left
joined_begun n l o ts vs a left is t b =
    begun_into (λ us. t.front ++ token_of o ∷ us) (t.front ++ token_of o ∷ []) (behind_it t.front (token_of o)) ts vs left t.parts (λ us p. (node_of o a.expr p.0, both l is t.front us a.expr p.0 t.spells p.1)) b
  where
    both : (l : Level) → level_of o ≡ l → (front us : List Terminal) (a b : Expr) → Spells l front a → Spells (next l) us b → Spells l (front ++ token_of o ∷ us) (node_of o a b)
    both l is front us a b d d2 =
        subst (λ (k : Level). Spells k front a → Spells (next k) us b → Spells k (front ++ token_of o ∷ us) (node_of o a b)) is (λ d d2. joined o d d2) d d2

more_begun : (m n : ℕ) (l : Level) (operand : Reader) → IsSound 0 n (next l) operand → IsViable (next l) operand → (a : Parsed) (ts us : List Terminal) (left : ℕ) → Took 0 n l ts (a, us) → more_of m 128 l operand a us ≡ Err (stop.At left) → Begun (IsOf l) ts left
more_begun zero n l operand h v a ts us left t e = absurd cc
more_begun (suc m) n l operand h v a ts us left t e =
    turn (choose_err (first_is (operator_of l) us) (λ (o : Operator × List Terminal). operand o.1 >>= (λ b. node 128 (max a.depth b.0.depth) (node_of o.0 a.expr b.0.expr) >>= (λ c. more_of m 128 l operand c b.1))) (Ok (a, us)) (stop.At left) e)
    (λ c vs t2 e2. more_begun m n l operand h v c ts vs left t2 e2)
  where
    turn : ((o : Operator × List Terminal) × (first_is (operator_of l) us ≡ Some o) × ((operand o.1 >>= (λ b. node 128 (max a.depth b.0.depth) (node_of o.0 a.expr b.0.expr) >>= (λ c. more_of m 128 l operand c b.1))) ≡ Err (stop.At left)))
        ⊎ ((first_is (operator_of l) us ≡ None) × (◌≡◌ {A = Result (Parsed × List Terminal) Stop} (Ok (a, us)) (Err (stop.At left))))
        → ((c : Parsed) (vs : List Terminal) → Took 0 n l ts (c, vs) → more_of m 128 l operand c vs ≡ Err (stop.At left) → Begun (IsOf l) ts left) → Begun (IsOf l) ts left
    turn (inl p) again =
        let is = sound.first_operator l us p.0 p.1 in
        let here : Took 0 n l ts (a, token_of p.0.0 ∷ p.0.1) = subst (λ (v : List Terminal). Took 0 n l ts (a, v)) is.1 t in
        by_operand p.0 is.0 here (bind_err (operand p.0.1) (λ (b : Parsed × List Terminal). node 128 (max a.depth b.0.depth) (node_of p.0.0 a.expr b.0.expr) >>= (λ c. more_of m 128 l operand c b.1)) (stop.At left) p.2) again
      where
        by_operand : (o : Operator × List Terminal) → level_of o.0 ≡ l → Took 0 n l ts (a, token_of o.0 ∷ o.1)
            → (operand o.1 ≡ Err (stop.At left)) ⊎ ((b : Parsed × List Terminal) × (operand o.1 ≡ Ok b) × ((node 128 (max a.depth b.0.depth) (node_of o.0 a.expr b.0.expr) >>= (λ c. more_of m 128 l operand c b.1)) ≡ Err (stop.At left)))
            → ((c : Parsed) (vs : List Terminal) → Took 0 n l ts (c, vs) → more_of m 128 l operand c vs ≡ Err (stop.At left) → Begun (IsOf l) ts left) → Begun (IsOf l) ts left
        by_operand o is here (inl e) again = joined_begun n l o.0 ts o.1 a left is here (v o.1 left e)
        by_operand o is here (inr b) again =
            let c = node_err (max a.depth b.0.0.depth) (node_of o.0 a.expr b.0.0.expr) (λ c. more_of m 128 l operand c b.0.1) left b.2 in
            again c.0 b.0.1 (sound.join_at n l o.0 ts o.1 a b.0 c.0 is here (h o.1 b.0 b.1) c.1) c.2
    turn (inr p) again = absurd cc p.1

pub chain_begun : (n : ℕ) (l : Level) (operand : Reader) → IsSound 0 n (next l) operand → IsViable (next l) operand → IsViable l (rule.chain_of 128 l operand)
chain_begun n l operand h v ts left e = by_operand (bind_err (operand ts) (λ (a : Parsed × List Terminal). more_of (suc (length a.1)) 128 l operand a.0 a.1) (stop.At left) e)
  where
    by_operand : (operand ts ≡ Err (stop.At left)) ⊎ ((a : Parsed × List Terminal) × (operand ts ≡ Ok a) × (more_of (suc (length a.1)) 128 l operand a.0 a.1 ≡ Err (stop.At left))) → Begun (IsOf l) ts left
    by_operand (inl e) = next_begun l ts left (v ts left e)
    by_operand (inr a) = more_begun (suc (length a.0.1)) n l operand h v a.0.0 ts a.0.1 left (sound.next_took n l ts a.0 (h ts a.0 a.1)) a.2

-- ---- lists

abbrev pub IsList : List Terminal → Type 0
IsList ts = (es : List Expr) × SpellsList ts es

abbrev pub IsBracketed : List Terminal → Type 0
IsBracketed us = (ts : List Terminal) × (us ≡ bracketed ts) × IsList ts

-- an expression and what closes it
abbrev pub IsClosed : Terminal → List Terminal → Type 0
IsClosed closing us = (ts : List Terminal) × (us ≡ ts ++ closing ∷ []) × IsOf level.Disjunction ts

-- what reads an expression behind what opens it
abbrev pub AreViable : (Level → Reader) → Type 0
AreViable inner = (l : Level) → IsViable l (inner l)

module _ (n : ℕ) (inner : Level → Reader) (h : IsInner n inner) (v : AreViable inner) where
  entry_begun : (before : rule.Listed) (ts : List Terminal) (left : ℕ) → rule.entry_of inner before ts ≡ Err (stop.At left) → Begun IsList ts left
  entry_begun before ts left e = by_inner (bind_err (inner level.Disjunction ts) (λ (x : Parsed × List Terminal). Ok (rule.with_entry before x.0, x.1)) (stop.At left) e)
    where
      by_inner : (inner level.Disjunction ts ≡ Err (stop.At left)) ⊎ ((x : Parsed × List Terminal) × (inner level.Disjunction ts ≡ Ok x) × (◌≡◌ {A = Result (rule.Listed × List Terminal) Stop} (Ok (rule.with_entry before x.0, x.1)) (Err (stop.At left)))) → Begun IsList ts left
      by_inner (inl e) = begun_as ts left (λ vs p. (p.0 ∷ [], last p.1)) (v level.Disjunction ts left e)
      by_inner (inr x) = absurd cc x.2

  -- behind an expression and a comma a list is begun
  more_list : (ts us : List Terminal) (p : Parsed × List Terminal) (left : ℕ) → Took 1 n level.Disjunction ts p → p.1 ≡ mark sign.Comma ∷ us → Begun IsList us left → Begun IsList ts left
  more_list ts us p left t comma b =
      begun_into (λ us. t.front ++ mark sign.Comma ∷ us) (t.front ++ mark sign.Comma ∷ []) (behind_it t.front (mark sign.Comma)) ts us left (t.parts ∙ ap (λ (w : List Terminal). t.front ++ w) comma) (λ vs q. (p.0.expr ∷ q.0, more t.spells q.1)) b

  entries_begun : (m : ℕ) (before : rule.Listed) (ts : List Terminal) (p : Parsed × List Terminal) (left : ℕ) → Took 1 n level.Disjunction ts p → rule.more_entries m inner before p.1 ≡ Err (stop.At left) → Begun IsList ts left
  entries_begun zero before ts p left t e = absurd cc
  entries_begun (suc m) before ts p left t e =
      turn (choose_err (behind (is_sign sign.Comma) p.1) (λ (us : List Terminal). rule.entry_of inner before us >>= (λ x. rule.more_entries m inner x.0 x.1)) (Ok (before, p.1)) (stop.At left) e) (λ kept us q t2 e2. entries_begun m kept us q left t2 e2)
    where
      turn : ((us : List Terminal) × (behind (is_sign sign.Comma) p.1 ≡ Some us) × ((rule.entry_of inner before us >>= (λ x. rule.more_entries m inner x.0 x.1)) ≡ Err (stop.At left)))
          ⊎ ((behind (is_sign sign.Comma) p.1 ≡ None) × (◌≡◌ {A = Result (rule.Listed × List Terminal) Stop} (Ok (before, p.1)) (Err (stop.At left))))
          → ((kept : rule.Listed) (us : List Terminal) (q : Parsed × List Terminal) → Took 1 n level.Disjunction us q → rule.more_entries m inner kept q.1 ≡ Err (stop.At left) → Begun IsList us left) → Begun IsList ts left
      turn (inl q) again = more_list ts q.0 p left t (mark_taken sign.Comma p.1 q.0 q.1) (by_entry q.0 (bind_err (rule.entry_of inner before q.0) (λ (x : rule.Listed × List Terminal). rule.more_entries m inner x.0 x.1) (stop.At left) q.2) again)
        where
          by_entry : (us : List Terminal) → (rule.entry_of inner before us ≡ Err (stop.At left)) ⊎ ((x : rule.Listed × List Terminal) × (rule.entry_of inner before us ≡ Ok x) × (rule.more_entries m inner x.0 x.1 ≡ Err (stop.At left)))
              → ((kept : rule.Listed) (us : List Terminal) (q : Parsed × List Terminal) → Took 1 n level.Disjunction us q → rule.more_entries m inner kept q.1 ≡ Err (stop.At left) → Begun IsList us left) → Begun IsList us left
          by_entry us (inl e) again = entry_begun before us left e
          by_entry us (inr x) again =
              let s = sound.bind_ok (inner level.Disjunction us) (λ (y : Parsed × List Terminal). Ok (rule.with_entry before y.0, y.1)) x.0 x.1 in
              let same : ◌≡◌ {A = rule.Listed × List Terminal} x.0 (rule.with_entry before s.0.0, s.0.1) = sym (cc s.2) in
              let stops : rule.more_entries m inner (rule.with_entry before s.0.0) s.0.1 ≡ Err (stop.At left) = subst (λ (y : rule.Listed × List Terminal). rule.more_entries m inner y.0 y.1 ≡ Err (stop.At left)) same x.2 in
              again (rule.with_entry before s.0.0) us s.0 (h level.Disjunction us s.0 s.1) stops
      turn (inr q) again = absurd cc q.1

  pub list_begun : (before : rule.Listed) (ts : List Terminal) (left : ℕ) → rule.list_at inner before ts ≡ Err (stop.At left) → Begun IsList ts left
  list_begun before ts left e = by_entry (bind_err (rule.entry_of inner before ts) (λ (x : rule.Listed × List Terminal). rule.more_entries (suc (length x.1)) inner x.0 x.1) (stop.At left) e)
    where
      by_entry : (rule.entry_of inner before ts ≡ Err (stop.At left)) ⊎ ((x : rule.Listed × List Terminal) × (rule.entry_of inner before ts ≡ Ok x) × (rule.more_entries (suc (length x.1)) inner x.0 x.1 ≡ Err (stop.At left))) → Begun IsList ts left
      by_entry (inl e) = entry_begun before ts left e
      by_entry (inr x) =
          let s = sound.bind_ok (inner level.Disjunction ts) (λ (y : Parsed × List Terminal). Ok (rule.with_entry before y.0, y.1)) x.0 x.1 in
          let same : ◌≡◌ {A = rule.Listed × List Terminal} x.0 (rule.with_entry before s.0.0, s.0.1) = sym (cc s.2) in
          let stops : rule.more_entries (suc (length s.0.1)) inner (rule.with_entry before s.0.0) s.0.1 ≡ Err (stop.At left) = subst (λ (y : rule.Listed × List Terminal). rule.more_entries (suc (length y.1)) inner y.0 y.1 ≡ Err (stop.At left)) same x.2 in
          entries_begun (suc (length s.0.1)) (rule.with_entry before s.0.0) ts s.0 left (h level.Disjunction ts s.0 s.1) stops

  -- a token that has to be there behind tokens that are known
  past_begun : {IsSpelled : List Terminal → Type 0} (passes : Terminal → Bool) (front ts rest further : List Terminal) (left : ℕ) → past passes rest ≡ Err (stop.At left) → ts ≡ front ++ rest → IsSpelled (front ++ further) → Begun IsSpelled ts left
  past_begun passes front ts rest further left e parts spelled = begun_end front ts rest further left parts (needed_err rest (behind passes rest) left e) spelled

  pub bracketed_begun : (ts : List Terminal) (left : ℕ) → rule.bracketed_list inner ts ≡ Err (stop.At left) → Begun IsBracketed ts left
  bracketed_begun ts left e = by_open (bind_err (past (is_sign sign.Open) ts) (λ (us : List Terminal). rule.closed_list_of inner none us) (stop.At left) e)
    where
      none : rule.Listed
      none = record { exprs = []; deepest = 0 }

      by_open : (past (is_sign sign.Open) ts ≡ Err (stop.At left)) ⊎ ((us : List Terminal) × (past (is_sign sign.Open) ts ≡ Ok us) × (rule.closed_list_of inner none us ≡ Err (stop.At left))) → Begun IsBracketed ts left
      by_open (inl e) = past_begun (is_sign sign.Open) [] ts ts (bracketed (terminal.text [] ∷ [])) left e refl (terminal.text [] ∷ [], refl, (expr.Text (undoubled []) ∷ [], last (filled level.Disjunction)))
      by_open (inr us) = by_list us.0 (mark_past sign.Open ts us.0 us.1) (bind_err (rule.list_at inner none us.0) (λ (es : rule.Listed × List Terminal). past (is_sign sign.Close) es.1 >>= (λ rest. Ok (es.0, rest))) (stop.At left) us.2)
        where
          by_list : (us : List Terminal) → ts ≡ mark sign.Open ∷ us
              → (rule.list_at inner none us ≡ Err (stop.At left)) ⊎ ((es : rule.Listed × List Terminal) × (rule.list_at inner none us ≡ Ok es) × (◌>>=◌ {B = rule.Listed × List Terminal} (past (is_sign sign.Close) es.1) (λ rest. Ok (es.0, rest)) ≡ Err (stop.At left))) → Begun IsBracketed ts left
          by_list us opened (inl e) =
              begun_into (λ us. mark sign.Open ∷ us) (mark sign.Open ∷ []) (λ us. refl) ts us left opened (λ vs p. (p.0, ap (λ (w : List Terminal). mark sign.Open ∷ w) p.1, p.2))
              (begun_before {IsPart = IsList} {IsSpelled = λ us. (ts : List Terminal) × (us ≡ ts ++ mark sign.Close ∷ []) × IsList ts} (mark sign.Close ∷ []) us left (λ vs p. (vs, refl, p)) (list_begun none us left e))
          by_list us opened (inr es) = by_close (bind_err (past (is_sign sign.Close) es.0.1) (λ (rest : List Terminal). Ok (es.0.0, rest)) (stop.At left) es.2)
            where
              by_close : (past (is_sign sign.Close) es.0.1 ≡ Err (stop.At left)) ⊎ ((rest : List Terminal) × (past (is_sign sign.Close) es.0.1 ≡ Ok rest) × (◌≡◌ {A = Result (rule.Listed × List Terminal) Stop} (Ok (es.0.0, rest)) (Err (stop.At left)))) → Begun IsBracketed ts left
              by_close (inl e) =
                  let l = sound.list_sound n inner h none us es.0 es.1 in
                  past_begun (is_sign sign.Close) (mark sign.Open ∷ l.front) ts es.0.1 (mark sign.Close ∷ []) left e (opened ∙ ap (λ (w : List Terminal). mark sign.Open ∷ w) l.parts) (l.front, refl, (l.exprs, l.spells))
              by_close (inr rest) = absurd cc rest.2

  -- an expression and a token that closes it
  pub closed_begun : (passes : Terminal → Bool) (closing : Terminal) (ts : List Terminal) (left : ℕ) → rule.before_of passes inner ts ≡ Err (stop.At left) → Begun (IsClosed closing) ts left
  closed_begun passes closing ts left e = by_inner (bind_err (inner level.Disjunction ts) (λ (x : Parsed × List Terminal). past passes x.1 >>= (λ rest. Ok (x.0, rest))) (stop.At left) e)
    where
      by_inner : (inner level.Disjunction ts ≡ Err (stop.At left)) ⊎ ((x : Parsed × List Terminal) × (inner level.Disjunction ts ≡ Ok x) × (◌>>=◌ {B = Parsed × List Terminal} (past passes x.1) (λ rest. Ok (x.0, rest)) ≡ Err (stop.At left))) → Begun (IsClosed closing) ts left
      by_inner (inl e) = begun_before (closing ∷ []) ts left (λ vs p. (vs, refl, p)) (v level.Disjunction ts left e)
      by_inner (inr x) = by_close (bind_err (past passes x.0.1) (λ (rest : List Terminal). Ok (x.0.0, rest)) (stop.At left) x.2)
        where
          by_close : (past passes x.0.1 ≡ Err (stop.At left)) ⊎ ((rest : List Terminal) × (past passes x.0.1 ≡ Ok rest) × (◌≡◌ {A = Result (Parsed × List Terminal) Stop} (Ok (x.0.0, rest)) (Err (stop.At left)))) → Begun (IsClosed closing) ts left
          by_close (inl e) =
              let t = h level.Disjunction ts x.0 x.1 in
              past_begun passes t.front ts x.0.1 (closing ∷ []) left e t.parts (t.front, refl, (x.0.0.expr, t.spells))
          by_close (inr rest) = absurd cc rest.2
