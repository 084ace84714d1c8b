-- The same of the rules of expressions.
use Rattle.std.proofs.Common.{◌≡◌, ◌⊎◌, ℕ, zero, suc, ◌+◌, ℤ, Bool, true, false, cond, List, [], ◌∷◌, ◌++◌, length, Option, Some, None, Result, Ok, Err, refl, sym, ap, ◌∙◌, subst, arith, append_assoc, inl, inr}
use Rattle.std.specs.Prelude.{max, nat_lt}
use Rattle.sql_syntax.specs.declared.keyword.Keyword.{Keyword}
use Rattle.sql_syntax.specs.declared.keyword.Keyword.TheVariants as keyword
use Rattle.sql_syntax.specs.declared.token.Sign.TheVariants as sign
use Rattle.sql_syntax.specs.declared.tree.Aggregate.{Aggregate}
use Rattle.sql_syntax.specs.declared.tree.Aggregate.TheVariants as aggregate
use Rattle.meaning.specs.declared.expr.ComparisonOperator.{ComparisonOperator}
use Rattle.sql_syntax.specs.declared.tree.Arm.{Arm}
use Rattle.sql_syntax.specs.declared.tree.Expr.{Expr}
use Rattle.sql_syntax.specs.declared.tree.Expr.TheVariants as expr
use Rattle.sql_syntax.specs.Words.{lower}
use Rattle.sql_syntax.specs.Tokens as terminal
use Rattle.sql_syntax.specs.Tokens.{Terminal}
use Rattle.sql_syntax.specs.declared.strength.Level.{Level}
use Rattle.sql_syntax.specs.declared.strength.Level.TheVariants as level
use Rattle.sql_syntax.specs.Strength.{compares}
use Rattle.sql_syntax.specs.Phrases.{word, mark, not_if, distinct_if, bracketed, aggregate_word, is_distinct, undoubled, heads_integer, Spells, negated, tested, minus, negative, column_of, rows, aggregated, first_of, chosen, in_brackets, Tests, compared, between, among, like, is_null, SpellsArms, last_arm, more_arms, SpellsElse, nothing, null, otherwise}
use Rattle.sql_expressions.specs.declared.parsed.Parsed.{Parsed}
use Rattle.sql_expressions.specs.declared.stop.Stop.{Stop}
use Rattle.sql_expressions.specs.declared.stop.Stop.TheVariants as stop
use Rattle.sql_expressions.specs.Rules as rule
use Rattle.sql_expressions.specs.Rules.{Reader, ◌>>=◌, choose, is_keyword, is_sign, behind, past, needed, first_is, comparison_of, begins_test, node, then_left, inner_at}
use Rattle.sql_expressions.proofs.Complete.{arm_of}
use Rattle.sql_expressions.proofs.Sound as sound
use Rattle.sql_expressions.proofs.Sound.{IsInner, word_taken, mark_taken, word_past, mark_past}
use Rattle.sql_expressions.proofs.Begun as begun
use Rattle.sql_expressions.proofs.Local as local
use Rattle.sql_expressions.proofs.Begun.{Begun, begun_here, begun_end, begun_as, begun_into, begun_before, IsOf, IsViable, AreViable, IsBracketed, filled, bind_err, choose_err, made_err, needed_err, behind_it, next_begun}

-- some tokens behind WHEN are arms
abbrev AreArms : List Terminal → Type 0
AreArms us = (arms : List Arm) × SpellsArms (word keyword.When ∷ us) arms

-- a condition, THEN and a value
abbrev IsArm : List Terminal → Type 0
IsArm us = (ts vs : List Terminal) × (us ≡ ts ++ word keyword.Then ∷ vs) × IsOf level.Disjunction ts × IsOf level.Disjunction vs

abbrev IsThen : List Terminal → Type 0
IsThen us = (vs : List Terminal) × (us ≡ word keyword.Then ∷ vs) × IsOf level.Disjunction vs

-- ELSE or nothing, and END
abbrev IsElse : List Terminal → Type 0
IsElse us = (ts : List Terminal) × (us ≡ ts ++ word keyword.End ∷ []) × ((o : Option Expr) × SpellsElse ts o)

-- AND and the bound behind it, and both bounds
abbrev IsHigh : List Terminal → Type 0
IsHigh us = (vs : List Terminal) × (us ≡ word keyword.And ∷ vs) × IsOf level.Sum vs

abbrev AreBounds : List Terminal → Type 0
AreBounds us = (ts vs : List Terminal) × (us ≡ ts ++ word keyword.And ∷ vs) × IsOf level.Sum ts × IsOf level.Sum vs

-- what may stand behind a predicate's subject
abbrev IsTest : Expr → List Terminal → Type 0
IsTest a us = (e : Expr) × Tests a us e

abbrev some_value : IsOf level.Disjunction (terminal.text [] ∷ [])
some_value = (expr.Text (undoubled []), filled level.Disjunction)

module _ (n : ℕ) (inner : Level → Reader) (h : IsInner n inner) (v : AreViable inner) where
  -- ---- CASE

  then_begun : (ts : List Terminal) (left : ℕ) → rule.then_of inner ts ≡ Err (stop.At left) → Begun IsThen ts left
  then_begun ts left e = turn (bind_err (past (is_keyword keyword.Then) ts) (λ (us : List Terminal). inner level.Disjunction us) (stop.At left) e)
    where
      turn : (past (is_keyword keyword.Then) ts ≡ Err (stop.At left)) ⊎ ((us : List Terminal) × (past (is_keyword keyword.Then) ts ≡ Ok us) × (inner level.Disjunction us ≡ Err (stop.At left))) → Begun IsThen ts left
      turn (inl e) = begun_here ts (word keyword.Then ∷ terminal.text [] ∷ []) left (needed_err ts (behind (is_keyword keyword.Then) ts) left e) (terminal.text [] ∷ [], refl, some_value)
      turn (inr us) = begun_into (λ us. word keyword.Then ∷ us) (word keyword.Then ∷ []) (λ us. refl) ts us.0 left (word_past keyword.Then ts us.0 us.1) (λ vs p. (vs, refl, p)) (v level.Disjunction us.0 left us.2)

  arm_begun : (ts : List Terminal) (left : ℕ) → rule.arm_of inner ts ≡ Err (stop.At left) → Begun IsArm ts left
  arm_begun ts left e = turn (bind_err (inner level.Disjunction ts) (λ (c : Parsed × List Terminal). rule.then_of inner c.1 >>= (λ w. Ok ((arm_of c.0.expr w.0.expr, max c.0.depth w.0.depth), w.1))) (stop.At left) e)
    where
      by_then : (c : Parsed × List Terminal) → inner level.Disjunction ts ≡ Ok c
          → (rule.then_of inner c.1 ≡ Err (stop.At left)) ⊎ ((w : Parsed × List Terminal) × (rule.then_of inner c.1 ≡ Ok w) × (◌≡◌ {A = Result ((Arm × ℕ) × List Terminal) Stop} (Ok ((arm_of c.0.expr w.0.expr, max c.0.depth w.0.depth), w.1)) (Err (stop.At left)))) → Begun IsArm ts left
      by_then c is (inl e) =
          let t = h level.Disjunction ts c is in
          begun_into (λ us. t.front ++ us) t.front (λ us. refl) ts c.1 left t.parts (λ vs p. (t.front, p.0, ap (λ (x : List Terminal). t.front ++ x) p.1, (c.0.expr, t.spells), p.2)) (then_begun c.1 left e)
      by_then c is (inr w) = absurd cc w.2

      turn : (inner level.Disjunction ts ≡ Err (stop.At left)) ⊎ ((c : Parsed × List Terminal) × (inner level.Disjunction ts ≡ Ok c) × (◌>>=◌ {B = (Arm × ℕ) × List Terminal} (rule.then_of inner c.1) (λ w. Ok ((arm_of c.0.expr w.0.expr, max c.0.depth w.0.depth), w.1)) ≡ Err (stop.At left))) → Begun IsArm ts left
      turn (inl e) = begun_before (word keyword.Then ∷ terminal.text [] ∷ []) ts left (λ vs p. (vs, terminal.text [] ∷ [], refl, p, some_value)) (v level.Disjunction ts left e)
      turn (inr c) = by_then c.0 c.1 (bind_err (rule.then_of inner c.0.1) (λ (w : Parsed × List Terminal). Ok ((arm_of c.0.0.expr w.0.expr, max c.0.0.depth w.0.depth), w.1)) (stop.At left) c.2)

  armed_begun : (before : rule.Cases) (ts : List Terminal) (left : ℕ) → rule.arm_at inner before ts ≡ Err (stop.At left) → Begun AreArms ts left
  armed_begun before ts left e = turn (bind_err (rule.arm_of inner ts) (λ (x : (Arm × ℕ) × List Terminal). Ok (rule.with_arm before x.0, x.1)) (stop.At left) e)
    where
      last_of : (us : List Terminal) → IsArm us → AreArms us
      last_of us p = subst AreArms (sym p.2) (arm_of p.3.0 p.4.0 ∷ [], last_arm p.3.1 p.4.1)

      turn : (rule.arm_of inner ts ≡ Err (stop.At left)) ⊎ ((x : (Arm × ℕ) × List Terminal) × (rule.arm_of inner ts ≡ Ok x) × (◌≡◌ {A = Result (rule.Cases × List Terminal) Stop} (Ok (rule.with_arm before x.0, x.1)) (Err (stop.At left)))) → Begun AreArms ts left
      turn (inl e) = begun_as ts left last_of (arm_begun ts left e)
      turn (inr x) = absurd cc x.2

  -- behind an arm and WHEN arms are begun
  more_armed : (ts us : List Terminal) (p : (Arm × ℕ) × List Terminal) (left : ℕ) → sound.TookArm n ts p → p.1 ≡ word keyword.When ∷ us → Begun AreArms us left → Begun AreArms ts left
  more_armed ts us p left t when b =
      begun_into (λ us. t.first_front ++ (word keyword.Then ∷ t.second_front ++ word keyword.When ∷ us)) (t.first_front ++ word keyword.Then ∷ (t.second_front ++ word keyword.When ∷ []))
      (λ us. ap (λ (w : List Terminal). t.first_front ++ (word keyword.Then ∷ w)) (behind_it t.second_front (word keyword.When) us) ∙ sym (append_assoc t.first_front (word keyword.Then ∷ (t.second_front ++ word keyword.When ∷ [])) us)) ts us left
      (t.parts ∙ ap (λ (w : List Terminal). t.first_front ++ (word keyword.Then ∷ t.second_front ++ w)) when) (λ vs q. (arm_of t.condition t.value ∷ q.0, more_arms t.first t.second q.1)) b

  cases_begun : (m : ℕ) (before : rule.Cases) (ts : List Terminal) (p : (Arm × ℕ) × List Terminal) (left : ℕ) → sound.TookArm n ts p → rule.more_arms m inner before p.1 ≡ Err (stop.At left) → Begun AreArms ts left
  cases_begun zero before ts p left t e = absurd cc
  cases_begun (suc m) before ts p left t e =
      turn (choose_err (behind (is_keyword keyword.When) p.1) (λ (us : List Terminal). rule.arm_at inner before us >>= (λ x. rule.more_arms m inner x.0 x.1)) (Ok (before, p.1)) (stop.At left) e) (λ kept us q t2 e2. cases_begun m kept us q left t2 e2)
    where
      by_arm : (us : List Terminal) → (rule.arm_at inner before us ≡ Err (stop.At left)) ⊎ ((x : rule.Cases × List Terminal) × (rule.arm_at inner before us ≡ Ok x) × (rule.more_arms m inner x.0 x.1 ≡ Err (stop.At left)))
          → ((kept : rule.Cases) (us : List Terminal) (q : (Arm × ℕ) × List Terminal) → sound.TookArm n us q → rule.more_arms m inner kept q.1 ≡ Err (stop.At left) → Begun AreArms us left) → Begun AreArms us left
      by_arm us (inl e) again = armed_begun before us left e
      by_arm us (inr x) again =
          let s = sound.bind_ok (rule.arm_of inner us) (λ (y : (Arm × ℕ) × List Terminal). Ok (rule.with_arm before y.0, y.1)) x.0 x.1 in
          let same : ◌≡◌ {A = rule.Cases × List Terminal} x.0 (rule.with_arm before s.0.0, s.0.1) = sym (cc s.2) in
          let stops : rule.more_arms m inner (rule.with_arm before s.0.0) s.0.1 ≡ Err (stop.At left) = subst (λ (y : rule.Cases × List Terminal). rule.more_arms m inner y.0 y.1 ≡ Err (stop.At left)) same x.2 in
          again (rule.with_arm before s.0.0) us s.0 (sound.arm_sound n inner h us s.0 s.1) stops

      turn : ((us : List Terminal) × (behind (is_keyword keyword.When) p.1 ≡ Some us) × ((rule.arm_at inner before us >>= (λ x. rule.more_arms m inner x.0 x.1)) ≡ Err (stop.At left)))
          ⊎ ((behind (is_keyword keyword.When) p.1 ≡ None) × (◌≡◌ {A = Result (rule.Cases × List Terminal) Stop} (Ok (before, p.1)) (Err (stop.At left))))
          → ((kept : rule.Cases) (us : List Terminal) (q : (Arm × ℕ) × List Terminal) → sound.TookArm n us q → rule.more_arms m inner kept q.1 ≡ Err (stop.At left) → Begun AreArms us left) → Begun AreArms ts left
      turn (inl q) again = more_armed ts q.0 p left t (word_taken keyword.When p.1 q.0 q.1) (by_arm q.0 (bind_err (rule.arm_at inner before q.0) (λ (x : rule.Cases × List Terminal). rule.more_arms m inner x.0 x.1) (stop.At left) q.2) again)
      turn (inr q) again = absurd cc q.1

  arms_begun : (before : rule.Cases) (ts : List Terminal) (left : ℕ) → rule.arms_at inner before ts ≡ Err (stop.At left) → Begun AreArms ts left
  arms_begun before ts left e = turn (bind_err (rule.arm_at inner before ts) (λ (x : rule.Cases × List Terminal). rule.more_arms (suc (length x.1)) inner x.0 x.1) (stop.At left) e)
    where
      turn : (rule.arm_at inner before ts ≡ Err (stop.At left)) ⊎ ((x : rule.Cases × List Terminal) × (rule.arm_at inner before ts ≡ Ok x) × (rule.more_arms (suc (length x.1)) inner x.0 x.1 ≡ Err (stop.At left))) → Begun AreArms ts left
      turn (inl e) = armed_begun before ts left e
      turn (inr x) =
          let s = sound.bind_ok (rule.arm_of inner ts) (λ (y : (Arm × ℕ) × List Terminal). Ok (rule.with_arm before y.0, y.1)) x.0 x.1 in
          let same : ◌≡◌ {A = rule.Cases × List Terminal} x.0 (rule.with_arm before s.0.0, s.0.1) = sym (cc s.2) in
          let stops : rule.more_arms (suc (length s.0.1)) inner (rule.with_arm before s.0.0) s.0.1 ≡ Err (stop.At left) = subst (λ (y : rule.Cases × List Terminal). rule.more_arms (suc (length y.1)) inner y.0 y.1 ≡ Err (stop.At left)) same x.2 in
          cases_begun (suc (length s.0.1)) (rule.with_arm before s.0.0) ts s.0 left (sound.arm_sound n inner h ts s.0 s.1) stops

  -- a value, and END
  abbrev valued : List Terminal → rule.Reads (Option Parsed)
  valued us = rule.before_of (is_keyword keyword.End) inner us >>= (λ w. Ok (Some w.0, w.1))

  valueless_begun : (front ts us : List Terminal) (left : ℕ) → SpellsElse front None → ts ≡ front ++ us → rule.without_value us ≡ Err (stop.At left) → Begun IsElse ts left
  valueless_begun front ts us left s parts e = turn (bind_err (past (is_keyword keyword.End) us) (λ (rest : List Terminal). Ok (None, rest)) (stop.At left) e)
    where
      turn : (past (is_keyword keyword.End) us ≡ Err (stop.At left)) ⊎ ((rest : List Terminal) × (past (is_keyword keyword.End) us ≡ Ok rest) × (◌≡◌ {A = Result (Option Parsed × List Terminal) Stop} (Ok (None, rest)) (Err (stop.At left)))) → Begun IsElse ts left
      turn (inl e) = begun_end front ts us (word keyword.End ∷ []) left parts (needed_err us (behind (is_keyword keyword.End) us) left e) (front, refl, (None, s))
      turn (inr rest) = absurd cc rest.2

  value_begun : (ts us : List Terminal) (left : ℕ) → ts ≡ word keyword.Else ∷ us → (valued us) ≡ Err (stop.At left) → Begun IsElse ts left
  value_begun ts us left parts e = turn (bind_err (rule.before_of (is_keyword keyword.End) inner us) (λ (w : Parsed × List Terminal). Ok (Some w.0, w.1)) (stop.At left) e)
    where
      turn : (rule.before_of (is_keyword keyword.End) inner us ≡ Err (stop.At left)) ⊎ ((w : Parsed × List Terminal) × (rule.before_of (is_keyword keyword.End) inner us ≡ Ok w) × (◌≡◌ {A = Result (Option Parsed × List Terminal) Stop} (Ok (Some w.0, w.1)) (Err (stop.At left)))) → Begun IsElse ts left
      turn (inl e) =
          begun_into (λ us. word keyword.Else ∷ us) (word keyword.Else ∷ []) (λ us. refl) ts us left parts (λ vs p. (word keyword.Else ∷ p.0, ap (λ (x : List Terminal). word keyword.Else ∷ x) p.1, (Some p.2.0, otherwise p.2.1)))
          (begun.closed_begun n inner h v (is_keyword keyword.End) (word keyword.End) us left e)
      turn (inr w) = absurd cc w.2

  else_begun : (ts : List Terminal) (left : ℕ) → rule.else_of inner ts ≡ Err (stop.At left) → Begun IsElse ts left
  else_begun ts left e =
      turn (choose_err (behind (is_keyword keyword.Else) ts) (λ (us : List Terminal). choose (behind (is_keyword keyword.Null) us) rule.without_value (valued us)) (rule.without_value ts) (stop.At left) e)
    where
      by_null : (us : List Terminal) → ts ≡ word keyword.Else ∷ us
          → ((vs : List Terminal) × (behind (is_keyword keyword.Null) us ≡ Some vs) × (rule.without_value vs ≡ Err (stop.At left))) ⊎ ((behind (is_keyword keyword.Null) us ≡ None) × ((valued us) ≡ Err (stop.At left))) → Begun IsElse ts left
      by_null us parts (inl p) = valueless_begun (word keyword.Else ∷ word keyword.Null ∷ []) ts p.0 left null (parts ∙ ap (λ (x : List Terminal). word keyword.Else ∷ x) (word_taken keyword.Null us p.0 p.1)) p.2
      by_null us parts (inr p) = value_begun ts us left parts p.1

      turn : ((us : List Terminal) × (behind (is_keyword keyword.Else) ts ≡ Some us) × (choose (behind (is_keyword keyword.Null) us) rule.without_value (valued us) ≡ Err (stop.At left)))
          ⊎ ((behind (is_keyword keyword.Else) ts ≡ None) × (rule.without_value ts ≡ Err (stop.At left))) → Begun IsElse ts left
      turn (inl p) = by_null p.0 (word_taken keyword.Else ts p.0 p.1) (choose_err (behind (is_keyword keyword.Null) p.0) rule.without_value (valued p.0) (stop.At left) p.2)
      turn (inr p) = valueless_begun [] ts ts left nothing refl p.1

  case_err : (cs : rule.Cases) (o : Option Parsed) (rest : List Terminal) (left : ℕ) → then_left (rule.case_node 128 cs o) rest ≡ Err (stop.At left) → ⊥
  case_err cs None rest left e = made_err cs.deepest (expr.Case cs.arms None) rest left e
  case_err cs (Some w) rest left e = made_err (max cs.deepest w.depth) (expr.Case cs.arms (Some w.expr)) rest left e

  -- behind CASE
  pub case_begun : (ts : List Terminal) (left : ℕ) → rule.case_of 128 n inner ts ≡ Err (stop.At left) → Begun (IsOf level.Primary) (word keyword.Case ∷ ts) left
  case_begun ts left e =
      by_when (bind_err (past (is_keyword keyword.When) ts) (λ (us : List Terminal). rule.arms_at inner none us >>= (λ cs. rule.else_of inner cs.1 >>= (λ w. then_left (rule.case_node 128 cs.0 w.0) w.1))) (stop.At left) e)
    where
      none : rule.Cases
      none = record { arms = []; deepest = 0 }

      by_else : (us : List Terminal) (cs : rule.Cases × List Terminal) → ts ≡ word keyword.When ∷ us → rule.arms_at inner none us ≡ Ok cs
          → (rule.else_of inner cs.1 ≡ Err (stop.At left)) ⊎ ((w : Option Parsed × List Terminal) × (rule.else_of inner cs.1 ≡ Ok w) × (then_left (rule.case_node 128 cs.0 w.0) w.1 ≡ Err (stop.At left))) → Begun (IsOf level.Primary) (word keyword.Case ∷ ts) left
      by_else us cs parts is (inl e) =
          let a = sound.arms_sound n inner h none us cs is in
          begun_into (λ us. word keyword.Case ∷ a.front ++ us) (word keyword.Case ∷ a.front) (λ us. refl) (word keyword.Case ∷ ts) cs.1 left (ap (λ (x : List Terminal). word keyword.Case ∷ x) (parts ∙ a.parts))
          (λ vs p. (expr.Case a.arms p.2.0, subst (λ (x : List Terminal). Spells level.Primary (word keyword.Case ∷ a.front ++ x) (expr.Case a.arms p.2.0)) (sym p.1) (chosen a.spells p.2.1))) (else_begun cs.1 left e)
      by_else us cs parts is (inr w) = absurd (case_err cs.0 w.0.0 w.0.1 left w.2)

      by_arms : (us : List Terminal) → ts ≡ word keyword.When ∷ us
          → (rule.arms_at inner none us ≡ Err (stop.At left)) ⊎ ((cs : rule.Cases × List Terminal) × (rule.arms_at inner none us ≡ Ok cs) × ((rule.else_of inner cs.1 >>= (λ w. then_left (rule.case_node 128 cs.0 w.0) w.1)) ≡ Err (stop.At left))) → Begun (IsOf level.Primary) (word keyword.Case ∷ ts) left
      by_arms us parts (inl e) =
          begun_into (λ us. word keyword.Case ∷ word keyword.When ∷ us) (word keyword.Case ∷ word keyword.When ∷ []) (λ us. refl) (word keyword.Case ∷ ts) us left (ap (λ (x : List Terminal). word keyword.Case ∷ x) parts)
          (λ vs p. (expr.Case p.2.0 None, subst (λ (x : List Terminal). Spells level.Primary (word keyword.Case ∷ x) (expr.Case p.2.0 None)) (sym (ap (λ (x : List Terminal). word keyword.When ∷ x) p.1)) (chosen p.2.1 nothing)))
          (begun_before {IsPart = AreArms} {IsSpelled = λ us. (ts : List Terminal) × (us ≡ ts ++ word keyword.End ∷ []) × AreArms ts} (word keyword.End ∷ []) us left (λ vs p. (vs, refl, p)) (arms_begun none us left e))
      by_arms us parts (inr cs) = by_else us cs.0 parts cs.1 (bind_err (rule.else_of inner cs.0.1) (λ (w : Option Parsed × List Terminal). then_left (rule.case_node 128 cs.0.0 w.0) w.1) (stop.At left) cs.2)

      by_when : (past (is_keyword keyword.When) ts ≡ Err (stop.At left))
          ⊎ ((us : List Terminal) × (past (is_keyword keyword.When) ts ≡ Ok us) × ((rule.arms_at inner none us >>= (λ cs. rule.else_of inner cs.1 >>= (λ w. then_left (rule.case_node 128 cs.0 w.0) w.1))) ≡ Err (stop.At left))) → Begun (IsOf level.Primary) (word keyword.Case ∷ ts) left
      by_when (inl e) =
          begun_end (word keyword.Case ∷ []) (word keyword.Case ∷ ts) ts (word keyword.When ∷ terminal.text [] ∷ word keyword.Then ∷ terminal.text [] ∷ word keyword.End ∷ []) left refl (needed_err ts (behind (is_keyword keyword.When) ts) left e)
          (_, chosen (last_arm (filled level.Disjunction) (filled level.Disjunction)) nothing)
      by_when (inr us) = by_arms us.0 (word_past keyword.When ts us.0 us.1) (bind_err (rule.arms_at inner none us.0) (λ (cs : rule.Cases × List Terminal). rule.else_of inner cs.1 >>= (λ w. then_left (rule.case_node 128 cs.0 w.0) w.1)) (stop.At left) us.2)

  -- ---- aggregates and COALESCE

  argument_begun : (k : Aggregate) (us : List Terminal) (left : ℕ) → rule.argument_of 128 n inner k us ≡ Err (stop.At left) → Begun (IsOf level.Primary) (word (aggregate_word k) ∷ mark sign.Open ∷ distinct_if (is_distinct k) ++ us) left
  argument_begun k us left e = turn (bind_err (rule.before_of (is_sign sign.Close) inner us) (λ (a : Parsed × List Terminal). then_left (node 128 a.0.depth (expr.Aggregate k a.0.expr)) a.1) (stop.At left) e)
    where
      distinct : List Terminal
      distinct = distinct_if (is_distinct k)

      turn : (rule.before_of (is_sign sign.Close) inner us ≡ Err (stop.At left)) ⊎ ((a : Parsed × List Terminal) × (rule.before_of (is_sign sign.Close) inner us ≡ Ok a) × (then_left (node 128 a.0.depth (expr.Aggregate k a.0.expr)) a.1 ≡ Err (stop.At left)))
          → Begun (IsOf level.Primary) (word (aggregate_word k) ∷ mark sign.Open ∷ distinct ++ us) left
      turn (inl e) =
          begun_into (λ us. word (aggregate_word k) ∷ mark sign.Open ∷ distinct ++ us) (word (aggregate_word k) ∷ mark sign.Open ∷ distinct) (λ us. refl) (word (aggregate_word k) ∷ mark sign.Open ∷ distinct ++ us) us left refl
          (λ vs p. (expr.Aggregate k p.2.0, subst (λ (x : List Terminal). Spells level.Primary (word (aggregate_word k) ∷ mark sign.Open ∷ x) (expr.Aggregate k p.2.0)) (append_assoc distinct p.0 (mark sign.Close ∷ []) ∙ ap (λ (x : List Terminal). distinct ++ x) (sym p.1)) (aggregated k p.2.1)))
          (begun.closed_begun n inner h v (is_sign sign.Close) (mark sign.Close) us left e)
      turn (inr a) = absurd (made_err a.0.0.depth (expr.Aggregate k a.0.0.expr) a.0.1 left a.2)

  inside_begun : (k : Aggregate) (us : List Terminal) (left : ℕ) → is_distinct k ≡ false → rule.inside_of 128 n inner k us ≡ Err (stop.At left) → Begun (IsOf level.Primary) (word (aggregate_word k) ∷ mark sign.Open ∷ us) left
  inside_begun k us left plain e = turn (choose_err (rule.behind_distinct k us) (λ (d : Aggregate × List Terminal). rule.argument_of 128 n inner d.0 d.1) (rule.argument_of 128 n inner k us) (stop.At left) e)
    where
      turn : ((d : Aggregate × List Terminal) × (rule.behind_distinct k us ≡ Some d) × (rule.argument_of 128 n inner d.0 d.1 ≡ Err (stop.At left))) ⊎ ((rule.behind_distinct k us ≡ None) × (rule.argument_of 128 n inner k us ≡ Err (stop.At left)))
          → Begun (IsOf level.Primary) (word (aggregate_word k) ∷ mark sign.Open ∷ us) left
      turn (inl d) =
          let s = sound.distinct_taken k us d.0 d.1 in
          let same : word (aggregate_word k) ∷ mark sign.Open ∷ us ≡ word (aggregate_word d.0.0) ∷ mark sign.Open ∷ distinct_if (is_distinct d.0.0) ++ d.0.1 = (λ i. word (s.0 i) ∷ mark sign.Open ∷ s.1 i) in
          subst (λ (x : List Terminal). Begun (IsOf level.Primary) x left) (sym same) (argument_begun d.0.0 d.0.1 left d.2)
      turn (inr p) = subst (λ b. Begun (IsOf level.Primary) (word (aggregate_word k) ∷ mark sign.Open ∷ distinct_if b ++ us) left) plain (argument_begun k us left p.1)

  rows_begun : (ts vs : List Terminal) (left : ℕ) → ts ≡ word keyword.Count ∷ mark sign.Open ∷ mark sign.Star ∷ vs → rule.rows_of n vs ≡ Err (stop.At left) → Begun (IsOf level.Primary) ts left
  rows_begun ts vs left parts e = turn (bind_err (past (is_sign sign.Close) vs) (λ (rest : List Terminal). if_left (nat_lt 0 n) rest) (stop.At left) e)
    where
      if_left : Bool → List Terminal → Result (Parsed × List Terminal) Stop
      if_left b rest = cond b (Ok (rule.leaf expr.CountRows, rest)) (Err stop.TooDeep)

      never : (b : Bool) (rest : List Terminal) → if_left b rest ≡ Err (stop.At left) → ⊥
      never true rest e = absurd cc e
      never false rest e = absurd cc e

      turn : (past (is_sign sign.Close) vs ≡ Err (stop.At left)) ⊎ ((rest : List Terminal) × (past (is_sign sign.Close) vs ≡ Ok rest) × (if_left (nat_lt 0 n) rest ≡ Err (stop.At left))) → Begun (IsOf level.Primary) ts left
      turn (inl e) = begun_end (word keyword.Count ∷ mark sign.Open ∷ mark sign.Star ∷ []) ts vs (mark sign.Close ∷ []) left parts (needed_err vs (behind (is_sign sign.Close) vs) left e) (expr.CountRows, rows)
      turn (inr rest) = absurd (never (nat_lt 0 n) rest.0 rest.2)

  aggregate_begun : (k : Aggregate) (ts : List Terminal) (left : ℕ) → is_distinct k ≡ false → rule.aggregate_at 128 n inner k ts ≡ Err (stop.At left) → Begun (IsOf level.Primary) (word (aggregate_word k) ∷ ts) left
  aggregate_begun k ts left plain e = turn (bind_err (past (is_sign sign.Open) ts) (λ (us : List Terminal). choose (rule.behind_star k us) (rule.rows_of n) (rule.inside_of 128 n inner k us)) (stop.At left) e)
    where
      by_star : (us : List Terminal) → ts ≡ mark sign.Open ∷ us → ((vs : List Terminal) × (rule.behind_star k us ≡ Some vs) × (rule.rows_of n vs ≡ Err (stop.At left))) ⊎ ((rule.behind_star k us ≡ None) × (rule.inside_of 128 n inner k us ≡ Err (stop.At left)))
          → Begun (IsOf level.Primary) (word (aggregate_word k) ∷ ts) left
      by_star us parts (inl p) =
          let s = sound.star_taken k us p.0 p.1 in
          rows_begun (word (aggregate_word k) ∷ ts) p.0 left (ap (λ (x : List Terminal). word (aggregate_word k) ∷ x) (parts ∙ ap (λ (x : List Terminal). mark sign.Open ∷ x) s.1) ∙ ap (λ (a : Aggregate). word (aggregate_word a) ∷ mark sign.Open ∷ mark sign.Star ∷ p.0) s.0) p.2
      by_star us parts (inr p) = subst (λ (x : List Terminal). Begun (IsOf level.Primary) (word (aggregate_word k) ∷ x) left) (sym parts) (inside_begun k us left plain p.1)

      turn : (past (is_sign sign.Open) ts ≡ Err (stop.At left)) ⊎ ((us : List Terminal) × (past (is_sign sign.Open) ts ≡ Ok us) × (choose (rule.behind_star k us) (rule.rows_of n) (rule.inside_of 128 n inner k us) ≡ Err (stop.At left))) → Begun (IsOf level.Primary) (word (aggregate_word k) ∷ ts) left
      turn (inl e) =
          begun_end (word (aggregate_word k) ∷ []) (word (aggregate_word k) ∷ ts) ts (bracketed (distinct_if (is_distinct k) ++ terminal.text [] ∷ [])) left refl (needed_err ts (behind (is_sign sign.Open) ts) left e)
          (expr.Aggregate k (expr.Text (undoubled [])), aggregated k (filled level.Disjunction))
      turn (inr us) = by_star us.0 (mark_past sign.Open ts us.0 us.1) (choose_err (rule.behind_star k us.0) (rule.rows_of n) (rule.inside_of 128 n inner k us.0) (stop.At left) us.2)

  coalesce_begun : (ts : List Terminal) (left : ℕ) → rule.coalesce_of 128 n inner ts ≡ Err (stop.At left) → Begun (IsOf level.Primary) (word keyword.Coalesce ∷ ts) left
  coalesce_begun ts left e = turn (bind_err (rule.bracketed_list inner ts) (λ (es : rule.Listed × List Terminal). then_left (node 128 es.0.deepest (expr.Coalesce es.0.exprs)) es.1) (stop.At left) e)
    where
      turn : (rule.bracketed_list inner ts ≡ Err (stop.At left)) ⊎ ((es : rule.Listed × List Terminal) × (rule.bracketed_list inner ts ≡ Ok es) × (then_left (node 128 es.0.deepest (expr.Coalesce es.0.exprs)) es.1 ≡ Err (stop.At left))) → Begun (IsOf level.Primary) (word keyword.Coalesce ∷ ts) left
      turn (inl e) =
          begun_into (λ us. word keyword.Coalesce ∷ us) (word keyword.Coalesce ∷ []) (λ us. refl) (word keyword.Coalesce ∷ ts) ts left refl
          (λ vs p. (expr.Coalesce p.2.0, subst (λ (x : List Terminal). Spells level.Primary (word keyword.Coalesce ∷ x) (expr.Coalesce p.2.0)) (sym p.1) (first_of p.2.1))) (begun.bracketed_begun n inner h v ts left e)
      turn (inr es) = absurd (made_err es.0.0.deepest (expr.Coalesce es.0.0.exprs) es.0.1 left es.2)

  call_begun : (k : Keyword) (ts : List Terminal) (left : ℕ) → rule.call_of 128 n inner k ts ≡ Err (stop.At left) → Begun (IsOf level.Primary) (word k ∷ ts) left
  call_begun keyword.Case ts left e = case_begun ts left e
  call_begun keyword.Coalesce ts left e = coalesce_begun ts left e
  call_begun keyword.Count ts left e = aggregate_begun aggregate.Count ts left refl e
  call_begun keyword.Sum ts left e = aggregate_begun aggregate.Sum ts left refl e
  call_begun keyword.Min ts left e = aggregate_begun aggregate.Min ts left refl e
  call_begun keyword.Max ts left e = aggregate_begun aggregate.Max ts left refl e
  call_begun keyword.Avg ts left e = aggregate_begun aggregate.Average ts left refl e
  call_begun k ts left e = begun_here (word k ∷ ts) (terminal.text [] ∷ []) left (cc e) (expr.Text (undoubled []), filled level.Primary)

  -- ---- columns, and what a token alone begins

  column_begun : (m : List ℕ) (ts : List Terminal) (left : ℕ) → rule.column_at (terminal.name m ∷ ts) ≡ Err (stop.At left) → Begun (IsOf level.Primary) (terminal.name m ∷ ts) left
  column_begun m ts left e = turn (choose_err (behind (is_sign sign.Dot) ts) (rule.column_of (lower m)) (Ok (rule.leaf (expr.Column None (lower m)), ts)) (stop.At left) e)
    where
      by_name : (vs : List Terminal) → ts ≡ mark sign.Dot ∷ vs → (rule.name_at vs ≡ Err (stop.At left)) ⊎ ((x : List ℕ × List Terminal) × (rule.name_at vs ≡ Ok x) × (◌≡◌ {A = Result (Parsed × List Terminal) Stop} (Ok (rule.leaf (expr.Column (Some (lower m)) x.0), x.1)) (Err (stop.At left))))
          → Begun (IsOf level.Primary) (terminal.name m ∷ ts) left
      by_name vs parts (inl e) =
          begun_end (terminal.name m ∷ mark sign.Dot ∷ []) (terminal.name m ∷ ts) vs (terminal.name [] ∷ []) left (ap (λ (x : List Terminal). terminal.name m ∷ x) parts) (needed_err vs (first_is local.name_of vs) left (sym (local.name_is vs) ∙ e)) (_, column_of m [])
      by_name vs parts (inr x) = absurd cc x.2

      turn : ((vs : List Terminal) × (behind (is_sign sign.Dot) ts ≡ Some vs) × (rule.column_of (lower m) vs ≡ Err (stop.At left))) ⊎ ((behind (is_sign sign.Dot) ts ≡ None) × (◌≡◌ {A = Result (Parsed × List Terminal) Stop} (Ok (rule.leaf (expr.Column None (lower m)), ts)) (Err (stop.At left))))
          → Begun (IsOf level.Primary) (terminal.name m ∷ ts) left
      turn (inl p) = by_name p.0 (mark_taken sign.Dot ts p.0 p.1) (bind_err (rule.name_at p.0) (λ (x : List ℕ × List Terminal). Ok (rule.leaf (expr.Column (Some (lower m)) x.0), x.1)) (stop.At left) p.2)
      turn (inr p) = absurd cc p.1

  primary_begun : IsViable level.Primary (rule.primary_of 128 n inner)
  primary_begun [] left e = begun_here [] (terminal.text [] ∷ []) left (cc e) (expr.Text (undoubled []), filled level.Primary)
  primary_begun (terminal.text t ∷ ts) left e = absurd cc e
  primary_begun (terminal.name m ∷ ts) left e = column_begun m ts left e
  primary_begun (terminal.keyword k ∷ ts) left e = call_begun k ts left e
  primary_begun (terminal.sign_is sign.Open ∷ ts) left e =
      begun_into (λ us. mark sign.Open ∷ us) (mark sign.Open ∷ []) (λ us. refl) (mark sign.Open ∷ ts) ts left refl
      (λ vs p. (p.2.0, subst (λ (x : List Terminal). Spells level.Primary (mark sign.Open ∷ x) p.2.0) (sym p.1) (in_brackets p.2.1))) (begun.closed_begun n inner h v (is_sign sign.Close) (mark sign.Close) ts left e)
  primary_begun (t ∷ ts) left e = begun_here (t ∷ ts) (terminal.text [] ∷ []) left (cc e) (expr.Text (undoubled []), filled level.Primary)

  -- ---- a minus, and integers

  operand_begun : (ts : List Terminal) (left : ℕ) → first_is rule.digits_of ts ≡ None → Begun (IsOf level.Factor) ts left → Begun (IsOf level.Factor) (mark sign.Minus ∷ ts) left
  operand_begun ts left none b = by_front b.front b.parts b.spelled
    where
      heads_same : (t : Terminal) (us vs : List Terminal) → heads_integer (t ∷ us) ≡ false → heads_integer (t ∷ vs) ≡ false
      heads_same (terminal.keyword k) us vs e = refl
      heads_same (terminal.name m) us vs e = refl
      heads_same (terminal.integer m) us vs e = absurd cc e
      heads_same (terminal.text t) us vs e = refl
      heads_same (terminal.sign_is s) us vs e = refl
      heads_same (terminal.left_out w) us vs e = refl
      heads_same terminal.out_of_range us vs e = refl
      heads_same terminal.not_closed us vs e = refl
      heads_same terminal.unknown us vs e = refl

      by_front : (front : List Terminal) → ts ≡ front ++ b.rest → IsOf level.Factor (front ++ b.further) → Begun (IsOf level.Factor) (mark sign.Minus ∷ ts) left
      by_front [] parts spelled =
          begun_end (mark sign.Minus ∷ []) (mark sign.Minus ∷ ts) b.rest (terminal.text [] ∷ []) left (ap (λ (x : List Terminal). mark sign.Minus ∷ x) parts) b.counts (_, minus refl (filled level.Factor))
      by_front (t ∷ front) parts spelled =
          let plain : heads_integer (t ∷ front) ≡ false = sound.no_integer (t ∷ front) b.rest (ap (first_is rule.digits_of) (sym parts) ∙ none) in
          begun_end (mark sign.Minus ∷ t ∷ front) (mark sign.Minus ∷ ts) b.rest b.further left (ap (λ (x : List Terminal). mark sign.Minus ∷ x) parts) b.counts (expr.Minus spelled.0, minus (heads_same t front (front ++ b.further) plain) spelled.1)

  minus_begun : (ts : List Terminal) (left : ℕ) → rule.minus_of 128 n inner ts ≡ Err (stop.At left) → Begun (IsOf level.Factor) (mark sign.Minus ∷ ts) left
  minus_begun ts left e =
      turn (choose_err (first_is rule.digits_of ts) (λ (k : ℕ × List Terminal). needed ts (rule.negative k.0) >>= (λ z. Ok (rule.leaf (expr.Integer z), k.1))) (inner level.Factor ts >>= (λ a. then_left (node 128 a.0.depth (expr.Minus a.0.expr)) a.1)) (stop.At left) e)
    where
      by_digits : (k : ℕ × List Terminal) → (needed ts (rule.negative k.0) ≡ Err (stop.At left)) ⊎ ((z : ℤ) × (needed ts (rule.negative k.0) ≡ Ok z) × (◌≡◌ {A = Result (Parsed × List Terminal) Stop} (Ok (rule.leaf (expr.Integer z), k.1)) (Err (stop.At left)))) → Begun (IsOf level.Factor) (mark sign.Minus ∷ ts) left
      by_digits k (inl e) = begun_end (mark sign.Minus ∷ []) (mark sign.Minus ∷ ts) ts (terminal.integer 0 ∷ []) left refl (needed_err ts (rule.negative k.0) left e) (_, negative 0 (omega arith))
      by_digits k (inr z) = absurd cc z.2

      by_inner : first_is rule.digits_of ts ≡ None → (inner level.Factor ts ≡ Err (stop.At left)) ⊎ ((a : Parsed × List Terminal) × (inner level.Factor ts ≡ Ok a) × (then_left (node 128 a.0.depth (expr.Minus a.0.expr)) a.1 ≡ Err (stop.At left))) → Begun (IsOf level.Factor) (mark sign.Minus ∷ ts) left
      by_inner none (inl e) = operand_begun ts left none (v level.Factor ts left e)
      by_inner none (inr a) = absurd (made_err a.0.0.depth (expr.Minus a.0.0.expr) a.0.1 left a.2)

      turn : ((k : ℕ × List Terminal) × (first_is rule.digits_of ts ≡ Some k) × (◌>>=◌ {B = Parsed × List Terminal} (needed ts (rule.negative k.0)) (λ z. Ok (rule.leaf (expr.Integer z), k.1)) ≡ Err (stop.At left)))
          ⊎ ((first_is rule.digits_of ts ≡ None) × ((inner level.Factor ts >>= (λ a. then_left (node 128 a.0.depth (expr.Minus a.0.expr)) a.1)) ≡ Err (stop.At left))) → Begun (IsOf level.Factor) (mark sign.Minus ∷ ts) left
      turn (inl k) = by_digits k.0 (bind_err (needed ts (rule.negative k.0.0)) (λ (z : ℤ). Ok (rule.leaf (expr.Integer z), k.0.1)) (stop.At left) k.2)
      turn (inr p) = by_inner p.0 (bind_err (inner level.Factor ts) (λ (a : Parsed × List Terminal). then_left (node 128 a.0.depth (expr.Minus a.0.expr)) a.1) (stop.At left) p.1)

  integer_begun : (k : ℕ) (ts : List Terminal) (left : ℕ) → rule.factor_of 128 n inner (terminal.integer k ∷ ts) ≡ Err (stop.At left) → Begun (IsOf level.Factor) (terminal.integer k ∷ ts) left
  integer_begun k ts left e = turn (bind_err (needed (terminal.integer k ∷ ts) (rule.positive k)) (λ (z : ℤ). Ok (rule.leaf (expr.Integer z), ts)) (stop.At left) e)
    where
      turn : (needed (terminal.integer k ∷ ts) (rule.positive k) ≡ Err (stop.At left)) ⊎ ((z : ℤ) × (needed (terminal.integer k ∷ ts) (rule.positive k) ≡ Ok z) × (◌≡◌ {A = Result (Parsed × List Terminal) Stop} (Ok (rule.leaf (expr.Integer z), ts)) (Err (stop.At left)))) → Begun (IsOf level.Factor) (terminal.integer k ∷ ts) left
      turn (inl e) = begun_here (terminal.integer k ∷ ts) (terminal.text [] ∷ []) left (needed_err (terminal.integer k ∷ ts) (rule.positive k) left e) (_, filled level.Factor)
      turn (inr z) = absurd cc z.2

  factor_begun : IsViable level.Factor (rule.factor_of 128 n inner)
  factor_begun [] left e = begun_here [] (terminal.text [] ∷ []) left (cc e) (_, filled level.Factor)
  factor_begun (terminal.sign_is sign.Minus ∷ ts) left e = minus_begun ts left e
  factor_begun (terminal.integer k ∷ ts) left e = integer_begun k ts left e
  factor_begun (t ∷ ts) left e = next_begun level.Factor (t ∷ ts) left (primary_begun (t ∷ ts) left e)

  term_begun : IsViable level.Term (rule.term_of 128 n inner)
  term_begun = begun.chain_begun n level.Term (rule.factor_of 128 n inner) (sound.factor_sound n inner h) factor_begun

  sum_begun : IsViable level.Sum (rule.sum_of 128 n inner)
  sum_begun = begun.chain_begun n level.Sum (rule.term_of 128 n inner) (sound.term_sound n inner h) term_begun

  -- ---- tests

  compare_begun : (a : Expr) (p : Parsed) (op : ComparisonOperator) (us ts : List Terminal) (left : ℕ) → us ≡ mark (compares op) ∷ ts → rule.compare_of 128 n inner p op ts ≡ Err (stop.At left) → Begun (IsTest a) us left
  compare_begun a p op us ts left parts e = turn (bind_err (rule.sum_of 128 n inner ts) (λ (b : Parsed × List Terminal). then_left (node 128 (max p.depth b.0.depth) (expr.Compare op p.expr b.0.expr)) b.1) (stop.At left) e)
    where
      turn : (rule.sum_of 128 n inner ts ≡ Err (stop.At left)) ⊎ ((b : Parsed × List Terminal) × (rule.sum_of 128 n inner ts ≡ Ok b) × (then_left (node 128 (max p.depth b.0.depth) (expr.Compare op p.expr b.0.expr)) b.1 ≡ Err (stop.At left))) → Begun (IsTest a) us left
      turn (inl e) = begun_into (λ us. mark (compares op) ∷ us) (mark (compares op) ∷ []) (λ us. refl) us ts left parts (λ vs b. (expr.Compare op a b.0, compared op b.1)) (sum_begun ts left e)
      turn (inr b) = absurd (made_err (max p.depth b.0.0.depth) (expr.Compare op p.expr b.0.0.expr) b.0.1 left b.2)

  high_begun : (ts : List Terminal) (left : ℕ) → rule.high_of 128 n inner ts ≡ Err (stop.At left) → Begun IsHigh ts left
  high_begun ts left e = turn (bind_err (past (is_keyword keyword.And) ts) (λ (us : List Terminal). rule.sum_of 128 n inner us) (stop.At left) e)
    where
      turn : (past (is_keyword keyword.And) ts ≡ Err (stop.At left)) ⊎ ((us : List Terminal) × (past (is_keyword keyword.And) ts ≡ Ok us) × (rule.sum_of 128 n inner us ≡ Err (stop.At left))) → Begun IsHigh ts left
      turn (inl e) = begun_here ts (word keyword.And ∷ terminal.text [] ∷ []) left (needed_err ts (behind (is_keyword keyword.And) ts) left e) (terminal.text [] ∷ [], refl, (expr.Text (undoubled []), filled level.Sum))
      turn (inr us) = begun_into (λ us. word keyword.And ∷ us) (word keyword.And ∷ []) (λ us. refl) ts us.0 left (word_past keyword.And ts us.0 us.1) (λ vs p. (vs, refl, p)) (sum_begun us.0 left us.2)

  bounds_begun : (ts : List Terminal) (left : ℕ) → rule.bounds_of 128 n inner ts ≡ Err (stop.At left) → Begun AreBounds ts left
  bounds_begun ts left e = turn (bind_err (rule.sum_of 128 n inner ts) (λ (low : Parsed × List Terminal). rule.high_of 128 n inner low.1 >>= (λ high. Ok ((low.0, high.0), high.1))) (stop.At left) e)
    where
      by_high : (low : Parsed × List Terminal) → rule.sum_of 128 n inner ts ≡ Ok low
          → (rule.high_of 128 n inner low.1 ≡ Err (stop.At left)) ⊎ ((high : Parsed × List Terminal) × (rule.high_of 128 n inner low.1 ≡ Ok high) × (◌≡◌ {A = Result ((Parsed × Parsed) × List Terminal) Stop} (Ok ((low.0, high.0), high.1)) (Err (stop.At left)))) → Begun AreBounds ts left
      by_high low is (inl e) =
          let t = sound.sum_sound n inner h ts low is in
          begun_into (λ us. t.front ++ us) t.front (λ us. refl) ts low.1 left t.parts (λ vs p. (t.front, p.0, ap (λ (x : List Terminal). t.front ++ x) p.1, (low.0.expr, t.spells), p.2)) (high_begun low.1 left e)
      by_high low is (inr high) = absurd cc high.2

      turn : (rule.sum_of 128 n inner ts ≡ Err (stop.At left)) ⊎ ((low : Parsed × List Terminal) × (rule.sum_of 128 n inner ts ≡ Ok low) × (◌>>=◌ {B = (Parsed × Parsed) × List Terminal} (rule.high_of 128 n inner low.1) (λ high. Ok ((low.0, high.0), high.1)) ≡ Err (stop.At left))) → Begun AreBounds ts left
      turn (inl e) = begun_before (word keyword.And ∷ terminal.text [] ∷ []) ts left (λ vs p. (vs, terminal.text [] ∷ [], refl, p, (expr.Text (undoubled []), filled level.Sum))) (sum_begun ts left e)
      turn (inr low) = by_high low.0 low.1 (bind_err (rule.high_of 128 n inner low.0.1) (λ (high : Parsed × List Terminal). Ok ((low.0.0, high.0), high.1)) (stop.At left) low.2)

  between_begun : (a : Expr) (p : Parsed) (not : Bool) (us ts : List Terminal) (left : ℕ) → us ≡ not_if not ++ word keyword.Between ∷ ts → rule.between_of 128 n inner p not ts ≡ Err (stop.At left) → Begun (IsTest a) us left
  between_begun a p not us ts left parts e =
      turn (bind_err (rule.bounds_of 128 n inner ts) (λ (b : (Parsed × Parsed) × List Terminal). then_left (node 128 (max p.depth (max b.0.0.depth b.0.1.depth)) (expr.Between not p.expr b.0.0.expr b.0.1.expr)) b.1) (stop.At left) e)
    where
      spelled : (vs : List Terminal) → AreBounds vs → IsTest a (not_if not ++ word keyword.Between ∷ vs)
      spelled vs b = (expr.Between not a b.3.0 b.4.0, subst (λ (x : List Terminal). Tests a (not_if not ++ word keyword.Between ∷ x) (expr.Between not a b.3.0 b.4.0)) (sym b.2) (between not b.3.1 b.4.1))

      turn : (rule.bounds_of 128 n inner ts ≡ Err (stop.At left)) ⊎ ((b : (Parsed × Parsed) × List Terminal) × (rule.bounds_of 128 n inner ts ≡ Ok b) × (then_left (node 128 (max p.depth (max b.0.0.depth b.0.1.depth)) (expr.Between not p.expr b.0.0.expr b.0.1.expr)) b.1 ≡ Err (stop.At left)))
          → Begun (IsTest a) us left
      turn (inl e) = begun_into (λ vs. not_if not ++ word keyword.Between ∷ vs) (not_if not ++ word keyword.Between ∷ []) (behind_it (not_if not) (word keyword.Between)) us ts left parts spelled (bounds_begun ts left e)
      turn (inr b) = absurd (made_err (max p.depth (max b.0.0.0.depth b.0.0.1.depth)) (expr.Between not p.expr b.0.0.0.expr b.0.0.1.expr) b.0.1 left b.2)

  in_begun : (a : Expr) (p : Parsed) (not : Bool) (us ts : List Terminal) (left : ℕ) → us ≡ not_if not ++ word keyword.In ∷ ts → rule.in_of 128 n inner p not ts ≡ Err (stop.At left) → Begun (IsTest a) us left
  in_begun a p not us ts left parts e = turn (bind_err (rule.bracketed_list inner ts) (λ (es : rule.Listed × List Terminal). then_left (node 128 (max p.depth es.0.deepest) (expr.In not p.expr es.0.exprs)) es.1) (stop.At left) e)
    where
      spelled : (vs : List Terminal) → IsBracketed vs → IsTest a (not_if not ++ word keyword.In ∷ vs)
      spelled vs b = (expr.In not a b.2.0, subst (λ (x : List Terminal). Tests a (not_if not ++ word keyword.In ∷ x) (expr.In not a b.2.0)) (sym b.1) (among not b.2.1))

      turn : (rule.bracketed_list inner ts ≡ Err (stop.At left)) ⊎ ((es : rule.Listed × List Terminal) × (rule.bracketed_list inner ts ≡ Ok es) × (then_left (node 128 (max p.depth es.0.deepest) (expr.In not p.expr es.0.exprs)) es.1 ≡ Err (stop.At left))) → Begun (IsTest a) us left
      turn (inl e) = begun_into (λ vs. not_if not ++ word keyword.In ∷ vs) (not_if not ++ word keyword.In ∷ []) (behind_it (not_if not) (word keyword.In)) us ts left parts spelled (begun.bracketed_begun n inner h v ts left e)
      turn (inr es) = absurd (made_err (max p.depth es.0.0.deepest) (expr.In not p.expr es.0.0.exprs) es.0.1 left es.2)

  like_begun : (a : Expr) (p : Parsed) (not : Bool) (us ts : List Terminal) (left : ℕ) → us ≡ not_if not ++ ts → rule.like_test 128 p not ts ≡ Err (stop.At left) → Begun (IsTest a) us left
  like_begun a p not us ts left parts e = turn (bind_err (rule.pattern_at ts) (λ (t : List ℕ × List Terminal). then_left (node 128 p.depth (expr.Like not p.expr t.0)) t.1) (stop.At left) e)
    where
      liked : IsTest a (not_if not ++ word keyword.Like ∷ terminal.text [] ∷ [])
      liked = (expr.Like not a (undoubled []), like not [])

      by_text : (past (is_keyword keyword.Like) ts ≡ Err (stop.At left)) ⊎ ((vs : List Terminal) × (past (is_keyword keyword.Like) ts ≡ Ok vs) × (rule.text_at vs ≡ Err (stop.At left))) → Begun (IsTest a) us left
      by_text (inl e) = begun_end (not_if not) us ts (word keyword.Like ∷ terminal.text [] ∷ []) left parts (needed_err ts (behind (is_keyword keyword.Like) ts) left e) liked
      by_text (inr vs) =
          begun_end (not_if not ++ word keyword.Like ∷ []) us vs.0 (terminal.text [] ∷ []) left (parts ∙ ap (λ (x : List Terminal). not_if not ++ x) (word_past keyword.Like ts vs.0 vs.1) ∙ behind_it (not_if not) (word keyword.Like) vs.0)
          (needed_err vs.0 (first_is local.text_of vs.0) left (sym (local.text_is vs.0) ∙ vs.2)) (subst (IsTest a) (behind_it (not_if not) (word keyword.Like) (terminal.text [] ∷ [])) liked)

      turn : (rule.pattern_at ts ≡ Err (stop.At left)) ⊎ ((t : List ℕ × List Terminal) × (rule.pattern_at ts ≡ Ok t) × (then_left (node 128 p.depth (expr.Like not p.expr t.0)) t.1 ≡ Err (stop.At left))) → Begun (IsTest a) us left
      turn (inl e) = by_text (bind_err (past (is_keyword keyword.Like) ts) (λ (vs : List Terminal). rule.text_at vs) (stop.At left) e)
      turn (inr t) = absurd (made_err p.depth (expr.Like not p.expr t.0.0) t.0.1 left t.2)

  named_begun : (a : Expr) (p : Parsed) (not : Bool) (us ts : List Terminal) (left : ℕ) → us ≡ not_if not ++ ts → rule.named_test 128 n inner p not ts ≡ Err (stop.At left) → Begun (IsTest a) us left
  named_begun a p not us ts left parts e =
      turn (choose_err (behind (is_keyword keyword.Between) ts) (rule.between_of 128 n inner p not) (choose (behind (is_keyword keyword.In) ts) (rule.in_of 128 n inner p not) (rule.like_test 128 p not ts)) (stop.At left) e)
    where
      by_in : ((vs : List Terminal) × (behind (is_keyword keyword.In) ts ≡ Some vs) × (rule.in_of 128 n inner p not vs ≡ Err (stop.At left))) ⊎ ((behind (is_keyword keyword.In) ts ≡ None) × (rule.like_test 128 p not ts ≡ Err (stop.At left))) → Begun (IsTest a) us left
      by_in (inl q) = in_begun a p not us q.0 left (parts ∙ ap (λ (x : List Terminal). not_if not ++ x) (word_taken keyword.In ts q.0 q.1)) q.2
      by_in (inr q) = like_begun a p not us ts left parts q.1

      turn : ((vs : List Terminal) × (behind (is_keyword keyword.Between) ts ≡ Some vs) × (rule.between_of 128 n inner p not vs ≡ Err (stop.At left)))
          ⊎ ((behind (is_keyword keyword.Between) ts ≡ None) × (choose (behind (is_keyword keyword.In) ts) (rule.in_of 128 n inner p not) (rule.like_test 128 p not ts) ≡ Err (stop.At left))) → Begun (IsTest a) us left
      turn (inl q) = between_begun a p not us q.0 left (parts ∙ ap (λ (x : List Terminal). not_if not ++ x) (word_taken keyword.Between ts q.0 q.1)) q.2
      turn (inr q) = by_in (choose_err (behind (is_keyword keyword.In) ts) (rule.in_of 128 n inner p not) (rule.like_test 128 p not ts) (stop.At left) q.1)

  null_begun : (a : Expr) (p : Parsed) (not : Bool) (us ts : List Terminal) (left : ℕ) → us ≡ word keyword.Is ∷ not_if not ++ ts → rule.null_of 128 p not ts ≡ Err (stop.At left) → Begun (IsTest a) us left
  null_begun a p not us ts left parts e = turn (bind_err (past (is_keyword keyword.Null) ts) (λ (rest : List Terminal). then_left (node 128 p.depth (expr.IsNull not p.expr)) rest) (stop.At left) e)
    where
      turn : (past (is_keyword keyword.Null) ts ≡ Err (stop.At left)) ⊎ ((rest : List Terminal) × (past (is_keyword keyword.Null) ts ≡ Ok rest) × (then_left (node 128 p.depth (expr.IsNull not p.expr)) rest ≡ Err (stop.At left))) → Begun (IsTest a) us left
      turn (inl e) = begun_end (word keyword.Is ∷ not_if not) us ts (word keyword.Null ∷ []) left parts (needed_err ts (behind (is_keyword keyword.Null) ts) left e) (expr.IsNull not a, is_null not)
      turn (inr rest) = absurd (made_err p.depth (expr.IsNull not p.expr) rest.0 left rest.2)

  is_begun : (a : Expr) (p : Parsed) (us ts : List Terminal) (left : ℕ) → us ≡ word keyword.Is ∷ ts → rule.is_of 128 p ts ≡ Err (stop.At left) → Begun (IsTest a) us left
  is_begun a p us ts left parts e = turn (choose_err (behind (is_keyword keyword.Not) ts) (rule.null_of 128 p true) (rule.null_of 128 p false ts) (stop.At left) e)
    where
      turn : ((vs : List Terminal) × (behind (is_keyword keyword.Not) ts ≡ Some vs) × (rule.null_of 128 p true vs ≡ Err (stop.At left))) ⊎ ((behind (is_keyword keyword.Not) ts ≡ None) × (rule.null_of 128 p false ts ≡ Err (stop.At left))) → Begun (IsTest a) us left
      turn (inl q) = null_begun a p true us q.0 left (parts ∙ ap (λ (x : List Terminal). word keyword.Is ∷ x) (word_taken keyword.Not ts q.0 q.1)) q.2
      turn (inr q) = null_begun a p false us ts left parts q.1

  test_begun : (a : Expr) (p : Parsed) (us : List Terminal) (left : ℕ) → rule.test_of 128 n inner p us ≡ Err (stop.At left) → Begun (IsTest a) us left
  test_begun a p us left e = by_comparison (choose_err (first_is comparison_of us) (λ (op : ComparisonOperator × List Terminal). rule.compare_of 128 n inner p op.0 op.1) (worded us) (stop.At left) e)
    where
      plain : List Terminal → rule.Reads Parsed
      plain us = cond (begins_test us) (rule.named_test 128 n inner p false us) (Ok (p, us))

      noted : List Terminal → rule.Reads Parsed
      noted us = choose (behind (is_keyword keyword.Not) us) (rule.named_test 128 n inner p true) (plain us)

      worded : List Terminal → rule.Reads Parsed
      worded us = choose (behind (is_keyword keyword.Is) us) (rule.is_of 128 p) (noted us)

      by_plain : (b : Bool) → cond b (rule.named_test 128 n inner p false us) (Ok (p, us)) ≡ Err (stop.At left) → Begun (IsTest a) us left
      by_plain true e = named_begun a p false us us left refl e
      by_plain false e = absurd cc e

      by_not : ((vs : List Terminal) × (behind (is_keyword keyword.Not) us ≡ Some vs) × (rule.named_test 128 n inner p true vs ≡ Err (stop.At left))) ⊎ ((behind (is_keyword keyword.Not) us ≡ None) × (plain us ≡ Err (stop.At left))) → Begun (IsTest a) us left
      by_not (inl q) = named_begun a p true us q.0 left (word_taken keyword.Not us q.0 q.1) q.2
      by_not (inr q) = by_plain (begins_test us) q.1

      by_is : ((vs : List Terminal) × (behind (is_keyword keyword.Is) us ≡ Some vs) × (rule.is_of 128 p vs ≡ Err (stop.At left))) ⊎ ((behind (is_keyword keyword.Is) us ≡ None) × (noted us ≡ Err (stop.At left))) → Begun (IsTest a) us left
      by_is (inl q) = is_begun a p us q.0 left (word_taken keyword.Is us q.0 q.1) q.2
      by_is (inr q) = by_not (choose_err (behind (is_keyword keyword.Not) us) (rule.named_test 128 n inner p true) (plain us) (stop.At left) q.1)

      by_comparison : ((op : ComparisonOperator × List Terminal) × (first_is comparison_of us ≡ Some op) × (rule.compare_of 128 n inner p op.0 op.1 ≡ Err (stop.At left))) ⊎ ((first_is comparison_of us ≡ None) × (worded us ≡ Err (stop.At left))) → Begun (IsTest a) us left
      by_comparison (inl q) = compare_begun a p q.0.0 us q.0.1 left (sound.first_comparison us q.0 q.1) q.2
      by_comparison (inr q) = by_is (choose_err (behind (is_keyword keyword.Is) us) (rule.is_of 128 p) (noted us) (stop.At left) q.1)

  -- ---- the weaker rules

  predicate_begun : IsViable level.Predicate (rule.predicate_of 128 n inner)
  predicate_begun ts left e = turn (bind_err (rule.sum_of 128 n inner ts) (λ (a : Parsed × List Terminal). rule.test_of 128 n inner a.0 a.1) (stop.At left) e)
    where
      turn : (rule.sum_of 128 n inner ts ≡ Err (stop.At left)) ⊎ ((a : Parsed × List Terminal) × (rule.sum_of 128 n inner ts ≡ Ok a) × (rule.test_of 128 n inner a.0 a.1 ≡ Err (stop.At left))) → Begun (IsOf level.Predicate) ts left
      turn (inl e) = next_begun level.Predicate ts left (sum_begun ts left e)
      turn (inr a) =
          let t = sound.sum_sound n inner h ts a.0 a.1 in
          begun_into (λ us. t.front ++ us) t.front (λ us. refl) ts a.0.1 left t.parts (λ vs p. (p.0, tested t.spells p.1)) (test_begun a.0.0.expr a.0.0 a.0.1 left a.2)

  negation_begun : IsViable level.Negation (rule.negation_of 128 n inner)
  negation_begun ts left e =
      turn (choose_err (behind (is_keyword keyword.Not) ts) (λ (us : List Terminal). inner level.Negation us >>= (λ a. then_left (node 128 a.0.depth (expr.Not a.0.expr)) a.1)) (rule.predicate_of 128 n inner ts) (stop.At left) e)
    where
      by_inner : (us : List Terminal) → ts ≡ word keyword.Not ∷ us → (inner level.Negation us ≡ Err (stop.At left)) ⊎ ((a : Parsed × List Terminal) × (inner level.Negation us ≡ Ok a) × (then_left (node 128 a.0.depth (expr.Not a.0.expr)) a.1 ≡ Err (stop.At left))) → Begun (IsOf level.Negation) ts left
      by_inner us parts (inl e) = begun_into (λ us. word keyword.Not ∷ us) (word keyword.Not ∷ []) (λ us. refl) ts us left parts (λ vs p. (expr.Not p.0, negated p.1)) (v level.Negation us left e)
      by_inner us parts (inr a) = absurd (made_err a.0.0.depth (expr.Not a.0.0.expr) a.0.1 left a.2)

      turn : ((us : List Terminal) × (behind (is_keyword keyword.Not) ts ≡ Some us) × ((inner level.Negation us >>= (λ a. then_left (node 128 a.0.depth (expr.Not a.0.expr)) a.1)) ≡ Err (stop.At left))) ⊎ ((behind (is_keyword keyword.Not) ts ≡ None) × (rule.predicate_of 128 n inner ts ≡ Err (stop.At left)))
          → Begun (IsOf level.Negation) ts left
      turn (inl p) = by_inner p.0 (word_taken keyword.Not ts p.0 p.1) (bind_err (inner level.Negation p.0) (λ (a : Parsed × List Terminal). then_left (node 128 a.0.depth (expr.Not a.0.expr)) a.1) (stop.At left) p.2)
      turn (inr p) = next_begun level.Negation ts left (predicate_begun ts left p.1)

  conjunction_begun : IsViable level.Conjunction (rule.conjunction_of 128 n inner)
  conjunction_begun = begun.chain_begun n level.Conjunction (rule.negation_of 128 n inner) (sound.negation_sound n inner h) negation_begun

  rule_begun : (l : Level) → IsViable l (rule.rule_of 128 n inner l)
  rule_begun level.Disjunction = begun.chain_begun n level.Disjunction (rule.conjunction_of 128 n inner) (sound.conjunction_sound n inner h) conjunction_begun
  rule_begun level.Conjunction = conjunction_begun
  rule_begun level.Negation = negation_begun
  rule_begun level.Predicate = predicate_begun
  rule_begun level.Sum = sum_begun
  rule_begun level.Term = term_begun
  rule_begun level.Factor = factor_begun
  rule_begun level.Primary = primary_begun

-- Where reading stops at a token, those before it begin an expression of the rule.
pub inner_begun : (n : ℕ) → AreViable (inner_at 128 n)
unfolding inner_at
inner_begun zero l ts left e = absurd cc e
inner_begun (suc n) l ts left e = rule_begun n (inner_at 128 n) (sound.inner_sound n) (inner_begun n) l ts left e
