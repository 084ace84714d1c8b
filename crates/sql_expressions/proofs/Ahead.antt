-- What may stand behind an expression of a rule.
use Rattle.std.proofs.Common.{◌≡◌, ℕ, ◌<◌, ◌≤◌, Bool, true, false, cond, List, [], ◌∷◌, Some, None, refl, ap, arith}
use denote.Enum.Bare.{same_true}
use Rattle.sql_syntax.specs.contracts.keyword.Keyword as keyword_contract
use Rattle.sql_syntax.specs.contracts.token.Sign as sign_contract
use Rattle.sql_syntax.specs.declared.keyword.Keyword.{Keyword}
use Rattle.sql_syntax.specs.declared.keyword.Keyword.TheVariants as keyword
use Rattle.sql_syntax.specs.declared.token.Sign.{Sign}
use Rattle.sql_syntax.specs.declared.token.Sign.TheVariants as sign
use Rattle.sql_syntax.specs.declared.strength.Level.{Level}
use Rattle.sql_syntax.specs.declared.strength.Level.TheVariants as level
use Rattle.sql_syntax.specs.Tokens as terminal
use Rattle.sql_syntax.specs.Tokens.{Terminal}
use Rattle.sql_syntax.specs.Strength.{rank}
use Rattle.sql_syntax.specs.Phrases.{word, mark}
use Rattle.sql_expressions.specs.Rules.{choose, is_keyword, is_sign, behind, first_is, operator_of, comparison_of, begins_test}

-- one more than the rank of the rule that takes the token behind what it has read, or 0
abbrev pub reach : Terminal → ℕ
reach (terminal.keyword keyword.Or) = 1
reach (terminal.keyword keyword.And) = 2
reach (terminal.keyword keyword.Is) = 4
reach (terminal.keyword keyword.Not) = 4
reach (terminal.keyword keyword.Between) = 4
reach (terminal.keyword keyword.In) = 4
reach (terminal.keyword keyword.Like) = 4
reach (terminal.sign_is sign.Equal) = 4
reach (terminal.sign_is sign.NotEqual) = 4
reach (terminal.sign_is sign.Less) = 4
reach (terminal.sign_is sign.AtMost) = 4
reach (terminal.sign_is sign.Greater) = 4
reach (terminal.sign_is sign.AtLeast) = 4
reach (terminal.sign_is sign.Plus) = 5
reach (terminal.sign_is sign.Minus) = 5
reach (terminal.sign_is sign.Star) = 6
reach (terminal.sign_is sign.Slash) = 6
reach (terminal.sign_is sign.Dot) = 8
reach _ = 0

-- the same of the token at the front, and 0 at the end
abbrev pub reach_of : List Terminal → ℕ
reach_of [] = 0
reach_of (t ∷ ts) = reach t

-- ---- other keywords and signs

pub keyword_is : (k : Keyword) (t : Terminal) → is_keyword k t ≡ true → t ≡ word k
keyword_is k (terminal.keyword found) e = ap (λ (x : Keyword). terminal.keyword x) (same_true keyword_contract.the_type tt found k e)
keyword_is k (terminal.name n) e = absurd cc
keyword_is k (terminal.integer n) e = absurd cc
keyword_is k (terminal.text n) e = absurd cc
keyword_is k (terminal.sign_is n) e = absurd cc
keyword_is k (terminal.left_out n) e = absurd cc
keyword_is k terminal.out_of_range e = absurd cc
keyword_is k terminal.not_closed e = absurd cc
keyword_is k terminal.unknown e = absurd cc

pub sign_is : (s : Sign) (t : Terminal) → is_sign s t ≡ true → t ≡ mark s
sign_is s (terminal.sign_is found) e = ap (λ (x : Sign). terminal.sign_is x) (same_true sign_contract.the_type tt found s e)
sign_is s (terminal.name n) e = absurd cc
sign_is s (terminal.integer n) e = absurd cc
sign_is s (terminal.text n) e = absurd cc
sign_is s (terminal.keyword n) e = absurd cc
sign_is s (terminal.left_out n) e = absurd cc
sign_is s terminal.out_of_range e = absurd cc
sign_is s terminal.not_closed e = absurd cc
sign_is s terminal.unknown e = absurd cc

other_keyword : (k : Keyword) (t : Terminal) (test : Bool) → is_keyword k t ≡ test → (t ≡ word k → ⊥) → test ≡ false
other_keyword k t true is never = absurd (never (keyword_is k t is))
other_keyword k t false is never = refl

pub not_keyword : (k : Keyword) (t : Terminal) → (t ≡ word k → ⊥) → is_keyword k t ≡ false
not_keyword k t never = other_keyword k t (is_keyword k t) refl never

other_sign : (s : Sign) (t : Terminal) (test : Bool) → is_sign s t ≡ test → (t ≡ mark s → ⊥) → test ≡ false
other_sign s t true is never = absurd (never (sign_is s t is))
other_sign s t false is never = refl

pub not_sign : (s : Sign) (t : Terminal) → (t ≡ mark s → ⊥) → is_sign s t ≡ false
not_sign s t never = other_sign s t (is_sign s t) refl never

-- a keyword that reaches further isn't at the front
pub no_keyword : (k : Keyword) (more : List Terminal) → reach_of more < reach (word k) → behind (is_keyword k) more ≡ None
no_keyword k [] h = refl
no_keyword k (t ∷ ts) h = ap (λ b. cond b (Some ts) None) (not_keyword k t (λ e. let same : reach t ≡ reach (word k) = ap reach e in omega arith))

-- ---- operators and tests

no_or : (k : Keyword) → reach (word k) ≤ 0 → operator_of level.Disjunction (word k) ≡ None
no_or keyword.And h = absurd (omega arith)
no_or keyword.As h = refl
no_or keyword.Asc h = refl
no_or keyword.Avg h = refl
no_or keyword.Between h = absurd (omega arith)
no_or keyword.By h = refl
no_or keyword.Case h = refl
no_or keyword.Coalesce h = refl
no_or keyword.Count h = refl
no_or keyword.Desc h = refl
no_or keyword.Distinct h = refl
no_or keyword.Else h = refl
no_or keyword.End h = refl
no_or keyword.From h = refl
no_or keyword.Group h = refl
no_or keyword.Having h = refl
no_or keyword.In h = absurd (omega arith)
no_or keyword.Inner h = refl
no_or keyword.Is h = absurd (omega arith)
no_or keyword.Join h = refl
no_or keyword.Left h = refl
no_or keyword.Like h = absurd (omega arith)
no_or keyword.Limit h = refl
no_or keyword.Max h = refl
no_or keyword.Min h = refl
no_or keyword.Not h = absurd (omega arith)
no_or keyword.Null h = refl
no_or keyword.On h = refl
no_or keyword.Or h = absurd (omega arith)
no_or keyword.Order h = refl
no_or keyword.Outer h = refl
no_or keyword.Select h = refl
no_or keyword.Sum h = refl
no_or keyword.Then h = refl
no_or keyword.When h = refl
no_or keyword.Where h = refl

no_and : (k : Keyword) → reach (word k) ≤ 1 → operator_of level.Conjunction (word k) ≡ None
no_and keyword.And h = absurd (omega arith)
no_and keyword.As h = refl
no_and keyword.Asc h = refl
no_and keyword.Avg h = refl
no_and keyword.Between h = absurd (omega arith)
no_and keyword.By h = refl
no_and keyword.Case h = refl
no_and keyword.Coalesce h = refl
no_and keyword.Count h = refl
no_and keyword.Desc h = refl
no_and keyword.Distinct h = refl
no_and keyword.Else h = refl
no_and keyword.End h = refl
no_and keyword.From h = refl
no_and keyword.Group h = refl
no_and keyword.Having h = refl
no_and keyword.In h = absurd (omega arith)
no_and keyword.Inner h = refl
no_and keyword.Is h = absurd (omega arith)
no_and keyword.Join h = refl
no_and keyword.Left h = refl
no_and keyword.Like h = absurd (omega arith)
no_and keyword.Limit h = refl
no_and keyword.Max h = refl
no_and keyword.Min h = refl
no_and keyword.Not h = absurd (omega arith)
no_and keyword.Null h = refl
no_and keyword.On h = refl
no_and keyword.Or h = refl
no_and keyword.Order h = refl
no_and keyword.Outer h = refl
no_and keyword.Select h = refl
no_and keyword.Sum h = refl
no_and keyword.Then h = refl
no_and keyword.When h = refl
no_and keyword.Where h = refl

no_plus : (s : Sign) → reach (mark s) ≤ 4 → operator_of level.Sum (mark s) ≡ None
no_plus sign.Open h = refl
no_plus sign.Close h = refl
no_plus sign.Comma h = refl
no_plus sign.Dot h = absurd (omega arith)
no_plus sign.Semicolon h = refl
no_plus sign.Plus h = absurd (omega arith)
no_plus sign.Minus h = absurd (omega arith)
no_plus sign.Star h = absurd (omega arith)
no_plus sign.Slash h = absurd (omega arith)
no_plus sign.Equal h = refl
no_plus sign.NotEqual h = refl
no_plus sign.Less h = refl
no_plus sign.AtMost h = refl
no_plus sign.Greater h = refl
no_plus sign.AtLeast h = refl

no_star : (s : Sign) → reach (mark s) ≤ 5 → operator_of level.Term (mark s) ≡ None
no_star sign.Open h = refl
no_star sign.Close h = refl
no_star sign.Comma h = refl
no_star sign.Dot h = absurd (omega arith)
no_star sign.Semicolon h = refl
no_star sign.Plus h = refl
no_star sign.Minus h = refl
no_star sign.Star h = absurd (omega arith)
no_star sign.Slash h = absurd (omega arith)
no_star sign.Equal h = refl
no_star sign.NotEqual h = refl
no_star sign.Less h = refl
no_star sign.AtMost h = refl
no_star sign.Greater h = refl
no_star sign.AtLeast h = refl

no_sign : (s : Sign) → reach (mark s) ≤ 3 → comparison_of (mark s) ≡ None
no_sign sign.Open h = refl
no_sign sign.Close h = refl
no_sign sign.Comma h = refl
no_sign sign.Dot h = absurd (omega arith)
no_sign sign.Semicolon h = refl
no_sign sign.Plus h = absurd (omega arith)
no_sign sign.Minus h = absurd (omega arith)
no_sign sign.Star h = absurd (omega arith)
no_sign sign.Slash h = absurd (omega arith)
no_sign sign.Equal h = absurd (omega arith)
no_sign sign.NotEqual h = absurd (omega arith)
no_sign sign.Less h = absurd (omega arith)
no_sign sign.AtMost h = absurd (omega arith)
no_sign sign.Greater h = absurd (omega arith)
no_sign sign.AtLeast h = absurd (omega arith)

-- behind what the rule has read no operator of it stands
no_operator : (l : Level) (t : Terminal) → reach t ≤ rank l → operator_of l t ≡ None
no_operator level.Disjunction (terminal.keyword k) h = no_or k h
no_operator level.Disjunction (terminal.name n) h = refl
no_operator level.Disjunction (terminal.integer n) h = refl
no_operator level.Disjunction (terminal.text n) h = refl
no_operator level.Disjunction (terminal.sign_is s) h = refl
no_operator level.Disjunction (terminal.left_out n) h = refl
no_operator level.Disjunction terminal.out_of_range h = refl
no_operator level.Disjunction terminal.not_closed h = refl
no_operator level.Disjunction terminal.unknown h = refl
no_operator level.Conjunction (terminal.keyword k) h = no_and k h
no_operator level.Conjunction (terminal.name n) h = refl
no_operator level.Conjunction (terminal.integer n) h = refl
no_operator level.Conjunction (terminal.text n) h = refl
no_operator level.Conjunction (terminal.sign_is s) h = refl
no_operator level.Conjunction (terminal.left_out n) h = refl
no_operator level.Conjunction terminal.out_of_range h = refl
no_operator level.Conjunction terminal.not_closed h = refl
no_operator level.Conjunction terminal.unknown h = refl
no_operator level.Negation (terminal.keyword k) h = refl
no_operator level.Negation (terminal.name n) h = refl
no_operator level.Negation (terminal.integer n) h = refl
no_operator level.Negation (terminal.text n) h = refl
no_operator level.Negation (terminal.sign_is s) h = refl
no_operator level.Negation (terminal.left_out n) h = refl
no_operator level.Negation terminal.out_of_range h = refl
no_operator level.Negation terminal.not_closed h = refl
no_operator level.Negation terminal.unknown h = refl
no_operator level.Predicate (terminal.keyword k) h = refl
no_operator level.Predicate (terminal.name n) h = refl
no_operator level.Predicate (terminal.integer n) h = refl
no_operator level.Predicate (terminal.text n) h = refl
no_operator level.Predicate (terminal.sign_is s) h = refl
no_operator level.Predicate (terminal.left_out n) h = refl
no_operator level.Predicate terminal.out_of_range h = refl
no_operator level.Predicate terminal.not_closed h = refl
no_operator level.Predicate terminal.unknown h = refl
no_operator level.Sum (terminal.keyword k) h = refl
no_operator level.Sum (terminal.name n) h = refl
no_operator level.Sum (terminal.integer n) h = refl
no_operator level.Sum (terminal.text n) h = refl
no_operator level.Sum (terminal.sign_is s) h = no_plus s h
no_operator level.Sum (terminal.left_out n) h = refl
no_operator level.Sum terminal.out_of_range h = refl
no_operator level.Sum terminal.not_closed h = refl
no_operator level.Sum terminal.unknown h = refl
no_operator level.Term (terminal.keyword k) h = refl
no_operator level.Term (terminal.name n) h = refl
no_operator level.Term (terminal.integer n) h = refl
no_operator level.Term (terminal.text n) h = refl
no_operator level.Term (terminal.sign_is s) h = no_star s h
no_operator level.Term (terminal.left_out n) h = refl
no_operator level.Term terminal.out_of_range h = refl
no_operator level.Term terminal.not_closed h = refl
no_operator level.Term terminal.unknown h = refl
no_operator level.Factor (terminal.keyword k) h = refl
no_operator level.Factor (terminal.name n) h = refl
no_operator level.Factor (terminal.integer n) h = refl
no_operator level.Factor (terminal.text n) h = refl
no_operator level.Factor (terminal.sign_is s) h = refl
no_operator level.Factor (terminal.left_out n) h = refl
no_operator level.Factor terminal.out_of_range h = refl
no_operator level.Factor terminal.not_closed h = refl
no_operator level.Factor terminal.unknown h = refl
no_operator level.Primary (terminal.keyword k) h = refl
no_operator level.Primary (terminal.name n) h = refl
no_operator level.Primary (terminal.integer n) h = refl
no_operator level.Primary (terminal.text n) h = refl
no_operator level.Primary (terminal.sign_is s) h = refl
no_operator level.Primary (terminal.left_out n) h = refl
no_operator level.Primary terminal.out_of_range h = refl
no_operator level.Primary terminal.not_closed h = refl
no_operator level.Primary terminal.unknown h = refl

pub ends_chain : (l : Level) (more : List Terminal) → reach_of more ≤ rank l → first_is (operator_of l) more ≡ None
ends_chain l [] h = refl
ends_chain l (t ∷ ts) h = ap (λ o. choose o (λ a. Some (a, ts)) None) (no_operator l t h)

no_compare : (t : Terminal) → reach t ≤ 3 → comparison_of t ≡ None
no_compare (terminal.keyword k) h = refl
no_compare (terminal.name n) h = refl
no_compare (terminal.integer n) h = refl
no_compare (terminal.text n) h = refl
no_compare (terminal.sign_is s) h = no_sign s h
no_compare (terminal.left_out n) h = refl
no_compare terminal.out_of_range h = refl
no_compare terminal.not_closed h = refl
no_compare terminal.unknown h = refl

pub no_comparison : (more : List Terminal) → reach_of more ≤ 3 → first_is comparison_of more ≡ None
no_comparison [] h = refl
no_comparison (t ∷ ts) h = ap (λ o. choose o (λ a. Some (a, ts)) None) (no_compare t h)

no_name : (k : Keyword) (t : Terminal) → reach t < reach (word k) → is_keyword k t ≡ false
no_name k t h = not_keyword k t (λ e. let same : reach t ≡ reach (word k) = ap reach e in omega arith)

pub no_test : (more : List Terminal) → reach_of more ≤ 3 → begins_test more ≡ false
no_test [] h = refl
no_test (t ∷ ts) h = rw (no_name keyword.Between t (omega arith), no_name keyword.In t (omega arith), no_name keyword.Like t (omega arith)) refl
