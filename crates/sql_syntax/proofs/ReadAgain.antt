-- The tokens of the text of tokens are those tokens.
use Rattle.std.proofs.Common.{◌≡◌, ℕ, zero, suc, ◌≤◌, ◌<◌, ◌^◌, Bool, true, false, cond, eqb, not, ◌||◌, List, [], ◌∷◌, ◌++◌, length, get_or, refl, sym, ap, subst, ◌∙◌, arith}
use Rattle.std.specs.Prelude.{codes}
use Rattle.std.specs.Fmt.{decimal}
use Rattle.std.proofs.lemmas.List.{length-append}
use Rattle.std.proofs.lemmas.Fmt.{digits_decimal, decimal_is_IsNumeral}
use Rattle.sql_syntax.specs.declared.keyword.Keyword.{Keyword}
use Rattle.sql_syntax.specs.declared.token.Sign.TheVariants as sign
use Rattle.sql_syntax.specs.Words.{spelling_of}
use Rattle.sql_syntax.specs.Tokens as terminal
use Rattle.sql_syntax.specs.Tokens.{Terminal, Located, behind_blanks, is_digit, is_word_start, terminal_at, with_first, located_from, tokens_of, terminals}
use Rattle.sql_syntax.specs.CanonicalTokens.{doubled}
use Rattle.sql_syntax.specs.Queries.{token_text, ends_operand, hugs_left, hugs_right, text_behind, text_of}
use Rattle.sql_syntax.proofs.Names.{AllPass, IsName}
use Rattle.sql_syntax.proofs.TokenTexts.{Calm, IsRead, keyword_word, word_read, integer_read, text_read, sign_read, open_read, dot_read, minus_read, start_stays, own_digits, digit_facts}

-- ---- tokens that their text gives again

abbrev pub heads_open : List Terminal → Bool
heads_open (terminal.sign_is sign.Open ∷ ts) = true
heads_open _ = false

abbrev pub heads_minus : List Terminal → Bool
heads_minus (terminal.sign_is sign.Minus ∷ ts) = true
heads_minus _ = false

-- a token of a query, spelled as the canonical text has it
abbrev pub IsSpelled : Terminal → Type 0
IsSpelled (terminal.keyword k) = Unit {0}
IsSpelled (terminal.name n) = IsName n
IsSpelled (terminal.integer n) = n ≤ 9223372036854775808
IsSpelled (terminal.text t) = (u : List ℕ) × (t ≡ doubled u)
IsSpelled (terminal.sign_is s) = Unit {0}
IsSpelled _ = ⊥

-- what may stand right behind a token with no blank
abbrev pub may_touch : Terminal → List Terminal → Bool
may_touch (terminal.keyword k) ts = heads_open ts
may_touch (terminal.sign_is sign.Minus) ts = not (heads_minus ts)
may_touch _ ts = true

abbrev pub may_follow : Bool → Terminal → List Terminal → Bool
may_follow hugs t ts = cond hugs (may_touch t ts) true

-- each token is spelled so, and none goes on into the next
abbrev pub AreApart : Bool → List Terminal → Type 0
AreApart operand [] = Unit {0}
AreApart operand (t ∷ ts) = IsSpelled t × (may_follow (hugs_right operand t) t ts ≡ true) × AreApart (ends_operand t) ts

-- ---- what stands behind a token

blank_calm : (x : List ℕ) → Calm (codes " " ++ x)
blank_calm x = record { word = refl; digit = refl; quote = refl; greater = refl; equal = refl; minus = refl }

none_calm : Calm []
none_calm = record { word = refl; digit = refl; quote = refl; greater = refl; equal = refl; minus = refl }

open_calm : (x : List ℕ) → Calm (codes "(" ++ x)
open_calm x = record { word = refl; digit = refl; quote = refl; greater = refl; equal = refl; minus = refl }

close_calm : (x : List ℕ) → Calm (codes ")" ++ x)
close_calm x = record { word = refl; digit = refl; quote = refl; greater = refl; equal = refl; minus = refl }

comma_calm : (x : List ℕ) → Calm (codes "," ++ x)
comma_calm x = record { word = refl; digit = refl; quote = refl; greater = refl; equal = refl; minus = refl }

dot_calm : (x : List ℕ) → Calm (codes "." ++ x)
dot_calm x = record { word = refl; digit = refl; quote = refl; greater = refl; equal = refl; minus = refl }

behind_calm : (o : Bool) (ts : List Terminal) → Calm (text_behind o false ts)
behind_calm o [] = none_calm
behind_calm o (terminal.keyword k ∷ ts) = blank_calm _
behind_calm o (terminal.name n ∷ ts) = blank_calm _
behind_calm o (terminal.integer n ∷ ts) = blank_calm _
behind_calm o (terminal.text t ∷ ts) = blank_calm _
behind_calm o (terminal.left_out t ∷ ts) = blank_calm _
behind_calm o (terminal.out_of_range ∷ ts) = blank_calm _
behind_calm o (terminal.not_closed ∷ ts) = blank_calm _
behind_calm o (terminal.unknown ∷ ts) = blank_calm _
behind_calm o (terminal.sign_is sign.Open ∷ ts) = blank_calm _
behind_calm o (terminal.sign_is sign.Close ∷ ts) = close_calm _
behind_calm o (terminal.sign_is sign.Comma ∷ ts) = comma_calm _
behind_calm o (terminal.sign_is sign.Dot ∷ ts) = dot_calm _
behind_calm o (terminal.sign_is sign.Semicolon ∷ ts) = blank_calm _
behind_calm o (terminal.sign_is sign.Plus ∷ ts) = blank_calm _
behind_calm o (terminal.sign_is sign.Minus ∷ ts) = blank_calm _
behind_calm o (terminal.sign_is sign.Star ∷ ts) = blank_calm _
behind_calm o (terminal.sign_is sign.Slash ∷ ts) = blank_calm _
behind_calm o (terminal.sign_is sign.Equal ∷ ts) = blank_calm _
behind_calm o (terminal.sign_is sign.NotEqual ∷ ts) = blank_calm _
behind_calm o (terminal.sign_is sign.Less ∷ ts) = blank_calm _
behind_calm o (terminal.sign_is sign.AtMost ∷ ts) = blank_calm _
behind_calm o (terminal.sign_is sign.Greater ∷ ts) = blank_calm _
behind_calm o (terminal.sign_is sign.AtLeast ∷ ts) = blank_calm _

opened_calm : (o : Bool) (ts : List Terminal) → heads_open ts ≡ true → Calm (text_behind o true ts)
opened_calm o [] h = absurd cc
opened_calm o (terminal.sign_is sign.Open ∷ ts) h = open_calm _
opened_calm o (terminal.keyword k ∷ ts) h = absurd cc
opened_calm o (terminal.name n ∷ ts) h = absurd cc
opened_calm o (terminal.integer n ∷ ts) h = absurd cc
opened_calm o (terminal.text t ∷ ts) h = absurd cc
opened_calm o (terminal.left_out t ∷ ts) h = absurd cc
opened_calm o (terminal.out_of_range ∷ ts) h = absurd cc
opened_calm o (terminal.not_closed ∷ ts) h = absurd cc
opened_calm o (terminal.unknown ∷ ts) h = absurd cc
opened_calm o (terminal.sign_is sign.Close ∷ ts) h = absurd cc
opened_calm o (terminal.sign_is sign.Comma ∷ ts) h = absurd cc
opened_calm o (terminal.sign_is sign.Dot ∷ ts) h = absurd cc
opened_calm o (terminal.sign_is sign.Semicolon ∷ ts) h = absurd cc
opened_calm o (terminal.sign_is sign.Plus ∷ ts) h = absurd cc
opened_calm o (terminal.sign_is sign.Minus ∷ ts) h = absurd cc
opened_calm o (terminal.sign_is sign.Star ∷ ts) h = absurd cc
opened_calm o (terminal.sign_is sign.Slash ∷ ts) h = absurd cc
opened_calm o (terminal.sign_is sign.Equal ∷ ts) h = absurd cc
opened_calm o (terminal.sign_is sign.NotEqual ∷ ts) h = absurd cc
opened_calm o (terminal.sign_is sign.Less ∷ ts) h = absurd cc
opened_calm o (terminal.sign_is sign.AtMost ∷ ts) h = absurd cc
opened_calm o (terminal.sign_is sign.Greater ∷ ts) h = absurd cc
opened_calm o (terminal.sign_is sign.AtLeast ∷ ts) h = absurd cc

word_minus : (w x : List ℕ) → is_word_start (get_or w 0 0) ≡ true → eqb (get_or (w ++ x) 0 0) 45 ≡ false
word_minus [] x is = absurd cc
word_minus (b ∷ w) x is = (start_stays b is).1

digits_minus : (ds x : List ℕ) → 0 < length ds → AllPass is_digit ds → eqb (get_or (ds ++ x) 0 0) 45 ≡ false
digits_minus [] x some all = absurd (omega arith)
digits_minus (b ∷ ds) x some all = (digit_facts b all.0).2

integer_minus : (n : ℕ) (x : List ℕ) → n ≤ 9223372036854775808 → eqb (get_or (decimal n ++ x) 0 0) 45 ≡ false
integer_minus n x within =
    let wide : n < 2 ^ 64 = omega arith in
    digits_minus (decimal n) x (decimal_is_IsNumeral n wide).0.0 (digits_decimal own_digits n wide)

no_minus : (o : Bool) (ts : List Terminal) → AreApart o ts → not (heads_minus ts) ≡ true → eqb (get_or (text_behind o true ts) 0 0) 45 ≡ false
no_minus o [] all h = refl
no_minus o (terminal.keyword k ∷ ts) all h = word_minus (spelling_of k) _ (keyword_word k).start
no_minus o (terminal.name n ∷ ts) all h = word_minus n _ all.0.start
no_minus o (terminal.integer n ∷ ts) all h = integer_minus n _ all.0
no_minus o (terminal.text t ∷ ts) all h = refl
no_minus o (terminal.left_out t ∷ ts) all h = absurd all.0
no_minus o (terminal.out_of_range ∷ ts) all h = absurd all.0
no_minus o (terminal.not_closed ∷ ts) all h = absurd all.0
no_minus o (terminal.unknown ∷ ts) all h = absurd all.0
no_minus o (terminal.sign_is sign.Open ∷ ts) all h = refl
no_minus o (terminal.sign_is sign.Close ∷ ts) all h = refl
no_minus o (terminal.sign_is sign.Comma ∷ ts) all h = refl
no_minus o (terminal.sign_is sign.Dot ∷ ts) all h = refl
no_minus o (terminal.sign_is sign.Semicolon ∷ ts) all h = refl
no_minus o (terminal.sign_is sign.Plus ∷ ts) all h = refl
no_minus o (terminal.sign_is sign.Minus ∷ ts) all h = absurd cc
no_minus o (terminal.sign_is sign.Star ∷ ts) all h = refl
no_minus o (terminal.sign_is sign.Slash ∷ ts) all h = refl
no_minus o (terminal.sign_is sign.Equal ∷ ts) all h = refl
no_minus o (terminal.sign_is sign.NotEqual ∷ ts) all h = refl
no_minus o (terminal.sign_is sign.Less ∷ ts) all h = refl
no_minus o (terminal.sign_is sign.AtMost ∷ ts) all h = refl
no_minus o (terminal.sign_is sign.Greater ∷ ts) all h = refl
no_minus o (terminal.sign_is sign.AtLeast ∷ ts) all h = refl

-- ---- a token and what stands behind it

keyword_calm : (k : Keyword) (hugs : Bool) (ts : List Terminal) → may_follow hugs (terminal.keyword k) ts ≡ true → Calm (text_behind (ends_operand (terminal.keyword k)) hugs ts)
keyword_calm k true ts h = opened_calm _ ts h
keyword_calm k false ts h = behind_calm _ ts

minus_there : (o : Bool) (ts : List Terminal) → may_follow (not o) (terminal.sign_is sign.Minus) ts ≡ true → AreApart false ts → IsRead (terminal.sign_is sign.Minus) (text_behind false (not o) ts)
minus_there true ts h all = sign_read sign.Minus _ (behind_calm false ts)
minus_there false ts h all = minus_read _ (no_minus false ts all h)

there : (o : Bool) (t : Terminal) (ts : List Terminal) → AreApart o (t ∷ ts) → IsRead t (text_behind (ends_operand t) (hugs_right o t) ts)
there o (terminal.keyword k) ts all = word_read (spelling_of k) _ (terminal.keyword k) refl (keyword_word k) (keyword_calm k (hugs_right o (terminal.keyword k)) ts all.1).word
there o (terminal.name n) ts all = word_read n _ (terminal.name n) refl (record { start = all.0.start; word = all.0.word; means = all.0.free }) (behind_calm true ts).word
there o (terminal.integer n) ts all = integer_read n _ all.0 (behind_calm true ts).digit
there o (terminal.text t) ts all = subst (λ u. IsRead (terminal.text u) (text_behind true false ts)) (sym all.0.1) (text_read all.0.0 _ (behind_calm true ts).quote)
there o (terminal.left_out t) ts all = absurd all.0
there o terminal.out_of_range ts all = absurd all.0
there o terminal.not_closed ts all = absurd all.0
there o terminal.unknown ts all = absurd all.0
there o (terminal.sign_is sign.Open) ts all = open_read _
there o (terminal.sign_is sign.Dot) ts all = dot_read _
there o (terminal.sign_is sign.Minus) ts all = minus_there o ts all.1 all.2
there o (terminal.sign_is sign.Close) ts all = sign_read sign.Close _ (behind_calm true ts)
there o (terminal.sign_is sign.Comma) ts all = sign_read sign.Comma _ (behind_calm false ts)
there o (terminal.sign_is sign.Semicolon) ts all = sign_read sign.Semicolon _ (behind_calm false ts)
there o (terminal.sign_is sign.Plus) ts all = sign_read sign.Plus _ (behind_calm false ts)
there o (terminal.sign_is sign.Star) ts all = sign_read sign.Star _ (behind_calm false ts)
there o (terminal.sign_is sign.Slash) ts all = sign_read sign.Slash _ (behind_calm false ts)
there o (terminal.sign_is sign.Equal) ts all = sign_read sign.Equal _ (behind_calm false ts)
there o (terminal.sign_is sign.NotEqual) ts all = sign_read sign.NotEqual _ (behind_calm false ts)
there o (terminal.sign_is sign.Less) ts all = sign_read sign.Less _ (behind_calm false ts)
there o (terminal.sign_is sign.AtMost) ts all = sign_read sign.AtMost _ (behind_calm false ts)
there o (terminal.sign_is sign.Greater) ts all = sign_read sign.Greater _ (behind_calm false ts)
there o (terminal.sign_is sign.AtLeast) ts all = sign_read sign.AtLeast _ (behind_calm false ts)

-- ---- all tokens

behind_blank : (hugs : Bool) (x : List ℕ) → behind_blanks (cond hugs [] (codes " ") ++ x) ≡ behind_blanks x
behind_blank true x = refl
behind_blank false x = refl

first_of_some : (len : ℕ) (more : List ℕ → List Located) (bs : List ℕ) → 0 < length bs → terminals (with_first len more bs) ≡ (terminal_at bs).0 ∷ terminals (more (terminal_at bs).1)
first_of_some len more [] some = absurd (omega arith)
first_of_some len more (b ∷ bs) some = refl

one_token : (n len : ℕ) (hugs : Bool) (t : Terminal) (rest : List ℕ) → IsRead t rest
    → terminals (located_from (suc n) len (cond hugs [] (codes " ") ++ (token_text t ++ rest))) ≡ t ∷ terminals (located_from n len rest)
one_token n len hugs t rest is =
    let more : List ℕ → List Located = located_from n len in
    ap (λ (bs : List ℕ). terminals (with_first len more bs)) (behind_blank hugs (token_text t ++ rest) ∙ is.stays)
    ∙ first_of_some len more (token_text t ++ rest) (omega (arith, length-append (token_text t) rest, is.some))
    ∙ ap (λ (x : Terminal × List ℕ). x.0 ∷ terminals (more x.1)) is.first

reads_all : (n len : ℕ) (o hugs : Bool) (ts : List Terminal) → AreApart o ts → length (text_behind o hugs ts) ≤ n → terminals (located_from n len (text_behind o hugs ts)) ≡ ts
reads_all zero len o hugs [] all within = refl
reads_all (suc n) len o hugs [] all within = refl
reads_all zero len o hugs (t ∷ ts) all within =
    let is = there o t ts all in
    let rest = text_behind (ends_operand t) (hugs_right o t) ts in
    absurd (omega (arith, is.some, length-append (cond (hugs || hugs_left t) [] (codes " ")) (token_text t ++ rest), length-append (token_text t) rest, within))
reads_all (suc n) len o hugs (t ∷ ts) all within =
    let is = there o t ts all in
    let rest = text_behind (ends_operand t) (hugs_right o t) ts in
    let shorter : length rest ≤ n = omega (arith, is.some, length-append (cond (hugs || hugs_left t) [] (codes " ")) (token_text t ++ rest), length-append (token_text t) rest, within) in
    one_token n len (hugs || hugs_left t) t rest is ∙ ap (λ (us : List Terminal). t ∷ us) (reads_all n len (ends_operand t) (hugs_right o t) ts all.2 shorter)

pub tokens_again : (ts : List Terminal) → AreApart false ts → terminals (tokens_of (text_of ts)) ≡ ts
unfolding tokens_of
tokens_again ts all = reads_all (length (text_of ts)) (length (text_of ts)) false true ts all (omega arith)
