-- The text of tokens has those tokens.
use Rattle.std.proofs.Common.{◌≡◌, ℕ, ◌+◌, ◌-◌, ◌*◌, ◌≤◌, ◌<◌, Bool, true, false, cond, eqb, ◌&&◌, List, [], ◌∷◌, ◌++◌, length, get_or, take, drop, Option, Some, option_map, refl, sym, ap, subst, ◌∙◌, arith, rules, append_assoc, ◌^◌}
use Rattle.std.specs.Prelude.{fold}
use Rattle.std.specs.List.{take_while}
use Rattle.std.specs.Fmt.{decimal}
use Rattle.std.proofs.lemmas.Bool.{le-leb}
use Rattle.std.proofs.lemmas.Bool.Decides.{nat_tests}
use Rattle.std.proofs.lemmas.List.{take_at, drop_at, length-append}
use Rattle.std.proofs.lemmas.Fmt.{digits_decimal, digits_value-decimal, decimal_is_IsNumeral}
use Rattle.std.proofs.lemmas.Str.Parse.{IsDigitsTest, IsNumeralModel, numerals_by_fold}
use Rattle.sql_syntax.specs.declared.keyword.Keyword.{Keyword}
use Rattle.sql_syntax.specs.declared.keyword.Keyword.TheVariants as keyword
use Rattle.sql_syntax.specs.declared.token.Sign.{Sign}
use Rattle.sql_syntax.specs.declared.token.Sign.TheVariants as sign
use Rattle.sql_syntax.specs.Words.{spelling_of, keyword_of}
use Rattle.sql_syntax.specs.Tokens as terminal
use Rattle.sql_syntax.specs.Tokens.{Terminal, Located, behind_blanks, is_blank, is_digit, is_word_start, is_word_byte, word_of, word_at, integer_at, text_at, text_or_none, sign_at, quoted_len, behind_quote, number_of, integer_of, drop_while, terminal_at, with_first, located_from, tokens_of}
use Rattle.sql_syntax.specs.CanonicalTokens.{doubled}
use Rattle.sql_syntax.specs.Queries.{token_text}
use Rattle.sql_syntax.proofs.Names.{AllPass, run_ends}

-- ---- what may stand behind a token

-- the first byte goes on no word, no integer, no text and no sign
pub record Calm (rest : List ℕ) : Type 0 where
  pub word : is_word_byte (get_or rest 0 0) ≡ false
  pub digit : is_digit (get_or rest 0 0) ≡ false
  pub quote : eqb (get_or rest 0 0) 39 ≡ false
  pub greater : eqb (get_or rest 0 0) 62 ≡ false
  pub equal : eqb (get_or rest 0 0) 61 ≡ false
  pub minus : eqb (get_or rest 0 0) 45 ≡ false

-- a token's text is read as the token, with the rest left
pub record IsRead (t : Terminal) (rest : List ℕ) : Type 0 where
  pub stays : behind_blanks (token_text t ++ rest) ≡ token_text t ++ rest
  pub first : terminal_at (token_text t ++ rest) ≡ (t, rest)
  pub some : 0 < length (token_text t)

-- ---- words

pub record IsWord (w : List ℕ) (t : Terminal) : Type 0 where
  pub start : is_word_start (get_or w 0 0) ≡ true
  pub word : AllPass is_word_byte w
  pub means : word_of w ≡ t

pub start_stays : (b : ℕ) → is_word_start b ≡ true → (is_blank b ≡ false) × (eqb b 45 ≡ false)
start_stays b h = (grind (arith, nat_tests), grind (arith, nat_tests))

taken : {A : Type 0} (test : Bool) (x y z : A) → test ≡ true → x ≡ z → cond test x y ≡ z
taken true x y z is e = e
taken false x y z is e = absurd cc

passed : {A : Type 0} (test : Bool) (x y z : A) → test ≡ false → y ≡ z → cond test x y ≡ z
passed true x y z is e = absurd cc
passed false x y z is e = e

word_stays : (w rest : List ℕ) → is_word_start (get_or w 0 0) ≡ true → behind_blanks (w ++ rest) ≡ w ++ rest
word_stays [] rest is = absurd cc
word_stays (b ∷ w) rest is =
    let stays = start_stays b is in
    rw (stays.0, stays.1) refl

word_first : (w rest : List ℕ) (t : Terminal) → IsWord w t → is_word_byte (get_or rest 0 0) ≡ false → terminal_at (w ++ rest) ≡ (t, rest)
unfolding terminal_at
word_first [] rest t is stops = let start = is.start in absurd cc
word_first (b ∷ w) rest t is stops =
    let whole = run_ends is_word_byte (b ∷ w) rest is.word stops in
    let front : take_while is_word_byte (b ∷ w ++ rest) ≡ b ∷ w = ap (λ (k : ℕ). take k (b ∷ w ++ rest)) whole ∙ take_at (b ∷ w) rest (length (b ∷ w)) refl in
    let behind : drop_while is_word_byte (b ∷ w ++ rest) ≡ rest = ap (λ (k : ℕ). drop k (b ∷ w ++ rest)) whole ∙ drop_at (b ∷ w) rest (length (b ∷ w)) refl in
    let first : word_at (b ∷ w ++ rest) ≡ (t, rest) = (λ i. ((ap word_of front ∙ is.means) i, behind i)) in
    let all : List ℕ = b ∷ w ++ rest in
    taken (is_word_start b) (word_at all) (cond (is_digit b) (integer_at all) (cond (eqb b 39) (text_at all) (sign_at all))) (t, rest) is.start first

word_some : (w : List ℕ) → is_word_start (get_or w 0 0) ≡ true → 0 < length w
word_some [] is = absurd cc
word_some (b ∷ w) is = omega arith

pub word_read : (w rest : List ℕ) (t : Terminal) → token_text t ≡ w → IsWord w t → is_word_byte (get_or rest 0 0) ≡ false → IsRead t rest
word_read w rest t text is stops = record {
  stays = subst (λ x. behind_blanks (x ++ rest) ≡ x ++ rest) (sym text) (word_stays w rest is.start);
  first = subst (λ x. terminal_at (x ++ rest) ≡ (t, rest)) (sym text) (word_first w rest t is stops);
  some = subst (λ x. 0 < length x) (sym text) (word_some w is.start);
}

abbrev all_pass : List ℕ → Bool
all_pass [] = true
all_pass (b ∷ bs) = is_word_byte b && all_pass bs

both_true : (x y : Bool) → x && y ≡ true → (x ≡ true) × (y ≡ true)
both_true true y e = (refl, e)
both_true false y e = absurd cc

passes : (w : List ℕ) → all_pass w ≡ true → AllPass is_word_byte w
passes [] e = tt
passes (b ∷ w) e = let both = both_true (is_word_byte b) (all_pass w) e in (both.0, passes w both.1)

pub keyword_word : (k : Keyword) → IsWord (spelling_of k) (terminal.keyword k)
unfolding keyword_of
keyword_word keyword.And = record { start = refl; word = passes (spelling_of keyword.And) refl; means = refl }
keyword_word keyword.As = record { start = refl; word = passes (spelling_of keyword.As) refl; means = refl }
keyword_word keyword.Asc = record { start = refl; word = passes (spelling_of keyword.Asc) refl; means = refl }
keyword_word keyword.Avg = record { start = refl; word = passes (spelling_of keyword.Avg) refl; means = refl }
keyword_word keyword.Between = record { start = refl; word = passes (spelling_of keyword.Between) refl; means = refl }
keyword_word keyword.By = record { start = refl; word = passes (spelling_of keyword.By) refl; means = refl }
keyword_word keyword.Case = record { start = refl; word = passes (spelling_of keyword.Case) refl; means = refl }
keyword_word keyword.Coalesce = record { start = refl; word = passes (spelling_of keyword.Coalesce) refl; means = refl }
keyword_word keyword.Count = record { start = refl; word = passes (spelling_of keyword.Count) refl; means = refl }
keyword_word keyword.Desc = record { start = refl; word = passes (spelling_of keyword.Desc) refl; means = refl }
keyword_word keyword.Distinct = record { start = refl; word = passes (spelling_of keyword.Distinct) refl; means = refl }
keyword_word keyword.Else = record { start = refl; word = passes (spelling_of keyword.Else) refl; means = refl }
keyword_word keyword.End = record { start = refl; word = passes (spelling_of keyword.End) refl; means = refl }
keyword_word keyword.From = record { start = refl; word = passes (spelling_of keyword.From) refl; means = refl }
keyword_word keyword.Group = record { start = refl; word = passes (spelling_of keyword.Group) refl; means = refl }
keyword_word keyword.Having = record { start = refl; word = passes (spelling_of keyword.Having) refl; means = refl }
keyword_word keyword.In = record { start = refl; word = passes (spelling_of keyword.In) refl; means = refl }
keyword_word keyword.Inner = record { start = refl; word = passes (spelling_of keyword.Inner) refl; means = refl }
keyword_word keyword.Is = record { start = refl; word = passes (spelling_of keyword.Is) refl; means = refl }
keyword_word keyword.Join = record { start = refl; word = passes (spelling_of keyword.Join) refl; means = refl }
keyword_word keyword.Left = record { start = refl; word = passes (spelling_of keyword.Left) refl; means = refl }
keyword_word keyword.Like = record { start = refl; word = passes (spelling_of keyword.Like) refl; means = refl }
keyword_word keyword.Limit = record { start = refl; word = passes (spelling_of keyword.Limit) refl; means = refl }
keyword_word keyword.Max = record { start = refl; word = passes (spelling_of keyword.Max) refl; means = refl }
keyword_word keyword.Min = record { start = refl; word = passes (spelling_of keyword.Min) refl; means = refl }
keyword_word keyword.Not = record { start = refl; word = passes (spelling_of keyword.Not) refl; means = refl }
keyword_word keyword.Null = record { start = refl; word = passes (spelling_of keyword.Null) refl; means = refl }
keyword_word keyword.On = record { start = refl; word = passes (spelling_of keyword.On) refl; means = refl }
keyword_word keyword.Or = record { start = refl; word = passes (spelling_of keyword.Or) refl; means = refl }
keyword_word keyword.Order = record { start = refl; word = passes (spelling_of keyword.Order) refl; means = refl }
keyword_word keyword.Outer = record { start = refl; word = passes (spelling_of keyword.Outer) refl; means = refl }
keyword_word keyword.Select = record { start = refl; word = passes (spelling_of keyword.Select) refl; means = refl }
keyword_word keyword.Sum = record { start = refl; word = passes (spelling_of keyword.Sum) refl; means = refl }
keyword_word keyword.Then = record { start = refl; word = passes (spelling_of keyword.Then) refl; means = refl }
keyword_word keyword.When = record { start = refl; word = passes (spelling_of keyword.When) refl; means = refl }
keyword_word keyword.Where = record { start = refl; word = passes (spelling_of keyword.Where) refl; means = refl }

-- ---- integers

digits_test : IsDigitsTest (AllPass is_digit)
digits_test = record {
  empty = tt;
  parts = λ c cs all. (grind (arith, nat_tests, all.0), all.1);
  more = λ c cs within all. (grind (arith, nat_tests, within), all);
}

pub own_digits : IsNumeralModel (AllPass is_digit) number_of
own_digits = numerals_by_fold (AllPass is_digit) digits_test (fold (λ n digit. n * 10 + (digit - 48))) (search rules)

pub digit_facts : (b : ℕ) → is_digit b ≡ true → (is_word_start b ≡ false) × (is_blank b ≡ false) × (eqb b 45 ≡ false)
digit_facts b h = (grind (arith, nat_tests), grind (arith, nat_tests), grind (arith, nat_tests))

digits_stay : (ds rest : List ℕ) → 0 < length ds → AllPass is_digit ds → behind_blanks (ds ++ rest) ≡ ds ++ rest
digits_stay [] rest some all = absurd (omega arith)
digits_stay (b ∷ ds) rest some all = let facts = digit_facts b all.0 in rw (facts.1, facts.2) refl

digits_first : (ds rest : List ℕ) (n : ℕ) → 0 < length ds → AllPass is_digit ds → number_of ds ≡ n → n ≤ 9223372036854775808 → is_digit (get_or rest 0 0) ≡ false → terminal_at (ds ++ rest) ≡ (terminal.integer n, rest)
unfolding terminal_at
digits_first [] rest n some all is within stops = absurd (omega arith)
digits_first (b ∷ ds) rest n some all is within stops =
    let whole = run_ends is_digit (b ∷ ds) rest all stops in
    let front : take_while is_digit (b ∷ ds ++ rest) ≡ b ∷ ds = ap (λ (k : ℕ). take k (b ∷ ds ++ rest)) whole ∙ take_at (b ∷ ds) rest (length (b ∷ ds)) refl in
    let behind : drop_while is_digit (b ∷ ds ++ rest) ≡ rest = ap (λ (k : ℕ). drop k (b ∷ ds ++ rest)) whole ∙ drop_at (b ∷ ds) rest (length (b ∷ ds)) refl in
    let fits : integer_of n ≡ terminal.integer n = ap (λ (test : Bool). cond test (terminal.integer n) terminal.out_of_range) (le-leb n 9223372036854775808 within) in
    let first : integer_at (b ∷ ds ++ rest) ≡ (terminal.integer n, rest) = (λ i. ((ap (λ (x : List ℕ). integer_of (number_of x)) front ∙ ap integer_of is ∙ fits) i, behind i)) in
    let all_bytes : List ℕ = b ∷ ds ++ rest in
    let facts = digit_facts b all.0 in
    passed (is_word_start b) (word_at all_bytes) (cond (is_digit b) (integer_at all_bytes) (cond (eqb b 39) (text_at all_bytes) (sign_at all_bytes))) (terminal.integer n, rest) facts.0
    (taken (is_digit b) (integer_at all_bytes) (cond (eqb b 39) (text_at all_bytes) (sign_at all_bytes)) (terminal.integer n, rest) all.0 first)

pub integer_read : (n : ℕ) (rest : List ℕ) → n ≤ 9223372036854775808 → is_digit (get_or rest 0 0) ≡ false → IsRead (terminal.integer n) rest
integer_read n rest within stops =
    let wide : n < 2 ^ 64 = omega arith in
    let all = digits_decimal own_digits n wide in
    let some = (decimal_is_IsNumeral n wide).0.0 in
    record {
      stays = digits_stay (decimal n) rest some all;
      first = digits_first (decimal n) rest n some all (digits_value-decimal own_digits n wide) within stops;
      some = some;
    }

-- ---- texts in quotes

closes : (rest : List ℕ) → eqb (get_or rest 0 0) 39 ≡ false → behind_quote rest ≡ Some 0
closes [] calm = refl
closes (b ∷ rest) calm = rw calm refl

doubled_at : (b : ℕ) (bs rest : List ℕ) (test : Bool) → eqb b 39 ≡ test → quoted_len (bs ++ 39 ∷ rest) ≡ Some (length bs)
    → quoted_len (cond test (39 ∷ 39 ∷ []) (b ∷ []) ++ (bs ++ 39 ∷ rest)) ≡ Some (length (cond test (39 ∷ 39 ∷ []) (b ∷ [])) + length bs)
doubled_at b bs rest true is tail = ap (option_map (λ n. n + 2)) tail ∙ ap (λ (n : ℕ). Some n) (omega arith)
doubled_at b bs rest false is tail = rw is (ap (option_map (λ n. n + 1)) tail ∙ ap (λ (n : ℕ). Some n) (omega arith))

quoted_doubled : (t rest : List ℕ) → eqb (get_or rest 0 0) 39 ≡ false → quoted_len (doubled t ++ 39 ∷ rest) ≡ Some (length (doubled t))
quoted_doubled [] rest calm = closes rest calm
quoted_doubled (b ∷ t) rest calm =
    let head : List ℕ = cond (eqb b 39) (39 ∷ 39 ∷ []) (b ∷ []) in
    ap quoted_len (append_assoc head (doubled t) (39 ∷ rest)) ∙ doubled_at b (doubled t) rest (eqb b 39) refl (quoted_doubled t rest calm) ∙ ap (λ (n : ℕ). Some n) (sym (length-append head (doubled t)))

text_first : (t rest : List ℕ) → quoted_len (t ++ 39 ∷ rest) ≡ Some (length t) → terminal_at (39 ∷ t ++ 39 ∷ rest) ≡ (terminal.text t, rest)
unfolding terminal_at
text_first t rest is =
    ap (λ (o : Option ℕ). text_or_none o (t ++ 39 ∷ rest)) is
    ∙ (λ i. (terminal.text (take_at t (39 ∷ rest) (length t) refl i), behind i))
  where
    behind : drop (length t + 1) (t ++ 39 ∷ rest) ≡ rest
    behind = ap (drop (length t + 1)) (sym (append_assoc t (39 ∷ []) rest)) ∙ drop_at (t ++ 39 ∷ []) rest (length t + 1) (length-append t (39 ∷ []))

pub text_read : (t rest : List ℕ) → eqb (get_or rest 0 0) 39 ≡ false → IsRead (terminal.text (doubled t)) rest
text_read t rest calm =
    let split : token_text (terminal.text (doubled t)) ++ rest ≡ 39 ∷ doubled t ++ 39 ∷ rest = ap (λ (x : List ℕ). 39 ∷ x) (append_assoc (doubled t) (39 ∷ []) rest) in
    record {
      stays = refl;
      first = ap terminal_at split ∙ text_first (doubled t) rest (quoted_doubled t rest calm);
      some = omega arith;
    }

-- ---- signs

pub sign_read : (s : Sign) (rest : List ℕ) → Calm rest → IsRead (terminal.sign_is s) rest
unfolding terminal_at
sign_read sign.Open rest calm = record { stays = refl; first = refl; some = omega arith }
sign_read sign.Close rest calm = record { stays = refl; first = refl; some = omega arith }
sign_read sign.Comma rest calm = record { stays = refl; first = refl; some = omega arith }
sign_read sign.Dot rest calm = record { stays = refl; first = refl; some = omega arith }
sign_read sign.Semicolon rest calm = record { stays = refl; first = refl; some = omega arith }
sign_read sign.Plus rest calm = record { stays = refl; first = refl; some = omega arith }
sign_read sign.Minus rest calm = record { stays = rw calm.minus refl; first = refl; some = omega arith }
sign_read sign.Star rest calm = record { stays = refl; first = refl; some = omega arith }
sign_read sign.Slash rest calm = record { stays = refl; first = refl; some = omega arith }
sign_read sign.Equal rest calm = record { stays = refl; first = refl; some = omega arith }
sign_read sign.NotEqual rest calm = record { stays = refl; first = refl; some = omega arith }
sign_read sign.Less rest calm = record { stays = refl; first = rw (calm.greater, calm.equal) refl; some = omega arith }
sign_read sign.AtMost rest calm = record { stays = refl; first = refl; some = omega arith }
sign_read sign.Greater rest calm = record { stays = refl; first = rw calm.equal refl; some = omega arith }
sign_read sign.AtLeast rest calm = record { stays = refl; first = refl; some = omega arith }

pub open_read : (rest : List ℕ) → IsRead (terminal.sign_is sign.Open) rest
unfolding terminal_at
open_read rest = record { stays = refl; first = refl; some = omega arith }

pub dot_read : (rest : List ℕ) → IsRead (terminal.sign_is sign.Dot) rest
unfolding terminal_at
dot_read rest = record { stays = refl; first = refl; some = omega arith }

pub minus_read : (rest : List ℕ) → eqb (get_or rest 0 0) 45 ≡ false → IsRead (terminal.sign_is sign.Minus) rest
unfolding terminal_at
minus_read rest calm = record { stays = rw calm refl; first = refl; some = omega arith }
