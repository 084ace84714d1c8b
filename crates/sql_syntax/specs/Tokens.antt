-- The tokens of a text, by cases on its bytes.
use Rattle.std.specs.Prelude.{ℕ, zero, suc, ◌+◌, ◌-◌, ◌*◌, Bool, true, false, ◌&&◌, ◌||◌, ◌==◌, nat_le, if◌then◌else◌, List, [], ◌∷◌, length, map, take, drop, fold, slice_index, Option, Some, None, option_map, codes}
use Rattle.std.specs.List.{prefix_len, take_while}
use Rattle.sql_syntax.specs.declared.keyword.Keyword.{Keyword}
use Rattle.sql_syntax.specs.declared.token.Sign.{Sign}
use Rattle.sql_syntax.specs.declared.token.Sign.TheVariants as sign
use Rattle.sql_syntax.specs.declared.token.Token.{Token}
use Rattle.sql_syntax.specs.declared.token.Token.TheVariants as token
use Rattle.sql_syntax.specs.declared.token.Lexeme.{Lexeme}
use Rattle.sql_syntax.specs.Words.{keyword_of, is_left_out}

-- a token without where its text lies in memory
pub data Terminal : Type 0 where
  keyword : Keyword → Terminal
  name : List ℕ → Terminal
  integer : ℕ → Terminal
  text : List ℕ → Terminal
  sign_is : Sign → Terminal
  left_out : List ℕ → Terminal
  out_of_range : Terminal
  not_closed : Terminal
  unknown : Terminal

-- a token at its offset
pub record Located : Type 0 where
  pub terminal : Terminal
  pub offset : ℕ

-- the token, by the text that it lends
abbrev pub terminal_of : Token → Terminal
terminal_of (token.Keyword k) = keyword k
terminal_of (token.Name n) = name n.now
terminal_of (token.Integer n) = integer n
terminal_of (token.Text t) = text t.now
terminal_of (token.Sign s) = sign_is s
terminal_of (token.LeftOut w) = left_out w.now
terminal_of token.IntegerOutOfRange = out_of_range
terminal_of token.TextNotClosed = not_closed
terminal_of token.UnknownCharacter = unknown

-- the token of the code, without where it lies
abbrev pub located : Lexeme → Located
located l = record { terminal = terminal_of l.token; offset = l.offset }

-- each token of a list so
abbrev pub all_located : List Lexeme → List Located
all_located = map located

-- the tokens alone, wherever they stand
abbrev pub terminals : List Located → List Terminal
terminals = map (λ p. p.terminal)

-- ---- blanks and comments

-- space, tab, CR, LF
abbrev pub is_blank : ℕ → Bool
is_blank b = b == 32 || b == 9 || b == 13 || b == 10

abbrev mutual
  -- What is left behind blanks and comments. A comment goes from two minus signs to the line's end, or the text's.
  pub behind_blanks : List ℕ → List ℕ
  behind_blanks [] = []
  behind_blanks (b ∷ bs) =
      if is_blank b then behind_blanks bs
      else (if b == 45 && slice_index bs 0 == 45 then behind_line bs
      else b ∷ bs)

  -- what is left behind the line's end, and blanks and comments there
  pub behind_line : List ℕ → List ℕ
  behind_line [] = []
  behind_line (b ∷ bs) = if b == 10 then behind_blanks bs else behind_line bs

-- ---- words and integers

-- 0 to 9
abbrev pub is_digit : ℕ → Bool
is_digit b = nat_le 48 b && nat_le b 57

-- a letter of ASCII or `_`
abbrev pub is_word_start : ℕ → Bool
is_word_start b = (nat_le 65 b && nat_le b 90) || (nat_le 97 b && nat_le b 122) || b == 95

-- a letter, a digit or `_`
abbrev pub is_word_byte : ℕ → Bool
is_word_byte b = is_word_start b || is_digit b

-- what is left behind the longest run of bytes that pass
abbrev pub drop_while : (ℕ → Bool) → List ℕ → List ℕ
drop_while passes bs = drop (prefix_len passes bs) bs

-- a word that is no keyword is left out, or else a name
abbrev pub other_word : List ℕ → Bool → Terminal
other_word w true = left_out w
other_word w false = name w

-- a word is a keyword or another word
abbrev pub word_or_other : List ℕ → Option Keyword → Terminal
word_or_other w (Some k) = keyword k
word_or_other w None = other_word w (is_left_out w)

-- the token that a word is
abbrev pub word_of : List ℕ → Terminal
word_of w = word_or_other w (keyword_of w)

-- the number that the digits make
abbrev pub number_of : List ℕ → ℕ
number_of = fold (λ n digit. n * 10 + (digit - 48)) 0

-- 9223372036854775808 and less
abbrev pub integer_of : ℕ → Terminal
integer_of n = if nat_le n 9223372036854775808 then integer n else out_of_range

-- ---- texts in quotes

abbrev mutual
  -- how many bytes stand before the quote that closes a text; a doubled quote doesn't
  pub quoted_len : List ℕ → Option ℕ
  quoted_len [] = None
  quoted_len (b ∷ bs) = if b == 39 then behind_quote bs else option_map (λ n. n + 1) (quoted_len bs)

  -- the same, right behind a quote
  pub behind_quote : List ℕ → Option ℕ
  behind_quote [] = Some 0
  behind_quote (b ∷ bs) = if b == 39 then option_map (λ n. n + 2) (quoted_len bs) else Some 0

-- ---- signs

-- a sign of two bytes
abbrev pub long_sign : ℕ → ℕ → Option Terminal
long_sign a b =
    if a == 60 && b == 62 then Some (sign_is sign.NotEqual)
    else (if a == 33 && b == 61 then Some (sign_is sign.NotEqual)
    else (if a == 60 && b == 61 then Some (sign_is sign.AtMost)
    else (if a == 62 && b == 61 then Some (sign_is sign.AtLeast)
    else (if a == 124 && b == 124 then Some (left_out (codes "||"))
    else None))))

-- a sign of one byte; `%` and the double quote are left out
abbrev pub short_sign : ℕ → Option Terminal
short_sign b =
    if b == 40 then Some (sign_is sign.Open)
    else (if b == 41 then Some (sign_is sign.Close)
    else (if b == 44 then Some (sign_is sign.Comma)
    else (if b == 46 then Some (sign_is sign.Dot)
    else (if b == 59 then Some (sign_is sign.Semicolon)
    else (if b == 43 then Some (sign_is sign.Plus)
    else (if b == 45 then Some (sign_is sign.Minus)
    else (if b == 42 then Some (sign_is sign.Star)
    else (if b == 47 then Some (sign_is sign.Slash)
    else (if b == 61 then Some (sign_is sign.Equal)
    else (if b == 60 then Some (sign_is sign.Less)
    else (if b == 62 then Some (sign_is sign.Greater)
    else (if b == 37 then Some (left_out (codes "%"))
    else (if b == 34 then Some (left_out (codes "\""))
    else None)))))))))))))

-- ---- the token at the front, where no blank or comment stands, and what is left behind it

-- a word is the longest run of its bytes
abbrev pub word_at : List ℕ → Terminal × List ℕ
word_at bs = (word_of (take_while is_word_byte bs), drop_while is_word_byte bs)

-- an integer is the longest run of digits
abbrev pub integer_at : List ℕ → Terminal × List ℕ
integer_at bs = (integer_of (number_of (take_while is_digit bs)), drop_while is_digit bs)

-- nothing is read behind a text that isn't closed
abbrev pub text_or_none : Option ℕ → List ℕ → Terminal × List ℕ
text_or_none (Some n) bs = (text (take n bs), drop (n + 1) bs)
text_or_none None bs = (not_closed, [])

-- a text begins behind its quote
abbrev pub text_at : List ℕ → Terminal × List ℕ
text_at bs = text_or_none (quoted_len (drop 1 bs)) (drop 1 bs)

-- nothing is read behind an unknown character
abbrev pub short_or_none : Option Terminal → List ℕ → Terminal × List ℕ
short_or_none (Some t) bs = (t, drop 1 bs)
short_or_none None bs = (unknown, [])

-- the longest sign is taken
abbrev pub long_or_short : Option Terminal → List ℕ → Terminal × List ℕ
long_or_short (Some t) bs = (t, drop 2 bs)
long_or_short None bs = short_or_none (short_sign (slice_index bs 0)) bs

-- a sign of two bytes or of one
abbrev pub sign_at : List ℕ → Terminal × List ℕ
sign_at bs = long_or_short (long_sign (slice_index bs 0) (slice_index bs 1)) bs

-- a token's first byte says of which kind it is
unfoldable pub terminal_at : List ℕ → Terminal × List ℕ
terminal_at bs =
    if is_word_start (slice_index bs 0) then word_at bs
    else (if is_digit (slice_index bs 0) then integer_at bs
    else (if slice_index bs 0 == 39 then text_at bs
    else sign_at bs))

-- ---- all tokens

-- The token at the front of what is left of a text, and those that `more` gives of what is left behind it.
-- The offset of a token is how many bytes of the text stand before it.
abbrev pub with_first : ℕ → (List ℕ → List Located) → List ℕ → List Located
with_first text_len more [] = []
with_first text_len more (b ∷ bs) =
    let first = terminal_at (b ∷ bs) in
    record { terminal = first.0; offset = text_len - length (b ∷ bs) } ∷ more first.1

-- the tokens of what is left of a text, at most n of them, each behind blanks and comments
abbrev pub located_from : ℕ → ℕ → List ℕ → List Located
located_from zero text_len bs = []
located_from (suc n) text_len bs = with_first text_len (located_from n text_len) (behind_blanks bs)

-- the tokens of a text, which has no more of them than bytes
unfoldable pub tokens_of : List ℕ → List Located
tokens_of bs = located_from (length bs) (length bs) bs
