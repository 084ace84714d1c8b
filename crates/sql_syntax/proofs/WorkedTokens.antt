-- Worked examples: the tokens of texts.
use Rattle.std.proofs.Common.{◌≡◌, ℕ, List, [], ◌∷◌, ◌++◌, refl}
use Rattle.std.specs.Prelude.{codes}
use Rattle.sql_syntax.specs.declared.keyword.Keyword.TheVariants as keyword
use Rattle.sql_syntax.specs.declared.token.Sign.TheVariants as sign
use Rattle.sql_syntax.specs.Tokens.{Terminal, tokens_of, terminal_at, terminals}
use Rattle.sql_syntax.specs.Tokens as terminal
use Rattle.sql_syntax.specs.Words.{keyword_of, is_left_out}

single_signs : terminals (tokens_of (codes "(),.;+-*/"))
    ≡ terminal.sign_is sign.Open ∷ terminal.sign_is sign.Close ∷ terminal.sign_is sign.Comma ∷ terminal.sign_is sign.Dot ∷ terminal.sign_is sign.Semicolon
    ∷ terminal.sign_is sign.Plus ∷ terminal.sign_is sign.Minus ∷ terminal.sign_is sign.Star ∷ terminal.sign_is sign.Slash ∷ []
unfolding tokens_of terminal_at
single_signs = refl

-- the longer sign is taken where both could stand
comparisons : terminals (tokens_of (codes "=<>!=<<=>>="))
    ≡ terminal.sign_is sign.Equal ∷ terminal.sign_is sign.NotEqual ∷ terminal.sign_is sign.NotEqual ∷ terminal.sign_is sign.Less
    ∷ terminal.sign_is sign.AtMost ∷ terminal.sign_is sign.Greater ∷ terminal.sign_is sign.AtLeast ∷ []
unfolding tokens_of terminal_at
comparisons = refl

-- two minus signs begin a comment, unless a blank stands between them
comments : terminals (tokens_of (codes "a<b - -c--d"))
    ≡ terminal.name (codes "a") ∷ terminal.sign_is sign.Less ∷ terminal.name (codes "b") ∷ terminal.sign_is sign.Minus ∷ terminal.sign_is sign.Minus
    ∷ terminal.name (codes "c") ∷ []
unfolding tokens_of terminal_at keyword_of is_left_out
comments = refl

words_and_numbers : terminals (tokens_of (codes "1x 007 Order"))
    ≡ terminal.integer 1 ∷ terminal.name (codes "x") ∷ terminal.integer 7 ∷ terminal.keyword keyword.Order ∷ []
unfolding tokens_of terminal_at keyword_of is_left_out
words_and_numbers = refl

-- a letter of two bytes, a doubled quote, two minus signs and a line's end
abbrev within_quotes : List ℕ
within_quotes = 195 ∷ 164 ∷ 39 ∷ 39 ∷ 45 ∷ 45 ∷ 10 ∷ []

quoted : terminals (tokens_of (codes "'' '" ++ within_quotes ++ codes "'x")) ≡ terminal.text [] ∷ terminal.text within_quotes ∷ terminal.name (codes "x") ∷ []
unfolding tokens_of terminal_at keyword_of is_left_out
quoted = refl

greatest_integers : terminals (tokens_of (codes "9223372036854775808 9223372036854775809")) ≡ terminal.integer 9223372036854775808 ∷ terminal.out_of_range ∷ []
unfolding tokens_of terminal_at
greatest_integers = refl

not_closed : terminals (tokens_of (codes "'x''")) ≡ terminal.not_closed ∷ []
unfolding tokens_of terminal_at
not_closed = refl

unknown : terminals (tokens_of (195 ∷ 164 ∷ codes " x")) ≡ terminal.unknown ∷ []
unfolding tokens_of terminal_at
unknown = refl

left_out : terminals (tokens_of (codes "%||" ++ 34 ∷ codes "Using"))
    ≡ terminal.left_out (codes "%") ∷ terminal.left_out (codes "||") ∷ terminal.left_out (34 ∷ []) ∷ terminal.left_out (codes "Using") ∷ []
unfolding tokens_of terminal_at keyword_of is_left_out
left_out = refl
