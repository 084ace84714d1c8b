-- What holds of a text and of whatever is left of it holds in the quotes of each of its tokens.
use Rattle.std.proofs.Common.{◌≡◌, ℕ, zero, suc, ◌+◌, Bool, true, false, cond, eqb, List, [], ◌∷◌, length, get_or, take, drop, Option, Some, None}
use Rattle.std.specs.List.{AllByRecursion}
use Rattle.sql_syntax.specs.Tokens as terminal
use Rattle.sql_syntax.specs.Tokens.{Terminal, is_blank, behind_blanks, behind_line, quoted_len, terminal_at, with_first, located_from, tokens_of, terminals}
use Rattle.sql_syntax.proofs.Names.{IsProperBy, first_proper}

-- what holds of what is left, and what follows of it in quotes
module _ (Holds IsQuoted : List ℕ → Type 0) (none : Holds []) (next : (b : ℕ) (bs : List ℕ) → Holds (b ∷ bs) → Holds bs)
    (quoted : (bs : List ℕ) (n : ℕ) → Holds bs → get_or bs 0 0 ≡ 39 → quoted_len (drop 1 bs) ≡ Some n → IsQuoted (take n (drop 1 bs))) where
  dropped : (n : ℕ) (bs : List ℕ) → Holds bs → Holds (drop n bs)
  dropped zero bs holds = holds
  dropped (suc n) [] holds = holds
  dropped (suc n) (b ∷ bs) holds = dropped n bs (next b bs holds)

  either : (test : Bool) (xs ys : List ℕ) → Holds xs → Holds ys → Holds (cond test xs ys)
  either true xs ys x y = x
  either false xs ys x y = y

  mutual
    blanks_left : (bs : List ℕ) → Holds bs → Holds (behind_blanks bs)
    blanks_left [] holds = holds
    blanks_left (b ∷ bs) holds =
        either (is_blank b) (behind_blanks bs) _ (blanks_left bs (next b bs holds)) (either _ (behind_line bs) (b ∷ bs) (line_left bs (next b bs holds)) holds)

    line_left : (bs : List ℕ) → Holds bs → Holds (behind_line bs)
    line_left [] holds = holds
    line_left (b ∷ bs) holds = either (eqb b 10) (behind_blanks bs) (behind_line bs) (blanks_left bs (next b bs holds)) (line_left bs (next b bs holds))

  either_left : (test : Bool) (x y : Terminal × List ℕ) → Holds x.1 → Holds y.1 → Holds (cond test x y).1
  either_left true x y here there = here
  either_left false x y here there = there

  text_left : (o : Option ℕ) (bs : List ℕ) → Holds bs → Holds (terminal.text_or_none o bs).1
  text_left (Some n) bs holds = dropped (n + 1) bs holds
  text_left None bs holds = none

  short_left : (o : Option Terminal) (bs : List ℕ) → Holds bs → Holds (terminal.short_or_none o bs).1
  short_left (Some t) bs holds = dropped 1 bs holds
  short_left None bs holds = none

  sign_left : (o : Option Terminal) (bs : List ℕ) → Holds bs → Holds (terminal.long_or_short o bs).1
  sign_left (Some t) bs holds = dropped 2 bs holds
  sign_left None bs holds = short_left (terminal.short_sign (get_or bs 0 0)) bs holds

  first_left : (bs : List ℕ) → Holds bs → Holds (terminal_at bs).1
  unfolding terminal_at
  first_left bs holds =
      either_left (terminal.is_word_start (get_or bs 0 0)) (terminal.word_at bs) _ (dropped _ bs holds)
      (either_left (terminal.is_digit (get_or bs 0 0)) (terminal.integer_at bs) _ (dropped _ bs holds)
      (either_left (eqb (get_or bs 0 0) 39) (terminal.text_at bs) (terminal.sign_at bs) (text_left (quoted_len (drop 1 bs)) (drop 1 bs) (dropped 1 bs holds))
      (sign_left (terminal.long_sign (get_or bs 0 0) (get_or bs 1 0)) bs holds)))

  with_first_proper : (n text_len : ℕ) (bs : List ℕ) → Holds bs → ((left : List ℕ) → Holds left → AllByRecursion (IsProperBy IsQuoted) (terminals (located_from n text_len left)))
      → AllByRecursion (IsProperBy IsQuoted) (terminals (with_first text_len (located_from n text_len) bs))
  with_first_proper n text_len [] holds more = tt
  with_first_proper n text_len (b ∷ bs) holds more =
      (first_proper IsQuoted (b ∷ bs) (λ quote k closed. quoted (b ∷ bs) k holds quote closed), more (terminal_at (b ∷ bs)).1 (first_left (b ∷ bs) holds))

  all_proper : (n text_len : ℕ) (bs : List ℕ) → Holds bs → AllByRecursion (IsProperBy IsQuoted) (terminals (located_from n text_len bs))
  all_proper zero text_len bs holds = tt
  all_proper (suc n) text_len bs holds = with_first_proper n text_len (behind_blanks bs) (blanks_left bs holds) (all_proper n text_len)

  pub tokens_proper : (bs : List ℕ) → Holds bs → AllByRecursion (IsProperBy IsQuoted) (terminals (tokens_of bs))
  unfolding tokens_of
  tokens_proper bs holds = all_proper (length bs) (length bs) bs holds
