-- What stands in the quotes of a text is UTF-8 and no longer than the text.
use Rattle.std.proofs.Common.{ℕ, zero, suc, ◌≤◌, Bool, true, false, ◌&&◌, cond, eqb, List, [], ◌∷◌, length, take, drop, arith}
use Rattle.std.specs.List.{AllByRecursion}
use Rattle.std.specs.Str.{IsUtf8}
use Rattle.sql_syntax.specs.Tokens as terminal
use Rattle.sql_syntax.specs.Tokens.{Terminal, tokens_of, terminals}
use Rattle.sql_syntax.specs.Phrases.{undoubled}
use Rattle.sql_syntax.proofs.LeftBehind.{tokens_proper}
use Rattle.sql_syntax.proofs.Names.{IsProperBy}
use Rattle.sql_syntax.proofs.Utf8Parts.{tokens_utf8}

take_short : (n : ℕ) (bs : List ℕ) → length (take n bs) ≤ length bs
take_short zero bs = omega arith
take_short (suc n) [] = omega arith
take_short (suc n) (b ∷ bs) = omega (arith, take_short n bs)

cond_short : (test : Bool) (b c : ℕ) (bs : List ℕ) → length (undoubled bs) ≤ length bs → length (undoubled (c ∷ bs)) ≤ length (c ∷ bs)
    → length (cond test (39 ∷ undoubled bs) (b ∷ undoubled (c ∷ bs))) ≤ length (b ∷ c ∷ bs)
cond_short true b c bs pair one = omega (arith, pair)
cond_short false b c bs pair one = omega (arith, one)

-- doubled quotes become one
pub undoubled_short : (bs : List ℕ) → length (undoubled bs) ≤ length bs
undoubled_short [] = omega arith
undoubled_short (b ∷ []) = omega arith
undoubled_short (b ∷ c ∷ bs) = cond_short (eqb b 39 && eqb c 39) b c bs (undoubled_short bs) (undoubled_short (c ∷ bs))

module _ (most : ℕ) where
  abbrev IsShort : List ℕ → Type 0
  IsShort bs = length bs ≤ most

  none_short : IsShort []
  none_short = omega arith

  next_short : (b : ℕ) (bs : List ℕ) → IsShort (b ∷ bs) → IsShort bs
  next_short b bs short = omega (arith, short)

  in_quotes : (bs : List ℕ) (n : ℕ) → IsShort bs → IsShort (take n (drop 1 bs))
  in_quotes [] n short = omega (arith, take_short n [])
  in_quotes (b ∷ bs) n short = omega (arith, take_short n bs, short)

  tokens_short : (bs : List ℕ) → IsShort bs → AllByRecursion (IsProperBy IsShort) (terminals (tokens_of bs))
  tokens_short = tokens_proper IsShort IsShort none_short next_short (λ bs n short quote closed. in_quotes bs n short)

  -- UTF-8, and no longer than that
  abbrev pub IsFit : List ℕ → Type 0
  IsFit t = IsUtf8 t × (length t ≤ most)

  both_proper : (t : Terminal) → IsProperBy IsUtf8 t → IsProperBy IsShort t → IsProperBy IsFit t
  both_proper (terminal.name n) utf8 short = utf8
  both_proper (terminal.keyword k) utf8 short = tt
  both_proper (terminal.integer n) utf8 short = tt
  both_proper (terminal.text t) utf8 short = (utf8, short)
  both_proper (terminal.sign_is s) utf8 short = tt
  both_proper (terminal.left_out w) utf8 short = utf8
  both_proper terminal.out_of_range utf8 short = tt
  both_proper terminal.not_closed utf8 short = tt
  both_proper terminal.unknown utf8 short = tt

  all_both : (ts : List Terminal) → AllByRecursion (IsProperBy IsUtf8) ts → AllByRecursion (IsProperBy IsShort) ts → AllByRecursion (IsProperBy IsFit) ts
  all_both [] utf8 short = tt
  all_both (t ∷ ts) utf8 short = (both_proper t utf8.0 short.0, all_both ts utf8.1 short.1)

  pub tokens_fit : (bs : List ℕ) → IsUtf8 bs → length bs ≤ most → AllByRecursion (IsProperBy IsFit) (terminals (tokens_of bs))
  tokens_fit bs utf8 short = all_both (terminals (tokens_of bs)) (tokens_utf8 bs utf8) (tokens_short bs short)
