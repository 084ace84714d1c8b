-- What stands in the quotes of a text of UTF-8 is UTF-8, also with its quotes doubled or not.
use Rattle.std.proofs.Common.{◌≡◌, ℕ, zero, suc, ◌+◌, ◌≤◌, ◌<◌, Bool, true, false, cond, eqb, List, [], ◌∷◌, ◌++◌, length, get_or, take, drop, Some, not, refl, sym, subst, arith, append_assoc, inl, inr}
use Rattle.std.specs.List.{AllByRecursion, position_or_len, before_first, after_first}
use Rattle.std.specs.Str.{IsUtf8}
use Rattle.std.proofs.lemmas.Bool.{cases_lt, eqb-true}
use Rattle.std.proofs.lemmas.List.{take_at, drop_at, get_or_at, length-append}
use Rattle.std.proofs.lemmas.List.Sums.{prefix_len-le-length}
use Rattle.std.proofs.lemmas.Str.{IsUtf8-append, IsUtf8-nil, IsUtf8-take, IsUtf8-drop, IsUtf8-from_ascii, IsCharBoundary-after_ascii, IsCharBoundary-before_ascii}
use Rattle.std.proofs.lemmas.Str.Ascii.{IsAscii-cons, IsAscii-nil}
use Rattle.sql_syntax.specs.Tokens.{quoted_len, tokens_of, terminals}
use Rattle.sql_syntax.specs.Phrases.{undoubled}
use Rattle.sql_syntax.specs.CanonicalTokens.{doubled}
use Rattle.sql_syntax.specs.Quoting.{without_quote}
use Rattle.sql_syntax.proofs.LeftBehind.{tokens_proper}
use Rattle.sql_syntax.proofs.Names.{IsProperBy}
use Rattle.sql_syntax.proofs.Quotes.{quote_stands}
use Rattle.sql_syntax.proofs.Doubling.{parts, doubled_cut, undoubled_cut, shorter_cut, doubled_same, undoubled_same}

-- ---- round a byte of ASCII

-- what stands before a byte of ASCII, and what stands behind it
pub before_ascii : (front : List ℕ) (b : ℕ) (rest : List ℕ) → b < 128 → IsUtf8 (front ++ b ∷ rest) → IsUtf8 front
before_ascii front b rest ascii utf8 =
    let within : length front < length (front ++ b ∷ rest) = omega (arith, length-append front (b ∷ rest)) in
    let boundary = IsCharBoundary-before_ascii (front ++ b ∷ rest) (length front) within (omega (arith, get_or_at front b rest 0 (length front) refl, ascii)) in
    subst IsUtf8 (take_at front (b ∷ rest) (length front) refl) (IsUtf8-take (front ++ b ∷ rest) (length front) utf8 boundary)

pub behind_ascii : (front : List ℕ) (b : ℕ) (rest : List ℕ) → b < 128 → IsUtf8 (front ++ b ∷ rest) → IsUtf8 rest
behind_ascii front b rest ascii utf8 =
    let within : length front < length (front ++ b ∷ rest) = omega (arith, length-append front (b ∷ rest)) in
    let boundary = IsCharBoundary-after_ascii (front ++ b ∷ rest) (length front) utf8 within (omega (arith, get_or_at front b rest 0 (length front) refl, ascii)) in
    let whole : drop (length front + 1) ((front ++ b ∷ []) ++ rest) ≡ rest = drop_at (front ++ b ∷ []) rest (length front + 1) (length-append front (b ∷ [])) in
    let same : drop (length front + 1) (front ++ b ∷ rest) ≡ rest = subst (λ (x : List ℕ). drop (length front + 1) x ≡ rest) (append_assoc front (b ∷ []) rest) whole in
    subst IsUtf8 same (IsUtf8-drop (front ++ b ∷ rest) (length front + 1) utf8 boundary)

-- ---- quotes doubled and not

two_quotes : (t : List ℕ) → IsUtf8 t → IsUtf8 (39 ∷ 39 ∷ t)
two_quotes t utf8 = IsUtf8-append (39 ∷ 39 ∷ []) t (IsUtf8-from_ascii (39 ∷ 39 ∷ []) (IsAscii-cons 39 (39 ∷ []) (omega arith) (IsAscii-cons 39 [] (omega arith) IsAscii-nil))) utf8

one_quote : (t : List ℕ) → IsUtf8 t → IsUtf8 (39 ∷ t)
one_quote t utf8 = IsUtf8-append (39 ∷ []) t (IsUtf8-from_ascii (39 ∷ []) (IsAscii-cons 39 [] (omega arith) IsAscii-nil)) utf8

abbrev is_quote : ℕ → Bool
is_quote b = eqb b 39

abbrev front_of : List ℕ → List ℕ
front_of = before_first is_quote

abbrev rest_of : List ℕ → List ℕ
rest_of = after_first is_quote

cut_utf8 : (bs : List ℕ) → position_or_len is_quote bs < length bs → IsUtf8 bs → IsUtf8 (front_of bs) × IsUtf8 (rest_of bs)
cut_utf8 bs within utf8 =
    let split = subst IsUtf8 (parts bs (front_of bs) (rest_of bs) within refl refl) utf8 in
    (before_ascii (front_of bs) 39 (rest_of bs) (omega arith) split, behind_ascii (front_of bs) 39 (rest_of bs) (omega arith) split)

at_end : (bs : List ℕ) → length bs ≤ position_or_len is_quote bs → position_or_len is_quote bs ≡ length bs
at_end bs past = omega (arith, past, prefix_len-le-length (λ b. not (is_quote b)) bs)

doubled_by : (n : ℕ) (bs : List ℕ) → length bs ≤ n → IsUtf8 bs → IsUtf8 (doubled bs)
doubled_by zero [] short utf8 = IsUtf8-nil
doubled_by zero (b ∷ bs) short utf8 = absurd (omega arith)
doubled_by (suc n) bs short utf8 =
    elim (cases_lt (position_or_len is_quote bs) (length bs)) [
      | inl within ↦
          let cut = cut_utf8 bs within utf8 in
          let shorter = shorter_cut bs (front_of bs) (rest_of bs) (within, refl, refl) in
          subst IsUtf8 (sym (doubled_cut bs (front_of bs) (rest_of bs) (within, refl, refl)))
          (IsUtf8-append (front_of bs) (39 ∷ 39 ∷ doubled (rest_of bs)) cut.0 (two_quotes (doubled (rest_of bs)) (doubled_by n (rest_of bs) (omega arith) cut.1)))
      | inr past ↦ subst IsUtf8 (sym (doubled_same bs (at_end bs past))) utf8
    ]

pub doubled_utf8 : (bs : List ℕ) → IsUtf8 bs → IsUtf8 (doubled bs)
doubled_utf8 bs utf8 = doubled_by (length bs) bs (omega arith) utf8

quote_off : (c : ℕ) (bs : List ℕ) (test : Bool) → eqb c 39 ≡ test → IsUtf8 (c ∷ bs) → IsUtf8 (cond test bs (c ∷ bs))
quote_off c bs true is utf8 = let quote = eqb-true c 39 is in behind_ascii [] c bs (omega arith) utf8
quote_off c bs false is utf8 = utf8

without_utf8 : (bs : List ℕ) → IsUtf8 bs → IsUtf8 (without_quote bs)
without_utf8 [] utf8 = utf8
without_utf8 (c ∷ bs) utf8 = quote_off c bs (eqb c 39) refl utf8

cond_shorter : (c : ℕ) (bs : List ℕ) (test : Bool) → length (cond test bs (c ∷ bs)) ≤ length (c ∷ bs)
cond_shorter c bs true = omega arith
cond_shorter c bs false = omega arith

without_shorter : (bs : List ℕ) → length (without_quote bs) ≤ length bs
without_shorter [] = omega arith
without_shorter (c ∷ bs) = cond_shorter c bs (eqb c 39)

undoubled_by : (n : ℕ) (bs : List ℕ) → length bs ≤ n → IsUtf8 bs → IsUtf8 (undoubled bs)
undoubled_by zero [] short utf8 = IsUtf8-nil
undoubled_by zero (b ∷ bs) short utf8 = absurd (omega arith)
undoubled_by (suc n) bs short utf8 =
    elim (cases_lt (position_or_len is_quote bs) (length bs)) [
      | inl within ↦
          let cut = cut_utf8 bs within utf8 in
          let rest = without_quote (rest_of bs) in
          let shorter = shorter_cut bs (front_of bs) (rest_of bs) (within, refl, refl) in
          let short_rest : length rest ≤ n = omega (arith, shorter, short, without_shorter (rest_of bs)) in
          subst IsUtf8 (sym (undoubled_cut bs (front_of bs) (rest_of bs) (within, refl, refl)))
          (IsUtf8-append (front_of bs) (39 ∷ undoubled rest) cut.0 (one_quote (undoubled rest) (undoubled_by n rest short_rest (without_utf8 (rest_of bs) cut.1))))
      | inr past ↦ subst IsUtf8 (sym (undoubled_same bs (at_end bs past))) utf8
    ]

pub undoubled_utf8 : (bs : List ℕ) → IsUtf8 bs → IsUtf8 (undoubled bs)
undoubled_utf8 bs utf8 = undoubled_by (length bs) bs (omega arith) utf8

-- ---- the end of a text

-- these bytes are the end of a text of UTF-8
abbrev IsTail : List ℕ → Type 0
IsTail bs = (front : List ℕ) × IsUtf8 (front ++ bs)

next_tail : (b : ℕ) (bs : List ℕ) → IsTail (b ∷ bs) → IsTail bs
next_tail b bs tail = (tail.0 ++ b ∷ [], subst IsUtf8 (sym (append_assoc tail.0 (b ∷ []) bs)) tail.1)

-- ---- what stands in quotes

in_quotes : (bs : List ℕ) (n : ℕ) → IsTail bs → get_or bs 0 0 ≡ 39 → quoted_len (drop 1 bs) ≡ Some n → IsUtf8 (take n (drop 1 bs))
in_quotes [] n tail quote closed = absurd cc
in_quotes (b ∷ bs) n tail quote closed =
    let stands = quote_stands bs n closed in
    let utf8 = behind_ascii tail.0 b bs (omega arith) tail.1 in
    IsUtf8-take bs n utf8 (IsCharBoundary-before_ascii bs n stands.0 (omega (arith, stands.1)))

pub tokens_utf8 : (bs : List ℕ) → IsUtf8 bs → AllByRecursion (IsProperBy IsUtf8) (terminals (tokens_of bs))
tokens_utf8 bs utf8 = tokens_proper IsTail IsUtf8 ([], IsUtf8-nil) next_tail in_quotes bs ([], utf8)
