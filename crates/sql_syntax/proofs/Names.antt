-- What a name is, and where it stands in a text.
use Rattle.std.proofs.Common.{◌≡◌, ℕ, zero, suc, Bool, true, false, cond, eqb, leb, List, [], ◌∷◌, ◌++◌, length, get_or, take, drop, Option, Some, None, refl, sym, ap, subst, ◌∙◌, arith}
use Rattle.std.specs.Prelude.{find, bytes_eq}
use Rattle.std.specs.List.{prefix_len, take_while, AllByRecursion, list_any}
use Rattle.std.specs.Char.{to_ascii_lowercase}
use Rattle.std.specs.Str.{IsAscii}
use Rattle.std.proofs.lemmas.Bool.{eqb-true}
use Rattle.std.proofs.lemmas.Bool.Decides.{nat_tests}
use Rattle.std.proofs.lemmas.List.{take_at, drop_at}
use Rattle.std.proofs.lemmas.List.Sums.{take_while-cons}
use Rattle.std.proofs.lemmas.Str.Ascii.{lowercase-lowercase, IsAscii-cons, IsAscii-nil}
use Rattle.sql_syntax.specs.declared.keyword.Keyword.{Keyword}
use Rattle.sql_syntax.specs.declared.token.Sign.{Sign}
use Rattle.sql_syntax.specs.Words.{lower, spelling_of, keywords, keyword_of, left_out_words, is_left_out}
use Rattle.sql_syntax.specs.Tokens as terminal
use Rattle.sql_syntax.specs.Tokens.{Terminal, Located, is_blank, behind_blanks, is_word_start, is_word_byte, drop_while, other_word, word_or_other, word_of, word_at, quoted_len, terminal_at, with_first, located_from, tokens_of, terminals}
use Rattle.sql_syntax.proofs.Runs.{words_ascii}

abbrev pub AllPass : (ℕ → Bool) → List ℕ → Type 0
AllPass p = AllByRecursion (λ b. p b ≡ true)

-- the word is a name
pub record IsName (n : List ℕ) : Type 0 where
  pub start : is_word_start (get_or n 0 0) ≡ true
  pub word : AllPass is_word_byte n
  pub free : word_of n ≡ terminal.name n

-- ---- runs

run_cons : (p : ℕ → Bool) (b : ℕ) (bs : List ℕ) (test : Bool) → p b ≡ test → AllPass p bs → AllPass p (cond test (b ∷ bs) [])
run_cons p b bs true is all = (is, all)
run_cons p b bs false is all = tt

pub run_passes : (p : ℕ → Bool) (bs : List ℕ) → AllPass p (take_while p bs)
run_passes p [] = tt
run_passes p (b ∷ bs) = subst (AllPass p) (sym (take_while-cons p b bs)) (run_cons p b (take_while p bs) (p b) refl (run_passes p bs))

pub run_ends : (p : ℕ → Bool) (n rest : List ℕ) → AllPass p n → p (get_or rest 0 0) ≡ false → prefix_len p (n ++ rest) ≡ length n
run_ends p [] [] all stops = refl
run_ends p [] (x ∷ rest) all stops = rw stops refl
run_ends p (b ∷ n) rest all stops = rw (all.0, run_ends p n rest all.1 stops) (omega arith)

-- ---- a name in a text

start_stays : (b : ℕ) → is_word_start b ≡ true → (is_blank b ≡ false) × (eqb b 45 ≡ false)
start_stays b h = (grind (arith, nat_tests), grind (arith, nat_tests))

-- a name isn't passed over as a blank
pub name_stays : (n rest : List ℕ) → IsName n → behind_blanks (n ++ rest) ≡ n ++ rest
name_stays [] rest is = absurd cc
name_stays (b ∷ n) rest is =
    let stays = start_stays b is.start in
    rw (stays.0, stays.1) refl

taken : {A : Type 0} (test : Bool) (x y z : A) → test ≡ true → x ≡ z → cond test x y ≡ z
taken true x y z is e = e
taken false x y z is e = absurd cc

-- a name is the token at the front
pub name_first : (n rest : List ℕ) → IsName n → is_word_byte (get_or rest 0 0) ≡ false → terminal_at (n ++ rest) ≡ (terminal.name n, rest)
unfolding terminal_at
name_first [] rest is stops = absurd cc
name_first (b ∷ n) rest is stops =
    let whole = run_ends is_word_byte (b ∷ n) rest is.word stops in
    let front : take_while is_word_byte (b ∷ n ++ rest) ≡ b ∷ n = ap (λ (k : ℕ). take k (b ∷ n ++ rest)) whole ∙ take_at (b ∷ n) rest (length (b ∷ n)) refl in
    let behind : drop_while is_word_byte (b ∷ n ++ rest) ≡ rest = ap (λ (k : ℕ). drop k (b ∷ n ++ rest)) whole ∙ drop_at (b ∷ n) rest (length (b ∷ n)) refl in
    let first : word_at (b ∷ n ++ rest) ≡ (terminal.name (b ∷ n), rest) = (λ i. ((ap word_of front ∙ is.free) i, behind i)) in
    let all : List ℕ = b ∷ n ++ rest in
    taken (is_word_start b) (word_at all) (cond (terminal.is_digit b) (terminal.integer_at all) (cond (eqb b 39) (terminal.text_at all) (terminal.sign_at all))) (terminal.name (b ∷ n), rest) is.start first

-- ---- every name of a text is one

-- a name is one, and what stands in the quotes of a text is as it should be
abbrev pub IsProperBy : (List ℕ → Type 0) → Terminal → Type 0
IsProperBy P (terminal.name n) = IsName n
IsProperBy P (terminal.keyword k) = Unit {0}
IsProperBy P (terminal.integer n) = Unit {0}
IsProperBy P (terminal.text t) = P t
IsProperBy P (terminal.sign_is s) = Unit {0}
IsProperBy P (terminal.left_out w) = Unit {0}
IsProperBy P terminal.out_of_range = Unit {0}
IsProperBy P terminal.not_closed = Unit {0}
IsProperBy P terminal.unknown = Unit {0}

abbrev any_text : List ℕ → Type 0
any_text t = Unit {0}

abbrev pub IsProper : Terminal → Type 0
IsProper = IsProperBy any_text

-- a run of bytes of a word begins as what it is taken from
run_start : (bs : List ℕ) → is_word_start (get_or bs 0 0) ≡ true → is_word_start (get_or (take_while is_word_byte bs) 0 0) ≡ true
run_start [] starts = starts
run_start (b ∷ bs) starts =
    let passes : is_word_byte b ≡ true = grind (arith, nat_tests) in
    rw (take_while-cons is_word_byte b bs, passes) starts

word_proper : (P : List ℕ → Type 0) (w : List ℕ) (k : Option Keyword) (out : Bool) → keyword_of w ≡ k → is_left_out w ≡ out → is_word_start (get_or w 0 0) ≡ true → AllPass is_word_byte w → IsProperBy P (word_or_other w k)
word_proper P w (Some k) out is is_out starts all = tt
word_proper P w None true is is_out starts all = rw is_out tt
word_proper P w None false is is_out starts all =
    let free : word_of w ≡ terminal.name w = rw (is, is_out) refl in
    rw is_out (record { start = starts; word = all; free = free })

integer_proper : (P : List ℕ → Type 0) (n : ℕ) (test : Bool) → IsProperBy P (cond test (terminal.integer n) terminal.out_of_range)
integer_proper P n true = tt
integer_proper P n false = tt

text_proper : (P : List ℕ → Type 0) (o : Option ℕ) (bs : List ℕ) → ((n : ℕ) → o ≡ Some n → P (take n bs)) → IsProperBy P (terminal.text_or_none o bs).0
text_proper P (Some n) bs proper = proper n refl
text_proper P None bs proper = tt

abbrev ProperIfSome : (List ℕ → Type 0) → Option Terminal → Type 0
ProperIfSome P None = Unit {0}
ProperIfSome P (Some t) = IsProperBy P t

record Fine (P : List ℕ → Type 0) (o : Option Terminal) : Type 0 where
  proper : ProperIfSome P o

fine_cond : (P : List ℕ → Type 0) (test : Bool) {o p : Option Terminal} → Fine P o → Fine P p → Fine P (cond test o p)
fine_cond P true here there = here
fine_cond P false here there = there

fine_sign : (P : List ℕ → Type 0) (s : Sign) → Fine P (Some (terminal.sign_is s))
fine_sign P s = record { proper = tt }

fine_left_out : (P : List ℕ → Type 0) (w : List ℕ) → Fine P (Some (terminal.left_out w))
fine_left_out P w = record { proper = tt }

fine_none : (P : List ℕ → Type 0) → Fine P None
fine_none P = record { proper = tt }

short_fine : (P : List ℕ → Type 0) (b : ℕ) → Fine P (terminal.short_sign b)
short_fine P b = search (fine_cond, fine_sign, fine_left_out, fine_none) depth 20

long_fine : (P : List ℕ → Type 0) (a b : ℕ) → Fine P (terminal.long_sign a b)
long_fine P a b = search (fine_cond, fine_sign, fine_left_out, fine_none) depth 10

short_proper : (P : List ℕ → Type 0) (o : Option Terminal) (bs : List ℕ) → Fine P o → IsProperBy P (terminal.short_or_none o bs).0
short_proper P (Some t) bs fine = fine.proper
short_proper P None bs fine = tt

sign_proper : (P : List ℕ → Type 0) (o : Option Terminal) (bs : List ℕ) → Fine P o → IsProperBy P (terminal.long_or_short o bs).0
sign_proper P (Some t) bs fine = fine.proper
sign_proper P None bs fine = short_proper P (terminal.short_sign (get_or bs 0 0)) bs (short_fine P (get_or bs 0 0))

choice_proper : (P : List ℕ → Type 0) (test : Bool) (x y : Terminal × List ℕ) → (test ≡ true → IsProperBy P x.0) → IsProperBy P y.0 → IsProperBy P (cond test x y).0
choice_proper P true x y here there = here refl
choice_proper P false x y here there = there

-- the token at the front, where it is a name or a text, is a proper one
pub first_proper : (P : List ℕ → Type 0) (bs : List ℕ) → (get_or bs 0 0 ≡ 39 → (n : ℕ) → quoted_len (drop 1 bs) ≡ Some n → P (take n (drop 1 bs))) → IsProperBy P (terminal_at bs).0
unfolding terminal_at
first_proper P bs quoted =
    let w = take_while is_word_byte bs in
    let later = sign_proper P (terminal.long_sign (get_or bs 0 0) (get_or bs 1 0)) bs (long_fine P (get_or bs 0 0) (get_or bs 1 0)) in
    choice_proper P (is_word_start (get_or bs 0 0)) (word_at bs) (cond (terminal.is_digit (get_or bs 0 0)) (terminal.integer_at bs) (cond (eqb (get_or bs 0 0) 39) (terminal.text_at bs) (terminal.sign_at bs)))
    (λ starts. word_proper P w (keyword_of w) (is_left_out w) refl refl (run_start bs starts) (run_passes is_word_byte bs))
    (choice_proper P (terminal.is_digit (get_or bs 0 0)) (terminal.integer_at bs) (cond (eqb (get_or bs 0 0) 39) (terminal.text_at bs) (terminal.sign_at bs))
    (λ digit. integer_proper P (terminal.number_of (take_while terminal.is_digit bs)) (leb (terminal.number_of (take_while terminal.is_digit bs)) 9223372036854775808))
    (choice_proper P (eqb (get_or bs 0 0) 39) (terminal.text_at bs) (terminal.sign_at bs) (λ quote. text_proper P (quoted_len (drop 1 bs)) (drop 1 bs) (quoted (eqb-true (get_or bs 0 0) 39 quote))) later))

left_proper : (n text_len : ℕ) (bs : List ℕ) → ((left : List ℕ) → AllByRecursion IsProper (terminals (located_from n text_len left))) → AllByRecursion IsProper (terminals (with_first text_len (located_from n text_len) bs))
left_proper n text_len [] more = tt
left_proper n text_len (b ∷ bs) more = (first_proper any_text (b ∷ bs) (λ _ n _. tt), more (terminal_at (b ∷ bs)).1)

-- and so are all names of a text
pub all_proper : (n text_len : ℕ) (bs : List ℕ) → AllByRecursion IsProper (terminals (located_from n text_len bs))
all_proper zero text_len bs = tt
all_proper (suc n) text_len bs = left_proper n text_len (behind_blanks bs) (all_proper n text_len)

pub tokens_proper : (bs : List ℕ) → AllByRecursion IsProper (terminals (tokens_of bs))
unfolding tokens_of
tokens_proper bs = all_proper (length bs) (length bs) bs

-- ---- names in lower case

pub lower_lower : (n : List ℕ) → lower (lower n) ≡ lower n
lower_lower [] = refl
lower_lower (b ∷ n) = (λ i. lowercase-lowercase b i ∷ lower_lower n i)

-- a word is what it is in whatever case
same_keyword : (v w : List ℕ) → lower v ≡ lower w → keyword_of v ≡ keyword_of w
unfolding keyword_of
same_keyword v w e = ap (λ (x : List ℕ). find (λ k. bytes_eq (lower (spelling_of k)) x) keywords) e

same_left_out : (v w : List ℕ) → lower v ≡ lower w → is_left_out v ≡ is_left_out w
unfolding is_left_out
same_left_out v w e = ap (λ (x : List ℕ). list_any (λ out. bytes_eq (lower out) x) left_out_words) e

free_is : (w : List ℕ) (k : Option Keyword) (out : Bool) → keyword_of w ≡ k → is_left_out w ≡ out → word_or_other w k ≡ terminal.name w → (k ≡ None) × (is_left_out w ≡ false)
free_is w (Some k) out is is_out e = absurd cc
free_is w None true is is_out e = let wrong : terminal.left_out w ≡ terminal.name w = sym (ap (other_word w) is_out) ∙ e in absurd cc
free_is w None false is is_out e = (refl, is_out)

start_lower : (b : ℕ) → is_word_start b ≡ true → is_word_start (to_ascii_lowercase b) ≡ true
start_lower b h = grind (arith, nat_tests)

byte_lower : (b : ℕ) → is_word_byte b ≡ true → is_word_byte (to_ascii_lowercase b) ≡ true
byte_lower b h = grind (arith, nat_tests)

all_lower : (n : List ℕ) → AllPass is_word_byte n → AllPass is_word_byte (lower n)
all_lower [] all = tt
all_lower (b ∷ n) all = (byte_lower b all.0, all_lower n all.1)

pub lower_name : (n : List ℕ) → IsName n → IsName (lower n)
lower_name [] is = absurd cc
lower_name (b ∷ n) is =
    let w : List ℕ = b ∷ n in
    let free = free_is w (keyword_of w) (is_left_out w) refl refl is.free in
    let no_keyword : keyword_of (lower w) ≡ None = same_keyword (lower w) w (lower_lower w) ∙ free.0 in
    let not_out : is_left_out (lower w) ≡ false = same_left_out (lower w) w (lower_lower w) ∙ free.1 in
    record { start = start_lower b is.start; word = all_lower w is.word; free = rw (no_keyword, not_out) refl }

pub name_ascii : (n : List ℕ) → AllPass is_word_byte n → IsAscii n
name_ascii [] all = IsAscii-nil
name_ascii (b ∷ n) all = IsAscii-cons b n (words_ascii b all.0) (name_ascii n all.1)
