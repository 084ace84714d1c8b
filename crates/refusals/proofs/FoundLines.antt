-- Lines that are found in an entry's text.
use Rattle.std.proofs.Common.{◌≡◌, ◌⊎◌, inl, inr, ⊎_elim, ℕ, ◌+◌, ◌/◌, ◌%◌, ◌<◌, ◌≤◌, nat_lt, arith, decimal, if◌then◌else◌, Bool, false, true, ◌&&◌, ◌||◌, List, [], ◌∷◌, ◌++◌, length, take, drop, refl, sym, ap, subst, ◌∙◌, codes, bytes_eq}
use Rattle.std.proofs.lemmas.Bool.{cases_lt, false≢true}
use Rattle.std.proofs.lemmas.Bool.Decides.{Decides-ltb}
use Rattle.std.proofs.lemmas.Fmt.{decimal_digit, decimal_step}
use Rattle.std.proofs.lemmas.List.{take-append-drop}
use Rattle.std.proofs.lemmas.Slice.Eq.{bytes_eq-Decides}
use Rattle.refusals.specs.declared.entries.Entry.{Entry}
use Rattle.refusals.specs.Lines.{IsOf, IsOfCode, may_follow}

either : (a b : Bool) → (a || b) ≡ true → (a ≡ true) ⊎ (b ≡ true)
either true b is = inl refl
either false b is = inr is

both : (a b : Bool) → (a && b) ≡ true → (a ≡ true) × (b ≡ true)
both true b is = (refl, is)
both false b is = absurd (false≢true is)

-- the words are those of the line that begins here
abbrev pub stands : List ℕ → List ℕ → Bool
stands words rest = bytes_eq (take (length words) rest) words && may_follow (drop (length words) rest)

-- a line that begins behind one of these bytes has the words
abbrev pub stands_later : List ℕ → List ℕ → Bool
stands_later words [] = false
stands_later words (byte ∷ rest) = (bytes_eq (take 2 (byte ∷ rest)) (codes ", ") && stands words (drop 2 (byte ∷ rest))) || stands_later words rest

-- one of the lines has the words
abbrev pub has_line : List ℕ → List ℕ → Bool
has_line words lines = stands words lines || stands_later words lines

front : (n : ℕ) (words rest : List ℕ) → bytes_eq (take n rest) words ≡ true → rest ≡ words ++ drop n rest
front n words rest same = sym (take-append-drop n rest) ∙ ap (λ xs. xs ++ drop n rest) ((bytes_eq-Decides (take n rest) words).0 same)

here : (words rest : List ℕ) → stands words rest ≡ true → (behind : List ℕ) × (rest ≡ words ++ behind) × (may_follow behind ≡ true)
here words rest is =
    let parts = both _ _ is in
    (drop (length words) rest, front (length words) words rest parts.0, parts.1)

-- a line behind others
abbrev IsLater : List ℕ → List ℕ → Type 0
IsLater words lines = (before behind : List ℕ) × (lines ≡ (before ++ codes ", ") ++ (words ++ behind)) × (may_follow behind ≡ true)

next_or_later : (words : List ℕ) (byte : ℕ) (rest : List ℕ) → (((bytes_eq (take 2 (byte ∷ rest)) (codes ", ") && stands words (drop 2 (byte ∷ rest))) ≡ true) ⊎ IsLater words rest) → IsLater words (byte ∷ rest)
next_or_later words byte rest (inl next) =
    let parts = both _ _ next in
    let found = here words (drop 2 (byte ∷ rest)) parts.1 in
    ([], found.0, front 2 (codes ", ") (byte ∷ rest) parts.0 ∙ ap (λ xs. codes ", " ++ xs) found.1, found.2)
next_or_later words byte rest (inr found) = (byte ∷ found.0, found.1, ap (λ xs. byte ∷ xs) found.2, found.3)

all_later : {A B C : Type 0} → (B → C) → A ⊎ B → A ⊎ C
all_later go (inl a) = inl a
all_later go (inr b) = inr (go b)

later : (words lines : List ℕ) → stands_later words lines ≡ true → IsLater words lines
later words [] is = absurd (false≢true is)
later words (byte ∷ rest) is = next_or_later words byte rest (all_later (later words rest) (either _ _ is))

of_found : (words : List ℕ) (entry : Entry) → (stands words entry.lines.now ≡ true) ⊎ (stands_later words entry.lines.now ≡ true) → IsOf words entry
of_found words entry (inl first) =
    let found = here words entry.lines.now first in
    record {
      before = [];
      behind = found.0;
      lines_are = found.1;
      precedes = inl refl;
      follows = found.2;
    }
of_found words entry (inr more) =
    let found = later words entry.lines.now more in
    record {
      before = found.0 ++ codes ", ";
      behind = found.1;
      lines_are = found.2;
      precedes = inr (found.0, refl);
      follows = found.3;
    }

pub of_line : (words : List ℕ) (entry : Entry) → has_line words entry.lines.now ≡ true → IsOf words entry
of_line words entry is = of_found words entry (either _ _ is)

-- the digits of a number below a hundred
abbrev pub two_digits : ℕ → List ℕ
two_digits n = if nat_lt n 10 then (48 + n) ∷ [] else (48 + n / 10) ∷ (48 + n % 10) ∷ []

digits_by : (n : ℕ) (is_one : Bool) → nat_lt n 10 ≡ is_one → n < 100 → decimal n ≡ (if is_one then (48 + n) ∷ [] else (48 + n / 10) ∷ (48 + n % 10) ∷ [])
digits_by n true is below = decimal_digit n ((Decides-ltb n 10).0 is)
digits_by n false is below =
    let over : 10 ≤ n = ⊎_elim (λ less. absurd (false≢true (sym is ∙ (Decides-ltb n 10).1 less))) (λ more. more) (cases_lt n 10) in
    decimal_step n over (omega (arith, below)) ∙ ap (λ ds. ds ++ (48 + n % 10) ∷ []) (decimal_digit (n / 10) (omega (arith, below)))

-- the line of a word and a number below a hundred
abbrev pub short_line : List ℕ → ℕ → List ℕ
short_line word number = word ++ (codes " " ++ two_digits number)

pub of_code : (word : List ℕ) (entry : Entry) (number known : ℕ) → number ≡ known → known < 100 → has_line (short_line word known) entry.lines.now ≡ true → IsOfCode word number entry
of_code word entry number known is below has =
    let digits = ap (λ ds. word ++ (codes " " ++ ds)) (digits_by known (nat_lt known 10) refl below) in
    subst (λ n. IsOfCode word n entry) (sym is) (record { line = subst (λ ws. IsOf ws entry) (sym digits) (of_line (short_line word known) entry has) })

pub of_either : (word : List ℕ) (entry : Entry) (number first second : ℕ) → (number ≡ first) ⊎ (number ≡ second) → first < 100 → second < 100 → has_line (short_line word first) entry.lines.now ≡ true → has_line (short_line word second) entry.lines.now ≡ true → IsOfCode word number entry
of_either word entry number first second (inl is) below less has other = of_code word entry number first is below has
of_either word entry number first second (inr is) below less other has = of_code word entry number second is less has

pub one_of_two : (number first : ℕ) → first ≤ number → number ≤ first + 1 → (number ≡ first) ⊎ (number ≡ first + 1)
one_of_two number first low high = ⊎_elim (λ less. inl (omega (arith, low, less))) (λ more. inr (omega (arith, high, more))) (cases_lt number (first + 1))

-- three numbers in a row
one_of_three : (number first : ℕ) → first ≤ number → number ≤ first + 2 → (number ≡ first) ⊎ ((number ≡ first + 1) ⊎ (number ≡ first + 2))
one_of_three number first low high = ⊎_elim
    (λ less. inl (omega (arith, low, less)))
    (λ more. ⊎_elim (λ less. inr (inl (omega (arith, more, less)))) (λ over. inr (inr (omega (arith, high, over)))) (cases_lt number (first + 2)))
    (cases_lt number (first + 1))

pub of_three : (word : List ℕ) (entry : Entry) (number first : ℕ) → first ≤ number → number ≤ first + 2 → first < 98 → has_line (short_line word first) entry.lines.now ≡ true → has_line (short_line word (first + 1)) entry.lines.now ≡ true → has_line (short_line word (first + 2)) entry.lines.now ≡ true → IsOfCode word number entry
of_three word entry number first low high below has other last = ⊎_elim
    (λ is. of_code word entry number first is (omega (arith, below)) has)
    (λ more. of_either word entry number (first + 1) (first + 2) more (omega (arith, below)) (omega (arith, below)) other last)
    (one_of_three number first low high)

-- the line of a text that is known
pub of_text : (words known : List ℕ) (entry : Entry) → words ≡ known → has_line known entry.lines.now ≡ true → IsOf words entry
of_text words known entry is has = subst (λ ws. IsOf ws entry) (sym is) (of_line known entry has)

-- the line of an entry whose lines are known
pub of_lines : (words known lines : List ℕ) (entry : Entry) → words ≡ known → entry.lines.now ≡ lines → has_line known lines ≡ true → IsOf words entry
of_lines words known lines entry is same has = of_text words known entry is (subst (λ ls. has_line known ls ≡ true) (sym same) has)
