-- What `parse` reads as an integer of 64 bits is the integer that the field spells.
use Rattle.std.proofs.Common.{◌≡◌, ◌==◌, ◌^◌, ◌<◌, ◌≤◌, ◌+◌, ◌-◌, ◌*◌, ℕ, zero, suc, List, [], ◌∷◌, drop, take, get_or, length, ◌∙◌, subst, ℤ, pos, neg_ℤ, ◌-ℤ◌, true, false, ◌&&◌, Some, Ok, Err, inl, inr, refl, ap, arith}
use Rattle.std.specs.Prelude.{Result, nat_lt, slice_get}
use Rattle.std.specs.Char.{digit_value}
use Rattle.std.specs.Result.{result_ok}
use Rattle.std.specs.Str.{all_ascii_digits}
use Rattle.std.specs.Str.Parse.{AllDigits, IsNumeral, ParsesSigned, digits_value, without_leading_sign, signed_digits_value}
use Rattle.std.proofs.lemmas.Bool.{cases_Bool, lt-ltb, ltb-true, and_parts, and_from}
use Rattle.std.proofs.lemmas.Str.Parse.{tells_all_ascii_digits, tells_digits, numerals_by_value, not_in_digits, digits_value_short, digit_from_value}
use Rattle.std.proofs.lemmas.Int.{ints, to_z_pos, to_z-of_z}
use Rattle.std.proofs.lemmas.Int.Digits.{digits_more, digits_value_more}
use Rattle.std.proofs.lemmas.List.{length-take, take_all}
use Rattle.std.proofs.lemmas.Str.{digit_value_digit}
use borrow.Author.Tests.{eq-eqb, ne_eqb}
use mir.Syntax.{w64}
use mir.Val.{SFits as FitsSigned, to_z, of_z}
use Rattle.meaning.specs.Operators.{fits_i64}
use Rattle.meaning.specs.Records.{integer_of}
use Rattle.meaning.proofs.Words.{fits_word, word_fits}
use Rattle.loader.specs.Steps.{IsShortNumber}

-- the test of a field says what `parse` asks
test_holds : (digits : List ℕ) (n : ℤ) → IsNumeral 10 digits → FitsSigned w64 n → (nat_lt 0 (length digits) && (all_ascii_digits digits && fits_i64 n)) ≡ true
test_holds digits n numeral fits =
    let model = numerals_by_value _ tells_all_ascii_digits in
    and_from _ _ (lt-ltb 0 (length digits) numeral.0) (and_from _ _ (model.from digits numeral.1) (word_fits n fits))

test_fails : (digits : List ℕ) (n : ℤ) → ¬ (IsNumeral 10 digits × FitsSigned w64 n) → (nat_lt 0 (length digits) && (all_ascii_digits digits && fits_i64 n)) ≡ false
test_fails digits n none =
    let model = numerals_by_value _ tells_all_ascii_digits in
    elim (cases_Bool (nat_lt 0 (length digits) && (all_ascii_digits digits && fits_i64 n))) [
      | inl holds ↦
          let first = and_parts _ _ holds in
          let second = and_parts _ _ first.1 in
          absurd (none ((ltb-true 0 (length digits) first.0, model.to digits second.0), fits_word n second.1))
      | inr fails ↦ fails
    ]

pub parsed_integer : {E : Type 0} (field : List ℕ) (r : Result ℤ E) → ParsesSigned w64 10 field r → result_ok r ≡ integer_of field
parsed_integer field (Ok n) parsed =
    rw (test_holds (without_leading_sign field) (signed_digits_value 10 field) parsed.0.0 parsed.0.1, parsed.1) refl
parsed_integer field (Err e) none =
    rw (test_fails (without_leading_sign field) (signed_digits_value 10 field) none) refl

negative_fits : (n : ℕ) → n ≤ 2 ^ 63 → FitsSigned w64 (neg_ℤ (pos n))
negative_fits zero le = record { sfits = omega arith }
negative_fits (suc n) le = record { sfits = omega arith }

-- digits have no sign in front
unsigned : (digits : List ℕ) (sign : ℕ) → IsNumeral 10 digits → sign < 48 → (get_or digits 0 0 == sign) ≡ false
unsigned digits sign numeral low =
    ne_eqb (get_or digits 0 0) sign (not_in_digits (numerals_by_value _ tells_digits) digits sign numeral.1 (λ range. omega (arith, range.0)) 0 numeral.0)

pub short_plain : (field : List ℕ) (n : ℕ) → IsShortNumber field n → integer_of field ≡ Some (pos n)
short_plain field n short =
    let no_minus = unsigned field 45 short.0 (omega arith) in
    let no_plus = unsigned field 43 short.0 (omega arith) in
    let fits : FitsSigned w64 (pos n) = record { sfits = omega (arith, short.2) } in
    rw (no_minus, no_plus, ← short.1, test_holds field (pos n) short.0 fits) refl

pub short_minus : (field : List ℕ) (n c : ℕ) → Some c ≡ slice_get field 0 → c ≡ 45 → IsShortNumber (take (length field - 1) (drop 1 field)) n → integer_of field ≡ Some (neg_ℤ (pos n))
short_minus [] n c there minus spelled = cc there
short_minus (b ∷ digits) n c there minus spelled =
    let first : b ≡ 45 = cc (there, minus) in
    let signed = eq-eqb b 45 first in
    let all : take (length (b ∷ digits) - 1) digits ≡ digits = take_all (length (b ∷ digits) - 1) digits (omega arith) in
    let short : IsShortNumber digits n = subst (λ (xs : List ℕ). IsShortNumber xs n) all spelled in
    rw (signed, ← short.1, test_holds digits (neg_ℤ (pos n)) short.0 (negative_fits n (omega (arith, short.2)))) refl

-- a digit more
pub front_value : (digits : List ℕ) (i : ℕ) → AllDigits 10 (take i digits) → i < 18 → digits_value 10 (take i digits) < 10 ^ 17
front_value digits i front lt = digits_value_short (numerals_by_value _ tells_digits) (take i digits) 17 front (omega (arith, length-take i digits))

pub front_more : (digits : List ℕ) (i n d : ℕ) → i < length digits → digit_value (get_or digits i 0) < 10 → d ≡ get_or digits i 0 - 48
    → AllDigits 10 (take i digits) × (n ≡ digits_value 10 (take i digits)) → AllDigits 10 (take (i + 1) digits) × (n * 10 + d ≡ digits_value 10 (take (i + 1) digits))
front_more digits i n d lt digit is front =
    let range = digit_from_value (get_or digits i 0) digit in
    let value = digit_value_digit (get_or digits i 0) range in (
      digits_more 10 digits i lt front.0 digit,
      omega (arith, digits_value_more 10 digits i lt, value, is, front.1, range.0),
    )

pub whole_number : (digits : List ℕ) (i n : ℕ) → 0 < length digits → length digits ≤ 18 → length digits ≤ i → AllDigits 10 (take i digits) × (n ≡ digits_value 10 (take i digits)) → IsShortNumber digits n
whole_number digits i n some few end front =
    let all : take i digits ≡ digits = take_all i digits end in
    let whole : AllDigits 10 digits × (n ≡ digits_value 10 digits) = subst (λ (xs : List ℕ). AllDigits 10 xs × (n ≡ digits_value 10 xs)) all front in
    ((some, whole.0), whole.1, omega (arith, whole.1, digits_value_short (numerals_by_value _ tells_digits) digits 18 whole.0 few))

-- the number as a signed word
pub word_is : (n : ℕ) → n < 10 ^ 18 → to_z w64 n ≡ pos n
word_is n small = to_z_pos w64 n (omega arith)

pub negated : (n : ℕ) → n < 10 ^ 18 → to_z w64 (of_z w64 (pos 0 -ℤ to_z w64 n)) ≡ neg_ℤ (pos n)
negated n small =
    let negative : pos 0 -ℤ to_z w64 n ≡ neg_ℤ (pos n) = ap (λ z. pos 0 -ℤ z) (word_is n small) ∙ omega (arith, ints) in
    ap (λ z. to_z w64 (of_z w64 z)) negative ∙ to_z-of_z w64 (neg_ℤ (pos n)) (negative_fits n (omega (arith, small)))
