-- LIKE, computed from the definitions.
use Rattle.std.proofs.Common.{◌≡◌, ℕ, true, false, Bool, List, [], ◌∷◌, map, codes, refl}
use Rattle.std.specs.Str.{chars}
use Rattle.meaning.specs.declared.value.Value.TheVariants.{Null, Text}
use Rattle.meaning.specs.declared.outcome.Truth.TheVariants.{False, Unknown}
use Rattle.meaning.specs.declared.outcome.Fault.TheVariants.{Overflow}
use Rattle.meaning.specs.declared.outcome.Outcome.TheVariants as gives
use Rattle.meaning.specs.Like.{is_like}
use Rattle.meaning.specs.Operators.{like_of, not_if}

-- which of the texts are like the pattern
abbrev matches : List ℕ → List (List ℕ) → List Bool
matches pattern texts = map (is_like pattern) texts

-- '', 'a', 'ab', 'b'
no_pattern : matches [] ([] ∷ codes "a" ∷ []) ≡ true ∷ false ∷ []
unfolding is_like chars
no_pattern = refl

plain_pattern : matches (codes "a") ([] ∷ codes "a" ∷ codes "A" ∷ codes "ab" ∷ codes "ba" ∷ [])
    ≡ false ∷ true ∷ false ∷ false ∷ false ∷ []
unfolding is_like chars
plain_pattern = refl

one_character : matches (codes "_") ([] ∷ codes "a" ∷ codes "%" ∷ codes "ab" ∷ []) ≡ false ∷ true ∷ true ∷ false ∷ []
unfolding is_like chars
one_character = refl

any_run : matches (codes "%") ([] ∷ codes "a" ∷ codes "ab" ∷ []) ≡ true ∷ true ∷ true ∷ []
unfolding is_like chars
any_run = refl

-- the signs of a pattern are plain characters in a text, and a backslash is plain in a pattern
plain_in_a_text : matches (codes "a") (codes "_" ∷ codes "%" ∷ []) ≡ false ∷ false ∷ []
unfolding is_like chars
plain_in_a_text = refl

no_escape : matches (92 ∷ codes "%") (codes "%" ∷ (92 ∷ codes "x") ∷ (92 ∷ []) ∷ []) ≡ false ∷ true ∷ true ∷ []
unfolding is_like chars
no_escape = refl

prefix : matches (codes "ab%") (codes "ab" ∷ codes "abc" ∷ codes "a" ∷ codes "cab" ∷ [])
    ≡ true ∷ true ∷ false ∷ false ∷ []
unfolding is_like chars
prefix = refl

suffix : matches (codes "%ab") (codes "ab" ∷ codes "cab" ∷ codes "abab" ∷ codes "abc" ∷ [])
    ≡ true ∷ true ∷ true ∷ false ∷ []
unfolding is_like chars
suffix = refl

within : matches (codes "%ab%") (codes "ab" ∷ codes "cabc" ∷ codes "aab" ∷ codes "acb" ∷ [])
    ≡ true ∷ true ∷ true ∷ false ∷ []
unfolding is_like chars
within = refl

-- the run that `%` matches is not the one that is tried first
runs_tried_again : matches (codes "a%b") (codes "abcab" ∷ codes "abcac" ∷ codes "b" ∷ codes "ab" ∷ [])
    ≡ true ∷ false ∷ false ∷ true ∷ []
unfolding is_like chars
runs_tried_again = refl

mixed : matches (codes "_%_") (codes "a" ∷ codes "ab" ∷ codes "abc" ∷ []) ≡ false ∷ true ∷ true ∷ []
unfolding is_like chars
mixed = refl

-- characters of two, three and four bytes: 'é', '€', U+1F600
abbrev wide : List (List ℕ)
wide = (195 ∷ 169 ∷ []) ∷ (226 ∷ 130 ∷ 172 ∷ []) ∷ (240 ∷ 159 ∷ 152 ∷ 128 ∷ []) ∷ []

one_wide : matches (codes "_") wide ≡ true ∷ true ∷ true ∷ []
unfolding is_like chars
one_wide = refl

two_wide : matches (codes "__") wide ≡ false ∷ false ∷ false ∷ []
unfolding is_like chars
two_wide = refl

-- 'aéb' and 'a€b' LIKE 'a_b' and '%é%'
among_others : matches (codes "a_b") ((97 ∷ 195 ∷ 169 ∷ 98 ∷ []) ∷ (97 ∷ 226 ∷ 130 ∷ 172 ∷ 98 ∷ []) ∷ codes "ab" ∷ [])
    ≡ true ∷ true ∷ false ∷ []
unfolding is_like chars
among_others = refl

wide_in_a_pattern : matches (37 ∷ 195 ∷ 169 ∷ 37 ∷ [])
    ((97 ∷ 195 ∷ 169 ∷ 98 ∷ []) ∷ (97 ∷ 226 ∷ 130 ∷ 172 ∷ 98 ∷ []) ∷ []) ≡ true ∷ false ∷ []
unfolding is_like chars
wide_in_a_pattern = refl

-- NULL LIKE '%', NULL NOT LIKE '%', 'a' NOT LIKE 'a', and a fault
like_null : like_of (codes "%") (gives.Value Null) ≡ gives.Truth Unknown
like_null = refl

not_like_null : not_if true (like_of (codes "%") (gives.Value Null)) ≡ gives.Truth Unknown
not_like_null = refl

not_like : not_if true (like_of (codes "a") (gives.Value (Text (codes "a")))) ≡ gives.Truth False
unfolding is_like chars
not_like = refl

like_fault : not_if true (like_of (codes "%") (gives.Fault Overflow)) ≡ gives.Fault Overflow
like_fault = refl
