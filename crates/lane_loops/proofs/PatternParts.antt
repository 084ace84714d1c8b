-- The parts of a pattern, and where a part stands in a text.
use Rattle.std.specs.Prelude.{◌-◌, ◌<◌, suc, slice_index, nat_eq, Bool, false, ◌≡◌, ℕ, ◌+◌, ◌≤◌, true, List, [], ◌∷◌, ◌++◌, length, take, drop, get_or, ◌||◌, Option, Some, None, is_some}
use Rattle.std.proofs.Common.{refl, sym, ap, subst, arith, ◌∙◌}
use Rattle.std.specs.List.{list_any, starts_with, ends_with}
use Rattle.std.proofs.lemmas.Bool.{eq-eqb, eqb-true}
use Rattle.std.proofs.lemmas.Bool.Decides.{Decides-eqb}
use Rattle.std.proofs.lemmas.Slice.Eq.{starts_is, ends_is}
use Rattle.std.specs.Str.{IsUtf8, is_utf8}
use Rattle.std.specs.Str.Iter.{HasSubslice}
use Rattle.std.proofs.lemmas.List.Folds.{list_any_at}
use Rattle.std.proofs.lemmas.List.{length-append, take-append-drop}
use Rattle.std.proofs.lemmas.Str.{IsUtf8-from_is_utf8, is_utf8-from_IsUtf8, IsUtf8-take, IsUtf8-drop, IsCharBoundary-after_ascii, IsCharBoundary-at_seam}
use Rattle.meaning.proofs.LikeBytes.{take_front, drop_front, sign_utf8}
use Rattle.memchr.specs.Find.{IsFirstByte, OccursAt, FindsNeedle}
use Rattle.memchr.proofs.lemmas.MatchLemmas.{OccursAt-split, OccursAt-from_part}

-- ---- UTF-8 on either side of a `%`

pub utf8_behind : (rest : List ℕ) → is_utf8 (37 ∷ rest) ≡ true → is_utf8 rest ≡ true
utf8_behind rest e =
    let whole = IsUtf8-from_is_utf8 (37 ∷ rest) e in
    is_utf8-from_IsUtf8 rest (IsUtf8-drop (37 ∷ rest) 1 whole (IsCharBoundary-after_ascii (37 ∷ rest) 0 whole (omega arith) (omega arith)))

pub utf8_before : (front : List ℕ) → is_utf8 (front ++ 37 ∷ []) ≡ true → is_utf8 front ≡ true
utf8_before front e =
    let whole = IsUtf8-from_is_utf8 (front ++ 37 ∷ []) e in
    let sign = IsUtf8-from_is_utf8 (37 ∷ []) sign_utf8 in
    is_utf8-from_IsUtf8 front (subst IsUtf8 (take_front front (37 ∷ [])) (IsUtf8-take (front ++ 37 ∷ []) (length front) whole (IsCharBoundary-at_seam (front ++ 37 ∷ []) front (37 ∷ []) refl sign)))

-- ---- a part is found just where it stands

module _ (text part : List ℕ) where
  stands_at : (at : ℕ) → OccursAt text part at → HasSubslice text part
  stands_at at occurs = (take at text, drop (at + length part) text, sym (take-append-drop at text) ∙ ap (λ (bs : List ℕ). take at text ++ bs) (OccursAt-split text part at occurs))

  occurs_behind : (front rest : List ℕ) → text ≡ front ++ (part ++ rest) → OccursAt text part (length front)
  occurs_behind front rest e =
      let long : length front + length part ≤ length text = omega (arith, ap length e, length-append front (part ++ rest), length-append part rest) in
      OccursAt-from_part text part (length front) long (ap (λ (bs : List ℕ). take (length part) (drop (length front) bs)) e ∙ ap (take (length part)) (drop_front front (part ++ rest)) ∙ take_front part rest)

  pub found_to : (r : Option ℕ) → FindsNeedle text part 0 r → is_some r ≡ true → HasSubslice text part
  found_to None finds e = absurd cc
  found_to (Some at) finds e = stands_at at finds.1

  pub found_from : (r : Option ℕ) → FindsNeedle text part 0 r → HasSubslice text part → is_some r ≡ true
  found_from None finds (front, rest, e) =
      let there = occurs_behind front rest e in
      absurd (finds (length front) (omega arith) (omega (arith, there.fits)) there)
  found_from (Some at) finds has = refl

-- ---- a part that is longer than the text

isnt : (b : Bool) → (b ≡ true → ⊥) → false ≡ b
isnt true refuted = absurd (refuted refl)
isnt false refuted = refl

pub short_starts : (text part : List ℕ) → length text < length part → false ≡ starts_with nat_eq text part
short_starts text part short = isnt (starts_with nat_eq text part) (λ e.
    let whole = (starts_is Decides-eqb text part (starts_with nat_eq text part) refl).0 e in
    omega (arith, short, ap length whole, length-append part (drop (length part) text)))

pub short_ends : (text part : List ℕ) → length text < length part → false ≡ ends_with nat_eq text part
short_ends text part short = isnt (ends_with nat_eq text part) (λ e.
    let whole = (ends_is Decides-eqb text part (ends_with nat_eq text part) refl).0 e in
    omega (arith, short, ap length whole, length-append (take (length text - length part) text) part))

-- ---- a part of one byte

none_passes : (test : ℕ → Bool) (text : List ℕ) → ((k : ℕ) → k < length text → test (slice_index text k) ≡ true → ⊥) → list_any test text ≡ false
none_passes test [] none = refl
none_passes test (b ∷ text) none = elim (test b) as (λ t. test b ≡ t → (t || list_any test text) ≡ false) [
  | true ↦ λ is. absurd (none 0 (omega arith) is)
  | false ↦ λ _. none_passes test text (λ k lt. none (suc k) (omega (arith, lt)))
] refl

-- a first byte that passes is found just where one passes
pub is_found_any : (test : ℕ → Bool) (text : List ℕ) (found : Option ℕ) → IsFirstByte test text found → is_some found ≡ list_any test text
is_found_any test text (Some k) (first, passes) = sym (list_any_at test text k 0 first.high passes)
is_found_any test text None nowhere = sym (none_passes test text (λ k lt. nowhere k (omega arith) lt))

-- the byte is among those of the text
pub byte_to : (byte : ℕ) (text : List ℕ) → list_any (λ b. nat_eq b byte) text ≡ true → HasSubslice text (byte ∷ [])
byte_to byte [] e = absurd cc
byte_to byte (b ∷ text) e = elim (nat_eq b byte) as (λ t. nat_eq b byte ≡ t → HasSubslice (b ∷ text) (byte ∷ [])) [
  | true ↦ λ is. ([], text, ap (λ (x : ℕ). x ∷ text) (eqb-true b byte is))
  | false ↦ λ is. (
      let later : list_any (λ x. nat_eq x byte) text ≡ true = ap (λ (t : Bool). t || list_any (λ x. nat_eq x byte) text) (sym is) ∙ e in
      let found = byte_to byte text later in
      (b ∷ found.0, found.1, ap (λ (xs : List ℕ). b ∷ xs) found.2))
] refl

any_behind : (byte : ℕ) (front rest : List ℕ) → list_any (λ b. nat_eq b byte) (front ++ (byte ∷ rest)) ≡ true
any_behind byte [] rest = ap (λ (t : Bool). t || list_any (λ b. nat_eq b byte) rest) (eq-eqb byte byte refl)
any_behind byte (b ∷ front) rest = elim (nat_eq b byte) as (λ t. (t || list_any (λ x. nat_eq x byte) (front ++ (byte ∷ rest))) ≡ true) [
  | true ↦ refl
  | false ↦ any_behind byte front rest
]

pub byte_from : (byte : ℕ) (text : List ℕ) → HasSubslice text (byte ∷ []) → list_any (λ b. nat_eq b byte) text ≡ true
byte_from byte text (front, rest, e) = ap (list_any (λ b. nat_eq b byte)) e ∙ any_behind byte front rest

pub only_byte : (part : List ℕ) (d : ℕ) → length part ≡ 1 → part ≡ get_or part 0 d ∷ []
only_byte [] d one = absurd (omega (arith, one))
only_byte (b ∷ []) d one = refl
only_byte (b ∷ c ∷ part) d one = absurd (omega (arith, one))
