-- LIKE with `%` at the ends alone, by the bytes of the texts.
use Rattle.std.proofs.Common.{◌≡◌, ℕ, ◌<◌, ◌==◌, Bool, true, false, cond, ◌&&◌, not, List, [], ◌∷◌, ◌++◌, take, drop, length, get_or, refl, sym, ap, subst, ◌∙◌, arith, inl, inr}
use Rattle.std.specs.Prelude.{◌||◌, ◌⊎◌, ◌-◌, nat_eq, bytes_eq}
use Rattle.std.specs.List.{starts_with, ends_with}
use Rattle.std.specs.Str.{chars, IsUtf8, is_utf8, IsCharBoundary}
use Rattle.std.specs.Str.Iter.{HasSubslice}
use lib.Utf8.{encode, encodes}
use Rattle.std.proofs.lemmas.Bool.{eqb-true, eq-eqb}
use Rattle.std.proofs.lemmas.Bool.Decides.{Decides-eqb}
use Rattle.std.proofs.lemmas.List.{append-nil, length-append}
use Rattle.std.proofs.lemmas.Slice.Eq.{bytes_eq-Decides, starts_is, ends_is}
use Rattle.std.proofs.lemmas.Str.{IsUtf8-from_is_utf8, IsUtf8-take, IsCharBoundary-at_seam, IsCharBoundary-start, chars-nil, chars-append, encodes-chars, encodes-append, encode_ascii}
use Rattle.meaning.specs.Like.{after_any_run, characters_fit, is_like}
use Rattle.meaning.specs.ExpressionLaws.{is_plain, LikeOfBytes}
use Rattle.meaning.proofs.Tests.{first_of, second_of, both}

-- ---- over characters

not_sign : (c : ℕ) → not ((c == 37) || (c == 95)) ≡ true → ((c == 37) ≡ false) × ((c == 95) ≡ false)
not_sign c e =
    elim (c == 37) as (λ b. not (b || (c == 95)) ≡ true → (b ≡ false) × ((c == 95) ≡ false)) [
      | true ↦ λ bad. cc
      | false ↦ λ rest. elim (c == 95) as
          (λ b. not b ≡ true → (false ≡ false) × (b ≡ false)) [ true ↦ λ bad. cc | false ↦ λ _. (refl, refl) ] rest
    ] e

record Behind (part more text : List ℕ) : Type 0 where
  rest : List ℕ
  whole : text ≡ part ++ rest
  there : characters_fit more rest ≡ true

-- behind plain characters the text goes on as the pattern does
plain-to : (part more text : List ℕ) → is_plain part ≡ true → characters_fit (part ++ more) text ≡ true → Behind part more text
plain-to [] more text plain e = record { rest = text; whole = refl; there = e }
plain-to (p ∷ part) more [] plain e =
    let sign = not_sign p (first_of _ _ plain) in
    let bad : false ≡ true = ap (λ b. cond b (after_any_run (characters_fit (part ++ more)) []) false) (sym sign.0) ∙ e in
    absurd cc
plain-to (p ∷ part) more (c ∷ text) plain e =
    let sign = not_sign p (first_of _ _ plain) in
    let here : (((p == 95) || (c == p)) && characters_fit (part ++ more) text)
    ≡ true = ap (λ b. cond b (after_any_run (characters_fit (part ++ more)) (c ∷ text))
    (((p == 95) || (c == p)) && characters_fit (part ++ more) text)) (sym sign.0) ∙ e in
    let same : (c == p) ≡ true = ap (λ b. b || (c == p)) (sym sign.1) ∙ first_of _ _ here in
    let later = plain-to part more text (second_of (not ((p == 37) || (p == 95))) (is_plain part) plain)
    (second_of ((p == 95) || (c == p)) (characters_fit (part ++ more) text) here) in
    record { rest = later.rest; whole = λ i. eqb-true c p same i ∷ later.whole i; there = later.there }

plain-from : (part more rest : List ℕ) → is_plain part ≡ true → characters_fit more rest
    ≡ true → characters_fit (part ++ more) (part ++ rest) ≡ true
plain-from [] more rest plain e = e
plain-from (p ∷ part) more rest plain e =
    let sign = not_sign p (first_of _ _ plain) in
    let later = plain-from part more rest (second_of (not ((p == 37) || (p == 95))) (is_plain part) plain) e in
    ap (λ b. cond b (after_any_run (characters_fit (part ++ more)) (p ∷ (part ++ rest)))
    (((p == 95) || (p == p)) && characters_fit (part ++ more) (part ++ rest))) sign.0
    ∙ both _ _ (ap (λ b. b || (p == p)) sign.1 ∙ eq-eqb p p refl) later

record Split (test : List ℕ → Bool) (text : List ℕ) : Type 0 where
  before : List ℕ
  after : List ℕ
  whole : text ≡ before ++ after
  passes : test after ≡ true

run-to : (test : List ℕ → Bool) (text : List ℕ) → after_any_run test text ≡ true → Split test text
run-to test [] e = record { before = []; after = []; whole = refl; passes = e }
run-to test (c ∷ text) e =
    elim (test (c ∷ text)) as (λ b. test (c ∷ text) ≡ b → (b || after_any_run test text)
    ≡ true → Split test (c ∷ text)) [
      | true ↦ λ here _. record { before = []; after = c ∷ text; whole = refl; passes = here }
      | false ↦ λ _ rest. let s = run-to test text rest in
          record { before = c ∷ s.before; after = s.after; whole = ap (λ cs. c ∷ cs) s.whole; passes = s.passes }
    ] refl e

run-from : (test : List ℕ → Bool) (before after : List ℕ) → test after ≡ true → after_any_run test (before ++ after)
    ≡ true
run-from test [] [] e = e
run-from test [] (c ∷ after) e = ap (λ b. b || after_any_run test after) e
run-from test (c ∷ before) after e =
    elim (test (c ∷ (before ++ after))) as
    (λ b. (b || after_any_run test (before ++ after)) ≡ true) [ true ↦ refl | false ↦ run-from test before after e ]

-- the empty pattern fits behind the run of the whole text
pub nothing_fits : (cs : List ℕ) → after_any_run (characters_fit []) cs ≡ true
nothing_fits [] = refl
nothing_fits (c ∷ cs) = nothing_fits cs

-- `%` at the end takes any rest
any_rest : (rest : List ℕ) → characters_fit (37 ∷ []) rest ≡ true
any_rest [] = refl
any_rest (c ∷ cs) = nothing_fits (c ∷ cs)

no_rest : (rest : List ℕ) → characters_fit [] rest ≡ true → rest ≡ []
no_rest [] e = refl
no_rest (c ∷ cs) e = cc

-- ---- plain bytes spell plain characters

plain_first : (xs ys : List ℕ) → is_plain (xs ++ ys) ≡ true → (is_plain xs ≡ true) × (is_plain ys ≡ true)
plain_first [] ys e = (refl, e)
plain_first (x ∷ xs) ys e =
    let here = first_of (not ((x == 37) || (x == 95))) (is_plain (xs ++ ys)) e in
    let parts = plain_first xs ys (second_of (not ((x == 37) || (x == 95))) (is_plain (xs ++ ys)) e) in
    (both _ _ here parts.0, parts.1)

plain_char : (c : ℕ) → is_plain (encode c) ≡ true → not ((c == 37) || (c == 95)) ≡ true
plain_char c e =
    elim (c == 37) as (λ b. c == 37 ≡ b → not (b || (c == 95)) ≡ true) [
      | true ↦ λ is. let same = eqb-true c 37 is in let bad : false
          ≡ true = ap is_plain (sym (encode_ascii 37 (omega arith))) ∙ ap (λ d. is_plain (encode d)) (sym same) ∙ e in
          absurd cc
      | false ↦ λ _. elim (c == 95) as (λ b. c == 95 ≡ b → not b ≡ true) [
        | true ↦ λ is. let same = eqb-true c 95 is in let bad : false
            ≡ true = ap is_plain (sym (encode_ascii 95 (omega arith))) ∙ ap (λ d. is_plain (encode d)) (sym same)
            ∙ e in absurd cc
        | false ↦ λ _. refl
      ] refl
    ] refl

plain_chars : (cs : List ℕ) → is_plain (encodes cs) ≡ true → is_plain cs ≡ true
plain_chars [] e = refl
plain_chars (c ∷ cs) e = let parts = plain_first (encode c) (encodes cs) e in
    both _ _ (plain_char c parts.0) (plain_chars cs parts.1)

same_test : (a b : Bool) → (a ≡ true → b ≡ true) → (b ≡ true → a ≡ true) → a ≡ b
same_test true true to from = refl
same_test true false to from = sym (to refl)
same_test false true to from = from refl
same_test false false to from = refl

pub take_front : (xs ys : List ℕ) → take (length xs) (xs ++ ys) ≡ xs
take_front [] ys = refl
take_front (x ∷ xs) ys = ap (λ zs. x ∷ zs) (take_front xs ys)

pub drop_front : (xs ys : List ℕ) → drop (length xs) (xs ++ ys) ≡ ys
drop_front [] ys = refl
drop_front (x ∷ xs) ys = drop_front xs ys

-- ---- over bytes

sign_chars : chars (37 ∷ []) ≡ 37 ∷ []
unfolding chars
sign_chars = refl

pub sign_utf8 : is_utf8 (37 ∷ []) ≡ true
unfolding is_utf8 chars encode
sign_utf8 = refl

module _ (part text : List ℕ) (of_part : IsUtf8 part) (plain : is_plain part ≡ true) (of_text : IsUtf8 text) where
  abbrev sign : IsUtf8 (37 ∷ [])
  sign = IsUtf8-from_is_utf8 (37 ∷ []) sign_utf8

  plain_part : is_plain (chars part) ≡ true
  plain_part = plain_chars (chars part) (ap is_plain (encodes-chars part of_part) ∙ plain)

  -- a text whose characters are cut is its bytes, cut there
  bytes_of : (front rest : List ℕ) → chars text ≡ front ++ rest → text ≡ encodes front ++ encodes rest
  bytes_of front rest e = sym (encodes-chars text of_text) ∙ ap encodes e ∙ encodes-append front rest

  part_first : (rest : List ℕ) → chars text ≡ chars part ++ rest → text ≡ part ++ encodes rest
  part_first rest e = bytes_of (chars part) rest e ∙ ap (λ bs. bs ++ encodes rest) (encodes-chars part of_part)

  equal_to : characters_fit (chars part) (chars text) ≡ true → part ≡ text
  equal_to e =
      let b = plain-to (chars part) [] (chars text) plain_part
      (ap (λ ps. characters_fit ps (chars text)) (append-nil (chars part)) ∙ e) in
      sym (part_first b.rest b.whole ∙ ap (λ r. part ++ encodes r) (no_rest b.rest b.there) ∙ append-nil part)

  equal_from : part ≡ text → characters_fit (chars part) (chars text) ≡ true
  equal_from e =
      ap (λ t. characters_fit (chars part) (chars t)) (sym e)
      ∙ (λ i. characters_fit (sym (append-nil (chars part)) i) (sym (append-nil (chars part)) i))
      ∙ plain-from (chars part) [] [] plain_part refl

  -- the part in front
  prefix_to : characters_fit (chars part ++ 37 ∷ []) (chars text) ≡ true → (rest : List ℕ) × (text ≡ part ++ rest)
  prefix_to e = let b = plain-to (chars part) (37 ∷ []) (chars text) plain_part e in
      (encodes b.rest, part_first b.rest b.whole)

  prefix_from : (rest : List ℕ) → text ≡ part ++ rest → characters_fit (chars part ++ 37 ∷ []) (chars text) ≡ true
  prefix_from rest e =
      ap (λ cs. characters_fit (chars part ++ 37 ∷ []) cs) (ap chars e ∙ chars-append part rest of_part)
      ∙ plain-from (chars part) (37 ∷ []) (chars rest) plain_part (any_rest (chars rest))

  -- the part at the end
  suffix_to : after_any_run (characters_fit (chars part)) (chars text) ≡ true → (front : List ℕ) × (text ≡ front ++ part)
  suffix_to e =
      let s = run-to (characters_fit (chars part)) (chars text) e in
      let b = plain-to (chars part) [] s.after plain_part
      (ap (λ ps. characters_fit ps s.after) (append-nil (chars part)) ∙ s.passes) in
      let after_is : s.after ≡ chars part = b.whole ∙ ap (λ r. chars part ++ r) (no_rest b.rest b.there)
      ∙ append-nil (chars part) in (
        encodes s.before,
        bytes_of s.before s.after s.whole ∙ ap (λ cs. encodes s.before ++ encodes cs) after_is
            ∙ ap (λ bs. encodes s.before ++ bs) (encodes-chars part of_part),
      )

  front_utf8 : (front rest : List ℕ) → text ≡ front ++ rest → IsUtf8 rest → IsUtf8 front
  front_utf8 front rest e of_rest =
      subst IsUtf8 (ap (take (length front)) e ∙ take_front front rest)
      (IsUtf8-take text (length front) of_text (IsCharBoundary-at_seam text front rest e of_rest))

  suffix_from : (front : List ℕ) → text ≡ front ++ part → after_any_run (characters_fit (chars part)) (chars text) ≡ true
  suffix_from front e =
      ap (after_any_run (characters_fit (chars part))) (ap chars e ∙ chars-append front part (front_utf8 front part e of_part))
      ∙ run-from (characters_fit (chars part)) (chars front) (chars part)
      ((λ i. characters_fit (sym (append-nil (chars part)) i) (sym (append-nil (chars part)) i))
      ∙ plain-from (chars part) [] [] plain_part refl)

  -- the part anywhere
  within_to : after_any_run (characters_fit (chars part ++ 37 ∷ [])) (chars text) ≡ true → HasSubslice text part
  within_to e =
      let s = run-to (characters_fit (chars part ++ 37 ∷ [])) (chars text) e in
      let b = plain-to (chars part) (37 ∷ []) s.after plain_part s.passes in (
        encodes s.before,
        encodes b.rest,
        bytes_of s.before s.after s.whole
            ∙ ap (λ cs. encodes s.before ++ encodes cs) b.whole
            ∙ ap (λ bs. encodes s.before ++ bs)
            (encodes-append (chars part) b.rest ∙ ap (λ bs. bs ++ encodes b.rest) (encodes-chars part of_part)),
      )

  -- where the part stands, the text may be cut
  cut_before : (front rest : List ℕ) → text
      ≡ front ++ (part ++ rest) → 0 < length part → IsCharBoundary text (length front)
  cut_before front rest e some = (
    (let whole = ap length e ∙ length-append front (part ++ rest) in omega arith),
    λ below lead.
        let first : get_or text (length front) 0
        ≡ get_or part 0 0 = ap (λ bs. get_or bs (length front) 0) e ∙ behind_front front (part ++ rest)
        ∙ first_byte part rest some in
        let of_first = (IsCharBoundary-start part of_part).1 some (omega arith) in
        omega arith,
  )
    where
      behind_front : (xs ys : List ℕ) → get_or (xs ++ ys) (length xs) 0 ≡ get_or ys 0 0
      behind_front [] ys = refl
      behind_front (x ∷ xs) ys = behind_front xs ys

      first_byte : (xs ys : List ℕ) → 0 < length xs → get_or (xs ++ ys) 0 0 ≡ get_or xs 0 0
      first_byte [] ys some = absurd (omega arith)
      first_byte (x ∷ xs) ys some = refl

  within_some : (front rest : List ℕ) → text
      ≡ front ++ (part ++ rest) → 0 < length part → after_any_run (characters_fit (chars part ++ 37 ∷ [])) (chars text) ≡ true
  within_some front rest e some =
      let cut = cut_before front rest e some in
      let of_front : IsUtf8 front = subst IsUtf8 (ap (take (length front)) e ∙ take_front front (part ++ rest))
      (IsUtf8-take text (length front) of_text cut) in
      ap (after_any_run (characters_fit (chars part ++ 37 ∷ [])))
      (ap chars e ∙ chars-append front (part ++ rest) of_front
      ∙ ap (λ cs. chars front ++ cs) (chars-append part rest of_part))
      ∙ run-from (characters_fit (chars part ++ 37 ∷ [])) (chars front) (chars part ++ chars rest)
      (plain-from (chars part) (37 ∷ []) (chars rest) plain_part (any_rest (chars rest)))

  within_from : HasSubslice text part → after_any_run (characters_fit (chars part ++ 37 ∷ [])) (chars text) ≡ true
  within_from (front, rest, e) =
      elim (some_or_none part) [
        | inl none ↦ ap (λ cs. after_any_run (characters_fit (cs ++ 37 ∷ [])) (chars text)) (ap chars none ∙ chars-nil)
            ∙ run-from (characters_fit (37 ∷ [])) [] (chars text) (any_rest (chars text))
        | inr some ↦ within_some front rest e some
      ]
    where
      some_or_none : (xs : List ℕ) → (xs ≡ []) ⊎ (0 < length xs)
      some_or_none [] = inl refl
      some_or_none (x ∷ xs) = inr (omega arith)

  behind_sign : chars (part ++ 37 ∷ []) ≡ chars part ++ 37 ∷ []
  behind_sign = chars-append part (37 ∷ []) of_part ∙ ap (λ cs. chars part ++ cs) sign_chars

  sign_before : (bs : List ℕ) → chars (37 ∷ bs) ≡ 37 ∷ chars bs
  sign_before bs = chars-append (37 ∷ []) bs sign ∙ ap (λ cs. cs ++ chars bs) sign_chars

  by_bytes : LikeOfBytes part text
  unfolding is_like
  by_bytes =
      let starts = starts_is Decides-eqb text part (starts_with nat_eq text part) refl in
      let ends = ends_is Decides-eqb text part (ends_with nat_eq text part) refl in
      let same = bytes_eq-Decides part text in
      let both_signs : chars (37 ∷ (part ++ 37 ∷ []))
      ≡ 37 ∷ (chars part ++ 37 ∷ []) = sign_before (part ++ 37 ∷ []) ∙ ap (λ cs. 37 ∷ cs) behind_sign in
      record {
        equal = same_test (characters_fit (chars part) (chars text)) (bytes_eq part text) (λ e. same.1 (equal_to e))
            (λ e. equal_from (same.0 e));
        prefix = ap (λ ps. characters_fit ps (chars text)) behind_sign
            ∙ same_test (characters_fit (chars part ++ 37 ∷ []) (chars text)) (starts_with nat_eq text part)
            (λ e. let found = prefix_to e in starts.1 found.0 found.1)
            (λ e. prefix_from (drop (length part) text) (starts.0 e));
        suffix = ap (λ ps. characters_fit ps (chars text)) (sign_before part)
            ∙ same_test (after_any_run (characters_fit (chars part)) (chars text)) (ends_with nat_eq text part)
            (λ e. let found = suffix_to e in ends.1 found.0 found.1)
            (λ e. suffix_from (take (length text - length part) text) (ends.0 e));
        within = (
          λ e. within_to (ap (λ ps. characters_fit ps (chars text)) (sym both_signs) ∙ e),
          λ has. ap
              (λ ps. characters_fit ps (chars text)) both_signs ∙ within_from has,
        );
      }

pub like_bytes : (part text : List ℕ) → is_utf8 part ≡ true → is_plain part ≡ true → is_utf8 text
    ≡ true → LikeOfBytes part text
like_bytes part text utf8 plain utf8_text =
    by_bytes part text (IsUtf8-from_is_utf8 part utf8) plain (IsUtf8-from_is_utf8 text utf8_text)
