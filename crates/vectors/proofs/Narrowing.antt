-- A selection is narrowed position by position.
use Rattle.std.specs.Prelude.{◌≡◌, ℕ, zero, suc, ◌+◌, ◌<◌, ◌≤◌, Bool, true, false, List, [], ◌∷◌, ◌++◌, length, take, drop, set, get_or, All}
use Rattle.std.specs.List.{range_with_len, AllZip}
use Rattle.std.specs.Int.{from_bool}
use Rattle.std.proofs.Common.{refl, sym, ap, arith, ◌∙◌, subst}
use Rattle.std.proofs.Math.Seq.{take-suc}
use Rattle.std.proofs.lemmas.List.{take-set, take_more_set, drop-set-lt, drop-drop, get_or-drop, get_or-take, length-take}
use Rattle.std.proofs.lemmas.List.Elements.{All-get_or}
use Rattle.vectors.specs.Selection.{answered_true, Keeps}

module _ (Answers : ℕ → Bool → Type 0) where
  answers_more : (ps : List ℕ) (as' : List Bool) (p : ℕ) (a : Bool) → AllZip Answers ps as' → Answers p a → AllZip Answers (ps ++ p ∷ []) (as' ++ a ∷ [])
  answers_more [] [] p a asked said = (said, tt)
  answers_more [] (x ∷ xs) p a asked said = absurd asked
  answers_more (q ∷ ps) [] p a asked said = absurd asked
  answers_more (q ∷ ps) (x ∷ xs) p a asked said = (asked.0, answers_more ps xs p a asked.1 said)

  true_more : (ps : List ℕ) (as' : List Bool) (p : ℕ) → AllZip Answers ps as' → answered_true (ps ++ p ∷ []) (as' ++ true ∷ []) ≡ answered_true ps as' ++ p ∷ []
  true_more [] [] p asked = refl
  true_more [] (x ∷ xs) p asked = absurd asked
  true_more (q ∷ ps) [] p asked = absurd asked
  true_more (q ∷ ps) (true ∷ xs) p asked = ap (λ rest. q ∷ rest) (true_more ps xs p asked.1)
  true_more (q ∷ ps) (false ∷ xs) p asked = true_more ps xs p asked.1

  false_more : (ps : List ℕ) (as' : List Bool) (p : ℕ) → AllZip Answers ps as' → answered_true (ps ++ p ∷ []) (as' ++ false ∷ []) ≡ answered_true ps as'
  false_more [] [] p asked = refl
  false_more [] (x ∷ xs) p asked = absurd asked
  false_more (q ∷ ps) [] p asked = absurd asked
  false_more (q ∷ ps) (true ∷ xs) p asked = ap (λ rest. q ∷ rest) (false_more ps xs p asked.1)
  false_more (q ∷ ps) (false ∷ xs) p asked = false_more ps xs p asked.1

  -- one more position was asked, and put behind those that are kept
  pub keeps_more : (before now : List ℕ) (count p n : ℕ) (a : Bool) → Keeps Answers before (take count now) → count < length now → Answers p a → n ≡ from_bool a
      → Keeps Answers (before ++ p ∷ []) (take (count + n) (set now count p))
  keeps_more before now count p n true so_far within said counted = record {
    answers = so_far.answers ++ true ∷ [];
    asked = answers_more before so_far.answers p true so_far.asked said;
    kept = ap (λ (k : ℕ). take (count + k) (set now count p)) counted ∙ put ∙ ap (λ (xs : List ℕ). xs ++ p ∷ []) so_far.kept ∙ sym (true_more before so_far.answers p so_far.asked);
  } where
    put : take (count + 1) (set now count p) ≡ take count now ++ p ∷ []
    put = take_more_set now count p within
  keeps_more before now count p n false so_far within said counted = record {
    answers = so_far.answers ++ false ∷ [];
    asked = answers_more before so_far.answers p false so_far.asked said;
    kept = ap (λ (k : ℕ). take (count + k) (set now count p)) counted ∙ same ∙ so_far.kept ∙ sym (false_more before so_far.answers p so_far.asked);
  } where
    same : take (count + 0) (set now count p) ≡ take count now
    same = ap (λ (k : ℕ). take k (set now count p)) none ∙ take-set now count p where
      none : count + 0 ≡ count
      none = omega arith

-- no more are kept than were asked
pub counted_more : (count i n : ℕ) (a : Bool) → count ≤ i → n ≡ from_bool a → count + n ≤ i + 1
counted_more count i n true few counted = omega (arith, few, counted)
counted_more count i n false few counted = omega (arith, few, counted)

range_from : (a n : ℕ) → range_with_len a (suc n) ≡ range_with_len a n ++ (a + n) ∷ []
range_from a zero = ap (λ (x : ℕ). x ∷ []) same where
  same : a ≡ a + 0
  same = omega arith
range_from a (suc n) = ap (λ (rest : List ℕ). a ∷ rest) (range_from (a + 1) n ∙ ap (λ (x : ℕ). range_with_len (a + 1) n ++ x ∷ []) same) where
  same : (a + 1) + n ≡ a + suc n
  same = omega arith

-- the positions below n + 1 are those below n, and n
pub range_more : (n : ℕ) → range_with_len 0 (n + 1) ≡ range_with_len 0 n ++ n ∷ []
range_more n = ap (range_with_len 0) next ∙ range_from 0 n ∙ ap (λ (x : ℕ). range_with_len 0 n ++ x ∷ []) none where
  next : n + 1 ≡ suc n
  next = omega arith

  none : 0 + n ≡ n
  none = omega arith

-- the same element stands in what is left of equal lists
pub same_left : (xs ys : List ℕ) (i : ℕ) → drop i xs ≡ drop i ys → get_or xs i 0 ≡ get_or ys i 0
same_left xs ys i same = ap (λ (n : ℕ). get_or xs n 0) (sym none) ∙ sym (get_or-drop i xs 0 0) ∙ ap (λ (l : List ℕ). get_or l 0 0) same ∙ get_or-drop i ys 0 0 ∙ ap (λ (n : ℕ). get_or ys n 0) none where
  none : i + 0 ≡ i
  none = omega arith

module _ (old now : List ℕ) (n i : ℕ) where
  -- a position of the front that wasn't yet asked is one of the old
  pub front_position : All (λ p. p < length old) (take n old) → i < n → n ≤ length old → drop i now ≡ drop i old → get_or now i 0 < length old
  front_position below here front same =
      let first : i < length (take n old) = omega (arith, length-take n old, here, front) in
      let at : get_or (take n old) i 0 ≡ get_or old i 0 = get_or-take n old i 0 here in
      subst (λ (p : ℕ). p < length old) (at ∙ sym (same_left now old i same)) (All-get_or (λ p. p < length old) (take n old) i 0 first below)

  -- the front up to it, and it
  pub take_next : i < n → n ≤ length old → drop i now ≡ drop i old → take (i + 1) old ≡ take i old ++ get_or now i 0 ∷ []
  take_next here front same =
      let one : i + 1 ≡ suc i = omega arith in
      let within : i < length old = omega (arith, here, front) in
      ap (λ (k : ℕ). take k old) one ∙ take-suc old i 0 within ∙ ap (λ (p : ℕ). take i old ++ p ∷ []) (sym (same_left now old i same))

  -- what is left behind it
  pub left_next : (count p : ℕ) → count ≤ i → drop i now ≡ drop i old → drop (i + 1) (set now count p) ≡ drop (i + 1) old
  left_next count p few same = drop-set-lt (i + 1) now count p below ∙ sym (drop-drop 1 i now) ∙ ap (drop 1) same ∙ drop-drop 1 i old where
    below : count < i + 1
    below = omega (arith, few)
