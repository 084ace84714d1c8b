-- A loop over neighbours, against a test that each element is less than the next.
use Rattle.std.proofs.Common.{◌≡◌, ℕ, ◌+◌, ◌-◌, ◌<◌, ◌≤◌, Bool, true, ◌&&◌, List, [], ◌∷◌, length, get_or, drop, refl, sym, ap, ◌∙◌, arith}
use Rattle.std.specs.declared.cmp.Ordering.{Ordering}
use Rattle.std.specs.Ordering.{is_lt}
use Rattle.std.proofs.lemmas.List.{drop_more, length-drop}
use Rattle.meaning.specs.Order.{is_ascending}

module _ {X : Type 0} (cmp : X → X → Ordering) where
  short_ascends : (xs : List X) → length xs ≤ 1 → is_ascending cmp xs ≡ true
  short_ascends [] h = refl
  short_ascends (x ∷ []) h = refl
  short_ascends (x ∷ y ∷ xs) h = absurd (omega arith)

  pub ascending_step : (xs : List X) (d : X) (i : ℕ) (r : Bool) → 1 ≤ i → i < length xs → is_ascending cmp (drop (i - 1) xs) ≡ r → (is_lt (cmp (get_or xs (i - 1) d) (get_or xs i d)) && is_ascending cmp (drop (i + 1 - 1) xs)) ≡ r
  ascending_step xs d i r low h known =
      let back : i - 1 + 1 ≡ i = omega arith in
      let on : i + 1 - 1 ≡ i = omega arith in
      let here : drop i xs ≡ get_or xs i d ∷ drop (i + 1) xs = drop_more xs i d h in
      let before : drop (i - 1) xs ≡ get_or xs (i - 1) d ∷ (get_or xs i d ∷ drop (i + 1) xs) =
      drop_more xs (i - 1) d (omega arith) ∙ ap (λ k. get_or xs (i - 1) d ∷ drop k xs) back ∙ ap (λ ys. get_or xs (i - 1) d ∷ ys) here in
      ap (λ k. is_lt (cmp (get_or xs (i - 1) d) (get_or xs i d)) && is_ascending cmp (drop k xs)) on ∙ ap (λ ys. is_lt (cmp (get_or xs (i - 1) d) (get_or xs i d)) && is_ascending cmp ys) here ∙ sym (ap (is_ascending cmp) before) ∙ known

  pub ascending_end : (xs : List X) (i : ℕ) (r : Bool) → 1 ≤ i → length xs ≤ i → is_ascending cmp (drop (i - 1) xs) ≡ r → true ≡ r
  ascending_end xs i r low h known =
      let few = length-drop (i - 1) xs in
      sym (short_ascends (drop (i - 1) xs) (omega arith)) ∙ known
