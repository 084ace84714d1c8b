-- Loops that leave where a test fails, against a test of all elements.
use Rattle.std.proofs.Common.{◌≡◌, ℕ, zero, suc, ◌+◌, ◌-◌, ◌<◌, ◌≤◌, Bool, true, false, ◌&&◌, List, ⊎_elim, length, get_or, drop, refl, sym, ap, ◌∙◌, arith}
use Rattle.std.specs.List.{list_all, range_with_len}
use Rattle.std.proofs.lemmas.List.{at_drop_more, at_drop_all}
use Rattle.std.proofs.lemmas.Bool.{false≢true, cases_lt}

pub and_true : (a b r : Bool) → (a && b) ≡ r → a ≡ true → b ≡ r
and_true true b r e h = e
and_true false b r e h = absurd (false≢true h)

pub and_false : (a b r : Bool) → (a && b) ≡ r → a ≡ false → false ≡ r
and_false false b r e h = e
and_false true b r e h = absurd (false≢true (sym h))

module _ {X : Type 0} (p : X → Bool) (xs : List X) (d : X) (r : Bool) where
  pub all_keeps : (i : ℕ) → i < length xs → list_all p (drop i xs) ≡ r → p (get_or xs i d) ≡ true → list_all p (drop (i + 1) xs) ≡ r
  all_keeps i h e t =
      let step : (p (get_or xs i d) && list_all p (drop (i + 1) xs)) ≡ r = sym (at_drop_more (list_all p) xs i d h) ∙ e in
      and_true _ _ r step t

  pub all_stops : (i : ℕ) → i < length xs → list_all p (drop i xs) ≡ r → p (get_or xs i d) ≡ false → false ≡ r
  all_stops i h e t =
      let step : (p (get_or xs i d) && list_all p (drop (i + 1) xs)) ≡ r = sym (at_drop_more (list_all p) xs i d h) ∙ e in
      and_false _ _ r step t

  pub all_ends : (i : ℕ) → length xs ≤ i → list_all p (drop i xs) ≡ r → true ≡ r
  all_ends i h e = sym (at_drop_all (list_all p) xs i h) ∙ e

-- elements that are passed over
pub all_skips : {X : Type 0} (p : X → Bool) (xs : List X) (d : X) (r : Bool) (n i : ℕ) → ((j : ℕ) → i ≤ j → j < i + n → j < length xs → p (get_or xs j d) ≡ true) → list_all p (drop i xs) ≡ r → list_all p (drop (i + n) xs) ≡ r
all_skips p xs d r zero i pass e =
    let same : i ≡ i + 0 = omega arith in
    ap (λ k. list_all p (drop k xs)) (sym same) ∙ e
all_skips p xs d r (suc n) i pass e =
    let same : i + suc n ≡ i + 1 + n = omega arith in
    let next : list_all p (drop (i + 1) xs) ≡ r =
    ⊎_elim (λ h. all_keeps p xs d r i h e (pass i (omega arith) (omega arith) h))
    (λ h. at_drop_all (list_all p) xs (i + 1) (omega arith) ∙ sym (at_drop_all (list_all p) xs i h) ∙ e) (cases_lt i (length xs)) in
    ap (λ k. list_all p (drop k xs)) same ∙ all_skips p xs d r n (i + 1) (λ j a b l. pass j (omega arith) (omega arith) l) next

pub both_true : (a b : Bool) → (a && b) ≡ true → (a ≡ true) × (b ≡ true)
both_true true b e = (refl, e)
both_true false b e = absurd (false≢true e)

-- a loop that counts up to `end`
module _ (p : ℕ → Bool) (end : ℕ) (r : Bool) where
  range_step : (i : ℕ) → i < end → list_all p (range_with_len i (end - i)) ≡ r → (p i && list_all p (range_with_len (i + 1) (end - (i + 1)))) ≡ r
  range_step i h e =
      let more : suc (end - (i + 1)) ≡ end - i = omega arith in
      ap (λ n. list_all p (range_with_len i n)) more ∙ e

  pub range_keeps : (i : ℕ) → i < end → list_all p (range_with_len i (end - i)) ≡ r → p i ≡ true → list_all p (range_with_len (i + 1) (end - (i + 1))) ≡ r
  range_keeps i h e t = and_true _ _ r (range_step i h e) t

  pub range_stops : (i : ℕ) → i < end → list_all p (range_with_len i (end - i)) ≡ r → p i ≡ false → false ≡ r
  range_stops i h e t = and_false _ _ r (range_step i h e) t

  pub range_ends : (i : ℕ) → end ≤ i → list_all p (range_with_len i (end - i)) ≡ r → true ≡ r
  range_ends i h e =
      let none : 0 ≡ end - i = omega arith in
      ap (λ n. list_all p (range_with_len i n)) none ∙ e
