-- The places of the bits of a byte, by the table of these.
use Rattle.std.specs.Prelude.{◌≡◌, ℕ, zero, suc, ◌+◌, ◌/◌, ◌%◌, ◌^◌, ◌<◌, ◌≤◌, ◌==◌, Bool, true, false, ◌&&◌, nat_lt, eqb, bytes_eq, count_ones, List, [], ◌∷◌, filter, slice_index, take}
use Rattle.std.proofs.Common.{refl, subst, arith, w64}
use Rattle.std.specs.Int.{to_le_bytes}
use Rattle.std.specs.List.{list_all, range_with_len}
use Rattle.std.specs.Simd.Lanes.{Each1}
use Rattle.std.proofs.lemmas.Bool.{eqb-true, eqb-false, ltb-true}
use Rattle.std.proofs.lemmas.Slice.Eq.{bytes_eq-Decides}
use Rattle.lane_kernels.specs.declared.places.TheConstants.{PLACES}

abbrev row : ℕ → List ℕ
row bits = to_le_bytes w64 (slice_index PLACES bits)

abbrev set_places : ℕ → List ℕ
set_places bits = filter (λ i. bits / 2 ^ i % 2 == 1) (range_with_len 0 8)

abbrev is_right : ℕ → Bool
is_right bits = bytes_eq (take (count_ones bits) (row bits)) (set_places bits) && list_all (λ place. nat_lt place 8) (row bits)

all_right : list_all is_right (range_with_len 0 256) ≡ true
unfolding lib.Count.ones
all_right = refl

both : (a b : Bool) → (a && b) ≡ true → (a ≡ true) × (b ≡ true)
both true b e = (refl, e)
both false true e = (e, refl)
both false false e = (e, e)

passes : (p : ℕ → Bool) (a n m : ℕ) → list_all p (range_with_len a n) ≡ true → a ≤ m → m < a + n → p m ≡ true
passes p a zero m all low high = absurd (omega (arith, low, high))
passes p a (suc n) m all low high =
    let parts = both (p a) (list_all p (range_with_len (a + 1) n)) all in
    elim (eqb a m) as (λ b. eqb a m ≡ b → p m ≡ true) [
      | true ↦ λ e. subst (λ k. p k ≡ true) (eqb-true a m e) parts.0
      | false ↦ λ e. let apart = eqb-false a m e in passes p (a + 1) n m parts.1 (omega (arith, low, apart)) (omega (arith, high))
    ] refl

each_below : (xs : List ℕ) → list_all (λ place. nat_lt place 8) xs ≡ true → Each1 (λ place. place < 8) xs
each_below [] all = tt
each_below (x ∷ xs) all = let parts = both (nat_lt x 8) (list_all (λ place. nat_lt place 8) xs) all in (ltb-true x 8 parts.0, each_below xs parts.1)

module _ (bits : ℕ) (few : bits < 256) where
  right : (bytes_eq (take (count_ones bits) (row bits)) (set_places bits) ≡ true) × (list_all (λ place. nat_lt place 8) (row bits) ≡ true)
  right = both (bytes_eq (take (count_ones bits) (row bits)) (set_places bits)) (list_all (λ place. nat_lt place 8) (row bits)) (passes is_right 0 256 bits all_right (omega arith) (omega (arith, few)))

  pub row_places : take (count_ones bits) (row bits) ≡ set_places bits
  row_places = (bytes_eq-Decides (take (count_ones bits) (row bits)) (set_places bits)).0 right.0

  pub row_small : Each1 (λ place. place < 8) (row bits)
  row_small = each_below (row bits) right.1
