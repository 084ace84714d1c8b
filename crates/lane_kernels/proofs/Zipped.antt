-- Eight lanes, each computed of integers, and such lanes stored behind those before them.
use Rattle.std.specs.Prelude.{◌≡◌, ℕ, ◌+◌, ◌≤◌, ◌<◌, ℤ, pos, Bool, true, false, List, [], ◌∷◌, length, get_or, map}
use Rattle.std.proofs.Common.{refl, ap, arith, ◌∙◌, w8, w64}
use Rattle.std.specs.Int.{from_bool}
use Rattle.std.specs.Simd.Lanes.{zip2, chunk, put_chunk}
use Rattle.std.proofs.lemmas.Simd.{length-zip2, get_or-zip2, length-chunk, get_or-chunk}
use Rattle.std.proofs.lemmas.List.{get_or-map, length-map}
use mir.Syntax.{cast, unsigned}
use borrow.Rule.Simd.Lanes.{act1}
use borrow.Table.Row.{s_int}
use Rattle.lane_kernels.specs.Lanes.{AreFilled, int_at}
use Rattle.lane_kernels.proofs.Stored.{stored_more}

-- a lane in eight bits
abbrev pub narrowed : ℕ → ℕ
narrowed = act1 (cast unsigned unsigned w8) (s_int w64) (s_int w8)

narrowed_bit : (b : Bool) → narrowed (from_bool b) ≡ from_bool b
narrowed_bit true = refl
narrowed_bit false = refl

-- bits are the same in eight bits
pub narrowed_bits : (t : ℤ → ℤ → Bool) (xs ys : List ℤ) → map narrowed (zip2 (λ a b. from_bool (t a b)) xs ys) ≡ zip2 (λ a b. from_bool (t a b)) xs ys
narrowed_bits t [] ys = refl
narrowed_bits t (x ∷ xs) [] = refl
narrowed_bits t (x ∷ xs) (y ∷ ys) = λ k. narrowed_bit (t x y) k ∷ narrowed_bits t xs ys k

pub narrowed_each : (t : ℤ → Bool) (xs : List ℤ) → map narrowed (map (λ a. from_bool (t a)) xs) ≡ map (λ a. from_bool (t a)) xs
narrowed_each t [] = refl
narrowed_each t (x ∷ xs) = λ k. narrowed_bit (t x) k ∷ narrowed_each t xs k

module _ {X : Type 0} (blank : X) (left : List ℤ) (start : ℕ) (left_room : start + 8 ≤ length left) where
  abbrev xs : List ℤ
  xs = chunk start 8 left

  left_long : length xs ≡ 8
  left_long = length-chunk start 8 left left_room

  -- of one integer each
  module _ (f : ℤ → X) where
    pub map_more : (n : ℕ) (out lanes : List X) → AreFilled blank n start (λ i. f (int_at left i)) out → start + 8 ≤ n → lanes ≡ map f xs → AreFilled blank n (start + 8) (λ i. f (int_at left i)) (put_chunk start out lanes)
    map_more n out lanes so_far within same =
        stored_more blank n (λ i. f (int_at left i)) out lanes start 8 so_far (ap length same ∙ length-map xs f ∙ left_long) within
        (λ j below. ap (λ zs. get_or zs j blank) same ∙ get_or-map f xs j (pos 0) blank (omega (arith, left_long, below)) ∙ (λ k. f (get_or-chunk start 8 left j (pos 0) below k)))

  -- of two
  module _ (f : ℤ → ℤ → X) (right : List ℤ) (right_room : start + 8 ≤ length right) where
    abbrev ys : List ℤ
    ys = chunk start 8 right

    right_long : length ys ≡ 8
    right_long = length-chunk start 8 right right_room

    abbrev meant : ℕ → X
    meant i = f (int_at left i) (int_at right i)

    lane_is : (j : ℕ) → j < 8 → get_or (zip2 f xs ys) j blank ≡ meant (start + j)
    lane_is j below =
        get_or-zip2 f xs ys j (pos 0) (pos 0) blank (omega (arith, left_long, below)) (omega (arith, right_long, below))
        ∙ (λ k. f (get_or-chunk start 8 left j (pos 0) below k) (get_or-chunk start 8 right j (pos 0) below k))

    pub zip_more : (n : ℕ) (out lanes : List X) → AreFilled blank n start meant out → start + 8 ≤ n → lanes ≡ zip2 f xs ys → AreFilled blank n (start + 8) meant (put_chunk start out lanes)
    zip_more n out lanes so_far within same =
        stored_more blank n meant out lanes start 8 so_far (ap length same ∙ length-zip2 f xs ys (omega (arith, left_long, right_long)) ∙ left_long) within
        (λ j below. ap (λ zs. get_or zs j blank) same ∙ lane_is j below)
