-- Positions of bytes that pass a test, gathered eight at a time and one by one.
use Rattle.std.specs.Prelude.{◌≡◌, ℕ, zero, suc, ◌+◌, ◌/◌, ◌%◌, ◌^◌, ◌<◌, ◌≤◌, ◌==◌, Bool, true, false, cond, List, [], ◌∷◌, ◌++◌, filter, get_or, length, map, replicate, take, set}
use Rattle.std.proofs.Common.{refl, sym, ap, arith, ◌∙◌, w8, w32}
use Rattle.std.specs.Int.{from_bool}
use Rattle.std.specs.List.{range_with_len, take-map}
use Rattle.std.specs.Simd.Lanes.{chunk, put_chunk, zip2, mask_l, Each1}
use Rattle.std.proofs.lemmas.List.{append-nil, get_or-map, length-map, length-take, take-set, take-take, take_more_set}
use Rattle.std.proofs.lemmas.List.Elements.{filter-append}
use Rattle.std.proofs.lemmas.Simd.{bit_mask_l, get_or-chunk, length-chunk, map-map, take_more_put_chunk, zip2_splat}
use Rattle.std.proofs.Math.Nat.{mod-eq_of_lt}
use Rattle.std.proofs.Math.Seq.{take-append-add}
use mir.Syntax.{cast, unsigned, wrap_add}
use borrow.Rule.Simd.Lanes.{act1, act2}
use borrow.Table.Row.{s_int}

moved_one : (f g : ℕ → Bool) (s a : ℕ) (xs ys : List ℕ) → f a ≡ g (a + s) → map (λ x. x + s) xs ≡ ys → map (λ x. x + s) (cond (f a) (a ∷ xs) xs) ≡ cond (g (a + s)) ((a + s) ∷ ys) ys
moved_one f g s a xs ys here rest = (λ k. map (λ x. x + s) (cond (here k) (a ∷ xs) xs)) ∙ by_test (g (a + s)) where
  by_test : (b : Bool) → map (λ x. x + s) (cond b (a ∷ xs) xs) ≡ cond b ((a + s) ∷ ys) ys
  by_test true = ap (λ zs. (a + s) ∷ zs) rest
  by_test false = rest

-- a filtered range, moved
moved : (f g : ℕ → Bool) (s a n : ℕ) → ((i : ℕ) → a ≤ i → i < a + n → f i ≡ g (i + s)) → map (λ x. x + s) (filter f (range_with_len a n)) ≡ filter g (range_with_len (a + s) n)
moved f g s a zero same = refl
moved f g s a (suc n) same =
    let next : (a + 1) + s ≡ (a + s) + 1 = omega arith in
    moved_one f g s a (filter f (range_with_len (a + 1) n)) (filter g (range_with_len ((a + s) + 1) n)) (same a (omega arith) (omega arith))
    (moved f g s (a + 1) n (λ i low high. same i (omega (arith, low)) (omega (arith, high))) ∙ ap (λ k. filter g (range_with_len k n)) next)

test_bit : (b : Bool) → (cond {A = ℕ} b 1 0 == 1) ≡ b
test_bit true = refl
test_bit false = refl

-- the bits of eight bytes at their places are those of the bytes
module _ (q : ℕ → Bool) (bytes : List ℕ) (start : ℕ) (room : start + 8 ≤ length bytes) where
  abbrev bits : ℕ
  bits = mask_l (map q (chunk start 8 bytes))

  bit_is : (i : ℕ) → i < 8 → (bits / 2 ^ i % 2 == 1) ≡ q (get_or bytes (i + start) 0)
  bit_is i below =
      let long : length (chunk start 8 bytes) ≡ 8 = length-chunk start 8 bytes room in
      let turn : start + i ≡ i + start = omega arith in
      ap (λ n. n == 1) (bit_mask_l (map q (chunk start 8 bytes)) i)
      ∙ test_bit (get_or (map q (chunk start 8 bytes)) i false)
      ∙ get_or-map q (chunk start 8 bytes) i 0 false (omega (arith, long, below))
      ∙ ap q (get_or-chunk start 8 bytes i 0 below)
      ∙ ap (λ k. q (get_or bytes k 0)) turn

  pub places_moved : map (λ x. x + start) (filter (λ i. bits / 2 ^ i % 2 == 1) (range_with_len 0 8)) ≡ filter (λ i. q (get_or bytes i 0)) (range_with_len start 8)
  places_moved =
      let none : 0 + start ≡ start = omega arith in
      moved (λ i. bits / 2 ^ i % 2 == 1) (λ i. q (get_or bytes i 0)) start 0 8 (λ i low high. bit_is i (omega (arith, high)))
      ∙ ap (λ k. filter (λ i. q (get_or bytes i 0)) (range_with_len k 8)) none

abbrev pub wide : ℕ → ℕ
wide = act1 (cast unsigned unsigned w32) (s_int w8) (s_int w32)

abbrev pub plus : ℕ → ℕ → ℕ
plus = act2 wrap_add (s_int w32) (s_int w32) (s_int w32)

module _ (start : ℕ) (low : start + 8 ≤ 2 ^ 32) where
  lane_is : (x : ℕ) → x < 8 → plus (wide x) start ≡ x + start
  lane_is x small = mod-eq_of_lt (omega (arith, low, small))

  each_lane : (xs : List ℕ) → Each1 (λ x. x < 8) xs → map (λ x. plus (wide x) start) xs ≡ map (λ x. x + start) xs
  each_lane [] small = refl
  each_lane (x ∷ xs) small = λ k. lane_is x small.0 k ∷ each_lane xs small.1 k

  pub lanes_are : (xs : List ℕ) → length xs ≡ 8 → Each1 (λ x. x < 8) xs → zip2 plus (map wide xs) (replicate 8 start) ≡ map (λ x. x + start) xs
  lanes_are xs long small = zip2_splat plus (map wide xs) 8 start (length-map xs wide ∙ long) ∙ map-map-is ∙ each_lane xs small where
    map-map-is : map (λ y. plus y start) (map wide xs) ≡ map (λ x. plus (wide x) start) xs
    map-map-is = map-map (λ y. plus y start) wide xs

-- the first of those stored are behind the ones before
pub stored_behind : (count n : ℕ) (old ys : List ℕ) → length ys ≡ 8 → n ≤ 8 → count + 8 ≤ length old → take (count + n) (put_chunk count old ys) ≡ take count old ++ take n ys
stored_behind count n old ys long few room =
    let up_to : count + n ≤ count + 8 = omega (arith, few) in
    let front : length (take count old) ≡ count = length-take count old ∙ omega (arith, room) in
    sym (take-take (count + n) (count + 8) (put_chunk count old ys) up_to)
    ∙ ap (take (count + n)) (take_more_put_chunk count old ys (count + 8) (omega (arith, long)) room)
    ∙ ap (λ k. take (k + n) (take count old ++ ys)) (sym front)
    ∙ take-append-add (take count old) ys n

-- the positions of the bytes among eight that pass, behind those before
module _ (q : ℕ → Bool) (bytes : List ℕ) (start : ℕ) (room : start + 8 ≤ length bytes) (low : start + 8 ≤ 2 ^ 32) (row : List ℕ) (long : length row ≡ 8) (small : Each1 (λ x. x < 8) row) where
  pub gathered : (n set count : ℕ) (old : List ℕ) → set ≡ mask_l (map q (chunk start 8 bytes)) → take n row ≡ filter (λ i. set / 2 ^ i % 2 == 1) (range_with_len 0 8) → n ≤ 8 → count + 8 ≤ length old
      → take (count + n) (put_chunk count old (zip2 plus (map wide row) (replicate 8 start))) ≡ take count old ++ filter (λ i. q (get_or bytes i 0)) (range_with_len start 8)
  gathered n set count old set_is places few within =
      let lanes = lanes_are start low row long small in
      stored_behind count n old (zip2 plus (map wide row) (replicate 8 start)) (ap length lanes ∙ length-map row (λ x. x + start) ∙ long) few within
      ∙ ap (λ ys. take count old ++ ys) (
      ap (take n) lanes ∙ take-map (λ x. x + start) n row
      ∙ ap (map (λ x. x + start)) (places ∙ ap (λ b. filter (λ i. b / 2 ^ i % 2 == 1) (range_with_len 0 8)) set_is)
      ∙ places_moved q bytes start room
      )

-- ---- the loop

range_add : (a n m : ℕ) → range_with_len a (n + m) ≡ range_with_len a n ++ range_with_len (a + n) m
range_add a zero m = λ k. range_with_len (none k) (all k) where
  none : a ≡ a + 0
  none = omega arith

  all : 0 + m ≡ m
  all = omega arith
range_add a (suc n) m = ap (range_with_len a) one ∙ ap (λ xs. a ∷ xs) (range_add (a + 1) n m ∙ ap (λ k. range_with_len (a + 1) n ++ range_with_len k m) next) where
  one : suc n + m ≡ suc (n + m)
  one = omega arith

  next : (a + 1) + n ≡ a + suc n
  next = omega arith

-- what passes among n more
pub filter_more : (f : ℕ → Bool) (i n : ℕ) → filter f (range_with_len 0 i) ++ filter f (range_with_len i n) ≡ filter f (range_with_len 0 (i + n))
filter_more f i n = sym (ap (filter f) (range_add 0 i n ∙ ap (λ k. range_with_len 0 i ++ range_with_len k n) none) ∙ filter-append f (range_with_len 0 i) (range_with_len i n)) where
  none : 0 + i ≡ i
  none = omega arith

module _ (f : ℕ → Bool) (positions : List ℕ) (count i n : ℕ) (so_far : take count positions ≡ filter f (range_with_len 0 i)) (within : count < length positions) (counted : n ≡ from_bool (f i)) where
  by_answer : (b : Bool) → n ≡ from_bool b → take (count + n) (set positions count i) ≡ filter f (range_with_len 0 i) ++ cond b (i ∷ []) []
  by_answer true one = ap (λ (k : ℕ). take (count + k) (set positions count i)) one ∙ take_more_set positions count i within ∙ ap (λ (xs : List ℕ). xs ++ i ∷ []) so_far
  by_answer false none = ap (λ (k : ℕ). take (count + k) (set positions count i)) none ∙ ap (λ (k : ℕ). take k (set positions count i)) same ∙ take-set positions count i ∙ so_far ∙ sym (append-nil (filter f (range_with_len 0 i))) where
    same : count + 0 ≡ count
    same = omega arith

  -- one position more is kept where it passes
  pub positions_more : take (count + n) (set positions count i) ≡ filter f (range_with_len 0 (i + 1))
  positions_more = by_answer (f i) counted ∙ filter_more f i 1

-- no more are kept than were asked
pub counted_more : (count i n : ℕ) (b : Bool) → count ≤ i → n ≡ from_bool b → count + n ≤ i + 1
counted_more count i n true few counted = omega (arith, few, counted)
counted_more count i n false few counted = omega (arith, few, counted)
