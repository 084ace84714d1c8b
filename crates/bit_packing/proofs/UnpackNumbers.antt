-- All bytes as one number, in parts.
use Rattle.std.proofs.Common.{◌≡◌, ℕ, zero, suc, ◌+◌, ◌-◌, ◌*◌, ◌/◌, ◌%◌, ◌^◌, ◌<◌, ◌≤◌, List, [], ◌∷◌, length, take, drop, get_or, refl, sym, ap, subst, ◌∙◌, arith, lit<, Fits, w8}
use Rattle.std.specs.Int.{w16, w32, w64, from_le_bytes, sum_through, byte_worth}
use Rattle.std.specs.Prelude.{slice_index, bit_and}
use Rattle.std.proofs.lemmas.List.{take_all, drop_more}
use Rattle.std.proofs.lemmas.Nat.{one_shl, and_mask, pow-add, pow_pos, shr-shr, shr_high, mod_low, field_of}
use Rattle.std.proofs.Math.Pow.{mod-mod-pow}
use Rattle.std.proofs.Math.Nat.{pow-le-pow_right}
use Rattle.bit_packing.specs.Bytes.{number_of}
use Rattle.bit_packing.specs.Offsets.{offset_at}

abbrev pub AreBytes : List ℕ → Type 0
AreBytes xs = (k : ℕ) → get_or xs k 0 < 256

pub are_bytes : (xs : List ℕ) → ((i : ℕ) → Fits w8 (get_or xs i 0)) → AreBytes xs
are_bytes xs h k = let f : Fits w8 (get_or xs k 0) = h k in omega arith

pub byte_more : (m : ℕ) → 2 ^ (8 * suc m) ≡ 2 ^ (8 * m) * 256
byte_more m = let e : 8 * suc m ≡ 8 * m + 8 = omega arith in ap (λ (j : ℕ). 2 ^ j) e ∙ pow-add 2 (8 * m) 8

split_step : (x n p q d t : ℕ) → n ≡ d * p + t → q ≡ p * 256 → x + 256 * n ≡ d * q + (x + 256 * t)
split_step x n p q d t e f = rw (e, f) (omega arith)

pub number-split : (m : ℕ) (xs : List ℕ) → number_of xs ≡ number_of (drop m xs) * 2 ^ (8 * m) + number_of (take m xs)
number-split zero xs = omega arith
number-split (suc m) [] = omega arith
number-split (suc m) (x ∷ xs) =
    split_step x (number_of xs) (2 ^ (8 * m)) (2 ^ (8 * suc m)) (number_of (drop m xs)) (number_of (take m xs)) (number-split m xs) (byte_more m)

bound_step : (x n p q : ℕ) → x < 256 → n < p → q ≡ p * 256 → x + 256 * n < q
bound_step x n p q h k f = omega arith

pub number-front_below : (m : ℕ) (xs : List ℕ) → AreBytes xs → number_of (take m xs) < 2 ^ (8 * m)
number-front_below zero xs h = omega arith
number-front_below (suc m) [] h = pow_pos (8 * suc m)
number-front_below (suc m) (x ∷ xs) h =
    bound_step x (number_of (take m xs)) (2 ^ (8 * m)) (2 ^ (8 * suc m)) (h 0) (number-front_below m xs (λ k. h (suc k))) (byte_more m)

-- the bytes behind the first m
pub number-drop : (m : ℕ) (xs : List ℕ) → AreBytes xs → number_of xs / 2 ^ (8 * m) ≡ number_of (drop m xs)
number-drop m xs h = ap (λ (j : ℕ). j / 2 ^ (8 * m)) (number-split m xs) ∙ (shr_high (number_of (drop m xs)) (8 * m) (number_of (take m xs)) (number-front_below m xs h))

-- the first m bytes
pub number-take : (m : ℕ) (xs : List ℕ) → AreBytes xs → number_of xs % 2 ^ (8 * m) ≡ number_of (take m xs)
number-take m xs h = ap (λ (j : ℕ). j % 2 ^ (8 * m)) (number-split m xs) ∙ (mod_low (number_of (drop m xs)) (8 * m) (number_of (take m xs)) (number-front_below m xs h))

pub low_bits : (n k m j : ℕ) → j + k ≡ m → n % 2 ^ m % 2 ^ k ≡ n % 2 ^ k
low_bits n k m j e = rw (sym e) (mod-mod-pow n j k)

-- the bits that lie within the first m bytes
pub digit-take : (m w s : ℕ) (xs : List ℕ) → AreBytes xs → w + s ≤ 8 * m → number_of xs / 2 ^ s % 2 ^ w ≡ number_of (take m xs) / 2 ^ s % 2 ^ w
digit-take m w s xs h le =
    let n : ℕ = number_of xs in
    let lo : ℕ = number_of (take m xs) in
    let e : n % 2 ^ (w + s) ≡ lo % 2 ^ (w + s) = sym (low_bits n (w + s) (8 * m) (8 * m - (w + s)) (omega arith)) ∙ ap (λ (j : ℕ). j % 2 ^ (w + s)) (number-take m xs h) in
    sym (field_of n w s) ∙ ap (λ (j : ℕ). j / 2 ^ s) e ∙ field_of lo w s

-- the digit, from the byte on in which it begins
pub offset_at-drop : (w at s i : ℕ) (xs : List ℕ) → AreBytes xs → 8 * at + s ≡ w * i → offset_at w xs i ≡ number_of (drop at xs) / 2 ^ s % 2 ^ w
offset_at-drop w at s i xs h e =
    rw (sym e, sym (shr-shr (number_of xs) (8 * at) s), number-drop at xs h)

front_step : (x t u g p q : ℕ) → u ≡ t + g * p → q ≡ p * 256 → x + 256 * u ≡ x + 256 * t + g * q
front_step x t u g p q e f = rw (e, f) (omega arith)

pub number-take_more : (n : ℕ) (xs : List ℕ) → number_of (take (suc n) xs) ≡ number_of (take n xs) + get_or xs n 0 * 256 ^ n
number-take_more zero [] = refl
number-take_more zero (x ∷ xs) = omega arith
number-take_more (suc n) [] = omega arith
number-take_more (suc n) (x ∷ xs) =
    front_step x (number_of (take n xs)) (number_of (take (suc n) xs)) (get_or xs n 0) (256 ^ n) (256 ^ suc n) (number-take_more n xs) (let e : suc n ≡ n + 1 = omega arith in ap (λ (j : ℕ). 256 ^ j) e ∙ pow-add 256 n 1)

pub number-through : (n : ℕ) (xs : List ℕ) → sum_through (λ i. byte_worth i (slice_index xs i)) n ≡ number_of (take (suc n) xs)
number-through zero xs = sym (number-take_more zero xs ∙ omega arith)
number-through (suc n) xs =
    ap (λ (j : ℕ). j + get_or xs (suc n) 0 * 256 ^ suc n) (number-through n xs) ∙ sym (number-take_more (suc n) xs)

pub from_le_bytes-16 : (xs : List ℕ) → from_le_bytes w16 xs ≡ number_of (take 2 xs)
from_le_bytes-16 xs = number-through 1 xs

pub from_le_bytes-32 : (xs : List ℕ) → from_le_bytes w32 xs ≡ number_of (take 4 xs)
from_le_bytes-32 xs = number-through 3 xs

pub from_le_bytes-64 : (xs : List ℕ) → from_le_bytes w64 xs ≡ number_of (take 8 xs)
from_le_bytes-64 xs = number-through 7 xs

-- a mask of the w lowest bits
pub masked_64 : (n w : ℕ) → w < 64 → bit_and n ((1 * 2 ^ w) % 18446744073709551616 - 1) ≡ n % 2 ^ w
masked_64 n w h = ap (λ (m : ℕ). bit_and n (m - 1)) (one_shl w 64 h) ∙ and_mask n w

pub masked_128 : (n w : ℕ) → w < 128 → bit_and n ((1 * 2 ^ w) % 340282366920938463463374607431768211456 - 1) ≡ n % 2 ^ w
masked_128 n w h = ap (λ (m : ℕ). bit_and n (m - 1)) (one_shl w 128 h) ∙ and_mask n w

-- one byte more
pub number-take_9 : (xs : List ℕ) → number_of (take 8 xs) + get_or xs 8 0 * 2 ^ 64 ≡ number_of (take 9 xs)
number-take_9 xs = sym (number-take_more 8 xs)

pub number-take_all : (m : ℕ) (xs : List ℕ) → length xs ≤ m → number_of (take m xs) ≡ number_of xs
number-take_all m xs h = ap number_of (take_all m xs h)

-- the same offset, counted from a group of eight lanes on
pub offset_at-group : (w g j i : ℕ) (xs : List ℕ) → AreBytes xs → 8 * g + j ≡ i → offset_at w (drop (g * w) xs) j ≡ offset_at w xs i
offset_at-group w g j i xs h e = sym (offset_at-drop w (g * w) (w * j) i xs h (rw (sym e) (omega arith)))

pub parts_of_8 : (i : ℕ) → i ≡ 8 * (i / 8) + i % 8
parts_of_8 i = omega arith

-- a byte more at the front
pub number-drop_less : (xs : List ℕ) (i j : ℕ) → i < length xs → j ≡ i + 1 → number_of (drop i xs) ≡ get_or xs i 0 + 256 * number_of (drop j xs)
number-drop_less xs i j h e = ap number_of (drop_more xs i 0 h) ∙ ap (λ (k : ℕ). get_or xs i 0 + 256 * number_of (drop k xs)) (sym e)

pub byte_below : (n b k : ℕ) → n < 2 ^ (8 * k) → b < 256 → n * 256 + b < 2 ^ (8 * (k + 1))
byte_below n b k h l =
    let e : 2 ^ (8 * (k + 1)) ≡ 2 ^ (8 * k) * 256 = ap (λ (j : ℕ). 2 ^ j) (let f : 8 * (k + 1) ≡ 8 * k + 8 = omega arith in f) ∙ pow-add 2 (8 * k) 8 in
    let m : b + 256 * n < 2 ^ (8 * (k + 1)) = bound_step b n (2 ^ (8 * k)) (2 ^ (8 * (k + 1))) l h e in
    omega arith

pub few_bytes_below : (n k : ℕ) → n < 2 ^ (8 * k) → k ≤ 16 → n < 2 ^ 128
few_bytes_below n k h l =
    let e : 8 * k ≤ 128 = omega arith in
    let p : 2 ^ (8 * k) ≤ 2 ^ 128 = pow-le-pow_right (lit< tt) e in
    omega arith

group_parts : (q r m w n : ℕ) → (8 * q + r + m) * w ≤ 8 * n → (q * w ≤ n) × ((r + m) * w + 8 * (q * w) ≤ 8 * n)
group_parts q r m w n h = (omega arith, omega arith)

group_sides : (i m w n : ℕ) → (i + m) * w ≤ 8 * n → (i / 8 * w ≤ n) × ((i % 8 + m) * w + 8 * (i / 8 * w) ≤ 8 * n)
group_sides i m w n h =
    group_parts (i / 8) (i % 8) m w n (subst (λ (j : ℕ). (j + m) * w ≤ 8 * n) (parts_of_8 i) h)

pub group_start_within : (i m w n : ℕ) → (i + m) * w ≤ 8 * n → i / 8 * w ≤ n
group_start_within i m w n h = (group_sides i m w n h).0

pub group_rest_within : (i m w n : ℕ) → (i + m) * w ≤ 8 * n → (i % 8 + m) * w ≤ 8 * (n - i / 8 * w)
group_rest_within i m w n h =
    let a : i / 8 * w ≤ n = (group_sides i m w n h).0 in
    let b : (i % 8 + m) * w + 8 * (i / 8 * w) ≤ 8 * n = (group_sides i m w n h).1 in
    omega arith
