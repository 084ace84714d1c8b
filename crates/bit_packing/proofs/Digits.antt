-- Digits of the number that bytes are.
use Rattle.std.proofs.Common.{◌≡◌, ℕ, zero, suc, ◌+◌, ◌-◌, ◌*◌, ◌/◌, ◌%◌, ◌^◌, ◌<◌, ◌≤◌, nat_lt, ⊎_elim, List, [], ◌∷◌, length, get_or, take, drop, refl, sym, ap, ◌∙◌, arith}
use Rattle.std.specs.Int.{w64, from_le_bytes}
use Rattle.std.proofs.lemmas.Nat.{pow_pos, pow-add, shr-shr, shr_split, shr_below, mod-pow-add, shr_high, mod_low, mod_below}
use Rattle.std.proofs.lemmas.List.{drop_more, drop_all, get_or-drop}
use Rattle.std.proofs.Math.Nat.{pow-le-pow_right, mul-le-mul_left}
use Rattle.std.proofs.lemmas.Bool.{cases_lt}
use Rattle.std.proofs.lemmas.Bool.Decides.{same_from_decides, Decides-ltb}
use Rattle.bit_packing.specs.Offsets.{offset_at}
use Rattle.bit_packing.specs.Bytes.{number_of}

-- bytes are below 256
abbrev pub AreBytes : List ℕ → Type 0
AreBytes bytes = (i : ℕ) → get_or bytes i 0 < 256

pub eight_more : (n : ℕ) → 2 ^ (8 * suc n) ≡ 256 * 2 ^ (8 * n)
eight_more n =
    let sums : 8 * suc n ≡ 8 + 8 * n = omega arith in
    ap (λ k. 2 ^ k) sums ∙ pow-add 2 8 (8 * n)

pub front-below : (n : ℕ) (bytes : List ℕ) → AreBytes bytes → number_of (take n bytes) < 2 ^ (8 * n)
front-below zero bytes small = omega arith
front-below (suc n) [] small = omega (arith, pow_pos (8 * suc n))
front-below (suc n) (b ∷ bytes) small =
    let first : b < 256 = small 0 in
    let rest = front-below n bytes (λ i. small (suc i)) in
    let more = eight_more n in
    omega arith

pub eight_next : (n : ℕ) → 2 ^ (8 * (n + 1)) ≡ 256 * 2 ^ (8 * n)
eight_next n =
    let sums : 8 * (n + 1) ≡ 8 + 8 * n = omega arith in
    ap (λ k. 2 ^ k) sums ∙ pow-add 2 8 (8 * n)

-- the number is that of the first n bytes and, above it, that of the others
pub number_of-split : (n : ℕ) (bytes : List ℕ) → number_of bytes ≡ number_of (take n bytes) + 2 ^ (8 * n) * number_of (drop n bytes)
number_of-split zero bytes = omega arith
number_of-split (suc n) [] = omega arith
number_of-split (suc n) (b ∷ bytes) =
    let rest = number_of-split n bytes in
    let more : 2 ^ (8 * suc n) * number_of (drop n bytes) ≡ 256 * (2 ^ (8 * n) * number_of (drop n bytes)) = ap (λ k. k * number_of (drop n bytes)) (eight_more n) ∙ omega arith in
    omega arith

pub le_number : (bytes : List ℕ) → length bytes ≡ 8 → from_le_bytes w64 bytes ≡ number_of bytes
le_number [] l = absurd (omega arith)
le_number (a ∷ []) l = absurd (omega arith)
le_number (a ∷ b ∷ []) l = absurd (omega arith)
le_number (a ∷ b ∷ c ∷ []) l = absurd (omega arith)
le_number (a ∷ b ∷ c ∷ d ∷ []) l = absurd (omega arith)
le_number (a ∷ b ∷ c ∷ d ∷ e ∷ []) l = absurd (omega arith)
le_number (a ∷ b ∷ c ∷ d ∷ e ∷ f ∷ []) l = absurd (omega arith)
le_number (a ∷ b ∷ c ∷ d ∷ e ∷ f ∷ g ∷ []) l = absurd (omega arith)
le_number (a ∷ b ∷ c ∷ d ∷ e ∷ f ∷ g ∷ h ∷ []) l = omega arith
le_number (a ∷ b ∷ c ∷ d ∷ e ∷ f ∷ g ∷ h ∷ i ∷ bytes) l = absurd (omega arith)

-- one more byte below those that a loop has read
pub byte_more : (bytes : List ℕ) (i n b : ℕ) → i < length bytes → n ≡ number_of (drop (length bytes - i) bytes) → b ≡ get_or bytes (length bytes - 1 - i) 0 → n * 256 + b ≡ number_of (drop (length bytes - (i + 1)) bytes)
byte_more bytes i n b h known read =
    let k = length bytes - (i + 1) in
    let next : k + 1 ≡ length bytes - i = omega arith in
    let index_is : length bytes - 1 - i ≡ k = omega arith in
    let same : b ≡ get_or bytes k 0 = read ∙ ap (λ j. get_or bytes j 0) index_is in
    let parts : number_of (drop k bytes) ≡ get_or bytes k 0 + 256 * number_of (drop (k + 1) bytes) = ap number_of (drop_more bytes k 0 (omega arith)) in
    let rest : number_of (drop (k + 1) bytes) ≡ n = ap (λ j. number_of (drop j bytes)) next ∙ sym known in
    omega arith

pub room_for_byte : (i n : ℕ) → i ≤ 7 → n < 2 ^ (8 * i) → n < 72057594037927936
room_for_byte i n h small =
    let top : 2 ^ (8 * i) ≤ 2 ^ 56 = pow-le-pow_right {n = 2} (omega arith) {i = 8 * i} {j = 56} (omega arith) in
    omega arith

above : (p : ℕ) (bytes : List ℕ) → AreBytes bytes → number_of bytes / 2 ^ (8 * p) ≡ number_of (drop p bytes)
above p bytes small =
    let turned : number_of bytes ≡ number_of (drop p bytes) * 2 ^ (8 * p) + number_of (take p bytes) = number_of-split p bytes ∙ omega arith in
    ap (λ n. n / 2 ^ (8 * p)) turned ∙ shr_high (number_of (drop p bytes)) (8 * p) (number_of (take p bytes)) (front-below p bytes small)

whole_is : (x r a b q m t : ℕ) → t ≡ a * b → q * b + m ≡ x → x + t * r ≡ (r * a + q) * b + m
whole_is x r a b q m t e f = ap (λ k. x + k * r) e ∙ omega arith

parts_of_power : (k w : ℕ) → w ≤ k → 2 ^ k ≡ 2 ^ (k - w) * 2 ^ w
parts_of_power k w h =
    let sums : k ≡ (k - w) + w = omega arith in
    ap (λ j. 2 ^ j) sums ∙ pow-add 2 (k - w) w

shifted : (x r s k : ℕ) → s ≤ k → (x + 2 ^ k * r) / 2 ^ s ≡ r * 2 ^ (k - s) + x / 2 ^ s
shifted x r s k h =
    let whole = whole_is x r (2 ^ (k - s)) (2 ^ s) (x / 2 ^ s) (x % 2 ^ s) (2 ^ k) (parts_of_power k s h) (shr_split x s) in
    ap (λ n. n / 2 ^ s) whole ∙ shr_high (r * 2 ^ (k - s) + x / 2 ^ s) s (x % 2 ^ s) (mod_below x (2 ^ s) (pow_pos s))

low_only : (x r w k : ℕ) → w ≤ k → (x + 2 ^ k * r) % 2 ^ w ≡ x % 2 ^ w
low_only x r w k h =
    let whole = whole_is x r (2 ^ (k - w)) (2 ^ w) (x / 2 ^ w) (x % 2 ^ w) (2 ^ k) (parts_of_power k w h) (shr_split x w) in
    ap (λ n. n % 2 ^ w) whole ∙ mod_low (r * 2 ^ (k - w) + x / 2 ^ w) w (x % 2 ^ w) (mod_below x (2 ^ w) (pow_pos w))

lowest_byte : (bytes : List ℕ) (w : ℕ) → w ≤ 8 → number_of bytes % 2 ^ w ≡ get_or bytes 0 0 % 2 ^ w
lowest_byte [] w h = refl
lowest_byte (b ∷ bytes) w h = low_only b (number_of bytes) w 8 h

-- ---- the offset at an index, of which bit s of byte p is the lowest
module _ (width i p s : ℕ) (bytes : List ℕ) (small : AreBytes bytes) (bit_is : width * i ≡ 8 * p + s) (few : s ≤ 64) where
  window : ℕ
  window = number_of (take 8 (drop p bytes))

  behind : ℕ
  behind = number_of (drop 8 (drop p bytes))

  offset_shifted : offset_at width bytes i ≡ (behind * 2 ^ (64 - s) + window / 2 ^ s) % 2 ^ width
  unfolding window behind
  offset_shifted =
      ap (λ k. (number_of bytes / 2 ^ k) % 2 ^ width) bit_is
      ∙ ap (λ n. n % 2 ^ width) (sym (shr-shr (number_of bytes) (8 * p) s))
      ∙ ap (λ n. (n / 2 ^ s) % 2 ^ width) (above p bytes small)
      ∙ ap (λ n. (n / 2 ^ s) % 2 ^ width) (number_of-split 8 (drop p bytes))
      ∙ ap (λ n. n % 2 ^ width) (shifted (number_of (take 8 (drop p bytes))) (number_of (drop 8 (drop p bytes))) s 64 (omega arith))

  pub narrow_offset : width + s ≤ 64 → offset_at width bytes i ≡ (number_of (take 8 (drop p bytes)) / 2 ^ s) % 2 ^ width
  unfolding window behind
  narrow_offset h =
      let turned : behind * 2 ^ (64 - s) + window / 2 ^ s ≡ window / 2 ^ s + 2 ^ (64 - s) * behind = omega arith in
      offset_shifted ∙ ap (λ n. n % 2 ^ width) turned ∙ low_only (window / 2 ^ s) behind width (64 - s) (omega arith)

  window-below : window / 2 ^ s < 2 ^ (64 - s)
  unfolding window
  window-below =
      let sums : (64 - s) + s ≡ 64 = omega arith in
      let bytes_behind : AreBytes (drop p bytes) = λ j. rw get_or-drop (small (p + j)) in
      let low : number_of (take 8 (drop p bytes)) < 2 ^ 64 = front-below 8 (drop p bytes) bytes_behind in
      shr_below (number_of (take 8 (drop p bytes))) (64 - s) s (rw sums low)

  pub wide_offset : s < 8 → 64 < width + s → width ≤ 64 → offset_at width bytes i ≡ (get_or bytes (p + 8) 0 % 2 ^ (width + s - 64)) * 2 ^ (64 - s) + number_of (take 8 (drop p bytes)) / 2 ^ s
  unfolding window behind
  wide_offset below_8 h narrow =
      let r = width + s - 64 in
      let sums : width ≡ (width + s - 64) + (64 - s) = omega arith in
      let next : get_or (drop 8 (drop p bytes)) 0 0 ≡ get_or bytes (p + 8) 0 = get_or-drop 8 (drop p bytes) 0 0 ∙ get_or-drop p bytes 8 0 in
      let high : behind % 2 ^ r ≡ get_or bytes (p + 8) 0 % 2 ^ r = lowest_byte (drop 8 (drop p bytes)) r (omega arith) ∙ ap (λ b. b % 2 ^ r) next in
      let total = behind * 2 ^ (64 - s) + window / 2 ^ s in
      offset_shifted ∙ ap (λ k. total % 2 ^ k) sums ∙ mod-pow-add total r (64 - s)
      ∙ ap (λ n. (n % 2 ^ r) * 2 ^ (64 - s) + total % 2 ^ (64 - s)) (shr_high behind (64 - s) (window / 2 ^ s) window-below)
      ∙ ap (λ n. (behind % 2 ^ r) * 2 ^ (64 - s) + n) (mod_low behind (64 - s) (window / 2 ^ s) window-below)
      ∙ ap (λ n. n * 2 ^ (64 - s) + window / 2 ^ s) high

-- ---- bits behind the last

same_lt : (b x n y : ℕ) → (b < x → n < y) → (x ≤ b → y ≤ n) → nat_lt b x ≡ nat_lt n y
same_lt b x n y below high =
    same_from_decides (nat_lt b x) (nat_lt n y) (Decides-ltb b x) (λ e. (let h : n < y = (Decides-ltb n y).0 e in ⊎_elim (λ q. q) (λ q. (let k : y ≤ n = high q in absurd (omega arith))) (cases_lt b x)), λ h. (Decides-ltb n y).1 (below h))

pub last_byte : (bytes : List ℕ) (last bits r b : ℕ) → AreBytes bytes → length bytes ≡ last + 1 → bits ≡ 8 * last + r → b ≡ get_or bytes last 0 → nat_lt b (2 ^ r) ≡ nat_lt (number_of bytes) (2 ^ bits)
last_byte bytes last bits r b small long sums read =
    let only : number_of (drop last bytes) ≡ b = ap number_of (drop_more bytes last 0 (omega arith)) ∙ ap (λ xs. get_or bytes last 0 + 256 * number_of xs) (drop_all (last + 1) bytes (omega arith)) ∙ omega arith in
    let parts : number_of bytes ≡ number_of (take last bytes) + 2 ^ (8 * last) * b = number_of-split last bytes ∙ ap (λ n. number_of (take last bytes) + 2 ^ (8 * last) * n) only in
    let low = front-below last bytes small in
    let top : 2 ^ bits ≡ 2 ^ (8 * last) * 2 ^ r = ap (λ k. 2 ^ k) sums ∙ pow-add 2 (8 * last) r in
    same_lt b (2 ^ r) (number_of bytes) (2 ^ bits)
    (λ h. (let wide : 2 ^ (8 * last) * suc b ≤ 2 ^ (8 * last) * 2 ^ r = mul-le-mul_left (2 ^ (8 * last)) h in let more : 2 ^ (8 * last) * suc b ≡ 2 ^ (8 * last) * b + 2 ^ (8 * last) = omega arith in omega arith))
    (λ h. (let wide : 2 ^ (8 * last) * 2 ^ r ≤ 2 ^ (8 * last) * b = mul-le-mul_left (2 ^ (8 * last)) h in omega arith))
