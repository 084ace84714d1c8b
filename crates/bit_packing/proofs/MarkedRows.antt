-- Rows that the bits of a word mark, of which the lowest is cleared turn by turn.
use Rattle.std.proofs.Common.{◌≡◌, ◌≢◌, ℕ, ◌+◌, ◌-◌, ◌*◌, ◌/◌, ◌%◌, ◌^◌, ◌<◌, ◌≤◌, Bool, true, false, not, ◌&&◌, ◌||◌, ◌==◌, List, [], ◌∷◌, ◌++◌, ⊎_elim, refl, sym, ap, ◌∙◌, arith, bit_and}
use Rattle.std.specs.List.{list_all, range_with_len}
use Rattle.std.specs.Int.{w64, trailing_zeros}
use Rattle.std.proofs.lemmas.Nat.{pow_pos, shr-shr, shr_split, shr_high, and_le_r, mod_below}
use Rattle.std.proofs.lemmas.Nat.Bits.{bit_at-trailing_zeros, bit_at-zero, bit_at_above, bit_at_and, bit_at_cat_low, bit_at-lt, same_from_bits_below}
use Rattle.std.proofs.lemmas.Bool.{cases_lt, false≢true, eqb-true, eq-eqb}
use Rattle.std.proofs.lemmas.List.Folds.{list_all-append, list_all-map, list_all_at}
use Rattle.std.proofs.lemmas.List.FromFn.{get_or-range_with_len, length-range_with_len}
use Rattle.meaning.proofs.Tests.{or_true, and_true}
use Rattle.bit_packing.specs.Bits.{all_set_pass, bit_at, is_set}
use Rattle.bit_packing.specs.Offsets.{offset_at}
use Rattle.bit_packing.proofs.MaskWindows.{window, window_bit}
use Rattle.bit_packing.proofs.Ranges.{range-append, same-ranges}
use Rattle.bit_packing.proofs.UnpackNumbers.{AreBytes}

-- ---- the lowest bit that is set

bit_low : (n k i : ℕ) → i < k → n % 2 ^ k / 2 ^ i % 2 ≡ n / 2 ^ i % 2
bit_low n k i h =
    sym (bit_at_cat_low (n / 2 ^ k) k (n % 2 ^ k) i h) ∙ ap (λ m. m / 2 ^ i % 2) (shr_split n k)

none_below : (m c : ℕ) → ((i : ℕ) → i < c → m / 2 ^ i % 2 ≡ 0) → m % 2 ^ c ≡ 0
none_below m c clear =
    same_from_bits_below c (m % 2 ^ c) 0 (mod_below m (2 ^ c) (pow_pos c)) (pow_pos c)
    (λ i h. bit_low m c i h ∙ clear i h ∙ sym (bit_at-zero i))

one_less : (m e p : ℕ) → 0 < p → (e + 1) * p ≡ m → m - 1 ≡ e * p + (p - 1)
one_less m e p some h = omega arith

module _ (m c : ℕ) (set : m / 2 ^ c % 2 ≡ 1) (clear : (i : ℕ) → i < c → m / 2 ^ i % 2 ≡ 0) where
  from_bit : (m - 1) / 2 ^ c ≡ m / 2 ^ c - 1
  from_bit =
      let some = pow_pos c in
      let odd : m / 2 ^ c - 1 + 1 ≡ m / 2 ^ c = omega arith in
      let whole : (m / 2 ^ c - 1 + 1) * 2 ^ c ≡ m = ap (λ d. d * 2 ^ c) odd ∙ (let e = none_below m c clear in let f = shr_split m c in omega arith) in
      ap (λ n. n / 2 ^ c) (one_less m (m / 2 ^ c - 1) (2 ^ c) some whole) ∙ shr_high (m / 2 ^ c - 1) c (2 ^ c - 1) (omega arith)

  halves : (m / 2 ^ c - 1) / 2 ≡ m / 2 ^ c / 2
  halves = omega arith

  from_above : (i : ℕ) → c < i → (m - 1) / 2 ^ i ≡ m / 2 ^ i
  from_above i h =
      let k = i - c - 1 in
      let high : c + 1 + k ≡ i = omega arith in
      ap (λ j. (m - 1) / 2 ^ j) (sym high)
      ∙ sym (shr-shr (m - 1) (c + 1) k)
      ∙ ap (λ n. n / 2 ^ k) (sym (shr-shr (m - 1) c 1) ∙ ap (λ n. n / 2 ^ 1) from_bit ∙ halves ∙ shr-shr m c 1)
      ∙ shr-shr m (c + 1) k
      ∙ ap (λ j. m / 2 ^ j) high

  cleared_at : is_set (bit_and m (m - 1)) c ≡ false
  cleared_at =
      let gone : (m / 2 ^ c - 1) % 2 ≡ 0 = omega arith in
      let less : (m - 1) / 2 ^ c % 2 ≡ 0 = ap (λ n. n % 2) from_bit ∙ gone in
      let both = bit_at_and m (m - 1) c in
      let none : bit_and m (m - 1) / 2 ^ c % 2 ≡ 0 = omega arith in
      ap (λ n. n == 1) none

  kept_at : (i : ℕ) → i ≢ c → is_set (bit_and m (m - 1)) i ≡ is_set m i
  kept_at i other =
      ap (λ n. n == 1) (bit_at_and m (m - 1) i
      ∙ ⊎_elim (λ h. let none = clear i h in omega arith)
      (λ h. let same = ap (λ n. n % 2) (from_above i (omega arith)) in omega arith) (cases_lt i c))

-- ---- a test of the bits that a word marks

pub differ : (a b : ℕ) → a ≢ b → (a == b) ≡ false
differ a b h = elim (a == b) as (λ r. (a == b) ≡ r → r ≡ false) [ true ↦ λ e. absurd (h (eqb-true a b e)) | false ↦ λ e. refl ] refl

all_moved : (p q : ℕ → Bool) (a b n : ℕ) → ((j : ℕ) → j < n → p (a + j) ≡ q (b + j)) → list_all p (range_with_len a n) ≡ list_all q (range_with_len b n)
all_moved p q a b n same =
    sym (list_all-map (λ (x : Bool). x) p (range_with_len a n))
    ∙ ap (list_all (λ (x : Bool). x)) (same-ranges p q a b n same)
    ∙ list_all-map (λ (x : Bool). x) q (range_with_len b n)

all_pass : (p : ℕ → Bool) (xs : List ℕ) → ((i : ℕ) → p i ≡ true) → list_all p xs ≡ true
all_pass p [] h = refl
all_pass p (x ∷ xs) h = ap (λ b. b && list_all p xs) (h x) ∙ all_pass p xs h

module _ (p : ℕ → Bool) (marks : ℕ) (some : 0 < marks) (fits : marks < 2 ^ 64) where
  pub lowest_within : trailing_zeros w64 marks < 64
  lowest_within = (bit_at-trailing_zeros w64 marks some fits).0

  pub lowest_set : is_set marks (trailing_zeros w64 marks) ≡ true
  lowest_set = ap (λ n. n == 1) (bit_at-trailing_zeros w64 marks some fits).1

  pub was_marked : (i : ℕ) → is_set (bit_and marks (marks - 1)) i ≡ true → is_set marks i ≡ true
  was_marked i set =
      let both = bit_at_and marks (marks - 1) i in
      let one : bit_and marks (marks - 1) / 2 ^ i % 2 ≡ 1 = eqb-true (bit_and marks (marks - 1) / 2 ^ i % 2) 1 set in
      let small = bit_at-lt marks i in
      eq-eqb (marks / 2 ^ i % 2) 1 (omega arith)

  pub fewer_marks : bit_and marks (marks - 1) < marks
  fewer_marks = omega (arith, and_le_r marks (marks - 1))

  step_at : p (trailing_zeros w64 marks) ≡ true → (i : ℕ) → (not (is_set (bit_and marks (marks - 1)) i) || p i) ≡ (not (is_set marks i) || p i)
  step_at passes i =
      let lowest = bit_at-trailing_zeros w64 marks some fits in
      let c = trailing_zeros w64 marks in
      ⊎_elim (λ h. ap (λ b. not b || p i) (kept_at marks c lowest.1 lowest.2 i (omega arith)))
      (λ h. ⊎_elim (λ g. ap (λ b. not b || p i) (kept_at marks c lowest.1 lowest.2 i (omega arith)))
      (λ g. let same : i ≡ c = omega arith in
      ap (λ k. not (is_set (bit_and marks (marks - 1)) k) || p k) same
      ∙ ap (λ b. not b || p c) (cleared_at marks c lowest.1 lowest.2)
      ∙ sym (ap (λ k. not (is_set marks k) || p k) same ∙ ap (λ b. not b || p c) (ap (λ n. n == 1) lowest.1) ∙ passes)) (cases_lt c i)) (cases_lt i c)

  pub marks_less : p (trailing_zeros w64 marks) ≡ true → all_set_pass p (bit_and marks (marks - 1)) ≡ all_set_pass p marks
  unfolding all_set_pass
  marks_less passes =
      all_moved (λ i. not (is_set (bit_and marks (marks - 1)) i) || p i) (λ i. not (is_set marks i) || p i) 0 0 64 (λ j h. step_at passes (0 + j))

  pub marks_stop : p (trailing_zeros w64 marks) ≡ false → all_set_pass p marks ≡ false
  unfolding all_set_pass
  marks_stop fails =
      let c = trailing_zeros w64 marks in
      let within = lowest_within in
      let there = get_or-range_with_len 0 64 c 0 within in
      list_all_at (λ i. not (is_set marks i) || p i) (range_with_len 0 64) c 0 (let long = length-range_with_len 0 64 in omega arith)
      (ap (λ k. not (is_set marks k) || p k) (there ∙ (let e : 0 + c ≡ c = omega arith in e)) ∙ ap (λ b. not b || p c) lowest_set ∙ fails)

pub no_marks : (p : ℕ → Bool) (marks : ℕ) → marks ≡ 0 → all_set_pass p marks ≡ true
unfolding all_set_pass
no_marks p marks none =
    all_pass (λ i. not (is_set marks i) || p i) (range_with_len 0 64)
    (λ i. ap (λ b. not b || p i) (ap (λ n. n == 1) (ap (λ m. m / 2 ^ i % 2) none ∙ bit_at-zero i)))

-- ---- the words of a mask, of which the last may be for fewer rows

module _ (p : ℕ → Bool) (mask : List ℕ) (small : AreBytes mask) (rows first n : ℕ) (few : n ≤ 64) (within : first + n ≤ rows) (last : n < 64 → first + n ≡ rows) where
  abbrev pub word : ℕ → ℕ
  word byte = window byte mask % 2 ^ n

  pub marks_within : (byte : ℕ) → (i : ℕ) → is_set (word byte) i ≡ true → first + i < rows
  marks_within byte i set =
      ⊎_elim (λ h. omega arith)
      (λ h. absurd (false≢true (sym (ap (λ k. k == 1) (bit_at_above (window byte mask % 2 ^ n) n i (mod_below (window byte mask) (2 ^ n) (pow_pos n)) h)) ∙ set))) (cases_lt i n)

  bit_here : (byte i : ℕ) → first ≡ 8 * byte → i < n → is_set (word byte) i ≡ bit_at mask (first + i)
  bit_here byte i start h =
      ap (λ k. k == 1) (bit_low (window byte mask) n i h ∙ window_bit mask byte i small (omega arith))
      ∙ ap (bit_at mask) (let e : 8 * byte + i ≡ first + i = omega arith in e)

  in_word : (byte : ℕ) → first ≡ 8 * byte → list_all (λ i. not (bit_at mask i) || p i) (range_with_len first n) ≡ all_set_pass (λ i. p (first + i)) (word byte)
  unfolding all_set_pass
  in_word byte start =
      let q : ℕ → Bool = λ i. not (is_set (word byte) i) || p (first + i) in
      let above : list_all q (range_with_len n (64 - n)) ≡ true =
      all_moved q (λ _. true) n 0 (64 - n)
      (λ j h. ap (λ b. not b || p (first + (n + j))) (ap (λ k. k == 1) (bit_at_above (window byte mask % 2 ^ n) n (n + j) (mod_below (window byte mask) (2 ^ n) (pow_pos n)) (omega arith))))
      ∙ all_pass (λ _. true) (range_with_len 0 (64 - n)) (λ _. refl) in
      let front : list_all (λ i. not (bit_at mask i) || p i) (range_with_len first n) ≡ list_all q (range_with_len 0 n) =
      all_moved (λ i. not (bit_at mask i) || p i) q first 0 n
      (λ j h. ap (λ b. not b || p (first + j)) (sym (bit_here byte j start h))
      ∙ ap q (let e : j ≡ 0 + j = omega arith in e)) in
      let whole : n + (64 - n) ≡ 64 = omega arith in
      front
      ∙ sym (ap (λ b. list_all q (range_with_len 0 n) && b) above ∙ and_true (list_all q (range_with_len 0 n)))
      ∙ sym (list_all-append q (range_with_len 0 n) (range_with_len n (64 - n)))
      ∙ ap (list_all q) (sym (range-append 0 n (64 - n) ∙ ap (λ (j : ℕ). range_with_len 0 n ++ range_with_len j (64 - n)) (let e : 0 + n ≡ n = omega arith in e)))
      ∙ ap (λ k. list_all q (range_with_len 0 k)) whole

  behind : (next : ℕ) → next ≡ first + 64 → list_all (λ i. not (bit_at mask i) || p i) (range_with_len (first + n) (rows - (first + n))) ≡ list_all (λ i. not (bit_at mask i) || p i) (range_with_len next (rows - next))
  behind next e =
      let q : ℕ → Bool = λ i. not (bit_at mask i) || p i in
      ⊎_elim
      (λ h. let end = last h in
      let none : rows - (first + n) ≡ 0 = omega arith in
      let gone : rows - next ≡ 0 = omega arith in
      ap (λ k. list_all q (range_with_len (first + n) k)) none ∙ sym (ap (λ k. list_all q (range_with_len next k)) gone))
      (λ h. ap (λ k. list_all q (range_with_len k (rows - k))) (let s : first + n ≡ next = omega arith in s)) (cases_lt n 64)

  pub word_more : (byte next : ℕ) → first ≡ 8 * byte → next ≡ first + 64 → list_all (λ i. not (bit_at mask i) || p i) (range_with_len first (rows - first)) ≡ (all_set_pass (λ i. p (first + i)) (word byte) && list_all (λ i. not (bit_at mask i) || p i) (range_with_len next (rows - next)))
  word_more byte next start e =
      let q : ℕ → Bool = λ i. not (bit_at mask i) || p i in
      let parts : rows - first ≡ n + (rows - (first + n)) = omega arith in
      ap (λ k. list_all q (range_with_len first k)) parts
      ∙ ap (list_all q) (range-append first n (rows - (first + n)))
      ∙ list_all-append q (range_with_len first n) (range_with_len (first + n) (rows - (first + n)))
      ∙ ap (λ b. b && list_all q (range_with_len (first + n) (rows - (first + n)))) (in_word byte start)
      ∙ ap (λ b. all_set_pass (λ i. p (first + i)) (word byte) && b) (behind next e)

-- offsets of no bits are 0
pub no_bits : (mask packed : List ℕ) (rows width number : ℕ) → width ≡ 0 → number ≡ 0 → true ≡ list_all (λ i. not (bit_at mask i) || offset_at width packed i == number) (range_with_len 0 rows)
no_bits mask packed rows width number none zero =
    sym (all_pass (λ i. not (bit_at mask i) || offset_at width packed i == number) (range_with_len 0 rows)
    (λ i. let here : offset_at width packed i ≡ 0 = ap (λ w. offset_at w packed i) none ∙ omega arith in
    ap (λ b. not (bit_at mask i) || b) (eq-eqb (offset_at width packed i) number (here ∙ sym zero)) ∙ or_true (not (bit_at mask i))))
