-- Packed numbers, step by step.
use Rattle.std.proofs.Common.{◌≡◌, ℕ, zero, suc, ◌+◌, ◌-◌, ◌*◌, ◌/◌, ◌%◌, ◌^◌, ◌<◌, ◌≤◌, Bool, true, false, List, [], ◌∷◌, ◌++◌, length, take, drop, get_or, map, refl, sym, ap, ◌∙◌, arith, append_assoc, length-append, length-drop, lit<}
use Rattle.std.specs.Prelude.{nat_lt}
use Rattle.std.specs.List.{list_all}
use Rattle.std.proofs.Math.Seq.{take-add}
use Rattle.std.proofs.lemmas.Bool.Decides.{nat_tests}
use Rattle.meaning.proofs.Tests.{all_first, all_rest, all_map, both}
use Rattle.std.specs.Int.{w64, to_le_bytes}
use Rattle.std.proofs.lemmas.List.{take_all, drop_all, drop_at, drop_more, length-take-le, length-map, map-append, append-nil}
use Rattle.std.proofs.Math.Seq.{drop-length}
use mir.Val.{bool_byte}
use Rattle.std.proofs.lemmas.Nat.{mul-le, pow-add, shl_whole, shr_below, from_le_bytes-to_le_bytes_8}
use Rattle.std.proofs.Math.Nat.{pow-le-pow_right, div-mul-le_self}
use Rattle.bit_packing.specs.Bytes.{number_of}
use Rattle.bit_packing.specs.Packing.{Packs, ArePacked, packed, bit_of}
use Rattle.bit_packing.proofs.UnpackNumbers.{byte_more, number-through}

-- ---- bytes as one number, in parts

append_step : (x n a b p q : ℕ) → n ≡ a + p * b → q ≡ p * 256 → x + 256 * n ≡ (x + 256 * a) + q * b
append_step x n a b p q e f = rw (e, f) (omega arith)

pub number_of-append : (xs ys : List ℕ) → number_of (xs ++ ys) ≡ number_of xs + 2 ^ (8 * length xs) * number_of ys
number_of-append [] ys = omega arith
number_of-append (x ∷ xs) ys = append_step x (number_of (xs ++ ys)) (number_of xs) (number_of ys) (2 ^ (8 * length xs)) (2 ^ (8 * suc (length xs))) (number_of-append xs ys) (byte_more (length xs))

number_of-word : (n : ℕ) → n < 2 ^ 64 → number_of (to_le_bytes w64 n) ≡ n
number_of-word n h = sym (number-through 7 (to_le_bytes w64 n)) ∙ from_le_bytes-to_le_bytes_8 n h

-- ---- a step

kept_step : (w p h num q r n : ℕ) → w + p * h ≡ n → r ≡ p * q → w + p * (h + num * q) ≡ n + r * num
kept_step w p h num q r n e f = rw (← e, f) (omega arith)

low_bound : (h num p q r : ℕ) → h < p → (num + 1) * p ≤ q * p → r ≡ p * q → h + num * p < r
low_bound h num p q r l g e = rw e (omega arith)

low_step : (h num c w : ℕ) → h < 2 ^ c → num < 2 ^ w → h + num * 2 ^ c < 2 ^ (c + w)
low_step h num c w l f =
    low_bound h num (2 ^ c) (2 ^ w) (2 ^ (c + w)) l (mul-le (num + 1) (2 ^ c) (2 ^ w) (2 ^ c) (omega arith) (omega arith)) (pow-add 2 c w)

pub packs_kept : (before out : List ℕ) (h c k n num w all : ℕ) → Packs before out h c k n → num < 2 ^ w → all ≡ h + num * 2 ^ c → Packs before out all (c + w) (k + w) (n + 2 ^ k * num)
packs_kept before out h c k n num w all p f a =
    let len = length (drop (length before) out) in
    let e : 2 ^ k ≡ 2 ^ (8 * len) * 2 ^ c = ap (λ (j : ℕ). 2 ^ j) (sym p.long) ∙ pow-add 2 (8 * len) c in
    record {
      parts = p.parts;
      number_is = rw a (kept_step (number_of (drop (length before) out)) (2 ^ (8 * len)) h num (2 ^ c) (2 ^ k) n p.number_is e);
      long = omega (arith, p.long);
      low = rw a (low_step h num c w p.low f);
    }

flush_step : (a p q lo hi all n : ℕ) → a + p * all ≡ n → all ≡ hi * 2 ^ 64 + lo → q ≡ p * 2 ^ 64 → (a + p * lo) + q * hi ≡ n
flush_step a p q lo hi all n e f g = rw (← e, f, g) (omega arith)

-- 64 bits are written
pub packs_flushed : (before out new word : List ℕ) (all c d k n : ℕ) → Packs before out all c k n → c < 128 → d + 64 ≡ c → new ≡ out ++ word → number_of word ≡ all % 2 ^ 64 → length word ≡ 8 → Packs before new (all / 2 ^ 64) d k n
packs_flushed before out new word all c d k n p l f e value eight =
    let behind = drop (length before) out in
    let whole : new ≡ before ++ (behind ++ word) = e ∙ (ap (λ xs. xs ++ word) p.parts ∙ append_assoc before behind word) in
    let rest : drop (length before) new ≡ behind ++ word = ap (drop (length before)) whole ∙ drop_at before (behind ++ word) (length before) refl in
    let parts : all ≡ all / 2 ^ 64 * 2 ^ 64 + all % 2 ^ 64 = omega arith in
    let pow : 2 ^ (8 * (length behind + 8)) ≡ 2 ^ (8 * length behind) * 2 ^ 64 =
    let m : 8 * (length behind + 8) ≡ 8 * length behind + 64 = omega arith in ap (λ (j : ℕ). 2 ^ j) m ∙ pow-add 2 (8 * length behind) 64 in
    record {
      parts = whole ∙ ap (λ xs. before ++ xs) (sym rest);
      number_is = rw (rest, number_of-append behind word, length-append behind word, value, eight)
          (flush_step (number_of behind) (2 ^ (8 * length behind)) (2 ^ (8 * (length behind + 8))) (all % 2 ^ 64) (all / 2 ^ 64) all n p.number_is parts pow);
      long = rw (rest, length-append behind word, eight) (omega (arith, p.long));
      low = shr_below all d 64 (rw f p.low);
    }

pub word_number : (word : List ℕ) (n : ℕ) → word ≡ to_le_bytes w64 n → n < 2 ^ 64 → number_of word ≡ n
word_number word n e h = ap number_of e ∙ number_of-word n h

-- what stands above the bits that are held
pub shifted_in : (h c num number w : ℕ) → num ≡ number → number < 2 ^ w → w ≤ 64 → c < 64 → h + num * 2 ^ c % 2 ^ 128 ≡ h + number * 2 ^ c
shifted_in h c num number w e f l m = rw (e, shl_whole number w c 128 f (omega arith)) refl

-- ---- the last bits

number_of-whole : (m : ℕ) (xs : List ℕ) → number_of xs ≡ number_of (take m xs) + 2 ^ (8 * m) * number_of (drop m xs)
number_of-whole zero xs = omega arith
number_of-whole (suc m) [] = omega arith
number_of-whole (suc m) (x ∷ xs) = append_step x (number_of xs) (number_of (take m xs)) (number_of (drop m xs)) (2 ^ (8 * m)) (2 ^ (8 * suc m)) (number_of-whole m xs) (byte_more m)

none_above : (n a p d : ℕ) → n ≡ a + p * d → n < p → a ≡ n
none_above n a p zero e l = omega arith
none_above n a p (suc d) e l = let f : p * suc d ≡ p + p * d = omega arith in absurd (omega arith)

few_bytes : (n m : ℕ) → n < 2 ^ 64 → n < 2 ^ (8 * m) → number_of (take m (to_le_bytes w64 n)) ≡ n
few_bytes n m h l =
    none_above n _ (2 ^ (8 * m)) (number_of (drop m (to_le_bytes w64 n))) (sym (number_of-word n h) ∙ number_of-whole m (to_le_bytes w64 n)) l

pub packs_finished : (before out new word : List ℕ) (h c k n m : ℕ) → Packs before out h c k n → c < 64 → m ≡ (c + 7) / 8 → word ≡ to_le_bytes w64 (h % 2 ^ 64) → new ≡ out ++ take m word → ArePacked before new k n
packs_finished before out new word h c k n m p l f w e =
    let behind = drop (length before) out in
    let cle : c ≤ 64 = omega arith in
    let small : 2 ^ c ≤ 2 ^ 64 = pow-le-pow_right (lit< tt) cle in
    let below : h < 2 ^ 64 = omega (arith, p.low) in
    let same : h % 2 ^ 64 ≡ h = omega arith in
    let word_is : word ≡ to_le_bytes w64 h = w ∙ ap (λ (j : ℕ). to_le_bytes w64 j) same in
    let last = take m word in
    let whole : new ≡ before ++ (behind ++ last) = e ∙ (ap (λ xs. xs ++ last) p.parts ∙ append_assoc before behind last) in
    let rest : drop (length before) new ≡ behind ++ last = ap (drop (length before)) whole ∙ drop_at before (behind ++ last) (length before) refl in
    let cm : c ≤ 8 * m = omega arith in
    let enough : 2 ^ c ≤ 2 ^ (8 * m) = pow-le-pow_right (lit< tt) cm in
    let fits : h < 2 ^ (8 * m) = omega (arith, p.low) in
    let value : number_of last ≡ h = ap (λ xs. number_of (take m xs)) word_is ∙ few_bytes h m below fits in
    let eight : length word ≡ 8 = ap length word_is in
    let long : length last ≡ m = length-take-le m word (omega arith) in
    record {
      parts = whole ∙ ap (λ xs. before ++ xs) (sym rest);
      number_is = rw (rest, number_of-append behind last, value) p.number_is;
      long = rw (rest, length-append behind last, long) (omega (arith, p.long));
    }

append_packed_step : (m a b p q r n : ℕ) → a ≡ b + q * n → r ≡ p * q → m + p * a ≡ (m + p * b) + r * n
append_packed_step m a b p q r n e f = rw (e, f) (omega arith)

-- the numbers of two parts
pub packed-append : (w : ℕ) (ns ms : List ℕ) → packed w (ns ++ ms) ≡ packed w ns + 2 ^ (w * length ns) * packed w ms
packed-append w [] ms = let e : w * 0 ≡ 0 = omega arith in rw e (omega arith)
packed-append w (n ∷ ns) ms =
    let e : w * suc (length ns) ≡ w + w * length ns = omega arith in
    append_packed_step n (packed w (ns ++ ms)) (packed w ns) (2 ^ w) (2 ^ (w * length ns)) (2 ^ (w * suc (length ns))) (packed w ms) (packed-append w ns ms) (ap (λ (j : ℕ). 2 ^ j) e ∙ pow-add 2 w (w * length ns))

turned : (a b p q : ℕ) → a + b * p < q → a + p * b < q
turned a b p q h = omega arith

-- numbers of w bits are together as many bits as they have
pub packed-below : (w : ℕ) (ns : List ℕ) → list_all (λ n. nat_lt n (2 ^ w)) ns ≡ true → packed w ns < 2 ^ (w * length ns)
packed-below w [] h = let e : w * 0 ≡ 0 = omega arith in rw e (lit< tt)
packed-below w (n ∷ ns) h =
    let e : w * suc (length ns) ≡ w + w * length ns = omega arith in
    let below : n < 2 ^ w = let t = all_first (λ (m : ℕ). nat_lt m (2 ^ w)) n ns h in grind (arith, nat_tests) in
    let rest : packed w ns < 2 ^ (w * length ns) = packed-below w ns (all_rest (λ (m : ℕ). nat_lt m (2 ^ w)) n ns h) in
    let all : n + packed w ns * 2 ^ w < 2 ^ (w + w * length ns) = low_bound n (packed w ns) (2 ^ w) (2 ^ (w * length ns)) (2 ^ (w + w * length ns)) below (mul-le (packed w ns + 1) (2 ^ w) (2 ^ (w * length ns)) (2 ^ w) (omega arith) (omega arith)) (pow-add 2 w (w * length ns)) in
    rw e (turned n (packed w ns) (2 ^ w) (2 ^ (w + w * length ns)) all)

module _ {X : Type 0} (f : X → ℕ) (w : ℕ) where
  packed_more : (xs group : List X) (i n : ℕ) → i + n ≤ length xs → group ≡ take n (drop i xs) → packed w (map f (take (i + n) xs)) ≡ packed w (map f (take i xs)) + 2 ^ (w * i) * packed w (map f group)
  packed_more xs group i n h e =
      let more : take (i + n) xs ≡ take i xs ++ group = take-add i n xs ∙ ap (λ ys. take i xs ++ ys) (sym e) in
      let long : length (map f (take i xs)) ≡ i = length-map (take i xs) f ∙ length-take-le i xs (omega arith) in
      ap (λ ys. packed w (map f ys)) more ∙ (ap (packed w) (map-append f (take i xs) group) ∙ (packed-append w (map f (take i xs)) (map f group) ∙ ap (λ (j : ℕ). packed w (map f (take i xs)) + 2 ^ (w * j) * packed w (map f group)) long))

  -- a group of numbers more
  pub packs_more : (before out : List ℕ) (h c : ℕ) (xs group : List X) (i at n m j bits : ℕ) → i + n ≤ length xs → j ≡ i + n → at ≡ i → m ≡ n → group ≡ take m (drop at xs) → bits ≡ w * length group → Packs before out h c (w * i + bits) (packed w (map f (take i xs)) + 2 ^ (w * i) * packed w (map f group)) → Packs before out h c (w * j) (packed w (map f (take j xs)))
  packs_more before out h c xs group i at n m j bits l k a r e b p =
      let same : group ≡ take n (drop i xs) = e ∙ (ap (λ (q : ℕ). take q (drop at xs)) r ∙ ap (λ (q : ℕ). take n (drop q xs)) a) in
      let long : length group ≡ n = ap length same ∙ length-take-le n (drop i xs) (rw (length-drop i xs) (omega arith)) in
      let all : w * i + bits ≡ w * j = rw (b, long, k) (omega arith) in
      let sum : packed w (map f (take i xs)) + 2 ^ (w * i) * packed w (map f group) ≡ packed w (map f (take j xs)) = sym (packed_more xs group i n l same) ∙ ap (λ (q : ℕ). packed w (map f (take q xs))) (sym k) in
      rw (← all, ← sum) p

  -- all numbers
  pub packed_all : (before out : List ℕ) (xs : List X) (i bits : ℕ) → length xs ≤ i → i ≤ length xs → bits ≡ w * length xs → ArePacked before out (w * i) (packed w (map f (take i xs))) → ArePacked before out bits (packed w (map f xs))
  packed_all before out xs i bits l m b p =
      let e : i ≡ length xs = omega arith in
      let all : packed w (map f (take i xs)) ≡ packed w (map f xs) = ap (λ ys. packed w (map f ys)) (take_all i xs l) in
      rw (b, ← all, ← e) p

  -- a number below those behind it
  pub packed_below : (xs : List X) (i at j number value : ℕ) (d : X) → i < length xs → at ≡ i → j ≡ i + 1 → number ≡ packed w (map f (drop j xs)) → value ≡ f (get_or xs at d) → value + 2 ^ w * number ≡ packed w (map f (drop i xs))
  packed_below xs i at j number value d l a k e v =
      let behind : number ≡ packed w (map f (drop (i + 1) xs)) = e ∙ ap (λ (m : ℕ). packed w (map f (drop m xs))) k in
      let own : value ≡ f (get_or xs i d) = v ∙ ap (λ (m : ℕ). f (get_or xs m d)) a in
      rw (own, behind) (sym (ap (λ ys. packed w (map f ys)) (drop_more xs i d l)))

pub nothing_packed : (before : List ℕ) (w : ℕ) → Packs before before 0 0 (w * 0) 0
nothing_packed before w =
    let none : drop (length before) before ≡ [] = drop-length before in
    let z : w * 0 ≡ 0 = omega arith in
    record {
      parts = sym (append-nil before) ∙ ap (λ xs. before ++ xs) (sym none);
      number_is = rw none refl;
      long = rw (none, z) refl;
      low = lit< tt;
    }

bits_below : (bs : List Bool) → list_all (λ n. nat_lt n (2 ^ 1)) (map bit_of bs) ≡ true
bits_below [] = refl
bits_below (true ∷ bs) = bits_below bs
bits_below (false ∷ bs) = bits_below bs

pub bit_is : (b : Bool) → bool_byte b ≡ bit_of b
bit_is true = refl
bit_is false = refl

-- no mark is packed yet
pub no_marks : (bs : List Bool) → 0 ≡ packed 1 (map bit_of (drop (length bs - 0) bs))
no_marks bs = sym (ap (λ xs. packed 1 (map bit_of xs)) (drop_all (length bs - 0) bs (omega arith)))

-- one mark more, below the others
pub marks_more : (bs : List Bool) (k number bit : ℕ) → k < length bs → number ≡ packed 1 (map bit_of (drop (length bs - k) bs)) → bit ≡ bool_byte (get_or bs (length bs - 1 - k) false) → bit + 2 ^ 1 * number ≡ packed 1 (map bit_of (drop (length bs - (k + 1)) bs))
marks_more bs k number bit l e b = packed_below bit_of 1 bs (length bs - (k + 1)) (length bs - 1 - k) (length bs - k) number bit false (omega arith) (omega arith) (omega arith) e (b ∙ bit_is _)

-- so many marks have 64 bits
pub marks_below : (bs : List Bool) (i number : ℕ) → length bs ≤ 64 → number ≡ packed 1 (map bit_of (drop i bs)) → number < 2 ^ 64
marks_below bs i number l e =
    let low = packed-below 1 (map bit_of (drop i bs)) (bits_below (drop i bs)) in
    let long : length (map bit_of (drop i bs)) ≤ 64 = rw (length-map (drop i bs) bit_of, length-drop i bs) (omega arith) in
    let few : 1 * length (map bit_of (drop i bs)) ≤ 64 = omega arith in
    let most : 2 ^ (1 * length (map bit_of (drop i bs))) ≤ 2 ^ 64 = pow-le-pow_right (lit< tt) few in
    rw e (omega arith)

pub marks_low : (bs : List Bool) (number : ℕ) → number ≡ packed 1 (map bit_of bs) → number < 2 ^ length bs
marks_low bs number e =
    let low = packed-below 1 (map bit_of bs) (bits_below bs) in
    let long : 1 * length (map bit_of bs) ≡ length bs = rw (length-map bs bit_of) (omega arith) in
    let power : 2 ^ (1 * length (map bit_of bs)) ≡ 2 ^ length bs = ap (λ (j : ℕ). 2 ^ j) long in
    rw e (omega arith)

-- ---- offsets of some integers

pub all_behind : {X : Type 0} (p : X → Bool) (i : ℕ) (xs : List X) → list_all p xs ≡ true → list_all p (drop i xs) ≡ true
all_behind p zero xs h = h
all_behind p (suc i) [] h = refl
all_behind p (suc i) (x ∷ xs) h = all_behind p i xs (all_rest p x xs h)

all_before : {X : Type 0} (p : X → Bool) (i : ℕ) (xs : List X) → list_all p xs ≡ true → list_all p (take i xs) ≡ true
all_before p zero xs h = refl
all_before p (suc i) [] h = refl
all_before p (suc i) (x ∷ xs) h = both _ _ (all_first p x xs h) (all_before p i xs (all_rest p x xs h))

-- what holds of all holds of a part
pub all_within : {X : Type 0} (p : X → Bool) (m i : ℕ) (xs : List X) → list_all p xs ≡ true → list_all p (take m (drop i xs)) ≡ true
all_within p m i xs h = all_before p m (drop i xs) (all_behind p i xs h)

module _ {X : Type 0} (f : X → ℕ) (w : ℕ) where
  -- numbers of w bits each have together as many bits as there are
  pub numbers_low : (xs : List X) (number : ℕ) → list_all (λ x. nat_lt (f x) (2 ^ w)) xs ≡ true → number ≡ packed w (map f xs) → number < 2 ^ (w * length xs)
  numbers_low xs number h e =
      let low = packed-below w (map f xs) (all_map (λ (n : ℕ). nat_lt n (2 ^ w)) f xs h) in
      let power : 2 ^ (w * length (map f xs)) ≡ 2 ^ (w * length xs) = ap (λ (j : ℕ). 2 ^ (w * j)) (length-map xs f) in
      rw e (omega arith)

  few_left : (a b c : ℕ) → a ≤ b → c * b ≤ 64 → c * a ≤ 64
  few_left a b c l h = omega (arith, mul-le c a c b (omega arith) l)

  pub numbers_below : (xs : List X) (i number : ℕ) → w * length xs ≤ 64 → list_all (λ x. nat_lt (f x) (2 ^ w)) xs ≡ true → number ≡ packed w (map f (drop i xs)) → number < 2 ^ 64
  numbers_below xs i number l h e =
      let low = numbers_low (drop i xs) number (all_behind (λ x. nat_lt (f x) (2 ^ w)) i xs h) e in
      let shorter : length (drop i xs) ≤ length xs = rw (length-drop i xs) (omega arith) in
      let few : w * length (drop i xs) ≤ 64 = few_left (length (drop i xs)) (length xs) w shorter l in
      let most : 2 ^ (w * length (drop i xs)) ≤ 2 ^ 64 = pow-le-pow_right (lit< tt) few in
      omega arith

  -- one number more, below the others
  pub numbers_more : (xs : List X) (k number value : ℕ) (d : X) → k < length xs → number ≡ packed w (map f (drop (length xs - k) xs)) → value ≡ f (get_or xs (length xs - 1 - k) d) → value + 2 ^ w * number ≡ packed w (map f (drop (length xs - (k + 1)) xs))
  numbers_more xs k number value d l e v = packed_below f w xs (length xs - (k + 1)) (length xs - 1 - k) (length xs - k) number value d (omega arith) (omega arith) (omega arith) e v

  pub no_numbers : (xs : List X) → 0 ≡ packed w (map f (drop (length xs - 0) xs))
  no_numbers xs = sym (ap (λ ys. packed w (map f ys)) (drop_all (length xs - 0) xs (omega arith)))

-- ---- groups of n from the front

pub groups_within : (n k len : ℕ) → k < len / n → n * k + n ≤ len
groups_within n k len h =
    let all : (k + 1) * n ≤ len / n * n = mul-le (k + 1) n (len / n) n (omega arith) (omega arith) in
    let most : len / n * n ≤ len = div-mul-le_self len n in
    omega arith

pub groups_end : (n k q : ℕ) → k ≡ q → q * n ≡ n * k
groups_end n k q e = rw e (omega arith)

pub groups_fit : (n k len : ℕ) → k ≡ len / n → n * k ≤ len
groups_fit n k len e = rw e (let most : len / n * n ≤ len = div-mul-le_self len n in omega arith)
