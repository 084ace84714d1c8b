-- A base and offsets are a frame of the integers.
use Rattle.std.proofs.Common.{◌≡◌, ℕ, ◌+◌, ◌-◌, ◌*◌, ◌/◌, ◌%◌, ◌^◌, ◌<◌, ◌≤◌, ℤ, pos, negsuc, ◌+ℤ◌, ◌-ℤ◌, ◌≤ℤ◌, unsigned_abs, Bool, true, false, cond, List, [], ◌∷◌, ◌++◌, length, map, take, drop, get_or, refl, sym, ap, subst, ◌∙◌, suc, zero, arith, append_assoc, length-append, zero-add, inl, inr, Less, Greater, Equal}
use Rattle.std.specs.Prelude.{nat_lt, nat_le, ◌||◌, ◌==◌, ◌⊎◌, not}
use Rattle.std.specs.List.{list_all, list_any, range_with_len}
use Rattle.std.specs.Ordering.{int_cmp, ord_min, ord_max, is_lt}
use Rattle.std.specs.Int.Signed.{lt_z}
use Rattle.std.proofs.lemmas.Bool.{lt-ltb, ltb-true, le-leb, eq-eqb}
use Rattle.std.proofs.lemmas.Int.{ints}
use Rattle.std.proofs.lemmas.List.{take_at, drop_at, length-map, get_or_at, drop-drop}
use Rattle.std.proofs.lemmas.Nat.{pow-add, pow_pos, mul-add-lt}
use Rattle.meaning.proofs.Tests.{both, or_second, all_first, all_rest, all_map, or_first}
use Rattle.bit_packing.specs.Widths.{width_for, IsWidth}
use Rattle.encodings.specs.Choosing.{body_size}
use Rattle.blocks.specs.Frame.{least_of, greatest_of, natural, span}
use Rattle.blocks.specs.Frame.{least_in, greatest_in}
use Rattle.encodings.specs.Encoded.{IsBodyOf, PutsBody}
use Rattle.blocks.specs.Numbers.{integer_bytes}
use Rattle.blocks.specs.declared.kind.Kind.TheVariants as kind
use Rattle.bit_packing.specs.Bytes.{number_of, integer_of}
use Rattle.bit_packing.specs.Bits.{bytes_of_bits}
use Rattle.bit_packing.specs.Offsets.{offset_at}
use Rattle.bit_packing.specs.Packing.{packed, ArePacked}
use Rattle.encodings.proofs.EncodedForms.{length-integer_bytes, integer_read, map_twice, all_map_same}
use Rattle.encodings.proofs.EncodedBlocks.{digit_of, map_range}
use Rattle.encodings.proofs.EncodedBodies.{numbers_back}
use Rattle.meaning.specs.declared.value.ColType.TheVariants as of_type
use Rattle.meaning.specs.declared.value.Value.TheVariants.{Int}
use Rattle.meaning.specs.Operators.{fits_i64}
use Rattle.columns.specs.Column.{is_of}

-- ---- the least and the greatest

pub record IsMin (a b m : ℤ) : Type 0 where
  pub first : m ≤ℤ a
  pub second : m ≤ℤ b
  pub one : (m ≡ a) ⊎ (m ≡ b)

pub record IsMax (a b m : ℤ) : Type 0 where
  pub first : a ≤ℤ m
  pub second : b ≤ℤ m
  pub one : (m ≡ a) ⊎ (m ≡ b)

min_is : (a b : ℤ) → IsMin a b (ord_min int_cmp a b)
min_is a b =
    elim (lt_z b a) as (λ t. lt_z b a ≡ t → IsMin a b (cond (is_lt (cond t Less (cond (lt_z a b) Greater Equal))) b a)) [
      | true ↦ λ e. record { first = grind (arith, ints); second = grind (arith, ints); one = inr refl }
      | false ↦ λ e. other e (lt_z a b)
    ] refl
  where
    other : lt_z b a ≡ false → (t : Bool) → IsMin a b (cond (is_lt (cond t Greater Equal)) b a)
    other e true = record { first = grind (arith, ints); second = grind (arith, ints); one = inl refl }
    other e false = record { first = grind (arith, ints); second = grind (arith, ints); one = inl refl }

max_is : (a b : ℤ) → IsMax a b (ord_max int_cmp a b)
max_is a b =
    elim (lt_z b a) as (λ t. lt_z b a ≡ t → IsMax a b (cond (is_lt (cond t Less (cond (lt_z a b) Greater Equal))) a b)) [
      | true ↦ λ e. record { first = grind (arith, ints); second = grind (arith, ints); one = inl refl }
      | false ↦ λ e. other e (lt_z a b)
    ] refl
  where
    other : lt_z b a ≡ false → (t : Bool) → IsMax a b (cond (is_lt (cond t Greater Equal)) a b)
    other e true = record { first = grind (arith, ints); second = grind (arith, ints); one = inr refl }
    other e false = record { first = grind (arith, ints); second = grind (arith, ints); one = inr refl }

pub least_more : (ns : List ℤ) (i : ℕ) → i + 1 < length ns → least_in (drop i ns) ≡ ord_min int_cmp (get_or ns i (pos 0)) (least_in (drop (i + 1) ns))
least_more [] i h = absurd (omega arith)
least_more (n ∷ []) i h = absurd (omega arith)
least_more (n ∷ m ∷ ns) zero h = refl
least_more (n ∷ m ∷ ns) (suc i) h = let e : suc i + 1 ≡ suc (i + 1) = omega arith in rw e (least_more (m ∷ ns) i (omega arith))

pub greatest_more : (ns : List ℤ) (i : ℕ) → i + 1 < length ns → greatest_in (drop i ns) ≡ ord_max int_cmp (get_or ns i (pos 0)) (greatest_in (drop (i + 1) ns))
greatest_more [] i h = absurd (omega arith)
greatest_more (n ∷ []) i h = absurd (omega arith)
greatest_more (n ∷ m ∷ ns) zero h = refl
greatest_more (n ∷ m ∷ ns) (suc i) h = let e : suc i + 1 ≡ suc (i + 1) = omega arith in rw e (greatest_more (m ∷ ns) i (omega arith))

pub offset_back : (n b : ℤ) → b ≤ℤ n → b +ℤ pos (unsigned_abs (n -ℤ b)) ≡ n
offset_back n b h = omega (arith, ints)

natural_of : (z : ℤ) → pos 0 ≤ℤ z → unsigned_abs z ≡ natural z
natural_of (pos n) h = refl
natural_of (negsuc n) h = absurd (omega (arith, ints))

pub natural_is : (n b : ℤ) → b ≤ℤ n → unsigned_abs (n -ℤ b) ≡ natural (n -ℤ b)
natural_is n b h = natural_of (n -ℤ b) (omega (arith, ints))

pub offset_le : (n b g : ℤ) → b ≤ℤ n → n ≤ℤ g → unsigned_abs (n -ℤ b) ≤ unsigned_abs (g -ℤ b)
offset_le n b g h k = omega (arith, ints)

-- ---- members

pub record AreBounds (ns : List ℤ) (least greatest : ℤ) : Type 0 where
  pub each : (p : ℤ → Bool) → ((n : ℤ) → least ≤ℤ n → n ≤ℤ greatest → p n ≡ true) → list_all p ns ≡ true
  pub some_least : (p : ℤ → Bool) → p least ≡ true → list_any p ns ≡ true
  pub some_greatest : (p : ℤ → Bool) → p greatest ≡ true → list_any p ns ≡ true
  pub ordered : least ≤ℤ greatest
  pub least_is : (p : ℤ → Bool) → list_all p ns ≡ true → p least ≡ true

all_between : (p : ℤ → Bool) (ns : List ℤ) (n : ℤ) → ((m : ℤ) → least_of n ns ≤ℤ m → m ≤ℤ greatest_of n ns → p m ≡ true) → (p n ≡ true) × (list_all p ns ≡ true)
all_between p [] n h = (h n (omega (arith, ints)) (omega (arith, ints)), refl)
all_between p (m ∷ ns) n h =
    let lo = min_is n (least_of m ns) in
    let hi = max_is n (greatest_of m ns) in
    let lo1 = lo.first in
    let lo2 = lo.second in
    let hi1 = hi.first in
    let hi2 = hi.second in
    let inner = all_between p ns m (λ k a b. h k (omega (arith, ints)) (omega (arith, ints))) in
    (h n lo1 hi1, both _ _ inner.0 inner.1)

any_least : (p : ℤ → Bool) (ns : List ℤ) (n : ℤ) → p (least_of n ns) ≡ true → list_any p (n ∷ ns) ≡ true
any_least p [] n e = or_first (p n) false e
any_least p (m ∷ ns) n e =
    elim (min_is n (least_of m ns)).one [
      | inl q ↦ or_first (p n) (list_any p (m ∷ ns)) (ap p (sym q) ∙ e)
      | inr q ↦ or_second (p n) (list_any p (m ∷ ns)) (any_least p ns m (ap p (sym q) ∙ e))
    ]

any_greatest : (p : ℤ → Bool) (ns : List ℤ) (n : ℤ) → p (greatest_of n ns) ≡ true → list_any p (n ∷ ns) ≡ true
any_greatest p [] n e = or_first (p n) false e
any_greatest p (m ∷ ns) n e =
    elim (max_is n (greatest_of m ns)).one [
      | inl q ↦ or_first (p n) (list_any p (m ∷ ns)) (ap p (sym q) ∙ e)
      | inr q ↦ or_second (p n) (list_any p (m ∷ ns)) (any_greatest p ns m (ap p (sym q) ∙ e))
    ]

least_le_greatest : (ns : List ℤ) (n : ℤ) → least_of n ns ≤ℤ greatest_of n ns
least_le_greatest [] n = omega (arith, ints)
least_le_greatest (m ∷ ns) n =
    let lo = (min_is n (least_of m ns)).first in
    let hi = (max_is n (greatest_of m ns)).first in
    omega (arith, ints)

all_least : (p : ℤ → Bool) (ns : List ℤ) (n : ℤ) → list_all p (n ∷ ns) ≡ true → p (least_of n ns) ≡ true
all_least p [] n e = all_first p n [] e
all_least p (m ∷ ns) n e =
    elim (min_is n (least_of m ns)).one [
      | inl q ↦ ap p q ∙ all_first p n (m ∷ ns) e
      | inr q ↦ ap p q ∙ all_least p ns m (all_rest p n (m ∷ ns) e)
    ]

pub are_bounds : (ns : List ℤ) → 1 ≤ length ns → AreBounds ns (least_in ns) (greatest_in ns)
are_bounds [] h = absurd (omega arith)
are_bounds (n ∷ ns) h = record {
  each = λ p f. let b = all_between p ns n f in both _ _ b.0 b.1;
  some_least = λ p e. any_least p ns n e;
  some_greatest = λ p e. any_greatest p ns n e;
  ordered = least_le_greatest ns n;
  least_is = λ p e. all_least p ns n e;
}

-- ---- the body

packed_below : (w : ℕ) (ns : List ℕ) → list_all (λ n. nat_lt n (2 ^ w)) ns ≡ true → packed w ns < 2 ^ (w * length ns)
packed_below w [] h = pow_pos (w * 0)
packed_below w (n ∷ ns) h =
    let l : n < 2 ^ w = ltb-true n (2 ^ w) (all_first (λ m. nat_lt m (2 ^ w)) n ns h) in
    let rest = packed_below w ns (all_rest (λ m. nat_lt m (2 ^ w)) n ns h) in
    let e : w * suc (length ns) ≡ w * length ns + w = omega arith in
    let below = mul-add-lt (packed w ns) (2 ^ w) n (2 ^ (w * length ns)) rest l in
    let pow : 2 ^ (w * suc (length ns)) ≡ 2 ^ (w * length ns) * 2 ^ w = ap (λ (j : ℕ). 2 ^ j) e ∙ pow-add 2 (w * length ns) w in
    bound n (packed w ns) (2 ^ w) (2 ^ (w * length ns)) (2 ^ (w * suc (length ns))) below pow
  where
    bound : (n a p q r : ℕ) → a * p + n < p * q → r ≡ q * p → n + p * a < r
    bound n a p q r h e = rw e (omega (arith, h))

any_map : {X Y : Type 0} (p : Y → Bool) (f : X → Y) (xs : List X) → list_any p (map f xs) ≡ list_any (λ x. p (f x)) xs
any_map p f [] = refl
any_map p f (x ∷ xs) = ap (λ b. p (f x) || b) (any_map p f xs)

not_below : (n b : ℤ) → b ≤ℤ n → not (lt_z n b) ≡ true
not_below n b h = ap not (below (lt_z n b) refl)
  where
    below : (t : Bool) → lt_z n b ≡ t → t ≡ false
    below true e = absurd (grind (arith, ints))
    below false e = refl

at_least : (n b : ℤ) → not (lt_z n b) ≡ true → b ≤ℤ n
at_least n b h = grind (arith, ints)

half : (w s : ℕ) → 1 ≤ w → 2 ^ w ≤ 2 * s + 1 → 2 ^ (w - 1) ≤ s
half w s h l =
    let e : w ≡ (w - 1) + 1 = omega arith in
    let pow : 2 ^ w ≡ 2 ^ (w - 1) * 2 = ap (λ (j : ℕ). 2 ^ j) e ∙ pow-add 2 (w - 1) 1 in
    omega arith

some_wide : (w s : ℕ) (offs : List ℕ) → 2 ^ w ≤ 2 * s + 1 → ((p : ℕ → Bool) → p s ≡ true → list_any p offs ≡ true) → (w == 0 || list_any (λ o. nat_le (2 ^ (w - 1)) o) offs) ≡ true
some_wide zero s offs l f = refl
some_wide (suc w) s offs l f = or_second (suc w == 0) _ (f (λ o. nat_le (2 ^ (suc w - 1)) o) (le-leb (2 ^ (suc w - 1)) s (half (suc w) s (omega arith) l)))

span_is : (ns : List ℤ) → 1 ≤ length ns → least_in ns ≤ℤ greatest_in ns → unsigned_abs (greatest_in ns -ℤ least_in ns) ≡ span ns
span_is [] h l = absurd (omega arith)
span_is (n ∷ ns) h l = natural_is (greatest_of n ns) (least_of n ns) l

ints_fit : (ns : List ℤ) → list_all (is_of of_type.Int false) (map Int ns) ≡ true → list_all fits_i64 ns ≡ true
ints_fit [] e = refl
ints_fit (n ∷ ns) e = both _ _ (all_first (is_of of_type.Int false) (Int n) (map Int ns) e) (ints_fit ns (all_rest (is_of of_type.Int false) (Int n) (map Int ns) e))

pub offsets_fit : (ns : List ℤ) (w : ℕ) → 1 ≤ length ns → IsWidth (unsigned_abs (greatest_in ns -ℤ least_in ns)) w → list_all (λ n. nat_lt (unsigned_abs (n -ℤ least_in ns)) (2 ^ w)) ns ≡ true
offsets_fit ns w h width =
    let b = are_bounds ns h in
    b.each (λ n. nat_lt (unsigned_abs (n -ℤ least_in ns)) (2 ^ w)) (λ n lo hi.
    let le = offset_le n (least_in ns) (greatest_in ns) lo hi in
    let l = width.holds in
    lt-ltb _ _ (omega arith))

pub frame_is : (ns : List ℤ) (w : ℕ) (bits : List ℕ) → list_all (is_of of_type.Int false) (map Int ns) ≡ true → 1 ≤ length ns → IsWidth (unsigned_abs (greatest_in ns -ℤ least_in ns)) w → number_of bits ≡ packed w (map (λ n. unsigned_abs (n -ℤ least_in ns)) ns) → length bits ≡ bytes_of_bits (w * length ns) → IsBodyOf kind.Frame of_type.Int (map Int ns) (integer_bytes (least_in ns) ++ (w ∷ bits))
frame_is ns w bits e some width num long =
    let base = least_in ns in
    let s = unsigned_abs (greatest_in ns -ℤ base) in
    let off : ℤ → ℕ = λ n. unsigned_abs (n -ℤ base) in
    let offs = map off ns in
    let rows = length (map Int ns) in
    let body = integer_bytes base ++ (w ∷ bits) in
    let b = are_bounds ns some in
    let fit = ints_fit ns e in
    let count : rows ≡ length ns = length-map ns (λ n. Int n) in
    let offs_long : length offs ≡ length ns = length-map ns off in
    let base_fits : fits_i64 base ≡ true = b.least_is fits_i64 fit in
    let base_is : integer_of (take 8 body) ≡ base = ap integer_of (take_at (integer_bytes base) (w ∷ bits) 8 (length-integer_bytes base)) ∙ integer_read base base_fits in
    let width_is : get_or body 8 0 ≡ w = get_or_at (integer_bytes base) w bits 0 8 (length-integer_bytes base) in
    let eight : drop 8 body ≡ w ∷ bits = drop_at (integer_bytes base) (w ∷ bits) 8 (length-integer_bytes base) in
    let rest : drop 9 body ≡ bits = sym (drop-drop 1 8 body) ∙ ap (drop 1) eight in
    let small : list_all (λ o. nat_lt o (2 ^ w)) offs ≡ true = all_map (λ o. nat_lt o (2 ^ w)) off ns (offsets_fit ns w some width) in
    let read : map (offset_at w bits) (range_with_len 0 rows) ≡ offs =
    ap (λ n. map (offset_at w bits) (range_with_len 0 n)) (count ∙ sym offs_long) ∙ map_range (offset_at w bits) 0 offs 0 (λ i l. ap (offset_at w bits) (zero-add i) ∙ (ap (λ (n : ℕ). n / 2 ^ (w * i) % 2 ^ w) num ∙ digit_of w offs i small)) in
    let offsets : map (offset_at (get_or body 8 0) (drop 9 body)) (range_with_len 0 rows) ≡ offs = rw (width_is, rest) read in
    let ints_back : map (λ o. base +ℤ pos o) offs ≡ ns =
    map_twice off (λ o. base +ℤ pos o) ns ∙ all_map_same (λ n. not (lt_z n base)) (λ n. base +ℤ pos (off n)) (λ n q. offset_back n base (at_least n base q)) ns (b.each (λ n. not (lt_z n base)) (λ n lo hi. not_below n base lo)) in
    let integers : map (λ o. integer_of (take 8 body) +ℤ pos o) (map (offset_at (get_or body 8 0) (drop 9 body)) (range_with_len 0 rows)) ≡ ns = rw (offsets, base_is) ints_back in
    let total : length body ≡ 9 + length bits = length-append (integer_bytes base) (w ∷ bits) ∙ (let q = length-integer_bytes base in omega arith) in
    let turned : rows * w ≡ w * length ns = rw count (omega arith) in
    let t1 : nat_le 9 (length body) ≡ true = le-leb 9 (length body) (omega arith) in
    let t2 : nat_le (get_or body 8 0) 64 ≡ true = rw width_is (le-leb w 64 width.bound) in
    let t3 : (length (drop 9 body) == bytes_of_bits (rows * get_or body 8 0)) ≡ true = rw (width_is, rest, turned) (eq-eqb (length bits) (bytes_of_bits (w * length ns)) long) in
    let t4 : nat_lt (number_of (drop 9 body)) (2 ^ (rows * get_or body 8 0)) ≡ true = rw (width_is, rest, turned, num, ← offs_long) (lt-ltb (packed w offs) (2 ^ (w * length offs)) (packed_below w offs small)) in
    let zero_off : off base == 0 ≡ true = eq-eqb (off base) 0 (omega (arith, ints)) in
    let t5 : list_any (λ o. o == 0) (map (offset_at (get_or body 8 0) (drop 9 body)) (range_with_len 0 rows)) ≡ true = rw offsets (any_map (λ o. o == 0) off ns ∙ b.some_least (λ n. off n == 0) zero_off) in
    let t6 : (get_or body 8 0 == 0 || list_any (λ o. nat_le (2 ^ (get_or body 8 0 - 1)) o) (map (offset_at (get_or body 8 0) (drop 9 body)) (range_with_len 0 rows))) ≡ true =
    rw (offsets, width_is) (some_wide w s offs width.needed (λ p q. any_map p off ns ∙ b.some_greatest (λ n. p (off n)) q)) in
    let t7 : list_all fits_i64 (map (λ o. integer_of (take 8 body) +ℤ pos o) (map (offset_at (get_or body 8 0) (drop 9 body)) (range_with_len 0 rows))) ≡ true = rw integers fit in
    record {
      is = both _ _ t1 (both _ _ t2 (both _ _ t3 (both _ _ t4 (both _ _ t5 (both _ _ t6 t7)))));
      cells_are = ap (map Int) integers;
      tight = tt;
      size = total ∙ ap (λ n. 9 + n) (long ∙ ap bytes_of_bits (sym turned ∙ ap (λ k. rows * k) (width.least ∙ ap width_for (span_is ns some b.ordered ∙ ap span (sym (numbers_back ns))))));
    }

joined_frame : (before a b base : List ℕ) (w : ℕ) (bits after : List ℕ) → a ≡ before ++ base → b ≡ a ++ w ∷ [] → after ≡ b ++ bits → after ≡ before ++ (base ++ (w ∷ bits))
joined_frame before a b base w bits after p q r =
    r ∙ (ap (λ xs. xs ++ bits) (q ∙ ap (λ xs. xs ++ w ∷ []) p) ∙ (append_assoc (before ++ base) (w ∷ []) bits ∙ append_assoc before base (w ∷ bits)))

pub puts_frame : (before a b after : List ℕ) (ns : List ℤ) (w bits : ℕ) → list_all (is_of of_type.Int false) (map Int ns) ≡ true → 1 ≤ length ns → IsWidth (unsigned_abs (greatest_in ns -ℤ least_in ns)) w → a ≡ before ++ integer_bytes (least_in ns) → b ≡ a ++ w ∷ [] → bits ≡ w * length ns → ArePacked b after bits (packed w (map (λ n. unsigned_abs (n -ℤ least_in ns)) ns)) → PutsBody before after kind.Frame of_type.Int (map Int ns)
puts_frame before a b after ns w bits e some width p q n r =
    let tail = drop (length b) after in
    (integer_bytes (least_in ns) ++ (w ∷ tail), joined_frame before a b (integer_bytes (least_in ns)) w tail after p q r.parts, frame_is ns w tail e some width r.number_is (r.long ∙ ap bytes_of_bits n))

pub last_least : (ns : List ℤ) → 1 ≤ length ns → get_or ns (length ns - 1) (pos 0) ≡ least_in (drop (length ns - 1) ns)
last_least [] h = absurd (omega arith)
last_least (n ∷ []) h = refl
last_least (n ∷ m ∷ ns) h =
    let e : suc (suc (length ns)) - 1 ≡ suc (length (m ∷ ns) - 1) = omega arith in
    rw e (last_least (m ∷ ns) (omega arith))

pub last_greatest : (ns : List ℤ) → 1 ≤ length ns → get_or ns (length ns - 1) (pos 0) ≡ greatest_in (drop (length ns - 1) ns)
last_greatest [] h = absurd (omega arith)
last_greatest (n ∷ []) h = refl
last_greatest (n ∷ m ∷ ns) h =
    let e : suc (suc (length ns)) - 1 ≡ suc (length (m ∷ ns) - 1) = omega arith in
    rw e (last_greatest (m ∷ ns) (omega arith))

pub same_width : (n w : ℕ) (g b top base : ℤ) → n ≡ unsigned_abs (g -ℤ b) → g ≡ top → b ≡ base → IsWidth n w → IsWidth (unsigned_abs (top -ℤ base)) w
same_width n w g b top base e p q width =
    subst (λ (k : ℕ). IsWidth k w) (e ∙ (ap (λ z. unsigned_abs (z -ℤ b)) p ∙ ap (λ z. unsigned_abs (top -ℤ z)) q)) width

pub frame_size : (ns : List ℤ) (w : ℕ) → 1 ≤ length ns → IsWidth (unsigned_abs (greatest_in ns -ℤ least_in ns)) w → 9 + (length ns * w + 7) / 8 ≡ body_size kind.Frame of_type.Int (map Int ns)
frame_size ns w some width =
    let b = are_bounds ns some in
    let wide = width.least ∙ ap width_for (span_is ns some b.ordered ∙ ap span (sym (numbers_back ns))) in
    ap (λ k. 9 + bytes_of_bits (k * w)) (sym (length-map ns (λ n. Int n))) ∙ ap (λ k. 9 + bytes_of_bits (length (map Int ns) * k)) wide
