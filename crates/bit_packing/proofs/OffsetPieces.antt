-- Offsets that are looked at piece by piece, each above the least integer.
use Rattle.std.proofs.Common.{◌≡◌, ℕ, ◌+◌, ◌-◌, ◌*◌, ◌/◌, ◌^◌, ◌<◌, ◌≤◌, ℤ, pos, negsuc, ◌+ℤ◌, ◌≤ℤ◌, Bool, true, false, not, ◌&&◌, ◌||◌, ◌==◌, nat_le, List, [], ◌∷◌, ⊎_elim, ◌++◌, length, take, drop, map, refl, sym, ap, ◌∙◌, arith}
use Rattle.std.specs.List.{list_any, list_all, range_with_len}
use Rattle.std.specs.Ordering.{int_eq}
use Rattle.std.specs.Int.Signed.{le_z}
use Rattle.std.proofs.lemmas.Bool.{cases_lt}
use Rattle.std.proofs.lemmas.Bool.Decides.{same_from_decides, nat_tests, Decides-eqb, Decides-int_eq}
use Rattle.std.proofs.lemmas.Int.{ints}
use Rattle.std.proofs.lemmas.List.{map-append, length-take-le, length-append, length-drop}
use Rattle.std.proofs.lemmas.List.FromFn.{length-map-range_with_len}
use Rattle.std.proofs.lemmas.List.Folds.{list_any-append}
use Rattle.std.proofs.lemmas.Nat.{mod_below, pow_pos}
use Rattle.std.proofs.Math.Nat.{pow-le-pow_right}
use Rattle.meaning.specs.Operators.{fits_i64}
use Rattle.bit_packing.specs.Offsets.{offset_at, lifted}
use Rattle.bit_packing.specs.Bytes.{number_of}
use Rattle.bit_packing.proofs.Fits.{fits_below, fits_by_room}
use Rattle.bit_packing.proofs.Ranges.{range-append}

-- ---- one offset

pub least_is : (offset : ℕ) → int_eq (lifted offset) (negsuc 9223372036854775807) ≡ (offset == 0)
least_is offset =
    same_from_decides (int_eq (lifted offset) (negsuc 9223372036854775807)) (offset == 0) (Decides-int_eq (lifted offset) (negsuc 9223372036854775807))
    (λ e. (let h : offset ≡ 0 = (Decides-eqb offset 0).0 e in omega (arith, ints)), λ h. (Decides-eqb offset 0).1 (omega (arith, ints)))

pub high_is : (least offset : ℕ) → le_z (lifted least) (lifted offset) ≡ nat_le least offset
high_is least offset = grind (arith, ints)

pub any_lifted : (p : ℤ → Bool) (q : ℕ → Bool) (f : ℕ → ℕ) → ((offset : ℕ) → p (lifted offset) ≡ q offset) → (xs : List ℕ) → list_any p (map (λ i. lifted (f i)) xs) ≡ list_any q (map f xs)
any_lifted p q f same [] = refl
any_lifted p q f same (x ∷ xs) =
    ap (λ b. b || list_any p (map (λ i. lifted (f i)) xs)) (same (f x)) ∙ ap (λ b. q (f x) || b) (any_lifted p q f same xs)

-- ---- pieces

or_true : (a b r : Bool) → (a || b) ≡ r → a ≡ true → true ≡ r
or_true true b r e h = e
or_true false b r e h = absurd (cc)

or_false : (a b r : Bool) → (a || b) ≡ r → a ≡ false → b ≡ r
or_false false b r e h = e
or_false true b r e h = absurd (cc)

module _ (q : ℕ → Bool) (f : ℕ → ℕ) where
  abbrev pub any_in : ℕ → ℕ → Bool
  any_in from n = list_any q (map f (range_with_len from n))

  any_more : (from m n : ℕ) → any_in from (m + n) ≡ (any_in from m || any_in (from + m) n)
  any_more from m n =
      ap (λ xs. list_any q (map f xs)) (range-append from m n)
      ∙ ap (list_any q) (map-append f (range_with_len from m) (range_with_len (from + m) n))
      ∙ list_any-append q (map f (range_with_len from m)) (map f (range_with_len (from + m) n))

  any_split : (rows from m : ℕ) → from + m ≤ rows → any_in from (rows - from) ≡ (any_in from m || any_in (from + m) (rows - (from + m)))
  any_split rows from m h =
      let parts : rows - from ≡ m + (rows - (from + m)) = omega arith in
      ap (any_in from) parts ∙ any_more from m (rows - (from + m))

  pub piece_has : (rows from m : ℕ) (r : Bool) → from + m ≤ rows → any_in from (rows - from) ≡ r → any_in from m ≡ true → true ≡ r
  piece_has rows from m r h known found = or_true _ _ r (sym (any_split rows from m h) ∙ known) found

  pub piece_lacks : (rows from m next : ℕ) (r : Bool) → from + m ≤ rows → from + m ≤ next → (from + m < next → from + m ≡ rows) → any_in from (rows - from) ≡ r → any_in from m ≡ false → any_in next (rows - next) ≡ r
  piece_lacks rows from m next r h low last known none =
      let rest : any_in (from + m) (rows - (from + m)) ≡ r = or_false _ _ r (sym (any_split rows from m h) ∙ known) none in
      let here : any_in next (rows - next) ≡ any_in (from + m) (rows - (from + m)) =
      ⊎_elim (λ less. (let e : from + m ≡ rows = last less in let a : rows - (from + m) ≡ 0 = omega arith in let b : rows - next ≡ 0 = omega arith in ap (any_in next) b ∙ sym (ap (any_in (from + m)) a)))
      (λ more. (let e : next ≡ from + m = omega arith in ap (λ k. any_in k (rows - k)) e)) (cases_lt (from + m) next) in
      here ∙ rest

  pub pieces_end : (rows from : ℕ) (r : Bool) → rows ≤ from → any_in from (rows - from) ≡ r → false ≡ r
  pieces_end rows from r h known =
      let none : 0 ≡ rows - from = omega arith in
      ap (any_in from) none ∙ known

-- a piece that was unpacked above the least integer
pub found_in : (p : ℤ → Bool) (q : ℕ → Bool) (f : ℕ → ℕ) → ((offset : ℕ) → p (lifted offset) ≡ q offset)
    → (from m : ℕ) (lanes out : List ℤ) (b r : Bool) → m ≤ length lanes → out ≡ map (λ i. lifted (f i)) (range_with_len from (length (take m lanes))) → b ≡ list_any p out → b ≡ r → any_in q f from m ≡ r
found_in p q f same from m lanes out b r room filled known e =
    let long = length-take-le m lanes room in
    sym (any_lifted p q f same (range_with_len from m)) ∙ ap (λ n. list_any p (map (λ i. lifted (f i)) (range_with_len from n))) (sym long) ∙ ap (list_any p) (sym filled) ∙ sym known ∙ e

-- the lanes have as many integers as before
pub piece_back : (f : ℕ → ℤ) (from m : ℕ) (lanes out : List ℤ) → m ≤ length lanes → out ≡ map f (range_with_len from (length (take m lanes))) → length (out ++ drop m lanes) ≡ length lanes
piece_back f from m lanes out room filled =
    let long = length-take-le m lanes room in
    let front : length out ≡ m = ap length filled ∙ length-map-range_with_len f from (length (take m lanes)) ∙ long in
    let back = length-drop m lanes in
    length-append out (drop m lanes) ∙ omega arith

-- ---- offsets within 64 bits

offset_below : (w : ℕ) (bytes : List ℕ) (i : ℕ) → offset_at w bytes i < 2 ^ w
offset_below w bytes i = mod_below (number_of bytes / 2 ^ (w * i)) (2 ^ w) (pow_pos w)

pub all_fit : (w : ℕ) (bytes : List ℕ) → w ≤ 64 → (xs : List ℕ) → list_all fits_i64 (map (λ i. lifted (offset_at w bytes i)) xs) ≡ true
all_fit w bytes h [] = refl
all_fit w bytes h (x ∷ xs) =
    let below = offset_below w bytes x in
    let top : 2 ^ w ≤ 2 ^ 64 = pow-le-pow_right {n = 2} (omega arith) {i = w} {j = 64} h in
    let small : offset_at w bytes x < 18446744073709551616 = omega arith in
    let first : fits_i64 (lifted (offset_at w bytes x)) ≡ true = (fits_below (lifted (offset_at w bytes x)) (omega (arith, ints))).1 (omega (arith, ints)) in
    ap (λ b. b && list_all fits_i64 (map (λ i. lifted (offset_at w bytes i)) xs)) first ∙ all_fit w bytes h xs

pub none_above : (w : ℕ) (bytes : List ℕ) (least : ℕ) → 2 ^ w ≤ least → (xs : List ℕ) → list_any (nat_le least) (map (offset_at w bytes) xs) ≡ false
none_above w bytes least h [] = refl
none_above w bytes least h (x ∷ xs) =
    let below = offset_below w bytes x in
    let low : offset_at w bytes x < least = omega arith in
    let first : nat_le least (offset_at w bytes x) ≡ false = grind (arith, nat_tests) in
    ap (λ b. b || list_any (nat_le least) (map (offset_at w bytes) xs)) first ∙ none_above w bytes least h xs

neither : (a b : Bool) → not (a || b) ≡ (not a && not b)
neither true b = refl
neither false b = refl

not_above : (room offset : ℕ) → not (nat_le (room + 1) offset) ≡ nat_le offset room
not_above room offset = grind (arith, nat_tests)

module _ (base : ℤ) (room : ℕ) (low : negsuc 9223372036854775807 ≤ℤ base) (top : base +ℤ pos room ≡ pos 9223372036854775807) where
  pub fit_unless_above : (offsets : List ℕ) → not (list_any (nat_le (room + 1)) offsets) ≡ list_all fits_i64 (map (λ offset. base +ℤ pos offset) offsets)
  fit_unless_above [] = refl
  fit_unless_above (x ∷ offsets) =
      neither (nat_le (room + 1) x) (list_any (nat_le (room + 1)) offsets)
      ∙ ap (λ b. b && not (list_any (nat_le (room + 1)) offsets)) (not_above room x ∙ fits_by_room base x room low top)
      ∙ ap (λ b. fits_i64 (base +ℤ pos x) && b) (fit_unless_above offsets)
