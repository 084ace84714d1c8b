-- Parts of bodies, and what stands in the cells of their rows.
use Rattle.std.proofs.Common.{◌≡◌, ℕ, zero, suc, ◌+◌, ◌-◌, ◌*◌, ◌<◌, ◌≤◌, List, [], ◌∷◌, ◌++◌, length, take, drop, map, get_or, refl, sym, ap, ◌∙◌, arith, replicate, Bool, true, ℤ, pos, ◌+ℤ◌, ◌^◌}
use Rattle.std.specs.Prelude.{nat_lt, nat_le, ◌==◌, ◌||◌}
use Rattle.std.specs.List.{range_with_len, list_all, list_any}
use borrow.Author.Tests.{ltb-true}
use Rattle.std.proofs.lemmas.List.{take-map, drop-map, map-append, get_or-map}
use Rattle.std.proofs.lemmas.List.FromFn.{take-map-range_with_len}
use Rattle.meaning.specs.declared.value.Value.{Value}
use Rattle.meaning.specs.declared.value.Value.TheVariants.{Null}
use Rattle.meaning.specs.declared.value.ColType.{ColType}
use Rattle.meaning.specs.Operators.{fits_i64}
use Rattle.meaning.specs.Order.{value_cmp, is_ascending}
use Rattle.meaning.proofs.Tests.{first_of, second_of, both}
use Rattle.bit_packing.specs.Bytes.{number_of}
use Rattle.bit_packing.specs.Bits.{bytes_of_bits}
use Rattle.bit_packing.specs.Offsets.{offset_at, raised_offsets}
use Rattle.blocks.specs.Dictionary.{codes_of, entries_of, entry_bytes, is_dictionary}
use Rattle.blocks.specs.Numbers.{count_of}
use Rattle.blocks.specs.Frame.{frame_integers, is_frame, offsets_of, packed_of, width_of}
use Rattle.blocks.specs.Plain.{is_values_form}
use Rattle.blocks.specs.Runs.{repeats}

pub part-map : {X Y : Type 0} (f : X → Y) (n k : ℕ) (xs : List X) → map f (take n (drop k xs)) ≡ take n (drop k (map f xs))
part-map f n k xs = sym (take-map f n (drop k xs)) ∙ ap (take n) (sym (drop-map f k xs))

-- ---- entries by their codes
pub entries-map : {X : Type 0} (mk : X → Value) (d : X) (xs : List X) (m : ℕ) (codes : List ℕ)
    → length xs ≡ m → list_all (λ code. nat_lt code m) codes ≡ true
    → map mk (map (λ code. get_or xs code d) codes) ≡ map (λ code. get_or (map mk xs) code Null) codes
entries-map mk d xs m [] l h = refl
entries-map mk d xs m (code ∷ codes) l h =
    let b : code < m = ltb-true code m (first_of (nat_lt code m) (list_all (λ n. nat_lt n m) codes) h) in
    ap (λ x. x ∷ map mk (map (λ n. get_or xs n d) codes)) (sym (get_or-map mk xs code d Null (omega arith)))
    ∙ ap (λ ys. get_or (map mk xs) code Null ∷ ys) (entries-map mk d xs m codes l (second_of (nat_lt code m) (list_all (λ n. nat_lt n m) codes) h))

pub entries_read : {X : Type 0} (mk : X → Value) (d : X) (xs : List X) (m : ℕ) (codes : List ℕ) (n k : ℕ)
    → length xs ≡ m → list_all (λ code. nat_lt code m) codes ≡ true
    → map mk (take n (drop k (map (λ code. get_or xs code d) codes))) ≡ take n (drop k (map (λ code. get_or (map mk xs) code Null) codes))
entries_read mk d xs m codes n k l h =
    part-map mk n k (map (λ code. get_or xs code d) codes) ∙ ap (λ ys. take n (drop k ys)) (entries-map mk d xs m codes l h)

-- ---- runs
map-replicate : {X Y : Type 0} (f : X → Y) (n : ℕ) (x : X) → map f (replicate n x) ≡ replicate n (f x)
map-replicate f zero x = refl
map-replicate f (suc n) x = ap (λ ys. f x ∷ ys) (map-replicate f n x)

pub repeats-map : {X Y : Type 0} (f : X → Y) (xs : List X) (ns : List ℕ) → map f (repeats xs ns) ≡ repeats (map f xs) ns
repeats-map f [] ns = refl
repeats-map f (x ∷ xs) [] = refl
repeats-map f (x ∷ xs) (n ∷ ns) =
    map-append f (replicate n x) (repeats xs ns)
    ∙ ap (λ ys. ys ++ map f (repeats xs ns)) (map-replicate f n x)
    ∙ ap (λ ys. replicate n (f x) ++ ys) (repeats-map f xs ns)

pub runs_read : {X Y : Type 0} (f : X → Y) (xs : List X) (ns : List ℕ) (n k : ℕ)
    → map f (take n (drop k (repeats xs ns))) ≡ take n (drop k (repeats (map f xs) ns))
runs_read f xs ns n k = part-map f n k (repeats xs ns) ∙ ap (λ ys. take n (drop k ys)) (repeats-map f xs ns)

-- ---- ranges
drop-range : {X : Type 0} (f : ℕ → X) (a k m : ℕ) → k ≤ m → drop k (map f (range_with_len a m)) ≡ map f (range_with_len (a + k) (m - k))
drop-range f a zero m h =
    ap (λ (j : ℕ). map f (range_with_len j m)) (let e : a ≡ a + 0 = omega arith in e)
    ∙ ap (λ (j : ℕ). map f (range_with_len (a + 0) j)) (let e : m ≡ m - 0 = omega arith in e)
drop-range f a (suc k) zero h = absurd (omega arith)
drop-range f a (suc k) (suc m) h =
    drop-range f (a + 1) k m (omega arith)
    ∙ ap (λ (j : ℕ). map f (range_with_len j (m - k))) (let e : a + 1 + k ≡ a + suc k = omega arith in e)
    ∙ ap (λ (j : ℕ). map f (range_with_len (a + suc k) j)) (let e : m - k ≡ suc m - suc k = omega arith in e)

pub range-part : {X : Type 0} (f : ℕ → X) (k n m : ℕ) → k + n ≤ m → take n (drop k (map f (range_with_len 0 m))) ≡ map f (range_with_len k n)
range-part f k n m h =
    ap (take n) (drop-range f 0 k m (omega arith))
    ∙ take-map-range_with_len f (0 + k) (m - k) n (omega arith)
    ∙ ap (λ (j : ℕ). map f (range_with_len j n)) (let e : 0 + k ≡ k = omega arith in e)

pub map-map : {X Y Z : Type 0} (f : Y → Z) (g : X → Y) (xs : List X) → map f (map g xs) ≡ map (λ x. f (g x)) xs
map-map f g [] = refl
map-map f g (x ∷ xs) = ap (λ ys. f (g x) ∷ ys) (map-map f g xs)

-- ---- tests
pub all-take : {X : Type 0} (p : X → Bool) (n : ℕ) (xs : List X) → list_all p xs ≡ true → list_all p (take n xs) ≡ true
all-take p zero xs h = refl
all-take p (suc n) [] h = refl
all-take p (suc n) (x ∷ xs) h =
    both (p x) (list_all p (take n xs)) (first_of (p x) (list_all p xs) h) (all-take p n xs (second_of (p x) (list_all p xs) h))

pub all-drop : {X : Type 0} (p : X → Bool) (n : ℕ) (xs : List X) → list_all p xs ≡ true → list_all p (drop n xs) ≡ true
all-drop p zero xs h = h
all-drop p (suc n) [] h = refl
all-drop p (suc n) (x ∷ xs) h = all-drop p n xs (second_of (p x) (list_all p xs) h)

pub all-part : {X : Type 0} (p : X → Bool) (n k : ℕ) (xs : List X) → list_all p xs ≡ true → list_all p (take n (drop k xs)) ≡ true
all-part p n k xs h = all-take p n (drop k xs) (all-drop p k xs h)

pub frame_read : (base : ℤ) (width : ℕ) (packed : List ℕ) (k n rows : ℕ) → k + n ≤ rows
    → raised_offsets base width packed k n ≡ take n (drop k (map (λ offset. base +ℤ pos offset) (map (offset_at width packed) (range_with_len 0 rows))))
frame_read base width packed k n rows h =
    sym (ap (λ ys. take n (drop k ys)) (map-map (λ offset. base +ℤ pos offset) (offset_at width packed) (range_with_len 0 rows))
    ∙ range-part (λ i. base +ℤ pos (offset_at width packed i)) k n rows h)

-- ---- what is known of a body
pub codes_valid : (col_type : ColType) (rows : ℕ) (body : List ℕ) → is_dictionary col_type rows body ≡ true
    → list_all (λ code. nat_lt code (count_of body)) (codes_of rows body) ≡ true
codes_valid col_type rows body h =
    second_of (is_ascending value_cmp (entries_of col_type rows body)) _
    (second_of (is_values_form col_type (count_of body) (entry_bytes rows body)) _
    (second_of (nat_le (count_of body) rows) _ (second_of (nat_le 1 (count_of body)) _
    (second_of (nat_le (4 + 2 * rows) (length body)) _ h))))

pub frame_fits : (rows : ℕ) (body : List ℕ) → is_frame rows body ≡ true → list_all fits_i64 (frame_integers rows body) ≡ true
frame_fits rows body h =
    second_of (width_of body == 0 || list_any (λ offset. nat_le (2 ^ (width_of body - 1)) offset) (offsets_of rows body)) _
    (second_of (list_any (λ offset. offset == 0) (offsets_of rows body)) _
    (second_of (nat_lt (number_of (packed_of body)) (2 ^ (rows * width_of body))) _
    (second_of (length (packed_of body) == bytes_of_bits (rows * width_of body)) _
    (second_of (nat_le (width_of body) 64) _ (second_of (nat_le 9 (length body)) _ h)))))
