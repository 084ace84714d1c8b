-- A mask and a body are a block of the values.
use Rattle.std.proofs.Common.{◌≡◌, ℕ, ◌+◌, ◌-◌, ◌*◌, ◌/◌, ◌%◌, ◌^◌, ◌<◌, ◌≤◌, ℤ, pos, Bool, true, false, cond, List, [], ◌∷◌, ◌++◌, length, map, take, drop, get_or, refl, sym, ap, subst, ◌∙◌, suc, zero, arith, length-append, lit<, add-zero, zero-add}
use Rattle.std.specs.Prelude.{nat_lt, zip, replicate, not, ◌||◌, ◌==◌}
use Rattle.std.specs.List.{list_all, range_with_len}
use Rattle.std.proofs.lemmas.Bool.{ltb-true, le-leb}
use Rattle.std.proofs.lemmas.List.{take_at, drop_at, length-map, get_or_past, take-map, length-take-le, length-drop, get_or-drop}
use Rattle.std.proofs.lemmas.Nat.{pow_pos, shr-shr, shr_high, shr_le, mod_low, field_of}
use Rattle.std.proofs.Math.Nat.{div-one}
use Rattle.std.proofs.lemmas.Str.{is_utf8-from_IsUtf8}
use Rattle.meaning.specs.Limits.{row_group_rows}
use Rattle.meaning.specs.declared.value.ColType.{ColType}
use Rattle.meaning.specs.declared.value.ColType.TheVariants as of_type
use Rattle.meaning.specs.declared.value.Value.{Value}
use Rattle.meaning.specs.declared.value.Value.TheVariants.{Null, Int, Text}
use Rattle.meaning.specs.Order.{is_null, number, bytes}
use Rattle.meaning.proofs.Tests.{all_first, all_rest, both}
use Rattle.columns.specs.Column.{ColumnSpec, IsColumn, is_of, is_text}
use Rattle.blocks.specs.declared.kind.Kind.{Kind}
use Rattle.blocks.specs.declared.kind.Kind.TheVariants as kind
use Rattle.bit_packing.specs.Bytes.{number_of}
use Rattle.bit_packing.specs.Bits.{bit_at, bytes_of_bits, is_mask}
use Rattle.blocks.specs.Block.{mask_length, is_blank, is_block, values_of, is_body, body_cells}
use Rattle.columns.specs.Cells.{masked, blank}
use Rattle.blocks.specs.Dictionary.{entries_of}
use Rattle.blocks.specs.Runs.{run_values}
use Rattle.encodings.specs.Choosing.{between, cells_for, payload_size}
use Rattle.columns.specs.Cells.{cell_of}
use Rattle.encodings.specs.Encoded.{is_tight}
use Rattle.blocks.specs.Runs.{are_unequal_neighbours}
use Rattle.bit_packing.specs.Packing.{packed, bit_of, ArePacked}
use Rattle.bit_packing.proofs.UnpackNumbers.{number-drop, low_bits}
use Rattle.encodings.specs.Encoded.{IsBodyOf, IsMaskOf, PutsBody, PutsMask}

-- ---- bits

pub AreBytes : List ℕ → Type 0
AreBytes xs = (k : ℕ) → get_or xs k 0 < 256

first_bits : (b n r : ℕ) → r < 8 → b < 256 → (b + 256 * n) / 2 ^ r % 2 ≡ b / 2 ^ r % 2
first_bits b n r h l =
    let low : (b + 256 * n) % 2 ^ 8 ≡ b % 2 ^ 8 = omega arith in
    let e : (8 - (1 + r)) + (1 + r) ≡ 8 = omega arith in
    let cut : (b + 256 * n) % 2 ^ (1 + r) ≡ b % 2 ^ (1 + r) =
    sym (low_bits (b + 256 * n) (1 + r) 8 (8 - (1 + r)) e) ∙ (ap (λ (j : ℕ). j % 2 ^ (1 + r)) low ∙ low_bits b (1 + r) 8 (8 - (1 + r)) e) in
    sym (field_of (b + 256 * n) 1 r) ∙ (ap (λ (j : ℕ). j / 2 ^ r) cut ∙ field_of b 1 r)

byte_bits : (xs : List ℕ) (r : ℕ) → ((k : ℕ) → get_or xs k 0 < 256) → r < 8 → number_of xs / 2 ^ r % 2 ≡ get_or xs 0 0 / 2 ^ r % 2
byte_bits [] r h l = refl
byte_bits (b ∷ xs) r h l = first_bits b (number_of xs) r l (h 0)

drop_first : (m : ℕ) (xs : List ℕ) → get_or (drop m xs) 0 0 ≡ get_or xs m 0
drop_first zero xs = refl
drop_first (suc m) [] = refl
drop_first (suc m) (x ∷ xs) = drop_first m xs

drop_bytes : (m : ℕ) (xs : List ℕ) → ((k : ℕ) → get_or xs k 0 < 256) → (k : ℕ) → get_or (drop m xs) k 0 < 256
drop_bytes zero xs h k = h k
drop_bytes (suc m) [] h k = h k
drop_bytes (suc m) (x ∷ xs) h k = drop_bytes m xs (λ j. h (suc j)) k

-- a bit of the stream is a bit of its number
bit_of_number : (xs : List ℕ) (j : ℕ) → ((k : ℕ) → get_or xs k 0 < 256) → number_of xs / 2 ^ j % 2 ≡ get_or xs (j / 8) 0 / 2 ^ (j % 8) % 2
bit_of_number xs j h =
    let parts : 8 * (j / 8) + j % 8 ≡ j = omega arith in
    let whole : number_of xs / 2 ^ j ≡ number_of xs / 2 ^ (8 * (j / 8)) / 2 ^ (j % 8) = ap (λ (i : ℕ). number_of xs / 2 ^ i) (sym parts) ∙ sym (shr-shr (number_of xs) (8 * (j / 8)) (j % 8)) in
    ap (λ (i : ℕ). i % 2) (whole ∙ ap (λ (i : ℕ). i / 2 ^ (j % 8)) (number-drop (j / 8) xs h))
    ∙ (byte_bits (drop (j / 8) xs) (j % 8) (drop_bytes (j / 8) xs h) (omega arith) ∙ ap (λ (b : ℕ). b / 2 ^ (j % 8) % 2) (drop_first (j / 8) xs))

-- ---- digits of packed numbers

turn : (n p q : ℕ) → n + p * q ≡ q * p + n
turn n p q = omega arith

zero_digit : (p w : ℕ) → 0 / 2 ^ p % 2 ^ w ≡ 0
zero_digit p w =
    let z : 0 / 2 ^ p ≡ 0 = omega (arith, shr_le 0 p) in
    let e : 0 * 2 ^ w + 0 ≡ 0 = omega arith in
    ap (λ (j : ℕ). j % 2 ^ w) (z ∙ sym e) ∙ mod_low 0 w 0 (pow_pos w)

pub digit_of : (w : ℕ) (ns : List ℕ) (i : ℕ) → list_all (λ n. nat_lt n (2 ^ w)) ns ≡ true → packed w ns / 2 ^ (w * i) % 2 ^ w ≡ get_or ns i 0
digit_of w [] i h = zero_digit (w * i) w
digit_of w (n ∷ ns) zero h =
    let l : n < 2 ^ w = ltb-true n (2 ^ w) (all_first (λ m. nat_lt m (2 ^ w)) n ns h) in
    let z : w * 0 ≡ 0 = omega arith in
    ap (λ (j : ℕ). (n + 2 ^ w * packed w ns) / 2 ^ j % 2 ^ w) z ∙ (ap (λ (j : ℕ). j % 2 ^ w) (div-one (n + 2 ^ w * packed w ns))
    ∙ (ap (λ (j : ℕ). j % 2 ^ w) (turn n (2 ^ w) (packed w ns)) ∙ mod_low (packed w ns) w n l))
digit_of w (n ∷ ns) (suc i) h =
    let l : n < 2 ^ w = ltb-true n (2 ^ w) (all_first (λ m. nat_lt m (2 ^ w)) n ns h) in
    let z : w * suc i ≡ w + w * i = omega arith in
    ap (λ (j : ℕ). (n + 2 ^ w * packed w ns) / 2 ^ j % 2 ^ w) z
    ∙ (ap (λ (j : ℕ). j % 2 ^ w) (sym (shr-shr (n + 2 ^ w * packed w ns) w (w * i)) ∙ ap (λ (j : ℕ). j / 2 ^ (w * i)) (ap (λ (j : ℕ). j / 2 ^ w) (turn n (2 ^ w) (packed w ns)) ∙ shr_high (packed w ns) w n l))
    ∙ digit_of w ns i (all_rest (λ m. nat_lt m (2 ^ w)) n ns h))

-- ---- lists over ranges

pub map_range : {Y : Type 0} (f : ℕ → Y) (d : Y) (ys : List Y) (a : ℕ) → ((i : ℕ) → i < length ys → f (a + i) ≡ get_or ys i d) → map f (range_with_len a (length ys)) ≡ ys
map_range f d [] a h = refl
map_range f d (y ∷ ys) a h =
    let first : f a ≡ y = ap f (sym (add-zero a)) ∙ h 0 (omega arith) in
    let rest : map f (range_with_len (a + 1) (length ys)) ≡ ys = map_range f d ys (a + 1) (λ i l. let e : (a + 1) + i ≡ a + suc i = omega arith in ap f e ∙ h (suc i) (omega arith)) in
    cc

all_range : (p : ℕ → Bool) (a n : ℕ) → ((j : ℕ) → a ≤ j → p j ≡ true) → list_all p (range_with_len a n) ≡ true
all_range p a zero h = refl
all_range p a (suc n) h = both _ _ (h a (omega arith)) (all_range p (a + 1) n (λ j l. h j (omega arith)))

-- ---- the mask

bits_small : (bs : List Bool) → list_all (λ n. nat_lt n (2 ^ 1)) (map bit_of bs) ≡ true
bits_small [] = refl
bits_small (true ∷ bs) = bits_small bs
bits_small (false ∷ bs) = bits_small bs

bit_back : (bs : List Bool) (i : ℕ) → (get_or (map bit_of bs) i 0 == 1) ≡ get_or bs i false
bit_back [] i = refl
bit_back (true ∷ bs) zero = refl
bit_back (false ∷ bs) zero = refl
bit_back (b ∷ bs) (suc i) = bit_back bs i

mask_bit : (mask : List ℕ) (nulls : List Bool) (j : ℕ) → ((k : ℕ) → get_or mask k 0 < 256) → number_of mask ≡ packed 1 (map bit_of nulls) → bit_at mask j ≡ get_or nulls j false
mask_bit mask nulls j h e =
    let z : 1 * j ≡ j = omega arith in
    let digit : number_of mask / 2 ^ j % 2 ≡ get_or (map bit_of nulls) j 0 =
    ap (λ (n : ℕ). n / 2 ^ j % 2) e ∙ (ap (λ (k : ℕ). packed 1 (map bit_of nulls) / 2 ^ k % 2) (sym z) ∙ digit_of 1 (map bit_of nulls) j (bits_small nulls)) in
    ap (λ (n : ℕ). n == 1) (sym (bit_of_number mask j h) ∙ digit) ∙ bit_back nulls j

beyond : (bs : List Bool) (j : ℕ) → length bs ≤ j → get_or bs j false ≡ false
beyond bs j h = get_or_past bs j false h

-- packed bits are the mask of the values
pub mask_is : (values : List Value) (mask : List ℕ) → ((k : ℕ) → get_or mask k 0 < 256) → number_of mask ≡ packed 1 (map bit_of (map is_null values)) → length mask ≡ bytes_of_bits (length values) → IsMaskOf true values mask
mask_is values mask h e l =
    let nulls = map is_null values in
    let long : length nulls ≡ length values = length-map values is_null in
    record {
      long = l;
      bits = λ _. ap (λ n. map (bit_at mask) (range_with_len 0 n)) (sym long) ∙ map_range (bit_at mask) false nulls 0 (λ i m. ap (bit_at mask) (zero-add i) ∙ mask_bit mask nulls i h e);
      rest = all_range (λ j. not (bit_at mask j)) (length values) (8 * length mask - length values) (λ j m. ap not (mask_bit mask nulls j h e ∙ beyond nulls j (omega arith)));
    }

pub no_mask : (values : List Value) → IsMaskOf false values []
no_mask values = record { long = refl; bits = λ e. cc; rest = all_range (λ j. not (bit_at [] j)) (length values) (0 - length values) (λ j m. ap not (mask_bit [] [] j (λ k. lit< tt) refl ∙ refl)) }

-- ---- the block

masked_back : (col_type : ColType) (values : List Value) → map masked (zip (map is_null values) (cells_for col_type values)) ≡ values
masked_back col_type [] = refl
masked_back col_type (Null ∷ values) = ap (λ vs. Null ∷ vs) (masked_back col_type values)
masked_back col_type (Int n ∷ values) = ap (λ vs. Int n ∷ vs) (masked_back col_type values)
masked_back col_type (Text t ∷ values) = ap (λ vs. Text t ∷ vs) (masked_back col_type values)

blank_is : (col_type : ColType) → is_blank (blank col_type) ≡ true
blank_is of_type.Int = refl
blank_is of_type.Text = refl

blanks : (col_type : ColType) (values : List Value) → list_all (λ p. not p.0 || is_blank p.1) (zip (map is_null values) (cells_for col_type values)) ≡ true
blanks col_type [] = refl
blanks col_type (Null ∷ values) = both _ _ (blank_is col_type) (blanks col_type values)
blanks col_type (Int n ∷ values) = blanks col_type values
blanks col_type (Text t ∷ values) = blanks col_type values

no_nulls : (col_type : ColType) (values : List Value) → list_all (is_of col_type false) values ≡ true → replicate (length values) false ≡ map is_null values
no_nulls col_type [] e = refl
no_nulls col_type (Null ∷ values) e = absurd cc
no_nulls col_type (Int n ∷ values) e = ap (λ bs. false ∷ bs) (no_nulls col_type values (all_rest (is_of col_type false) (Int n) values e))
no_nulls col_type (Text t ∷ values) e = ap (λ bs. false ∷ bs) (no_nulls col_type values (all_rest (is_of col_type false) (Text t) values e))

nulls_are : (col_type : ColType) (nullable : Bool) (values : List Value) (mask : List ℕ) → list_all (is_of col_type nullable) values ≡ true → IsMaskOf nullable values mask → cond nullable (map (bit_at mask) (range_with_len 0 (length values))) (replicate (length values) false) ≡ map is_null values
nulls_are col_type true values mask e m = m.bits refl
nulls_are col_type false values mask e m = no_nulls col_type values e

tight_is : (k : Kind) (col_type : ColType) (nullable : Bool) (rows : ℕ) (cells : List Value) (payload body : List ℕ) → length cells ≡ rows → drop (mask_length nullable rows) payload ≡ body → IsBodyOf k col_type cells body → is_tight (record { kind = k; col_type = col_type; nullable = nullable; rows = rows; payload = payload }) ≡ true
tight_is kind.Plain col_type nullable rows cells payload body n d i = refl
tight_is kind.Frame col_type nullable rows cells payload body n d i = refl
tight_is kind.Dict col_type nullable rows cells payload body n d i =
    let held : body_cells kind.Dict col_type rows (drop (mask_length nullable rows) payload) ≡ cells = ap (body_cells kind.Dict col_type rows) d ∙ (ap (λ r. body_cells kind.Dict col_type r body) (sym n) ∙ i.cells_are) in
    let entries : entries_of col_type rows (drop (mask_length nullable rows) payload) ≡ entries_of col_type (length cells) body = ap (entries_of col_type rows) d ∙ ap (λ r. entries_of col_type r body) (sym n) in
    rw (held, entries) i.tight
tight_is kind.Runs col_type nullable rows cells payload body n d i = ap (λ x. are_unequal_neighbours (run_values col_type x)) d ∙ i.tight

-- what is promised of a block of values
pub record IsEncoded (k : Kind) (col_type : ColType) (nullable : Bool) (rows : ℕ) (values : List Value) (payload : List ℕ) : Type 0 where
  pub block : is_block (record { kind = k; col_type = col_type; nullable = nullable; rows = rows; payload = payload }) ≡ true
  pub values_are : values_of (record { kind = k; col_type = col_type; nullable = nullable; rows = rows; payload = payload }) ≡ values
  pub tight : is_tight (record { kind = k; col_type = col_type; nullable = nullable; rows = rows; payload = payload }) ≡ true
  pub size : length payload ≡ payload_size k col_type nullable values

pub encoded : (k : Kind) (col_type : ColType) (nullable : Bool) (values : List Value) (mask body payload : List ℕ) → list_all (is_of col_type nullable) values ≡ true → 1 ≤ length values → length values ≤ row_group_rows → IsMaskOf nullable values mask → IsBodyOf k col_type (cells_for col_type values) body → payload ≡ mask ++ body → IsEncoded k col_type nullable (length values) values payload
encoded k col_type nullable values mask body payload e some few m i p =
    let rows = length values in
    let ml = mask_length nullable rows in
    let cells = cells_for col_type values in
    let count : length cells ≡ rows = length-map values (cell_of col_type) in
    let cut_mask : take ml payload ≡ mask = ap (take ml) p ∙ take_at mask body ml m.long in
    let cut_body : drop ml payload ≡ body = ap (drop ml) p ∙ drop_at mask body ml m.long in
    let long : length payload ≡ ml + length body = ap length p ∙ (length-append mask body ∙ ap (λ n. n + length body) m.long) in
    let body_is : is_body k col_type rows (drop ml payload) ≡ true = ap (is_body k col_type rows) cut_body ∙ (ap (λ r. is_body k col_type r body) (sym count) ∙ i.is) in
    let held : body_cells k col_type rows (drop ml payload) ≡ cells = ap (body_cells k col_type rows) cut_body ∙ (ap (λ r. body_cells k col_type r body) (sym count) ∙ i.cells_are) in
    let nulls : cond nullable (map (bit_at (take ml payload)) (range_with_len 0 rows)) (replicate rows false) ≡ map is_null values =
    ap (λ xs. cond nullable (map (bit_at xs) (range_with_len 0 rows)) (replicate rows false)) cut_mask ∙ nulls_are col_type nullable values mask e m in
    let mask_ok : is_mask rows (take ml payload) ≡ true = ap (is_mask rows) cut_mask ∙ m.rest in
    let pairs : zip (cond nullable (map (bit_at (take ml payload)) (range_with_len 0 rows)) (replicate rows false)) (body_cells k col_type rows (drop ml payload)) ≡ zip (map is_null values) cells =
    ap (λ bs. zip bs (body_cells k col_type rows (drop ml payload))) nulls ∙ ap (λ vs. zip (map is_null values) vs) held in
    let none : list_all (λ p. not p.0 || is_blank p.1) (zip (cond nullable (map (bit_at (take ml payload)) (range_with_len 0 rows)) (replicate rows false)) (body_cells k col_type rows (drop ml payload))) ≡ true =
    ap (list_all (λ p. not p.0 || is_blank p.1)) pairs ∙ blanks col_type values in
    record {
      block = both _ _ (le-leb 1 rows some) (both _ _ (le-leb rows row_group_rows few) (both _ _ (le-leb ml (length payload) (omega (arith, long))) (both _ _ mask_ok (both _ _ body_is none))));
      values_are = ap (map masked) pairs ∙ masked_back col_type values;
      tight = tight_is k col_type nullable rows cells payload body count cut_body i;
      size = long ∙ ap (λ n. ml + n) i.size;
    }

-- ---- cells of the values

pub cells_fit : (col_type : ColType) (nullable : Bool) (values : List Value) → list_all (is_of col_type nullable) values ≡ true → list_all (is_of col_type false) (cells_for col_type values) ≡ true
cells_fit col_type nullable [] e = refl
cells_fit of_type.Int nullable (Null ∷ values) e = cells_fit of_type.Int nullable values (all_rest (is_of of_type.Int nullable) Null values e)
cells_fit of_type.Text nullable (Null ∷ values) e = both _ _ empty (cells_fit of_type.Text nullable values (all_rest (is_of of_type.Text nullable) Null values e))
  where
    empty : is_text [] ≡ true
    empty = both _ _ (is_utf8-from_IsUtf8 [] ([], (refl, refl))) refl
cells_fit of_type.Int nullable (Int n ∷ values) e = both _ _ (all_first (is_of of_type.Int nullable) (Int n) values e) (cells_fit of_type.Int nullable values (all_rest (is_of of_type.Int nullable) (Int n) values e))
cells_fit of_type.Text nullable (Int n ∷ values) e = absurd cc
cells_fit of_type.Int nullable (Text t ∷ values) e = absurd cc
cells_fit of_type.Text nullable (Text t ∷ values) e = both _ _ (all_first (is_of of_type.Text nullable) (Text t) values e) (cells_fit of_type.Text nullable values (all_rest (is_of of_type.Text nullable) (Text t) values e))

pub int_cells : (nullable : Bool) (values : List Value) → list_all (is_of of_type.Int nullable) values ≡ true → cells_for of_type.Int values ≡ map Int (map number values)
int_cells nullable [] e = refl
int_cells nullable (Null ∷ values) e = ap (λ vs. Int (pos 0) ∷ vs) (int_cells nullable values (all_rest (is_of of_type.Int nullable) Null values e))
int_cells nullable (Int n ∷ values) e = ap (λ vs. Int n ∷ vs) (int_cells nullable values (all_rest (is_of of_type.Int nullable) (Int n) values e))
int_cells nullable (Text t ∷ values) e = absurd cc

pub text_cells : (nullable : Bool) (values : List Value) → list_all (is_of of_type.Text nullable) values ≡ true → cells_for of_type.Text values ≡ map Text (map bytes values)
text_cells nullable [] e = refl
text_cells nullable (Null ∷ values) e = ap (λ vs. Text [] ∷ vs) (text_cells nullable values (all_rest (is_of of_type.Text nullable) Null values e))
text_cells nullable (Text t ∷ values) e = ap (λ vs. Text t ∷ vs) (text_cells nullable values (all_rest (is_of of_type.Text nullable) (Text t) values e))
text_cells nullable (Int n ∷ values) e = absurd cc

-- ---- rows of a column

take_all_true : {X : Type 0} (p : X → Bool) (n : ℕ) (xs : List X) → list_all p xs ≡ true → list_all p (take n xs) ≡ true
take_all_true p zero xs e = refl
take_all_true p (suc n) [] e = refl
take_all_true p (suc n) (x ∷ xs) e = both _ _ (all_first p x xs e) (take_all_true p n xs (all_rest p x xs e))

drop_all_true : {X : Type 0} (p : X → Bool) (n : ℕ) (xs : List X) → list_all p xs ≡ true → list_all p (drop n xs) ≡ true
drop_all_true p zero xs e = e
drop_all_true p (suc n) [] e = refl
drop_all_true p (suc n) (x ∷ xs) e = drop_all_true p n xs (all_rest p x xs e)

drop-map : {X Y : Type 0} (f : X → Y) (n : ℕ) (xs : List X) → drop n (map f xs) ≡ map f (drop n xs)
drop-map f zero xs = refl
drop-map f (suc n) [] = refl
drop-map f (suc n) (x ∷ xs) = drop-map f n xs

pub window-map : {X Y : Type 0} (f : X → Y) (from n : ℕ) (xs : List X) → take n (drop from (map f xs)) ≡ map f (take n (drop from xs))
window-map f from n xs = ap (take n) (drop-map f from xs) ∙ take-map f n (drop from xs)

pub between_is : (column : ColumnSpec) (from to : ℕ) → IsColumn column → list_all (is_of column.col_type column.nullable) (between from to column) ≡ true
between_is column from to e = take_all_true (is_of column.col_type column.nullable) (to - from) (drop from column.values) (drop_all_true (is_of column.col_type column.nullable) from column.values e)

pub length-between : (column : ColumnSpec) (from to : ℕ) → from < to → to ≤ length column.values → length (between from to column) ≡ to - from
length-between column from to h l = length-take-le (to - from) (drop from column.values) (omega (arith, length-drop from column.values))

-- a mask of packed bits
pub mask_put : (before after : List ℕ) (column : ColumnSpec) (from to : ℕ) (nulls : List Bool) → column.nullable ≡ true → nulls ≡ map is_null column.values → ArePacked before after (length (take (to - from) (drop from nulls))) (packed 1 (map bit_of (take (to - from) (drop from nulls)))) → ((i d : ℕ) → i < length after → get_or after i d < 256) → PutsMask before after column.nullable (between from to column)
mask_put before after column from to nulls n e p h =
    let values = between from to column in
    let mask = drop (length before) after in
    let slice : take (to - from) (drop from nulls) ≡ map is_null values = ap (λ bs. take (to - from) (drop from bs)) e ∙ window-map is_null from (to - from) column.values in
    let long : length (take (to - from) (drop from nulls)) ≡ length values = ap length slice ∙ length-map values is_null in
    let small : (k : ℕ) → get_or mask k 0 < 256 = λ k. rw (get_or-drop (length before) after k 0) (whole after (length before + k) h) in
    let is : IsMaskOf true values mask = mask_is values mask small (p.number_is ∙ ap (λ bs. packed 1 (map bit_of bs)) slice) (p.long ∙ ap bytes_of_bits long) in
    let P : Bool → Type 0 = λ b. IsMaskOf b values mask in
    (mask, p.parts, subst P (sym n) is)
  where
    whole : (xs : List ℕ) (k : ℕ) → ((i d : ℕ) → i < length xs → get_or xs i d < 256) → get_or xs k 0 < 256
    whole [] k h = lit< tt
    whole (x ∷ xs) zero h = h 0 0 (omega arith)
    whole (x ∷ xs) (suc k) h = whole xs k (λ i d l. h (suc i) d (omega arith))

pub ints_fit : (column : ColumnSpec) (from to : ℕ) (ints : List ℤ) → IsColumn column → column.col_type ≡ of_type.Int → ints ≡ map number column.values → (cells_for column.col_type (between from to column) ≡ map Int (take (to - from) (drop from ints))) × (list_all (is_of of_type.Int false) (map Int (take (to - from) (drop from ints))) ≡ true)
ints_fit column from to ints e t i =
    let values = between from to column in
    let P : ColType → Type 0 = λ k. list_all (is_of k column.nullable) values ≡ true in
    let fit : list_all (is_of of_type.Int column.nullable) values ≡ true = subst P t (between_is column from to e) in
    let slice : take (to - from) (drop from ints) ≡ map number values = ap (λ ns. take (to - from) (drop from ns)) i ∙ window-map number from (to - from) column.values in
    let cells : cells_for of_type.Int values ≡ map Int (take (to - from) (drop from ints)) = int_cells column.nullable values fit ∙ ap (map Int) (sym slice) in
    (ap (λ k. cells_for k values) t ∙ cells, ap (list_all (is_of of_type.Int false)) (sym cells) ∙ cells_fit of_type.Int column.nullable values fit)

pub texts_fit : (column : ColumnSpec) (from to : ℕ) (texts : List (List ℕ)) → IsColumn column → column.col_type ≡ of_type.Text → texts ≡ map bytes column.values → (cells_for column.col_type (between from to column) ≡ map Text (take (to - from) (drop from texts))) × (list_all (is_of of_type.Text false) (map Text (take (to - from) (drop from texts))) ≡ true)
texts_fit column from to texts e t i =
    let values = between from to column in
    let P : ColType → Type 0 = λ k. list_all (is_of k column.nullable) values ≡ true in
    let fit : list_all (is_of of_type.Text column.nullable) values ≡ true = subst P t (between_is column from to e) in
    let slice : take (to - from) (drop from texts) ≡ map bytes values = ap (λ ns. take (to - from) (drop from ns)) i ∙ window-map bytes from (to - from) column.values in
    let cells : cells_for of_type.Text values ≡ map Text (take (to - from) (drop from texts)) = text_cells column.nullable values fit ∙ ap (map Text) (sym slice) in
    (ap (λ k. cells_for k values) t ∙ cells, ap (list_all (is_of of_type.Text false)) (sym cells) ∙ cells_fit of_type.Text column.nullable values fit)

-- a body of the cells, whatever they are called
pub body_turned : (before after : List ℕ) (k : Kind) (col_type known : ColType) (cells same : List Value) → col_type ≡ known → cells ≡ same → PutsBody before after k known same → PutsBody before after k col_type cells
body_turned before after k col_type known cells same t c p =
    let P : ColType → List Value → Type 0 = λ u vs. PutsBody before after k u vs in
    let q = subst (λ u. P u same) (sym t) p in
    subst (λ vs. P col_type vs) (sym c) q

-- the whole payload
pub encoded_rows : (k : Kind) (column : ColumnSpec) (from to : ℕ) (nothing a payload : List ℕ) → nothing ≡ [] → IsColumn column → from < to → to ≤ length column.values → to - from ≤ row_group_rows → PutsMask nothing a column.nullable (between from to column) → PutsBody a payload k column.col_type (cells_for column.col_type (between from to column)) → IsEncoded k column.col_type column.nullable (to - from) (between from to column) payload
encoded_rows k column from to nothing a payload n e some within few m b =
    let values = between from to column in
    let long = length-between column from to some within in
    let whole : payload ≡ m.0 ++ b.0 = b.1 ∙ ap (λ xs. xs ++ b.0) (m.1 ∙ ap (λ xs. xs ++ m.0) n) in
    subst (λ (r : ℕ). IsEncoded k column.col_type column.nullable r values payload) long
    (encoded k column.col_type column.nullable values m.0 b.0 payload (between_is column from to e) (omega arith) (omega arith) m.2 b.2 whole)
