-- A vector that is read out of a block: which values it has, and that cells of NULL are blank.
use Rattle.std.proofs.Common.{◌≡◌, ℕ, zero, suc, ◌+◌, ◌-◌, ◌<◌, ◌≤◌, min, List, [], ◌∷◌, length, take, drop, map, get_or, refl, sym, ap, ◌∙◌, arith, replicate, Bool, true, false, ◌||◌, not, ℤ, pos, negsuc, ⊎_elim, inl, inr, ◌⊎◌}
use Rattle.std.specs.Prelude.{nat_le, zip, if◌then◌else◌}
use Rattle.std.specs.List.{range_with_len, list_all}
use borrow.Author.Tests.{eqb-true}
use Rattle.std.proofs.lemmas.Bool.{false≢true, cases_lt}
use Rattle.std.proofs.lemmas.List.{length-map, length-drop, length-replicate, length-take-le, take_all, drop_all, take-replicate, drop-replicate, get_or-take, get_or-map}
use Rattle.std.proofs.lemmas.List.FromFn.{length-map-range_with_len}
use Rattle.meaning.specs.Limits.{row_group_rows}
use Rattle.meaning.specs.declared.value.ColType.{ColType}
use Rattle.meaning.specs.declared.value.ColType.TheVariants as of_type
use Rattle.meaning.specs.declared.value.Value.{Value}
use Rattle.meaning.specs.declared.value.Value.TheVariants.{Null, Int, Text}
use Rattle.meaning.specs.Order.{is_null, number, bytes}
use Rattle.meaning.proofs.Tests.{first_of, second_of}
use Rattle.bit_packing.specs.Bits.{bit_at, is_mask}
use Rattle.blocks.specs.Block.{Block, cells_of, is_blank, is_block, is_body, mask_length, body_of, mask_of, nulls_of, values_of}
use Rattle.columns.specs.Cells.{masked}
use Rattle.blocks.specs.VectorBuf.{AreBlank, AreRoom, AreCells, cells_in, masked_cells, Vector, vector_of}
use Rattle.blocks.proofs.ReadBodies.{all-part, part-map, range-part}

-- ---- one value
length-zip_le : {X Y : Type 0} (xs : List X) (ys : List Y) → length (zip xs ys) ≤ length xs
length-zip_le [] ys = omega arith
length-zip_le (x ∷ xs) [] = omega arith
length-zip_le (x ∷ xs) (y ∷ ys) = let h : length (zip xs ys) ≤ length xs = length-zip_le xs ys in omega arith

pub masked-at : (nulls : List Bool) (cells : List Value) (i : ℕ) → i < length nulls → i < length cells
    → get_or (map masked (zip nulls cells)) i Null ≡ masked (get_or nulls i false, get_or cells i Null)
masked-at [] cells i h k = absurd (omega arith)
masked-at (b ∷ bs) [] i h k = absurd (omega arith)
masked-at (b ∷ bs) (x ∷ xs) zero h k = refl
masked-at (b ∷ bs) (x ∷ xs) (suc i) h k = masked-at bs xs i (omega arith) (omega arith)

-- ---- which are NULL
null-ints : (nulls : List Bool) (xs : List ℤ) → length xs ≡ length nulls → map is_null (map masked (zip nulls (map Int xs))) ≡ nulls
null-ints [] xs h = refl
null-ints (b ∷ bs) [] h = absurd (omega arith)
null-ints (true ∷ bs) (x ∷ xs) h = ap (λ ys. true ∷ ys) (null-ints bs xs (omega arith))
null-ints (false ∷ bs) (x ∷ xs) h = ap (λ ys. false ∷ ys) (null-ints bs xs (omega arith))

null-texts : (nulls : List Bool) (xs : List (List ℕ)) → length xs ≡ length nulls → map is_null (map masked (zip nulls (map Text xs))) ≡ nulls
null-texts [] xs h = refl
null-texts (b ∷ bs) [] h = absurd (omega arith)
null-texts (true ∷ bs) (x ∷ xs) h = ap (λ ys. true ∷ ys) (null-texts bs xs (omega arith))
null-texts (false ∷ bs) (x ∷ xs) h = ap (λ ys. false ∷ ys) (null-texts bs xs (omega arith))

pub nulls-masked : (col_type : ColType) (nulls : List Bool) (ints : List ℤ) (texts : List (List ℕ))
    → AreRoom nulls ints texts → map is_null (masked_cells col_type nulls ints texts) ≡ nulls
nulls-masked of_type.Int nulls ints texts h = null-ints nulls ints h.0
nulls-masked of_type.Text nulls ints texts h = null-texts nulls texts h.1

-- as much room as there was
pub room_kept : (nulls nulls' : List Bool) (ints ints' : List ℤ) (texts texts' : List (List ℕ))
    → AreRoom nulls ints texts → length nulls' ≡ length nulls → length ints' ≡ length ints → length texts' ≡ length texts → AreRoom nulls' ints' texts'
room_kept nulls nulls' ints ints' texts texts' h a b d = (b ∙ (h.0 ∙ sym a), d ∙ (h.1 ∙ sym a))

-- the room that the front takes
room_front : (n : ℕ) (nulls : List Bool) (ints : List ℤ) (texts : List (List ℕ))
    → AreRoom nulls ints texts → n ≤ length nulls → AreRoom (take n nulls) (take n ints) (take n texts)
room_front n nulls ints texts h z =
    let a : length ints ≡ length nulls = h.0 in
    let b : length texts ≡ length nulls = h.1 in
    let front : length (take n nulls) ≡ n = length-take-le n nulls z in
    (length-take-le n ints (omega (arith, a, z)) ∙ sym front, length-take-le n texts (omega (arith, b, z)) ∙ sym front)

-- ---- cells of NULL
blank_number : (z : ℤ) → is_blank (Int z) ≡ true → pos 0 ≡ z
blank_number (pos n) h = ap pos (sym (eqb-true n 0 h))
blank_number (negsuc n) h = absurd (false≢true h)

blank_text : (t : List ℕ) → is_blank (Text t) ≡ true → [] ≡ t
blank_text [] h = refl
blank_text (x ∷ xs) h = let e : length (x ∷ xs) ≡ 0 = eqb-true (length (x ∷ xs)) 0 h in absurd (omega (arith, e))

abbrev is_returned : Bool × Value → Bool
is_returned p = not p.0 || is_blank p.1

blank-ints : (nulls : List Bool) (xs : List ℤ) → length nulls ≡ length xs → list_all is_returned (zip nulls (map Int xs)) ≡ true
    → map number (map masked (zip nulls (map Int xs))) ≡ xs
blank-ints [] [] h l = refl
blank-ints [] (x ∷ xs) h l = absurd (omega arith)
blank-ints (b ∷ bs) [] h l = absurd (omega arith)
blank-ints (true ∷ bs) (x ∷ xs) h l =
    let rest = map number (map masked (zip bs (map Int xs))) in
    ap (λ z. z ∷ rest) (blank_number x (first_of (is_blank (Int x)) (list_all is_returned (zip bs (map Int xs))) l))
    ∙ ap (λ ys. x ∷ ys) (blank-ints bs xs (omega arith) (second_of (is_blank (Int x)) (list_all is_returned (zip bs (map Int xs))) l))
blank-ints (false ∷ bs) (x ∷ xs) h l = ap (λ ys. x ∷ ys) (blank-ints bs xs (omega arith) l)

blank-texts : (nulls : List Bool) (xs : List (List ℕ)) → length nulls ≡ length xs → list_all is_returned (zip nulls (map Text xs)) ≡ true
    → map bytes (map masked (zip nulls (map Text xs))) ≡ xs
blank-texts [] [] h l = refl
blank-texts [] (x ∷ xs) h l = absurd (omega arith)
blank-texts (b ∷ bs) [] h l = absurd (omega arith)
blank-texts (true ∷ bs) (x ∷ xs) h l =
    let rest = map bytes (map masked (zip bs (map Text xs))) in
    ap (λ z. z ∷ rest) (blank_text x (first_of (is_blank (Text x)) (list_all is_returned (zip bs (map Text xs))) l))
    ∙ ap (λ ys. x ∷ ys) (blank-texts bs xs (omega arith) (second_of (is_blank (Text x)) (list_all is_returned (zip bs (map Text xs))) l))
blank-texts (false ∷ bs) (x ∷ xs) h l = ap (λ ys. x ∷ ys) (blank-texts bs xs (omega arith) l)

blank_cells : (col_type : ColType) (nulls : List Bool) (ints : List ℤ) (texts : List (List ℕ))
    → AreRoom nulls ints texts
    → list_all is_returned (zip nulls (cells_in col_type ints texts)) ≡ true → AreBlank col_type nulls ints texts
blank_cells of_type.Int nulls ints texts h l = blank-ints nulls ints (sym h.0) l
blank_cells of_type.Text nulls ints texts h l = blank-texts nulls texts (sym h.1) l

-- ---- parts of pairs
zip-nil : {X Y : Type 0} (xs : List X) (ys : List Y) → length ys ≡ 0 → [] ≡ zip xs ys
zip-nil [] ys h = refl
zip-nil (x ∷ xs) [] h = refl
zip-nil (x ∷ xs) (y ∷ ys) h = absurd (omega arith)

drop-zip : {X Y : Type 0} (k : ℕ) (xs : List X) (ys : List Y) → drop k (zip xs ys) ≡ zip (drop k xs) (drop k ys)
drop-zip zero xs ys = refl
drop-zip (suc k) [] ys = refl
drop-zip (suc k) (x ∷ xs) [] = zip-nil (drop k xs) [] refl
drop-zip (suc k) (x ∷ xs) (y ∷ ys) = drop-zip k xs ys

take-zip : {X Y : Type 0} (n : ℕ) (xs : List X) (ys : List Y) → take n (zip xs ys) ≡ zip (take n xs) (take n ys)
take-zip zero xs ys = refl
take-zip (suc n) [] ys = refl
take-zip (suc n) (x ∷ xs) [] = refl
take-zip (suc n) (x ∷ xs) (y ∷ ys) = ap (λ zs. (x, y) ∷ zs) (take-zip n xs ys)

zip-part : {X Y : Type 0} (n k : ℕ) (xs : List X) (ys : List Y) → take n (drop k (zip xs ys)) ≡ zip (take n (drop k xs)) (take n (drop k ys))
zip-part n k xs ys = ap (take n) (drop-zip k xs ys) ∙ take-zip n (drop k xs) (drop k ys)

-- ---- the values of a buffer
value-at : (col_type : ColType) (len : ℕ) (nulls : List Bool) (ints : List ℤ) (texts : List (List ℕ)) (i : ℕ) (cells : List Value)
    → cells ≡ cells_in col_type (take len ints) (take len texts) → length cells ≡ len → len ≤ length nulls
    → i < length (masked_cells col_type (take len nulls) (take len ints) (take len texts))
    → masked (get_or nulls i false, get_or cells i Null) ≡ get_or (masked_cells col_type (take len nulls) (take len ints) (take len texts)) i Null
value-at col_type len nulls ints texts i cells e l w h =
    let own = cells_in col_type (take len ints) (take len texts) in
    let ns = take len nulls in
    let a : length (map masked (zip ns own)) ≡ length (zip ns own) = length-map (zip ns own) masked in
    let b : length (zip ns own) ≤ length ns = length-zip_le ns own in
    let d : length ns ≡ len = length-take-le len nulls w in
    let k : i < len = omega (arith, a, b, d, h) in
    let m : length own ≡ len = ap length (sym e) ∙ l in
    ap (λ x. masked (x, get_or cells i Null)) (sym (get_or-take len nulls i false k))
    ∙ ap (λ xs. masked (get_or ns i false, get_or xs i Null)) e
    ∙ sym (masked-at ns own i (omega (arith, d)) (omega (arith, m)))

below_len : (col_type : ColType) (len : ℕ) (nulls : List Bool) (ints : List ℤ) (texts : List (List ℕ)) (i : ℕ)
    → len ≤ length nulls → i < length (masked_cells col_type (take len nulls) (take len ints) (take len texts)) → i < len
below_len col_type len nulls ints texts i w h =
    let own = cells_in col_type (take len ints) (take len texts) in
    let ns = take len nulls in
    let a : length (map masked (zip ns own)) ≡ length (zip ns own) = length-map (zip ns own) masked in
    let b : length (zip ns own) ≤ length ns = length-zip_le ns own in
    let d : length ns ≡ len = length-take-le len nulls w in
    omega (arith, a, b, d, h)

pub int-at : (len : ℕ) (nulls : List Bool) (ints : List ℤ) (texts : List (List ℕ)) (i : ℕ)
    → AreCells of_type.Int len nulls ints texts → i < length (vector_of of_type.Int len nulls ints texts).values → get_or nulls i false ≡ false
    → Int (get_or ints i (pos 0)) ≡ get_or (vector_of of_type.Int len nulls ints texts).values i Null
int-at len nulls ints texts i cells h f =
    let k : i < len = below_len of_type.Int len nulls ints texts i cells.within h in
    let room : len ≤ length ints = (let x : length ints ≡ length nulls = cells.room.0 in let y : len ≤ length nulls = cells.within in omega (arith, x, y)) in
    let m : length (take len ints) ≡ len = length-take-le len ints room in
    let own : List Value = map Int (take len ints) in
    let l : length own ≡ len = length-map (take len ints) Int ∙ m in
    let v : Int (get_or ints i (pos 0)) ≡ get_or own i Null
    = ap Int (sym (get_or-take len ints i (pos 0) k)) ∙ sym (get_or-map Int (take len ints) i (pos 0) Null (omega (arith, m))) in
    v ∙ ap (λ x. masked (x, get_or own i Null)) (sym f) ∙ value-at of_type.Int len nulls ints texts i own refl l cells.within h

pub text-at : (len : ℕ) (nulls : List Bool) (ints : List ℤ) (texts : List (List ℕ)) (i : ℕ)
    → AreCells of_type.Text len nulls ints texts → i < length (vector_of of_type.Text len nulls ints texts).values → get_or nulls i false ≡ false
    → Text (get_or texts i []) ≡ get_or (vector_of of_type.Text len nulls ints texts).values i Null
text-at len nulls ints texts i cells h f =
    let k : i < len = below_len of_type.Text len nulls ints texts i cells.within h in
    let room : len ≤ length texts = (let x : length texts ≡ length nulls = cells.room.1 in let y : len ≤ length nulls = cells.within in omega (arith, x, y)) in
    let m : length (take len texts) ≡ len = length-take-le len texts room in
    let own : List Value = map Text (take len texts) in
    let l : length own ≡ len = length-map (take len texts) Text ∙ m in
    let v : Text (get_or texts i []) ≡ get_or own i Null
    = ap Text (sym (get_or-take len texts i [] k)) ∙ sym (get_or-map Text (take len texts) i [] Null (omega (arith, m))) in
    v ∙ ap (λ x. masked (x, get_or own i Null)) (sym f) ∙ value-at of_type.Text len nulls ints texts i own refl l cells.within h

pub text_room : {T : Type 0} (len : ℕ) (nulls : List Bool) (ints : List ℤ) (texts : List (List ℕ)) (lent : List T) (i : ℕ)
    → AreCells of_type.Text len nulls ints texts → i < length (vector_of of_type.Text len nulls ints texts).values → length texts ≡ length lent
    → i < length lent
text_room len nulls ints texts lent i cells h e =
    let k : i < len = below_len of_type.Text len nulls ints texts i cells.within h in
    let x : length texts ≡ length nulls = cells.room.1 in
    let y : len ≤ length nulls = cells.within in
    omega (arith, x, y, e, k)

length-cells : (col_type : ColType) (len : ℕ) (nulls : List Bool) (ints : List ℤ) (texts : List (List ℕ))
    → AreCells col_type len nulls ints texts → length (cells_in col_type (take len ints) (take len texts)) ≡ len
length-cells of_type.Int len nulls ints texts cells =
    let x : length ints ≡ length nulls = cells.room.0 in
    let y : len ≤ length nulls = cells.within in
    length-map (take len ints) Int ∙ length-take-le len ints (omega (arith, x, y))
length-cells of_type.Text len nulls ints texts cells =
    let x : length texts ≡ length nulls = cells.room.1 in
    let y : len ≤ length nulls = cells.within in
    length-map (take len texts) Text ∙ length-take-le len texts (omega (arith, x, y))

pub null-at : (col_type : ColType) (len : ℕ) (nulls : List Bool) (ints : List ℤ) (texts : List (List ℕ)) (i : ℕ)
    → AreCells col_type len nulls ints texts → i < length (vector_of col_type len nulls ints texts).values → get_or nulls i false ≡ true
    → Null ≡ get_or (vector_of col_type len nulls ints texts).values i Null
null-at col_type len nulls ints texts i cells h f =
    let own = cells_in col_type (take len ints) (take len texts) in
    ap (λ x. masked (x, get_or own i Null)) (sym f)
    ∙ value-at col_type len nulls ints texts i own refl (length-cells col_type len nulls ints texts cells) cells.within h

pub nulls-of : (col_type : ColType) (len : ℕ) (nulls : List Bool) (ints : List ℤ) (texts : List (List ℕ))
    → AreCells col_type len nulls ints texts → take len nulls ≡ map is_null (vector_of col_type len nulls ints texts).values
nulls-of col_type len nulls ints texts cells =
    sym (nulls-masked col_type (take len nulls) (take len ints) (take len texts) (room_front len nulls ints texts cells.room cells.within))

pub texts-of : (len : ℕ) (nulls : List Bool) (ints : List ℤ) (texts : List (List ℕ))
    → AreCells of_type.Text len nulls ints texts → take len texts ≡ map bytes (vector_of of_type.Text len nulls ints texts).values
texts-of len nulls ints texts cells = sym cells.blank

-- ---- the rows of a block
length-nulls_if : (nullable : Bool) (mask : List ℕ) (rows : ℕ)
    → length (if nullable then map (bit_at mask) (range_with_len 0 rows) else replicate rows false) ≡ rows
length-nulls_if true mask rows = length-map-range_with_len (bit_at mask) 0 rows
length-nulls_if false mask rows = length-replicate rows false

part-replicate : {X : Type 0} (k n m : ℕ) (x : X) → k + n ≤ m → take n (drop k (replicate m x)) ≡ replicate n x
part-replicate k n m x h = ap (take n) (drop-replicate k m x) ∙ take-replicate n (m - k) x (omega arith)

pub nulls_read : (nullable : Bool) (mask : List ℕ) (k n rows : ℕ) → k + n ≤ rows
    → (if nullable then map (bit_at mask) (range_with_len k n) else replicate n false)
    ≡ take n (drop k (if nullable then map (bit_at mask) (range_with_len 0 rows) else replicate rows false))
nulls_read true mask k n rows h = sym (range-part (bit_at mask) k n rows h)
nulls_read false mask k n rows h = sym (part-replicate k n rows false h)

le_or_lt : (m n : ℕ) → (m ≤ n) ⊎ (n < m)
le_or_lt m n = ⊎_elim (λ h. inr h) (λ h. inl h) (cases_lt n m)

-- as many as there is room for, from a row on, which may be past the end
part_within : {X : Type 0} (xs : List X) (rows room from : ℕ) → length xs ≤ rows
    → take (min room (rows - from)) (drop (min from rows) xs) ≡ take room (drop from xs)
part_within xs rows room from h =
    ⊎_elim
    (λ (l : from ≤ rows).
    let e : min from rows ≡ from = omega arith in
    ap (λ (j : ℕ). take (min room (rows - from)) (drop j xs)) e
    ∙ ⊎_elim
    (λ (m : room ≤ rows - from). let f : min room (rows - from) ≡ room = omega arith in ap (λ (j : ℕ). take j (drop from xs)) f)
    (λ (m : rows - from < room).
    let s : length (drop from xs) ≡ length xs - from = length-drop from xs in
    take_all (min room (rows - from)) (drop from xs) (omega (arith, s)) ∙ sym (take_all room (drop from xs) (omega (arith, s))))
    (le_or_lt room (rows - from)))
    (λ (l : rows < from).
    let s : drop (min from rows) xs ≡ [] = drop_all (min from rows) xs (omega arith) in
    let t : drop from xs ≡ [] = drop_all from xs (omega arith) in
    ap (take (min room (rows - from))) s ∙ take_all (min room (rows - from)) [] (omega arith)
    ∙ sym (take_all room [] (omega arith)) ∙ sym (ap (take room) t))
    (le_or_lt from rows)

pub values_read : (b : Block) (room from : ℕ) (nulls : List Bool) (cells : List Value)
    → nulls ≡ take (min room (b.rows - from)) (drop (min from b.rows) (nulls_of b))
    → cells ≡ take (min room (b.rows - from)) (drop (min from b.rows) (cells_of b))
    → map masked (zip nulls cells) ≡ take room (drop from (values_of b))
values_read b room from nulls cells e f =
    let n : ℕ = min room (b.rows - from) in
    let k : ℕ = min from b.rows in
    let all : List (Bool × Value) = zip (nulls_of b) (cells_of b) in
    let l : length (map masked all) ≤ b.rows
    = (let x : length (map masked all) ≡ length all = length-map all masked in
    let y : length all ≤ length (nulls_of b) = length-zip_le (nulls_of b) (cells_of b) in
    let z : length (nulls_of b) ≡ b.rows = length-nulls_if b.nullable (mask_of b) b.rows in
    omega (arith, x, y, z)) in
    ap (λ ns. map masked (zip ns cells)) e
    ∙ ap (λ xs. map masked (zip (take n (drop k (nulls_of b))) xs)) f
    ∙ ap (map masked) (sym (zip-part n k (nulls_of b) (cells_of b)))
    ∙ part-map masked n k all
    ∙ part_within (map masked all) b.rows room from l

pub blank_read : (b : Block) (col_type : ColType) (n k : ℕ) (nulls : List Bool) (ints : List ℤ) (texts : List (List ℕ))
    → is_block b ≡ true
    → nulls ≡ take n (drop k (nulls_of b)) → cells_in col_type ints texts ≡ take n (drop k (cells_of b))
    → AreRoom nulls ints texts → AreBlank col_type nulls ints texts
blank_read b col_type n k nulls ints texts h e f x =
    let returned : list_all is_returned (zip (nulls_of b) (cells_of b)) ≡ true
    = second_of (is_body b.kind b.col_type b.rows (body_of b)) _ (second_of (is_mask b.rows (mask_of b)) _
    (second_of (nat_le (mask_length b.nullable b.rows) (length b.payload)) _ (second_of (nat_le b.rows row_group_rows) _
    (second_of (nat_le 1 b.rows) _ h)))) in
    blank_cells col_type nulls ints texts x
    (ap (λ ns. list_all is_returned (zip ns (cells_in col_type ints texts))) e
    ∙ ap (λ xs. list_all is_returned (zip (take n (drop k (nulls_of b))) xs)) f
    ∙ ap (list_all is_returned) (sym (zip-part n k (nulls_of b) (cells_of b)))
    ∙ all-part is_returned n k (zip (nulls_of b) (cells_of b)) returned)

-- ---- the cells that were read
pub cells_ready : (b : Block) (col_type : ColType) (n k : ℕ) (nulls : List Bool) (ints : List ℤ) (texts : List (List ℕ))
    → is_block b ≡ true
    → take n nulls ≡ take n (drop k (nulls_of b)) → cells_in col_type (take n ints) (take n texts) ≡ take n (drop k (cells_of b))
    → AreRoom nulls ints texts → n ≤ length nulls → AreCells col_type n nulls ints texts
cells_ready b col_type n k nulls ints texts h e f x z = record {
  room = x;
  within = z;
  blank = blank_read b col_type n k (take n nulls) (take n ints) (take n texts) h e f (room_front n nulls ints texts x z);
}

same_part : {X : Type 0} (n m k l : ℕ) → n ≡ m → k ≡ l → (xs : List X) → take n (drop k xs) ≡ take m (drop l xs)
same_part n m k l e f xs = ap (λ (j : ℕ). take j (drop k xs)) e ∙ ap (λ (j : ℕ). take m (drop j xs)) f

abbrev as_vector : ℕ → ColType → List Value → Vector
as_vector room col_type values = record { room = room; col_type = col_type; values = values }

vector_parts : (r s : ℕ) (col_type : ColType) (xs ys : List Value) → r ≡ s → xs ≡ ys
    → as_vector r col_type xs ≡ as_vector s col_type ys
vector_parts r s col_type xs ys e f =
    ap (λ m. as_vector m col_type xs) e ∙ ap (as_vector s col_type) f

pub vector_read : (b : Block) (col_type : ColType) (room from n k : ℕ) (nulls : List Bool) (ints : List ℤ) (texts : List (List ℕ))
    → n ≡ min room (b.rows - from) → k ≡ min from b.rows → length nulls ≡ room
    → take n nulls ≡ take n (drop k (nulls_of b)) → cells_in col_type (take n ints) (take n texts) ≡ take n (drop k (cells_of b))
    → vector_of col_type n nulls ints texts ≡ record { room = room; col_type = col_type; values = take room (drop from (values_of b)) }
vector_read b col_type room from n k nulls ints texts hn hk r e f =
    vector_parts (length nulls) room col_type _ _ r
    (values_read b room from (take n nulls) (cells_in col_type (take n ints) (take n texts)) (e ∙ same_part n _ k _ hn hk (nulls_of b)) (f ∙ same_part n _ k _ hn hk (cells_of b)))
