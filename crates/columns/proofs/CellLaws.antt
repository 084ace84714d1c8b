-- Cells and mask give the values back.
use Rattle.std.proofs.Common.{◌≡◌, ℕ, ◌^◌, ℤ, pos, negsuc, Bool, true, false, cond, List, [], ◌∷◌, ◌++◌, length, map, zip, Option, Some, None, refl, sym, ap, ◌∙◌, ◌&&◌, nat_le, subst}
use Rattle.std.specs.List.{list_all}
use Rattle.std.proofs.lemmas.List.{map-append}
use Rattle.meaning.specs.declared.value.ColType.{ColType}
use Rattle.meaning.specs.declared.value.ColType.TheVariants as of_type
use Rattle.meaning.specs.declared.value.Value.{Value}
use Rattle.meaning.specs.declared.value.Value.TheVariants.{Null, Int, Text}
use Rattle.meaning.specs.Limits.{max_text_bytes}
use Rattle.meaning.specs.Operators.{fits_i64}
use mir.Syntax.{w64}
use mir.Val.{SFits}
use Rattle.std.proofs.lemmas.Bool.{lt-ltb}
use Rattle.meaning.specs.Order.{is_null, number, bytes}
use Rattle.meaning.proofs.Tests.{all_first, all_rest, all_append, both}
use Rattle.columns.specs.Column.{ColumnSpec, with_value, is_of, refusal}
use Rattle.columns.specs.Cells.{AreCells, cell_of, masked, values_in, mask_for, type_of, cells_in}
use Rattle.columns.specs.declared.cells.Cells.{Cells}
use Rattle.columns.specs.declared.fault.ColumnFault.{ColumnFault}
use Rattle.columns.specs.declared.fault.ColumnFault.TheVariants.{TextTooLong}
use Rattle.std.specs.Str.{is_utf8}

masked_back : (col_type : ColType) (v : Value) → masked (is_null v, cell_of col_type v) ≡ v
masked_back col_type Null = refl
masked_back col_type (Int n) = refl
masked_back col_type (Text t) = refl

zipped_back : (col_type : ColType) (vs : List Value) → map masked (zip (map is_null vs) (map (cell_of col_type) vs)) ≡ vs
zipped_back col_type [] = refl
zipped_back col_type (v ∷ vs) =
    let h = masked_back col_type v in
    let t = zipped_back col_type vs in
    cc

same_cell : (col_type : ColType) (v : Value) → is_of col_type false v ≡ true → cell_of col_type v ≡ v
same_cell col_type Null e = cc
same_cell col_type (Int n) e = refl
same_cell col_type (Text t) e = refl

same_cells : (col_type : ColType) (vs : List Value) → list_all (is_of col_type false) vs ≡ true → map (cell_of col_type) vs ≡ vs
same_cells col_type [] e = refl
same_cells col_type (v ∷ vs) e =
    let h = same_cell col_type v (all_first (is_of col_type false) v vs e) in
    let t = same_cells col_type vs (all_rest (is_of col_type false) v vs e) in
    cc

pub read_back : (col_type : ColType) (nullable : Bool) (vs : List Value) → list_all (is_of col_type nullable) vs ≡ true → values_in nullable (mask_for nullable vs) (map (cell_of col_type) vs) ≡ vs
read_back col_type true vs e = zipped_back col_type vs
read_back col_type false vs e = same_cells col_type vs e

mask-push : (nullable : Bool) (vs : List Value) (v : Value) → mask_for nullable (vs ++ v ∷ []) ≡ mask_for nullable vs ++ cond nullable (is_null v ∷ []) []
mask-push true vs v = map-append is_null vs (v ∷ [])
mask-push false vs v = refl

-- one more value behind the last
pub cells_pushed : (col_type new_type : ColType) (nullable : Bool) (nulls new_nulls : List Bool) (cells new_cells values : List Value) (v : Value) → AreCells col_type nullable nulls cells values → new_type ≡ col_type → is_of col_type nullable v ≡ true → new_nulls ≡ nulls ++ cond nullable (is_null v ∷ []) [] → new_cells ≡ cells ++ cell_of col_type v ∷ [] → AreCells new_type nullable new_nulls new_cells (values_in nullable new_nulls new_cells) × (values_in nullable new_nulls new_cells ≡ values ++ v ∷ [])
cells_pushed col_type new_type nullable nulls new_nulls cells new_cells values v h t o n c =
    let all : list_all (is_of col_type nullable) (values ++ v ∷ []) ≡ true =
    all_append (is_of col_type nullable) values (v ∷ []) h.values_are (both _ _ o refl) in
    let mask : new_nulls ≡ mask_for nullable (values ++ v ∷ []) =
    n ∙ (ap (λ xs. xs ++ cond nullable (is_null v ∷ []) []) h.nulls_are ∙ sym (mask-push nullable values v)) in
    let inside : new_cells ≡ map (cell_of col_type) (values ++ v ∷ []) =
    c ∙ (ap (λ xs. xs ++ cell_of col_type v ∷ []) h.cells_are ∙ sym (map-append (cell_of col_type) values (v ∷ []))) in
    let back : values_in nullable new_nulls new_cells ≡ values ++ v ∷ [] =
    rw (mask, inside) (read_back col_type nullable (values ++ v ∷ []) all) in
    (rw (t, back) (record { nulls_are = mask; cells_are = inside; values_are = all }), back)

pub int_fits : (col_type : ColType) (nullable : Bool) (n : ℤ) → refusal col_type true (Int n) ≡ None → fits_i64 n ≡ true → is_of col_type nullable (Int n) ≡ true
int_fits of_type.Int nullable n e f = f
int_fits of_type.Text nullable n e f = cc

pub numbers_back : (vs : List Value) (ns : List ℤ) → map Int ns ≡ map (cell_of of_type.Int) vs → ns ≡ map number vs
numbers_back [] [] e = refl
numbers_back [] (n ∷ ns) e = cc
numbers_back (v ∷ vs) [] e = cc
numbers_back (Null ∷ vs) (n ∷ ns) e =
    let t : map Int ns ≡ map (cell_of of_type.Int) vs = cc in
    let r = numbers_back vs ns t in
    cc
numbers_back (Int m ∷ vs) (n ∷ ns) e =
    let t : map Int ns ≡ map (cell_of of_type.Int) vs = cc in
    let r = numbers_back vs ns t in
    cc
numbers_back (Text u ∷ vs) (n ∷ ns) e = cc

pub bytes_back : (vs : List Value) (ts : List (List ℕ)) → map Text ts ≡ map (cell_of of_type.Text) vs → ts ≡ map bytes vs
bytes_back [] [] e = refl
bytes_back [] (t ∷ ts) e = cc
bytes_back (v ∷ vs) [] e = cc
bytes_back (Null ∷ vs) (t ∷ ts) e =
    let s : map Text ts ≡ map (cell_of of_type.Text) vs = cc in
    let r = bytes_back vs ts s in
    cc
bytes_back (Int m ∷ vs) (t ∷ ts) e = cc
bytes_back (Text u ∷ vs) (t ∷ ts) e =
    let s : map Text ts ≡ map (cell_of of_type.Text) vs = cc in
    let r = bytes_back vs ts s in
    cc

-- what is lent of an integer column, and of a text column
pub ints_lent : (cells : Cells) (nullable : Bool) (nulls : List Bool) (values : List Value) (ints : List ℤ) → AreCells (type_of cells) nullable nulls (cells_in cells) (values_in nullable nulls (cells_in cells)) → values_in nullable nulls (cells_in cells) ≡ values → type_of cells ≡ of_type.Int → cells_in cells ≡ map Int ints → ints ≡ map number values
ints_lent cells nullable nulls values ints h v t c =
    numbers_back values ints (sym c ∙ (h.cells_are ∙ (ap (λ xs. map (cell_of (type_of cells)) xs) v ∙ ap (λ k. map (cell_of k) values) t)))

pub texts_lent : (cells : Cells) (nullable : Bool) (nulls : List Bool) (values : List Value) (texts : List (List ℕ)) → AreCells (type_of cells) nullable nulls (cells_in cells) (values_in nullable nulls (cells_in cells)) → values_in nullable nulls (cells_in cells) ≡ values → type_of cells ≡ of_type.Text → cells_in cells ≡ map Text texts → texts ≡ map bytes values
texts_lent cells nullable nulls values texts h v t c =
    bytes_back values texts (sym c ∙ (h.cells_are ∙ (ap (λ xs. map (cell_of (type_of cells)) xs) v ∙ ap (λ k. map (cell_of k) values) t)))

pub text_fits : (col_type : ColType) (nullable : Bool) (t : List ℕ) → refusal col_type true (Text t) ≡ None → is_utf8 t ≡ true → is_of col_type nullable (Text t) ≡ true
text_fits of_type.Int nullable t e f = cc
text_fits of_type.Text nullable t e f =
    elim (nat_le (length t) max_text_bytes) as (λ b. cond b None (Some TextTooLong) ≡ None → (is_utf8 t && b) ≡ true) [
      | true ↦ λ _. both _ _ f refl
      | false ↦ λ x. cc
    ] e

pub int_refused : (col_type : ColType) (nullable : Bool) (n : ℤ) (f : Option ColumnFault) → refusal col_type true (Int n) ≡ f → refusal col_type nullable (Int n) ≡ f
int_refused of_type.Int nullable n f e = e
int_refused of_type.Text nullable n f e = e

-- the column with one more value
pub column_pushed : (column : ColumnSpec) (cells new_cells : Cells) (nullable : Bool) (nulls room new_nulls : List Bool) (v : Value) → AreCells (type_of cells) nullable nulls (cells_in cells) (values_in nullable nulls (cells_in cells)) → record { col_type = type_of cells; nullable = nullable; values = values_in nullable nulls (cells_in cells) } ≡ column → type_of new_cells ≡ type_of cells → is_of (type_of cells) nullable v ≡ true → room ≡ nulls → new_nulls ≡ room ++ cond nullable (is_null v ∷ []) [] → cells_in new_cells ≡ cells_in cells ++ cell_of (type_of cells) v ∷ [] → AreCells (type_of new_cells) nullable new_nulls (cells_in new_cells) (values_in nullable new_nulls (cells_in new_cells)) × (record { col_type = type_of new_cells; nullable = nullable; values = values_in nullable new_nulls (cells_in new_cells) } ≡ with_value column v)
column_pushed column cells new_cells nullable nulls room new_nulls v h e t o r n c =
    let p = cells_pushed (type_of cells) (type_of new_cells) nullable nulls new_nulls (cells_in cells) (cells_in new_cells) (values_in nullable nulls (cells_in cells)) v h t o (n ∙ ap (λ xs. xs ++ cond nullable (is_null v ∷ []) []) r) c in
    let P : ColumnSpec → Type 0 = λ d. record { col_type = type_of new_cells; nullable = nullable; values = values_in nullable new_nulls (cells_in new_cells) } ≡ with_value d v in
    (p.0, subst P e (rw (t, p.1) refl))

pub word_fits : (n : ℤ) → SFits w64 n → fits_i64 n ≡ true
word_fits (pos n) f = lt-ltb n (2 ^ 63) f.sfits
word_fits (negsuc n) f = lt-ltb n (2 ^ 63) f.sfits
