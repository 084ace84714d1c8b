-- The value of one row of a block.
use Rattle.std.proofs.Common.{◌≡◌, ℕ, ◌<◌, Bool, true, false, not, ◌&&◌, ◌||◌, nat_le, List, length, get_or, zip, replicate, if◌then◌else◌, sym, ap, ◌∙◌, arith}
use Rattle.std.specs.List.{list_all}
use Rattle.std.proofs.lemmas.List.{get_or-map, length-replicate}
use Rattle.std.proofs.lemmas.Slice.Zip.{get_or-zip, length-zip}
use Rattle.meaning.specs.Limits.{row_group_rows}
use Rattle.meaning.specs.declared.value.Value.{Value}
use Rattle.meaning.specs.declared.value.Value.TheVariants.{Null}
use Rattle.bit_packing.specs.Bits.{bit_at, is_mask}
use Rattle.blocks.specs.Block.{Block, mask_length, mask_of, body_of, nulls_of, cells_of, values_of, is_body, is_blank, is_block}
use Rattle.columns.specs.Cells.{masked}
use Rattle.blocks.proofs.Nulls.{bits_of, length_bits, bit_is, length_cells}
use Rattle.bit_packing.proofs.Steps.{both_true}

length_masked : (nullable : Bool) (rows : ℕ) (mask : List ℕ) → length (if nullable then bits_of rows mask else replicate rows false) ≡ rows
length_masked true rows mask = length_bits rows mask
length_masked false rows mask = length-replicate rows false

length_nulls : (b : Block) → length (nulls_of b) ≡ b.rows
length_nulls b = length_masked b.nullable b.rows (mask_of b)

pub null_is : (nullable : Bool) (rows i : ℕ) (mask : List ℕ) → nullable ≡ true → i < rows → bit_at mask i ≡ get_or (if nullable then bits_of rows mask else replicate rows false) i false
null_is true rows i mask e h = sym (bit_is rows i mask h)
null_is false rows i mask e h = absurd (cc)

pub block_body : (b : Block) → is_block b ≡ true → is_body b.kind b.col_type b.rows (body_of b) ≡ true
block_body b e =
    let blanks = list_all (λ (p : Bool × Value). not p.0 || is_blank p.1) (zip (nulls_of b) (cells_of b)) in
    let body = is_body b.kind b.col_type b.rows (body_of b) in
    let mask = is_mask b.rows (mask_of b) in
    let h1 = both_true (nat_le 1 b.rows) (nat_le b.rows row_group_rows && (nat_le (mask_length b.nullable b.rows) (length b.payload) && (mask && (body && blanks)))) e in
    let h2 = both_true (nat_le b.rows row_group_rows) (nat_le (mask_length b.nullable b.rows) (length b.payload) && (mask && (body && blanks))) h1.1 in
    let h3 = both_true (nat_le (mask_length b.nullable b.rows) (length b.payload)) (mask && (body && blanks)) h2.1 in
    let h4 = both_true mask (body && blanks) h3.1 in
    (both_true body blanks h4.1).0

pub value_is : (b : Block) (i : ℕ) → is_block b ≡ true → i < b.rows → masked (get_or (nulls_of b) i false, get_or (cells_of b) i Null) ≡ get_or (values_of b) i Null
value_is b i e h =
    let nulls = length_nulls b in
    let cells = length_cells b.kind b.col_type b.rows (body_of b) (block_body b e) in
    let both = length-zip (nulls_of b) (cells_of b) in
    ap masked (sym (get_or-zip (nulls_of b) (cells_of b) i (false, Null) (omega arith) (omega arith))) ∙ sym (get_or-map masked (zip (nulls_of b) (cells_of b)) i (false, Null) Null (omega arith))

pub null_value : (b : Block) (i : ℕ) → is_block b ≡ true → i < b.rows → get_or (nulls_of b) i false ≡ true → Null ≡ get_or (values_of b) i Null
null_value b i e h null = ap (λ n. masked (n, get_or (cells_of b) i Null)) (sym null) ∙ value_is b i e h

pub cell_value : (b : Block) (i : ℕ) (v : Value) → is_block b ≡ true → i < b.rows → get_or (nulls_of b) i false ≡ false → v ≡ get_or (cells_of b) i Null → v ≡ get_or (values_of b) i Null
cell_value b i v e h some w = w ∙ ap (λ n. masked (n, get_or (cells_of b) i Null)) (sym some) ∙ value_is b i e h
