-- What a block's bytes encode, and which bytes are a block.
--
-- A block encodes 1 to 8,192 values of one column. Its payload is the mask, in a nullable column, and a body of one
-- of four kinds. The body alone gives a cell for each row; where the mask has a 1, the value is NULL.
use Rattle.std.specs.Prelude.{ℕ, ◌==◌, nat_le, pos, negsuc, Bool, false, ◌&&◌, ◌||◌, not, if◌then◌else◌, List, length, map, take, drop, zip, replicate, ◌≡◌}
use Rattle.std.specs.List.{list_all, range_with_len}
use Rattle.meaning.specs.Limits.{row_group_rows}
use Rattle.meaning.specs.declared.value.ColType.{ColType}
use Rattle.meaning.specs.declared.value.Value.{Value}
use Rattle.meaning.specs.declared.value.Value.TheVariants.{Null, Int, Text}
use Rattle.blocks.specs.declared.kind.Kind.{Kind}
use Rattle.bit_packing.specs.Bits.{is_mask}
use Rattle.meaning.specs.declared.value.ColType.TheVariants as of_type
use Rattle.blocks.specs.declared.kind.Kind.TheVariants as kind
pub use Rattle.bit_packing.specs.Bits.{bytes_of_bits, bit_at}
pub use Rattle.columns.specs.Cells.{blank, masked}
pub use Rattle.blocks.specs.Numbers.{count_of}
pub use Rattle.blocks.specs.Plain.{ends_of, joined_of, values_form, are_ends, is_values_form}
pub use Rattle.blocks.specs.Dictionary.{entry_bytes, entries_of, codes_of, dictionary_cells, is_dictionary}
pub use Rattle.blocks.specs.Runs.{run_lengths, run_value_bytes, run_values, repeated, run_cells, are_runs}
pub use Rattle.blocks.specs.Frame.{base_of, width_of, packed_of, offsets_of, frame_integers, is_frame}

-- a payload, and what is known of it from elsewhere: the block's kind, its column's type and whether that is nullable,
-- and how many rows it has
pub record Block : Type 0 where
  pub kind : Kind
  pub col_type : ColType
  pub nullable : Bool
  pub rows : ℕ
  pub payload : List ℕ

abbrev pub mask_length : Bool → ℕ → ℕ
mask_length nullable rows = if nullable then bytes_of_bits rows else 0

abbrev pub mask_of : Block → List ℕ
mask_of b = take (mask_length b.nullable b.rows) b.payload

abbrev pub body_of : Block → List ℕ
body_of b = drop (mask_length b.nullable b.rows) b.payload

-- which rows are NULL
abbrev pub nulls_of : Block → List Bool
nulls_of b = if b.nullable then map (bit_at (mask_of b)) (range_with_len 0 b.rows) else replicate b.rows false

-- a cell for each row, NULL or not
abbrev pub body_cells : Kind → ColType → ℕ → List ℕ → List Value
body_cells kind.Plain col_type rows body = values_form col_type rows body
body_cells kind.Dict col_type rows body = dictionary_cells col_type rows body
body_cells kind.Runs col_type rows body = run_cells col_type body
body_cells kind.Frame col_type rows body = map Int (frame_integers rows body)

abbrev pub is_body : Kind → ColType → ℕ → List ℕ → Bool
is_body kind.Plain col_type rows body = is_values_form col_type rows body
is_body kind.Dict col_type rows body = is_dictionary col_type rows body
is_body kind.Runs col_type rows body = are_runs col_type rows body
is_body kind.Frame of_type.Int rows body = is_frame rows body
is_body kind.Frame of_type.Text rows body = false

abbrev pub cells_of : Block → List Value
cells_of b = body_cells b.kind b.col_type b.rows (body_of b)

abbrev pub is_blank : Value → Bool
is_blank Null = false
is_blank (Int (pos n)) = n == 0
is_blank (Int (negsuc n)) = false
is_blank (Text t) = length t == 0

-- the list of values that the block encodes
abbrev pub values_of : Block → List Value
values_of b = map masked (zip (nulls_of b) (cells_of b))

-- which bytes are a block
abbrev pub is_block : Block → Bool
is_block b =
    nat_le 1 b.rows
    && (nat_le b.rows row_group_rows
    && (nat_le (mask_length b.nullable b.rows) (length b.payload)
    && (is_mask b.rows (mask_of b)
    && (is_body b.kind b.col_type b.rows (body_of b)
    && list_all (λ p. not p.0 || is_blank p.1) (zip (nulls_of b) (cells_of b))))))

-- whether the blank stands in each cell from a row on whose bit is set
abbrev pub are_blank_from : ℕ → ℕ → List ℕ → List Value → Bool
are_blank_from row rows mask cells = list_all (λ p. not p.0 || is_blank p.1) (drop row (zip (map (bit_at mask) (range_with_len 0 rows)) cells))

-- the block encodes these cells, with NULL where the mask has a 1
abbrev pub StandsFor : Block → List Value → Type 0
StandsFor b cells = values_of b ≡ map masked (zip (nulls_of b) cells)
