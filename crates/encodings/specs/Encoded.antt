-- What is written of some rows of a column: a block that encodes them, with no entry without a use and the longest runs.
use Rattle.std.specs.Prelude.{◌≡◌, ℕ, ◌-◌, Bool, true, List, ◌++◌, length, map}
use Rattle.std.specs.List.{list_all, list_any, range_with_len}
use Rattle.meaning.specs.declared.value.ColType.{ColType}
use Rattle.meaning.specs.declared.value.Value.{Value}
use Rattle.meaning.specs.Order.{same_value, is_null}
use Rattle.columns.specs.Column.{ColumnSpec}
use Rattle.blocks.specs.declared.kind.Kind.{Kind}
use Rattle.bit_packing.specs.Bits.{bit_at, is_mask}
use Rattle.blocks.specs.Block.{Block, mask_length, is_body, body_cells, body_of, cells_of}
use Rattle.blocks.specs.Dictionary.{entries_of}
use Rattle.blocks.specs.Runs.{run_values, are_unequal_neighbours}
use Rattle.encodings.specs.Choosing.{body_size}
use Rattle.blocks.specs.declared.kind.Kind.TheVariants as kind

-- the block of some rows of a column
abbrev pub block_of : Kind → ColumnSpec → ℕ → ℕ → List ℕ → Block
block_of k column from to payload =
    record { kind = k; col_type = column.col_type; nullable = column.nullable; rows = to - from; payload = payload }

-- each dictionary entry is some row's, and no two neighbouring runs are equal
abbrev pub is_tight : Block → Bool
is_tight b = tight_body b.kind
  where
    tight_body : Kind → Bool
    tight_body kind.Plain = true
    tight_body kind.Dict = list_all (λ entry. list_any (same_value entry) (cells_of b)) (entries_of b.col_type b.rows (body_of b))
    tight_body kind.Runs = are_unequal_neighbours (run_values b.col_type (body_of b))
    tight_body kind.Frame = true

-- what is written besides: entries that some cell uses, runs that are no longer
abbrev pub IsTightBody : Kind → ColType → List Value → List ℕ → Type 0
IsTightBody kind.Plain col_type cells body = Unit {0}
IsTightBody kind.Dict col_type cells body =
    list_all (λ entry. list_any (same_value entry) cells) (entries_of col_type (length cells) body) ≡ true
IsTightBody kind.Runs col_type cells body = are_unequal_neighbours (run_values col_type body) ≡ true
IsTightBody kind.Frame col_type cells body = Unit {0}

-- bytes encode the cells
pub record IsBodyOf (k : Kind) (col_type : ColType) (cells : List Value) (body : List ℕ) : Type 0 where
  pub is : is_body k col_type (length cells) body ≡ true
  pub cells_are : body_cells k col_type (length cells) body ≡ cells
  pub tight : IsTightBody k col_type cells body
  pub size : length body ≡ body_size k col_type cells

-- a body was put behind other bytes
abbrev pub PutsBody : List ℕ → List ℕ → Kind → ColType → List Value → Type 0
PutsBody before after k col_type cells = (body : List ℕ) × (after ≡ before ++ body) × IsBodyOf k col_type cells body

-- bytes say which of the values are NULL
pub record IsMaskOf (nullable : Bool) (values : List Value) (mask : List ℕ) : Type 0 where
  pub long : length mask ≡ mask_length nullable (length values)
  pub bits : nullable ≡ true → map (bit_at mask) (range_with_len 0 (length values)) ≡ map is_null values
  pub rest : is_mask (length values) mask ≡ true

-- a mask was put behind other bytes
abbrev pub PutsMask : List ℕ → List ℕ → Bool → List Value → Type 0
PutsMask before after nullable values = (mask : List ℕ) × (after ≡ before ++ mask) × IsMaskOf nullable values mask
