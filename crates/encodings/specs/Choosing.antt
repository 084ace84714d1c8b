-- How many bytes each kind takes, and the kind that takes the fewest.
use Rattle.std.specs.Prelude.{ℕ, ◌+◌, ◌-◌, ◌*◌, ◌==◌, nat_lt, nat_le, Bool, ◌&&◌, if◌then◌else◌, List, length, map, take, drop, ◌<◌, ◌≤◌}
use Rattle.std.specs.List.{list_all, list_any}
use Rattle.meaning.specs.declared.value.ColType.{ColType}
use Rattle.meaning.specs.declared.value.Value.{Value}
use Rattle.meaning.specs.Order.{value_cmp, ascending_set, number}
use Rattle.columns.specs.Column.{ColumnSpec}
use Rattle.blocks.specs.declared.kind.Kind.{Kind}
use Rattle.bit_packing.specs.Bits.{bytes_of_bits}
use Rattle.blocks.specs.Block.{mask_length}
use Rattle.bit_packing.specs.Widths.{width_for}
use Rattle.blocks.specs.Runs.{run_heads}
use Rattle.blocks.specs.Plain.{form_size}
use Rattle.blocks.specs.Frame.{span}
use Rattle.blocks.specs.Kind.{kind_code, kinds_for}
use Rattle.blocks.specs.declared.kind.Kind.TheVariants as kind
pub use Rattle.columns.specs.Cells.{cell_of}

-- the values of the rows from one on and up to another
abbrev pub between : ℕ → ℕ → ColumnSpec → List Value
between from to c = take (to - from) (drop from c.values)

abbrev pub cells_for : ColType → List Value → List Value
cells_for col_type values = map (cell_of col_type) values

abbrev pub body_size : Kind → ColType → List Value → ℕ
body_size kind.Plain col_type cells = form_size col_type cells
body_size kind.Dict col_type cells = 4 + form_size col_type (ascending_set value_cmp cells) + 2 * length cells
body_size kind.Runs col_type cells = 4 + 2 * length (run_heads cells) + form_size col_type (run_heads cells)
body_size kind.Frame col_type cells = 9 + bytes_of_bits (length cells * width_for (span (map number cells)))

-- how many bytes the values of a column take in a kind
abbrev pub payload_size : Kind → ColType → Bool → List Value → ℕ
payload_size k col_type nullable values =
    mask_length nullable (length values) + body_size k col_type (cells_for col_type values)

-- a kind is no worse than another, and better than one before it
abbrev pub is_no_worse : ColType → Bool → List Value → Kind → Kind → Bool
is_no_worse col_type nullable values k other =
    if nat_lt (kind_code other) (kind_code k)
    then nat_lt (payload_size k col_type nullable values) (payload_size other col_type nullable values)
    else nat_le (payload_size k col_type nullable values) (payload_size other col_type nullable values)

-- the kind of fewest bytes, and of equals the first
abbrev pub is_chosen : ColType → Bool → List Value → Kind → Bool
is_chosen col_type nullable values k =
    list_any (λ fit. kind_code fit == kind_code k) (kinds_for col_type)
    && list_all (is_no_worse col_type nullable values k) (kinds_for col_type)

-- the first of the kinds but Dict whose size is least, of the sizes of Plain, Runs and Frame
abbrev pub IsLeastOfOthers : Kind → ℕ → ℕ → ℕ → Type 0
IsLeastOfOthers kind.Plain p r f = (p ≤ r) × (p ≤ f)
IsLeastOfOthers kind.Dict p r f = ⊥
IsLeastOfOthers kind.Runs p r f = (r < p) × (r ≤ f)
IsLeastOfOthers kind.Frame p r f = (f < p) × (f < r)

-- the same, where there is no Frame
abbrev pub IsLeastOfTwo : Kind → ℕ → ℕ → Type 0
IsLeastOfTwo kind.Plain p r = p ≤ r
IsLeastOfTwo kind.Dict p r = ⊥
IsLeastOfTwo kind.Runs p r = r < p
IsLeastOfTwo kind.Frame p r = ⊥
