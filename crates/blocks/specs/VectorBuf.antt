-- A vector of values that was read out of a block.
use Rattle.std.specs.Prelude.{◌≡◌, ℕ, ◌≤◌, ℤ, Bool, List, [], map, zip, length, take}
use Rattle.meaning.specs.declared.value.ColType.{ColType}
use Rattle.meaning.specs.declared.value.ColType.TheVariants as of_type
use Rattle.meaning.specs.declared.value.Value.{Value}
use Rattle.meaning.specs.declared.value.Value.TheVariants.{Int, Text}
use Rattle.meaning.specs.Order.{is_null, number, bytes}
use Rattle.columns.specs.Cells.{masked}
use Rattle.blocks.specs.declared.vector_buf.Lanes.{Lanes}
use Rattle.blocks.specs.declared.vector_buf.Lanes.TheVariants as lanes

-- how many values there is room for, and the values that were read last, with the type of their column
pub record Vector : Type 0 where
  pub room : ℕ
  pub col_type : ColType
  pub values : List Value

-- the values that the cells of a type hold
abbrev pub cells_in : ColType → List ℤ → List (List ℕ) → List Value
cells_in of_type.Int ints texts = map Int ints
cells_in of_type.Text ints texts = map Text texts

-- these, and NULL where it is marked
abbrev pub masked_cells : ColType → List Bool → List ℤ → List (List ℕ) → List Value
masked_cells col_type nulls ints texts = map masked (zip nulls (cells_in col_type ints texts))

-- a cell of NULL is blank
abbrev pub AreBlank : ColType → List Bool → List ℤ → List (List ℕ) → Type 0
AreBlank of_type.Int nulls ints texts = map number (masked_cells of_type.Int nulls ints texts) ≡ ints
AreBlank of_type.Text nulls ints texts = map bytes (masked_cells of_type.Text nulls ints texts) ≡ texts

-- there are as many cells of each type as there are marks of NULL
abbrev pub AreRoom : List Bool → List ℤ → List (List ℕ) → Type 0
AreRoom nulls ints texts = (length ints ≡ length nulls) × (length texts ≡ length nulls)

-- cells that lie side by side, of which the first `len` are in use
pub record AreCells (col_type : ColType) (len : ℕ) (nulls : List Bool) (ints : List ℤ) (texts : List (List ℕ)) : Type 0 where
  pub room : AreRoom nulls ints texts
  pub within : len ≤ length nulls
  pub blank : AreBlank col_type (take len nulls) (take len ints) (take len texts)

-- a text without bytes for each mark of NULL
abbrev pub no_texts : List Bool → List (List ℕ)
no_texts nulls = map (λ _. []) nulls

-- the vector of such cells
abbrev pub vector_of : ColType → ℕ → List Bool → List ℤ → List (List ℕ) → Vector
vector_of col_type len nulls ints texts = record {
  room = length nulls;
  col_type = col_type;
  values = masked_cells col_type (take len nulls) (take len ints) (take len texts);
}

-- the lanes of a vector's type, and which of its values are NULL
abbrev pub AreParts : Lanes → List Bool → Vector → Type 0
AreParts (lanes.Ints ints) nulls v = (v.col_type ≡ of_type.Int) × (ints.items ≡ map number v.values) × (nulls ≡ map is_null v.values)
AreParts (lanes.Texts texts) nulls v = (v.col_type ≡ of_type.Text) × (map (λ t. t.now) texts.items ≡ map bytes v.values) × (nulls ≡ map is_null v.values)
