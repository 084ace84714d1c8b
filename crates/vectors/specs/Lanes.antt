-- The lanes of vectors: integers, texts and truths, some of them NULL.
use Rattle.std.specs.Prelude.{◌≡◌, ℕ, ℤ, Bool, true, false, List, map, zip, length, replicate, Option, Some, None}
use Rattle.std.specs.Borrow.{Bor}
use Rattle.meaning.specs.declared.value.Value.{Value}
use Rattle.meaning.specs.declared.value.Value.TheVariants.{Null, Int, Text}
use Rattle.vectors.specs.declared.nulls.Nulls.{Nulls}
use Rattle.vectors.specs.declared.nulls.Nulls.TheVariants as null
use Rattle.vectors.specs.declared.ints.IntCells.{IntCells}
use Rattle.vectors.specs.declared.ints.IntCells.TheVariants as int_cells
use Rattle.vectors.specs.declared.texts.TextCells.{TextCells}
use Rattle.vectors.specs.declared.texts.TextCells.TheVariants as text_cells
use Rattle.vectors.specs.declared.truths.TruthCells.{TruthCells}
use Rattle.vectors.specs.declared.truths.TruthCells.TheVariants as truth_cells
use Rattle.meaning.specs.declared.outcome.Truth.{Truth}

-- the value of a lane: NULL where it is marked so, else that of the cell
abbrev pub lane_value : {X : Type 0} → (X → Value) → Bool × X → Value
lane_value value (true, cell) = Null
lane_value value (false, cell) = value cell

-- the values of lanes, from their NULLs and cells
abbrev pub lane_values : {X : Type 0} → (X → Value) → List Bool → List X → List Value
lane_values value nulls cells = map (lane_value value) (zip nulls cells)

-- which of so many lanes are NULL
abbrev pub nulls_of : ℕ → Nulls → List Bool
nulls_of lanes null.None = replicate lanes false
nulls_of lanes (null.Lent mask) = mask.now
nulls_of lanes (null.Owned mask) = mask.items

-- the mask, where there is one
abbrev pub mask_of : Nulls → Option (List Bool)
mask_of null.None = None
mask_of (null.Lent mask) = Some mask.now
mask_of (null.Owned mask) = Some mask.items

abbrev pub lent_mask : Option (Bor (List Bool)) → Option (List Bool)
lent_mask None = None
lent_mask (Some mask) = Some mask.now

-- a value that may be missing
abbrev pub or_null : {X : Type 0} → (X → Value) → Option X → Value
or_null value None = Null
or_null value (Some x) = value x

-- ---- integers

-- integers that stand one by one, or one that stands in each lane
abbrev pub ints_of : IntCells → List ℤ
ints_of (int_cells.Lent cells) = cells.now
ints_of (int_cells.Owned cells) = cells.items
ints_of (int_cells.Repeated cell lanes) = replicate lanes cell

abbrev pub int_lanes : IntCells → Nulls → List Value
int_lanes cells nulls = lane_values Int (nulls_of (length (ints_of cells)) nulls) (ints_of cells)

-- as many lanes are marked NULL or not as there are cells
abbrev pub AreLanes : {X : Type 0} → List X → Nulls → Type 0
AreLanes cells nulls = length (nulls_of (length cells) nulls) ≡ length cells

-- ---- texts

-- texts that stand one by one, or one that stands in each lane
abbrev pub texts_of : TextCells → List (List ℕ)
texts_of (text_cells.Lent cells) = map (λ t. t.now) cells.now
texts_of (text_cells.Owned cells) = map (λ t. t.now) cells.items
texts_of (text_cells.Repeated cell lanes) = replicate lanes cell.now

abbrev pub text_lanes : TextCells → Nulls → List Value
text_lanes cells nulls = lane_values Text (nulls_of (length (texts_of cells)) nulls) (texts_of cells)

-- ---- truths

-- truths that stand one by one, or one that stands in each lane
abbrev pub truths_of : TruthCells → List Truth
truths_of (truth_cells.Owned cells) = cells.items
truths_of (truth_cells.Repeated truth lanes) = replicate lanes truth
