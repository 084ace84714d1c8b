-- The runs that a block lends.
use Rattle.std.specs.Prelude.{◌≡◌, ℕ, ◌/◌, ◌≤◌, true, List, length, zip}
use Rattle.meaning.specs.declared.value.ColType.{ColType}
use Rattle.meaning.specs.declared.value.Value.{Value}
use Rattle.blocks.specs.Block.{Block, body_of}
use Rattle.blocks.specs.Plain.{is_values_form}
use Rattle.blocks.specs.Runs.{run_values, run_lengths, repeated}

-- the value and the number of rows of each run
pub record RunsSpec : Type 0 where
  pub values : List Value
  pub lengths : List ℕ

-- those of a body
abbrev pub runs_of : ColType → List ℕ → RunsSpec
runs_of col_type body = record { values = run_values col_type body; lengths = run_lengths body }

abbrev pub runs_in : Block → RunsSpec
runs_in b = runs_of b.col_type (body_of b)

-- each value as often as its run is long
abbrev pub run_cells : RunsSpec → List Value
run_cells r = repeated (zip r.values r.lengths)

-- bytes that are `count` values, and bytes that hold as many lengths
pub record IsRunsOf (col_type : ColType) (count : ℕ) (values : List ℕ) (lengths : List ℕ) : Type 0 where
  pub values_form : is_values_form col_type count values ≡ true
  pub lengths_fit : count ≤ length lengths / 2
