-- The blocks of a row group at locations of a buffer.
use Rattle.std.specs.Prelude.{ℕ, List, map, All}
use Rattle.meaning.specs.declared.catalog.Column.{Column}
use Rattle.fragment_file.specs.declared.view.BlockLocation.{BlockLocation}
use Rattle.fragment_file.specs.Fragment.{AreBlocks}
use Rattle.fragment_file.specs.View.{IsWithin, block_in}

-- a block of each column stands at its location, all of as many rows
pub record AreLocated (columns : List Column) (rows : ℕ) (bytes : List ℕ) (locations : List BlockLocation) : Type 0 where
  pub within : All (IsWithin bytes) locations
  pub blocks : AreBlocks columns rows (map (block_in bytes) locations)
