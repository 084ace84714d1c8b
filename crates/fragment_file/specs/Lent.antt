-- The blocks that a row group lends, by which contracts know it.
use Rattle.std.specs.Prelude.{◌≡◌, ℕ, true, List, map, get_or, slice_get, Some, All}
use Rattle.meaning.specs.declared.catalog.Column.{Column}
use Rattle.meaning.specs.Typing.{is_of_type}
use Rattle.blocks.specs.Block.{Block, values_of}
use Rattle.fragment_file.specs.declared.group_view.GroupView.{GroupView}
use Rattle.fragment_file.specs.Fragment.{no_block}
use Rattle.fragment_file.specs.View.{block_in}

abbrev pub blocks_in : GroupView → List Block
blocks_in g = map (block_in g.bytes.now) g.locations.now

-- each block has values of its column's type
abbrev pub AreTypedBlocks : List Column → List Block → Type 0
AreTypedBlocks columns blocks = (j : ℕ) (c : Column) → slice_get columns j ≡ Some c → All (λ v. is_of_type c.col_type v ≡ true) (values_of (get_or blocks j no_block))
