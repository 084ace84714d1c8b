-- Loop invariants of `keys_of` (`keys`).
use Rattle.std.proofs.Common.{◌≡◌, List, ℕ, Some, filter}
use Rattle.std.specs.List.{range_with_len}
use Rattle.loader.specs.Source.{csv_records}
use Rattle.init.specs.Keys.{ArePassed, is_key}
use Rattle.init.proofs.keys.keys_of.Given as goal

abbrev pub invariant-loop-index : goal.invariant-loop-index
invariant-loop-index g l = (l.dimension.table ≡ l.fn.dimension.table)
    × ((csv : List ℕ) → g.F.Folder.holds l.fn.folder l.fn.path ≡ Some csv → l.keys.items ≡ filter (is_key l.fn.dimension.table (csv_records csv)) (range_with_len 0 l.index))
    × ((csv : List ℕ) → g.F.Folder.holds l.fn.folder l.fn.path ≡ Some csv → ArePassed l.fn.dimension.table (csv_records csv) l.index)
