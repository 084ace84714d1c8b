-- Loop invariants of `check_dimension_tables` (`checking`).
use Rattle.std.proofs.Common.{All, take}
use Rattle.init.specs.Making.{IsDimensionFit}
use Rattle.load_check.proofs.checking.check_dimension_tables.Given as goal

abbrev pub invariant-loop-index : goal.invariant-loop-index
invariant-loop-index g l = All (IsDimensionFit (g.F.Folder.holds l.folder) l.directory) (take l.index l.dims)
