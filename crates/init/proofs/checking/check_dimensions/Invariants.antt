-- Loop invariants of `check_dimensions` (`checking`).
use Rattle.std.proofs.Common.{All, take}
use Rattle.init.specs.Making.{IsDimensionFit}
use Rattle.init.proofs.checking.check_dimensions.Given as goal

abbrev pub invariant-loop-dimension : goal.invariant-loop-dimension
invariant-loop-dimension g l = All (IsDimensionFit (g.F.Folder.holds l.folder) l.directory) (take l.dimension-index l.dimensions)
