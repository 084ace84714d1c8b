-- Loop invariants of `load_dimensions` (`loading`).
use Rattle.std.proofs.Common.{take}
use Rattle.folders.specs.Each.{AreEach}
use Rattle.loads.specs.Loading.{IsDimensionLoaded}
use Rattle.loads.proofs.loading.load_dimensions.Given as goal

abbrev pub invariant-loop-dim : goal.invariant-loop-dim
invariant-loop-dim g l = AreEach (IsDimensionLoaded (g.F.Folder.holds l.folder) l.directory) (take l.dim-index l.dim-items) l.dims.items
