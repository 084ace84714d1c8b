-- Loop invariants of `write_dimensions` (`saving`).
use Rattle.std.proofs.Common.{◌≡◌, take}
use Rattle.std.specs.Prelude.{zip}
use Rattle.folders.specs.Folder.{AsksOf}
use Rattle.folders.specs.Each.{AreEach}
use Rattle.loads.specs.Loading.{IsDimensionReady}
use Rattle.loads.proofs.saving.write_dimensions.Given as goal

abbrev pub invariant-loop-i : goal.invariant-loop-i
invariant-loop-i g l =
    let F = g.F.Folder in
    (F.wrote l.folder ≡ F.wrote l.fn.folder)
    × AreEach (IsDimensionReady F.enclosed (F.wrote l.fn.folder) l.target.directory.now l.target.load) (zip (take l.i l.declared) (take l.i l.dims)) l.ready.items
    × AsksOf (F.tries l.fn.folder) (F.tries l.folder)
