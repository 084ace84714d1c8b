-- Loop invariants of `read_dimensions` (`working`).
use Rattle.std.proofs.Common.{take}
use Rattle.meaning.specs.declared.plan.Join.{Join}
use Rattle.folders.specs.Each.{AreEach}
use Rattle.folders.specs.Folder.{dimension_path}
use Rattle.jobs.specs.Working.{IsDimensionOf}
use Rattle.jobs.proofs.FirstUnread.{AreOpened}
use Rattle.jobs.proofs.working.read_dimensions.Given as goal

abbrev pub invariant-loop-join : goal.invariant-loop-join
invariant-loop-join g l = AreEach (IsDimensionOf (g.F.Folder.holds l.folder) l.directory) (take l.join-index l.joins) l.dims.items
    × AreOpened (g.F.Folder.opens l.folder) (λ (join : Join). dimension_path l.directory join.dim.name) l.joins l.join-index
