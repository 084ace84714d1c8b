-- Loop invariants of `read_dims` (`tables`).
use Rattle.std.proofs.Common.{All, take}
use Rattle.cli.specs.Refusing.{AreAsked, AreJoinedAsked}
use Rattle.cli.specs.Running.{IsCsvOf}
use Rattle.cli.proofs.tables.read_dims.Given as goal

abbrev pub invariant-loop-join : goal.invariant-loop-join
invariant-loop-join g l = All (IsCsvOf (g.F.Folder.holds l.folder) l.directory) l.files.items
    × AreAsked (g.F.Folder.asks l.folder) l.directory l.files.items
    × AreJoinedAsked (g.F.Folder.asks l.folder) l.directory (take l.join-index l.joins)
