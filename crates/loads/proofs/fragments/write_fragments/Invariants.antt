-- Loop invariants of `write_fragments` (`fragments`).
use Rattle.std.proofs.Common.{◌≡◌, ◌≤◌, List, length}
use Rattle.std.specs.Prelude.{IfOk, IfErr}
use Rattle.meaning.specs.Cut.{first_row}
use Rattle.columns.specs.Column.{ColumnSpec}
use Rattle.folders.specs.Folder.{AsksOf}
use Rattle.folders.specs.Refused.{IsTriedFor}
use Rattle.loader.specs.Handing.{lengths_ahead}
use Rattle.loads.specs.Loading.{AreFragmentsClosed}
use Rattle.loads.specs.Refusing.{AreFragmentsUnwritten}
use Rattle.loads.proofs.HandedOn.{AreHandedOn}
use Rattle.loads.proofs.fragments.write_fragments.Given as goal

abbrev pub invariant-loop-files : goal.invariant-loop-files
invariant-loop-files g l =
    let F = g.F.Folder in
    let table = l.target.catalog.now.fact in
    (F.wrote l.folder ≡ F.wrote l.fn.folder) × (F.holds l.folder ≡ F.holds l.fn.folder) × (l.first_row ≡ first_row l.cut l.fragment) × (l.fragment ≤ length l.cut)
    × IfErr l.files (AreFragmentsUnwritten l.target.directory.now table.name (length l.cut))
    × (done : List (List ColumnSpec)) × AreHandedOn g.F.Reader.Read.remaining l.fn.reader l.reader table l.cut l.fragment done
    × IfOk l.files (λ closed. AreFragmentsClosed F.enclosed (F.wrote l.fn.folder) l.target.load table l.cut done closed.items)
    × AsksOf (F.asks l.fn.folder) (F.asks l.folder)
    × IfErr l.files (IsTriedFor (F.tries l.fn.folder))
    × AsksOf (F.tries l.fn.folder) (F.tries l.folder)

abbrev pub decreases-loop-files : goal.decreases-loop-files
decreases-loop-files g l = length (lengths_ahead l.reader)
