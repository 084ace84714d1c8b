-- Loop invariants of `select_marked` (`marked`).
use Rattle.std.proofs.Common.{◌≡◌, List, take}
use Rattle.meaning.specs.declared.joined_row.JoinedRow.{JoinedRow}
use Rattle.meaning.specs.Typing.{RowTypes}
use Rattle.fragment_file.specs.Lent.{blocks_in}
use Rattle.primitives.specs.Fitting.{AreTypedRows}
use Rattle.primitives.specs.Narrowed.{Narrows}
use Rattle.scan_select.specs.OnBlocks.{AllFitEither, AreRowsFrom}
use Rattle.scan_select.specs.Selected.{conditions_at}
use Rattle.scan_select.proofs.marked.select_marked.Given as goal

abbrev pub invariant-loop-at : goal.invariant-loop-at
invariant-loop-at l =
    ((types : RowTypes) (rows : List JoinedRow) → AreTypedRows types l.scanned.batch rows → AreRowsFrom (blocks_in l.scanned.group) l.scanned.first_row l.fn.selection.list rows
    → AllFitEither types l.scanned.batch.columns (blocks_in l.scanned.group) l.conditions l.marks
    → Narrows (conditions_at (take l.at l.conditions) rows) l.fn.selection.list l.selection.list l.fn.fault.held l.fault.held)
    × (l.selection.below ≡ l.fn.selection.below)
