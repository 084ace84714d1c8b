-- Loop invariants of `select` (`selecting`).
use Rattle.std.proofs.Common.{◌≡◌, List, take}
use Rattle.std.specs.Prelude.{All}
use Rattle.meaning.specs.declared.joined_row.JoinedRow.{JoinedRow}
use Rattle.meaning.specs.Typing.{Boolean, RowTypes}
use Rattle.primitives.specs.Fitting.{AreTypedRows, Fits}
use Rattle.primitives.specs.Narrowed.{Narrows}
use Rattle.scan_select.specs.Selected.{conditions_at}
use Rattle.scan_select.proofs.selecting.select.Given as goal

abbrev pub invariant-loop-condition : goal.invariant-loop-condition
invariant-loop-condition l =
    ((types : RowTypes) (rows : List JoinedRow) → AreTypedRows types l.scanned.batch rows → All (λ c. Fits types l.scanned.batch.columns c Boolean) l.conditions
    → Narrows (conditions_at (take l.condition-index l.conditions) rows) l.fn.selection.list l.selection.list l.fn.fault.held l.fault.held)
    × (l.selection.below ≡ l.fn.selection.below)
