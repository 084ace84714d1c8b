-- Loop invariants of `evaluate_keys` (`expressions`).
use Rattle.std.proofs.Common.{List, map, take}
use Rattle.std.specs.Prelude.{All}
use Rattle.meaning.specs.declared.joined_row.JoinedRow.{JoinedRow}
use Rattle.meaning.specs.Typing.{RowTypes, Valued}
use Rattle.primitives.specs.Fitting.{AreTypedRows, Fits}
use Rattle.worker.specs.Evaluated.{AreVectorsOf}
use Rattle.worker.proofs.expressions.evaluate_keys.Given as goal

abbrev pub invariant-loop-key : goal.invariant-loop-key
invariant-loop-key l =
    (types : RowTypes) (rows : List JoinedRow) → AreTypedRows types l.batch rows → All (λ k. Fits types l.batch.columns k.expr (Valued k.col_type)) l.keys
    → AreVectorsOf (map (λ k. k.expr) (take l.key-index l.keys)) rows l.selection l.fn.fault.held l.fault.held l.vectors.items
