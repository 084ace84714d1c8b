-- Loop invariants of `evaluate_arguments` (`expressions`).
use Rattle.std.proofs.Common.{List, map, take}
use Rattle.std.specs.Prelude.{All}
use Rattle.meaning.specs.declared.joined_row.JoinedRow.{JoinedRow}
use Rattle.meaning.specs.Typing.{RowTypes, Valued}
use Rattle.primitives.specs.Fitting.{AreTypedRows, Fits}
use Rattle.worker.specs.Evaluated.{AreVectorsOf}
use Rattle.worker.proofs.expressions.evaluate_arguments.Given as goal

abbrev pub invariant-loop-aggregate : goal.invariant-loop-aggregate
invariant-loop-aggregate l =
    (types : RowTypes) (rows : List JoinedRow) → AreTypedRows types l.batch rows → All (λ k. Fits types l.batch.columns k.argument (Valued k.col_type)) l.aggregates
    → AreVectorsOf (map (λ k. k.argument) (take l.aggregate-index l.aggregates)) rows l.selection l.fn.fault.held l.fault.held l.vectors.items
