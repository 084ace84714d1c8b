-- Proofs of the goals of `packed_columns` (`group_marks`).
use Rattle.std.proofs.Common.{◌∷◌, [], ◌++◌, Bool, List, not, ap, ◌∙◌}
use Rattle.worker.specs.Packed.{is_read}
use Rattle.worker.proofs.PackedColumns.{one_more}
use Rattle.worker.proofs.group_marks.packed_columns.Goals as goal

pub loop-column-preserved : goal.loop-column-preserved
loop-column-preserved c =
    let plan = c.args.plan.now in
    let marks = c.args.marks.now in
    c.in_ok-push.ensures.items
    ∙ ap (λ (xs : List Bool). xs ++ not c.is_read_of_rows.result ∷ []) c.loop-column.invariant
    ∙ one_more (λ column. not (is_read column plan marks)) c.loop-column.column (not c.is_read_of_rows.result) (ap not c.is_read_of_rows.ensures)
