-- Proofs of the goals of `all_columns` (`scan`).
use Rattle.std.proofs.Common.{ℕ, List, ◌++◌, ◌∷◌, [], ap, sym, ◌∙◌}
use Rattle.scan_select.proofs.LawProofs.{range_one_more}
use Rattle.scan_select.proofs.scan.all_columns.Goals as goal

pub loop-column-preserved : goal.loop-column-preserved
loop-column-preserved c =
    c.in_ok-push.ensures.items ∙ ap (λ (ps : List ℕ). ps ++ c.loop-column.column ∷ []) c.loop-column.invariant ∙ sym (range_one_more c.loop-column.column)
