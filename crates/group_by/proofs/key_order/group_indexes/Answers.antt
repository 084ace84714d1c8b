-- Proofs of the goals of `group_indexes` (`key_order`).
use Rattle.std.proofs.Common.{List, ℕ, ap, sym, ◌∙◌, ◌++◌, ◌∷◌, []}
use Rattle.group_by.proofs.IntKeys.{counted_more}
use Rattle.group_by.proofs.key_order.group_indexes.Goals as goal

pub loop-group_index-preserved : goal.loop-group_index-preserved
loop-group_index-preserved c =
    let n = c.loop-group_index.group_index in
    c.in_ok-push.ensures.items ∙ ap (λ (is : List ℕ). is ++ n ∷ []) c.loop-group_index.invariant ∙ sym (counted_more n)
