-- Proofs of the goals of `fragments_with` (`report`).
use Rattle.std.proofs.Common.{◌≡◌, ap, sym, ◌∙◌, ◌+◌, ◌++◌, [], ◌∷◌, Bool, true, false, cond, take}
use Rattle.std.proofs.lemmas.List.{append-nil}
use Rattle.meaning.specs.Gather.{fragments_where}
use Rattle.gathering.specs.Report.{has_obstacle}
use Rattle.gathering.proofs.ListedFragments.{fragments_of_next}
use Rattle.gathering.proofs.report.fragments_with.Goals as goal
use Rattle.gathering.proofs.report.fragments_with.Goals.{then-has_obstacle+in_ok-push, else-has_obstacle}

-- the fragments behind one turn
next : (c : goal.Joined-has_obstacle) (t : Bool) → t ≡ has_obstacle c.args.obstacle c.index-cells-k.result
    → fragments_where (has_obstacle c.args.obstacle) (take (c.loop-k.k + 1) c.args.cells.now) ≡ fragments_where (has_obstacle c.args.obstacle) (take c.loop-k.k c.args.cells.now) ++ cond t (c.loop-k.k ∷ []) []
next c t e =
    fragments_of_next (has_obstacle c.args.obstacle) c.args.cells.now c.loop-k.k c.index-cells-k.result c.loop-k-test.true
    ∙ ap (λ b. fragments_where (has_obstacle c.args.obstacle) (take c.loop-k.k c.args.cells.now) ++ cond b (c.loop-k.k ∷ []) []) (sym (e ∙ ap (has_obstacle c.args.obstacle) c.index-cells-k.is))

pub loop-k-preserved : goal.loop-k-preserved
loop-k-preserved c = elim c.if-has_obstacle.branch [
  | then-has_obstacle+in_ok-push w ↦ w.fragments-is ∙ w.in_ok-push.ensures.ok ∙ ap (λ ks. ks ++ c.loop-k.k ∷ []) c.loop-k.invariant ∙ sym (next c true w.if-has_obstacle.ensures)
  | else-has_obstacle w ↦ w.fragments-is ∙ c.loop-k.invariant ∙ sym (next c false w.if-has_obstacle.ensures ∙ append-nil (fragments_where (has_obstacle c.args.obstacle) (take c.loop-k.k c.args.cells.now)))
]
