-- Proofs of the goals of `texts_at` (`lanes`).
use Rattle.std.proofs.Common.{List, ℕ, subst, sym}
use Rattle.std.proofs.lemmas.List.{take_all}
use Rattle.meaning.specs.declared.value.Value.{Value}
use Rattle.worker.specs.Evaluated.{AreOnly}
use Rattle.worker.proofs.Chosen.{AreSoFar, all_so_far}
use Rattle.worker.proofs.lanes.texts_at.Goals as goal

pub returns : goal.returns
returns c =
    let all = take_all c.loop-position.position-index c.args.positions.now c.loop-position-test.false in
    let so_far = subst (λ (ps : List ℕ). AreSoFar ps c.args.texts.now c.loop-position.nulls.items c.loop-position.cells.items) all c.loop-position.invariant in
    subst (λ (vs : List Value). AreOnly c.args.positions.now c.args.texts.now vs) (sym c.new.ensures) (all_so_far c.args.positions.now c.args.texts.now c.loop-position.nulls.items c.loop-position.cells.items so_far)
