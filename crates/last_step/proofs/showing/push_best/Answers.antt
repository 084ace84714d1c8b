-- Proofs of the goals of `push_best` (`showing`).
use Rattle.std.proofs.Common.{ℕ, List, ap, map, sym, subst, ◌∙◌}
use Rattle.std.specs.Prelude.{All}
use Rattle.std.proofs.lemmas.Result.{on_ok_weaker}
use Rattle.last_step.specs.Batches.{IsReadable, lane_row}
use Rattle.last_step.specs.Runs.{expanded}
use Rattle.last_step.proofs.BestRows.{all_best, best_pushed}
use Rattle.last_step.proofs.showing.push_best.Goals as goal

pub push_at-requires : goal.push_at-requires
push_at-requires c =
    let row = lane_row c.args.items.now in
    subst (λ (ps : List ℕ). All IsReadable (map row ps)) (sym c.as_slice.ensures.value)
    (subst (All IsReadable) (sym c.in_ok-positions.ensures) (all_best c.args.plan.now IsReadable (map row c.args.kept.now.list) c.requires.readable))

pub returns : goal.returns
returns c =
    let row = lane_row c.args.items.now in
    on_ok_weaker c.push_at.result
    (best_pushed c.args.plan.now (expanded c.args.runs.now.items) (map row c.args.kept.now.list) (map row c.as_slice.result.now) (expanded c.push_at.new.runs.items) (ap (map row) c.as_slice.ensures.value ∙ c.in_ok-positions.ensures))
    c.push_at.ensures
