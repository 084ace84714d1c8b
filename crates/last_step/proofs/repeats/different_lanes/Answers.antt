-- Proofs of the goals of `different_lanes` (`repeats`).
use Rattle.std.proofs.Common.{ℕ, ap, map, rules, ◌∙◌}
use Rattle.std.specs.Ordering.{eq_by_cmp}
use Rattle.std.proofs.lemmas.Fn.{dedup_same}
use Rattle.meaning.specs.Finish.{order_cmp}
use Rattle.last_step.specs.Batches.{lane_row}
use Rattle.last_step.proofs.RowSets.{map-dedup}
use Rattle.last_step.proofs.repeats.different_lanes.Goals as goal

pub returns : goal.returns
returns c =
    let row = lane_row c.args.items.now in
    let same = eq_by_cmp (order_cmp c.args.order.now) in
    ap (map row) (dedup_same _ (λ (p q : ℕ). same (row p) (row q)) _ (λ x y b f' x' y' k. search rules) _ _ c.dedup_by.ensures.filtered)
    ∙ map-dedup row same c.args.positions.items
