-- Proofs of the goals of `offer` (`leading`).
use Rattle.std.proofs.Common.{ℕ, List, ap, map, sym, take, ◌∙◌}
use Rattle.std.specs.List.{insert}
use Rattle.meaning.specs.Finish.{order_cmp}
use Rattle.meaning.specs.Order.{inserted}
use Rattle.last_step.specs.Batches.{lane_row}
use Rattle.last_step.proofs.Offered.{put_in}
use Rattle.last_step.proofs.leading.offer.Goals as goal

pub returns : goal.returns
returns c =
    let row = lane_row c.args.items.now in
    let most = c.args.most in
    let place = c.place_of-place.result in
    let position = c.args.position in
    put_in row most place position c.args.leading.now.items c.insert.new.self.items c.truncate.new.self.items c.in_ok-insert.ensures.items c.truncate.ensures.items
    ∙ ap (λ (ps : List ℕ). take most (insert (map row ps) place (row position))) (sym c.as_slice.ensures.value)
    ∙ ap (take most) c.place_of-place.ensures.place
    ∙ ap (λ (ps : List ℕ). take most (inserted (order_cmp c.args.order.now) (row position) (map row ps))) c.as_slice.ensures.value
