-- Proofs of the goals of `push_at` (`showing`).
use Rattle.std.proofs.Common.{[], get_or, refl, subst, arith}
use Rattle.std.proofs.lemmas.List.{get_or-map, length-map}
use Rattle.last_step.specs.Batches.{IsReadable, lane_row}
use Rattle.last_step.specs.Runs.{expanded}
use Rattle.last_step.proofs.Gathering.{row_pushed}
use Rattle.last_step.proofs.showing.push_at.Goals as goal

pub row_at-requires : goal.row_at-requires
row_at-requires c =
    let row = lane_row c.args.items.now in
    let k = c.loop-position.position-index in
    let below = c.loop-position-test.true in
    let long = length-map c.args.positions.now row in
    subst IsReadable (get_or-map row c.args.positions.now k 0 [] below) (c.requires k [] (omega (arith, below, long)))

pub loop-position-preserved : goal.loop-position-preserved
loop-position-preserved c =
    let positions = c.args.positions.now in
    let k = c.loop-position.position-index in
    row_pushed c.loop-position.runs.items c.push.new.self.items c.in_ok-row.row (expanded c.args.runs.now.items) (lane_row c.args.items.now) positions k (get_or positions k 0)
    c.in_ok-push.ensures.items c.in_ok-row.ensures refl c.loop-position-test.true c.loop-position.invariant
