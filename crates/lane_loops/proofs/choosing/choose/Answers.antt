-- Proofs of the goals of `choose` (`choosing`).
use Rattle.std.proofs.Common.{◌<◌, ◌≤◌, arith, length}
use Rattle.lane_loops.proofs.Chosen.{chosen_more}
use Rattle.lane_loops.proofs.choosing.choose.Goals as goal

pub loop-i-preserved : goal.loop-i-preserved
loop-i-preserved g c =
    chosen_more (length c.args.out.now) c.args.mask.now c.args.yes.now c.args.no.now c.loop-i.out c.loop-i.i c.chosen_at.result
    c.loop-i.invariant c.loop-i-test.true c.chosen_at.ensures

pub returns : goal.returns
returns g c =
    let n = length c.args.out.now in
    let end : n ≤ c.loop-i.i = omega arith in
    let done = c.loop-i.invariant in
    record { long = done.0; each = λ i blank below. (done.1 blank).each i (let before : i < c.loop-i.i = omega (arith, below, end) in before) }
