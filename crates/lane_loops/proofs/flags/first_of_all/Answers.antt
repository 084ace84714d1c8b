-- Proofs of the goals of `first_of_all` (`flags`).
use Rattle.std.proofs.Common.{rules, ◌≡◌, ◌∙◌, length, false}
use Rattle.lane_loops.specs.Lanes.{is_flagged}
use Rattle.lane_loops.proofs.FirstFlag.{find_next}
use Rattle.lane_loops.proofs.flags.first_of_all.Goals as goal

pub loop-i-preserved : goal.loop-i-preserved
loop-i-preserved c =
    let fails : is_flagged c.args.flags.now c.loop-i.i ≡ false = search rules in
    find_next (is_flagged c.args.flags.now) c.loop-i.i (length c.args.flags.now) c.loop-i-test.true fails ∙ c.loop-i.invariant
