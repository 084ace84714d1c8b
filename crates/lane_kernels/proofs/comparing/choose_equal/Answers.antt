-- Proofs of the goals of `choose_equal` (`comparing`).
use Rattle.std.specs.Simd.Lanes.{chunk}
use Rattle.std.proofs.lemmas.Simd.{length-chunk}
use Rattle.lane_kernels.proofs.Chosen.{chosen_is, equal_is}
use Rattle.lane_kernels.proofs.comparing.choose_equal.Goals as goal

pub returns : goal.returns
returns c =
    let xs = chunk c.args.start 8 c.args.left.now in
    let ys = chunk c.args.start 8 c.args.right.now in
    chosen_is _ _ equal_is c.args.equal c.args.other 8 xs ys (length-chunk c.args.start 8 c.args.left.now c.requires.left) c.look_at_eight.ensures c.look_at_eight-2.ensures
