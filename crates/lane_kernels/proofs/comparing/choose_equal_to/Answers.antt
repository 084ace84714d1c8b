-- Proofs of the goals of `choose_equal_to` (`comparing`).
use Rattle.std.specs.Simd.Lanes.{chunk}
use Rattle.std.proofs.lemmas.Simd.{length-chunk}
use Rattle.lane_kernels.proofs.Chosen.{equal_to_is}
use Rattle.lane_kernels.proofs.comparing.choose_equal_to.Goals as goal

pub returns : goal.returns
returns c = equal_to_is c.args.equal c.args.other (chunk c.args.start 8 c.args.left.now) c.args.right.now (length-chunk c.args.start 8 c.args.left.now c.requires) c.look_at_eight.ensures c.look_at.ensures
