-- Proofs of the goals of `choose_less_than` (`comparing`).
use Rattle.std.specs.Simd.Lanes.{chunk}
use Rattle.std.proofs.lemmas.Simd.{length-chunk}
use Rattle.lane_kernels.proofs.Chosen.{less_than_is}
use Rattle.lane_kernels.proofs.comparing.choose_less_than.Goals as goal

pub returns : goal.returns
returns c = less_than_is c.args.less c.args.other (chunk c.args.start 8 c.args.left.now) c.args.right.now (length-chunk c.args.start 8 c.args.left.now c.requires) c.look_at_eight.ensures c.look_at.ensures
