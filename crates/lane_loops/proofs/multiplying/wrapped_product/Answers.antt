-- Proofs of the goals of `wrapped_product` (`multiplying`).
use Rattle.std.proofs.Common.{w64}
use Rattle.std.proofs.lemmas.Int.{wrapping_mul_is}
use Rattle.lane_loops.proofs.multiplying.wrapped_product.Goals as goal

pub returns : goal.returns
returns c = wrapping_mul_is w64 c.args.left c.args.right c.ranges.left c.ranges.right
