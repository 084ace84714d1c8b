-- Proofs of the goals of `wrapped_sum` (`adding`).
use Rattle.std.proofs.Common.{w64}
use Rattle.std.proofs.lemmas.Int.{wrapping_add_is}
use Rattle.lane_kernels.proofs.adding.wrapped_sum.Goals as goal

pub returns : goal.returns
returns c = wrapping_add_is w64 c.args.left c.args.right c.ranges.left c.ranges.right
