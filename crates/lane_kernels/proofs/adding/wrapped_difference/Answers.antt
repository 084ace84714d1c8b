-- Proofs of the goals of `wrapped_difference` (`adding`).
use Rattle.std.proofs.Common.{w64}
use Rattle.std.proofs.lemmas.Int.{wrapping_sub_is}
use Rattle.lane_kernels.proofs.adding.wrapped_difference.Goals as goal

pub returns : goal.returns
returns c = wrapping_sub_is w64 c.args.left c.args.right c.ranges.left c.ranges.right
