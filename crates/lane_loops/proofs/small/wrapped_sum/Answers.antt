-- Proofs of the goals of `wrapped_sum` (`small`).
use Rattle.std.proofs.Common.{w64}
use Rattle.std.proofs.lemmas.Int.{wrapping_add_is}
use Rattle.lane_loops.proofs.small.wrapped_sum.Goals as goal

pub returns : goal.returns
returns c = wrapping_add_is w64 c.args.left c.args.right c.ranges.left c.ranges.right
