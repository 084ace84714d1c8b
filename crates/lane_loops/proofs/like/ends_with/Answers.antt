-- Proofs of the goals of `ends_with` (`like`).
use Rattle.lane_loops.proofs.PatternParts.{short_ends}
use Rattle.lane_loops.proofs.like.ends_with.Goals as goal

pub returns-then-text-part : goal.returns-then-text-part
returns-then-text-part c = short_ends c.args.text.now c.args.part.now c.if-text-part.true
