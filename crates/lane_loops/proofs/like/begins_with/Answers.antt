-- Proofs of the goals of `begins_with` (`like`).
use Rattle.lane_loops.proofs.PatternParts.{short_starts}
use Rattle.lane_loops.proofs.like.begins_with.Goals as goal

pub returns-then-text-part : goal.returns-then-text-part
returns-then-text-part c = short_starts c.args.text.now c.args.part.now c.if-text-part.true
