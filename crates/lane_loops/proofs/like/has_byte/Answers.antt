-- Proofs of the goals of `has_byte` (`like`).
use Rattle.std.proofs.Common.{◌∙◌}
use Rattle.memchr.specs.Find.{is_byte}
use Rattle.lane_loops.proofs.PatternParts.{is_found_any}
use Rattle.lane_loops.proofs.like.has_byte.Goals as goal

pub returns : goal.returns
returns c = c.is_some.ensures ∙ is_found_any (is_byte c.args.byte) c.args.text.now c.memchr.result c.memchr.ensures
