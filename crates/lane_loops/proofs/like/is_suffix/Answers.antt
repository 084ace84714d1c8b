-- Proofs of the goals of `is_suffix` (`like`).
use Rattle.std.proofs.Common.{sym, ◌∙◌}
use Rattle.meaning.proofs.LikeBytes.{like_bytes}
use Rattle.lane_loops.proofs.like.is_suffix.Goals as goal

pub returns : goal.returns
returns c = λ utf8. c.ends_with.ensures ∙ sym (like_bytes c.args.part.now c.args.text.now c.requires.0 c.requires.1 utf8).suffix
