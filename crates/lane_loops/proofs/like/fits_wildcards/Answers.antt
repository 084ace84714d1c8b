-- Proofs of the goals of `fits_wildcards` (`like`).
use Rattle.std.proofs.lemmas.Str.{IsUtf8-from_is_utf8}
use Rattle.lane_loops.proofs.like.fits_wildcards.Goals as goal

pub returns-in-Err : goal.returns-in-Err
returns-in-Err c = λ utf8. absurd (c.in-Err.ensures.cases.0 (IsUtf8-from_is_utf8 c.args.text.now utf8))
