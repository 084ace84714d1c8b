-- Proofs of the goals of `bytes_of` (`like`).
use Rattle.std.proofs.lemmas.Str.{is_utf8-from_IsUtf8}
use Rattle.lane_loops.proofs.like.bytes_of.Goals as goal

pub returns-clause-utf8 : goal.returns-clause-utf8
returns-clause-utf8 c = is_utf8-from_IsUtf8 c.as_bytes.result.now c.as_bytes.ensures.utf8
