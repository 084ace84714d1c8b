-- Proofs of the goals of `lent` (`filling`).
use Rattle.std.proofs.lemmas.Str.{is_utf8-from_IsUtf8}
use Rattle.key_columns.proofs.filling.lent.Goals as goal

pub returns-in-Text-clause-spelled : goal.returns-in-Text-clause-spelled
returns-in-Text-clause-spelled c = is_utf8-from_IsUtf8 c.as_bytes.result.now c.as_bytes.ensures.utf8
