-- Proofs of the goals of `is_of_type` (`checks`).
use Rattle.std.proofs.lemmas.Str.{is_utf8-from_IsUtf8}
use Rattle.answer_layouts.proofs.checks.is_of_type.Goals as goal

pub is_text_of-requires : goal.is_text_of-requires
is_text_of-requires c = is_utf8-from_IsUtf8 c.as_bytes.result.now c.as_bytes.ensures.utf8
