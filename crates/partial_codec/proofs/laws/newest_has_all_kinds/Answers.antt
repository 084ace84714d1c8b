-- Proofs of the goals of `newest_has_all_kinds` (`laws`).
use Rattle.answer_fields.proofs.Formats.{newest_has}
use Rattle.partial_codec.proofs.laws.newest_has_all_kinds.Goals as goal

pub returns : goal.returns
returns c = newest_has
