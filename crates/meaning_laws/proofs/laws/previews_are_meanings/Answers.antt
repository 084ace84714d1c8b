-- Proofs of the goals of `previews_are_meanings` (`laws`).
use Rattle.meaning_laws.proofs.OwnStates.{preview-joined}
use Rattle.meaning_laws.proofs.laws.previews_are_meanings.Goals as goal

pub returns : goal.returns
returns c = preview-joined
