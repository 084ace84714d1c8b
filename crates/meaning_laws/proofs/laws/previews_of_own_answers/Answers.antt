-- Proofs of the goals of `previews_of_own_answers` (`laws`).
use Rattle.meaning_laws.proofs.OwnStates.{preview-cells}
use Rattle.meaning_laws.proofs.laws.previews_of_own_answers.Goals as goal

pub returns : goal.returns
returns c = preview-cells
