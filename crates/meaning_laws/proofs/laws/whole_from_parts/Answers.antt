-- Proofs of the goals of `whole_from_parts` (`laws`).
use Rattle.meaning_laws.proofs.OwnStates.{report-own_answers}
use Rattle.meaning_laws.proofs.laws.whole_from_parts.Goals as goal

pub returns : goal.returns
returns c = report-own_answers
