-- Proofs of the goals of `answers_combine` (`laws`).
use Rattle.meaning_laws.proofs.Combine.{combined-own_body}
use Rattle.meaning_laws.proofs.laws.answers_combine.Goals as goal

pub returns : goal.returns
returns c = combined-own_body
