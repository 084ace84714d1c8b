-- Proofs of the goals of `evaluation_is_typed` (`laws`).
use Rattle.meaning.proofs.Typed.{typed}
use Rattle.meaning_laws.proofs.laws.evaluation_is_typed.Goals as goal

pub returns : goal.returns
returns c = λ types e type r fits is. typed types r fits e type is
