-- Proofs of the goals of `headline` (`laws`).
use Rattle.meaning_laws.proofs.HeadlineLaw.{text-joined}
use Rattle.meaning_laws.proofs.laws.headline.Goals as goal

pub returns : goal.returns
returns c = λ plan dims cut rows answers whole all_in calm. text-joined plan dims cut rows answers all_in whole calm
