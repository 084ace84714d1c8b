-- Proofs of the goals of `own_answers_fit` (`laws`).
use Rattle.meaning_laws.proofs.OwnFits.{own_fits}
use Rattle.meaning_laws.proofs.laws.own_answers_fit.Goals as goal

pub returns : goal.returns
returns c = own_fits
