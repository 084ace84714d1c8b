-- Proofs of the goals of `one_combination` (`laws`).
use Rattle.meaning_laws.proofs.UniqueKeys.{one_combo}
use Rattle.meaning_laws.proofs.laws.one_combination.Goals as goal

pub returns : goal.returns
returns c = one_combo
