-- Proofs of the goals of `groups_fit` (`laws`).
use Rattle.meaning_laws.proofs.FittingGroups.{groups_shaped, groups_possible, groups_typed}
use Rattle.meaning_laws.proofs.laws.groups_fit.Goals as goal

pub returns : goal.returns
returns c = λ plan. record { shaped = groups_shaped plan; possible = groups_possible plan; typed = groups_typed plan }
