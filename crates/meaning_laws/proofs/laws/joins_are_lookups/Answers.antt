-- Proofs of the goals of `joins_are_lookups` (`laws`).
use Rattle.meaning_laws.proofs.Joins.{fitting-choices}
use Rattle.meaning_laws.proofs.laws.joins_are_lookups.Goals as goal

pub returns : goal.returns
returns c = fitting-choices
