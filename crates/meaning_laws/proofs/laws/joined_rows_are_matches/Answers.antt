-- Proofs of the goals of `joined_rows_are_matches` (`laws`).
use Rattle.meaning_laws.proofs.UniqueKeys.{combos-matched}
use Rattle.meaning_laws.proofs.laws.joined_rows_are_matches.Goals as goal

pub returns : goal.returns
returns c = combos-matched
