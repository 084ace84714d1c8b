-- Proofs of the goals of `groups_merge` (`laws`).
use Rattle.meaning.proofs.LiveTable.{merged_groups-turned, merged_groups-again}
use Rattle.meaning_laws.proofs.laws.groups_merge.Goals as goal

pub returns : goal.returns
returns c = λ plan. record { turned = merged_groups-turned plan; again = merged_groups-again plan }
