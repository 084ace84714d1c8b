-- Proofs of the goals of `statistics_merge` (`laws`).
use Rattle.meaning.proofs.Merge.{merge-comm, merge-assoc, merge-none}
use Rattle.meaning_laws.proofs.laws.statistics_merge.Goals as goal

pub returns : goal.returns
returns c = record { commutes = merge-comm; associates = merge-assoc; neutral = merge-none }
