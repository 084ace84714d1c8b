-- Proofs of the goals of `sort` (`dictionary::entries`).
use Rattle.encodings.proofs.NumberEntries.{numbered_sorted, cells_sorted}
use Rattle.encodings.proofs.dictionary.entries.sort.Goals as goal

pub returns : goal.returns
returns g c = λ cells count h. (
  numbered_sorted g.K.Cell.value cells c.args.numbered.now.items _ count c.sort_unstable.ensures.permutation h,
  cells_sorted g.K.Ord.cmp g.K.Cell.value _ g.met.K.Cell.order c.sort_unstable.ensures.sorted,
)
