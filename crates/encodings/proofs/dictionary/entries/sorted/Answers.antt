-- Proofs of the goals of `sorted` (`dictionary::entries`).
use Rattle.std.proofs.Common.{length, map}
use Rattle.blocks.specs.Plain.{cells_at}
use Rattle.encodings.proofs.dictionary.entries.sorted.Goals as goal

pub returns-in-Ok-clause-numbered : goal.returns-in-Ok-clause-numbered
returns-in-Ok-clause-numbered g c =
    (c.sort.ensures (cells_at (map g.K.Cell.value c.args.cells.now) c.args.firsts.now) (length c.args.firsts.now) c.in-Ok.ensures).0

pub returns-in-Ok-clause-sorted : goal.returns-in-Ok-clause-sorted
returns-in-Ok-clause-sorted g c =
    (c.sort.ensures (cells_at (map g.K.Cell.value c.args.cells.now) c.args.firsts.now) (length c.args.firsts.now) c.in-Ok.ensures).1
