-- Loop invariants of `put_numbered` (`dictionary::entries`).
use Rattle.std.proofs.Common.{map}
use Rattle.encodings.specs.Entries.{AreNumbered}
use Rattle.blocks.specs.Plain.{cells_at}
use Rattle.encodings.proofs.dictionary.entries.put_numbered.Given as goal

abbrev pub invariant-loop-number : goal.invariant-loop-number
invariant-loop-number g l = AreNumbered g.K.Cell.value (cells_at (map g.K.Cell.value l.cells) l.firsts) l.numbered.items l.number
