-- Loop invariants of `Numbers::add_cells` (`dictionary::numbers`).
use Rattle.std.proofs.Common.{◌≡◌, length, map}
use Rattle.encodings.specs.Entries.{AreNumbers}
use Rattle.encodings.proofs.dictionary.numbers.Numbers.add_cells.Given as goal

abbrev pub invariant-loop-row : goal.invariant-loop-row
invariant-loop-row g l = record {
  numbers : AreNumbers (map g.K.Cell.value l.cells) l.self.firsts.items l.self.of_rows.items l.row;
  slots : length l.slots ≡ 16384;
}
