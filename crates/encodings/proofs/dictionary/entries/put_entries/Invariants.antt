-- Loop invariants of `put_entries` (`dictionary::entries`).
use Rattle.std.proofs.Common.{◌≡◌, map, length}
use Rattle.encodings.specs.Entries.{AreFirstEntries, AreFirstCodes}
use Rattle.blocks.specs.Plain.{cells_at}
use Rattle.encodings.proofs.dictionary.entries.put_entries.Given as goal

abbrev pub invariant-loop-index : goal.invariant-loop-index
invariant-loop-index g l =
    let cells = map g.K.Cell.value l.cells in
    let sorted = map (λ p. g.K.Cell.value p.0) l.sorted in
    AreFirstEntries cells sorted l.index l.entry_rows.items
    × AreFirstCodes (cells_at cells l.entry_rows.items) sorted (map (λ p. p.1) l.sorted) l.codes l.index
    × (length l.codes ≡ length l.firsts)
