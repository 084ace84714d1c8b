-- Proofs of the goals of `dictionary_of` (`dictionary::of_cells`).
use Rattle.std.proofs.Common.{map, sym, subst}
use Rattle.std.proofs.lemmas.List.{length-map}
use Rattle.encodings.specs.Entries.{AreNumbers, AreNumberEntries}
use Rattle.encodings.proofs.dictionary.of_cells.dictionary_of.Goals as goal

pub returns-in-Ok : goal.returns-in-Ok
returns-in-Ok g c =
    let cells = map g.K.Cell.value c.args.cells.now in
    let numbers = c.in_ok-numbers.numbers in
    let entries = c.in-Ok.entries in
    c.recoded.ensures cells (subst (AreNumbers cells numbers.firsts.items numbers.of_rows.items) (sym (length-map c.args.cells.now g.K.Cell.value)) c.in_ok-numbers.ensures)
    (subst (λ firsts. AreNumberEntries cells firsts entries.entry_rows.items entries.codes.items) c.as_slice.ensures.value c.in-Ok.ensures)
