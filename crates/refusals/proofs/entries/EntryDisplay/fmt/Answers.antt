-- Proofs of the goals of `fmt` of `Display` (`entries`).
use Rattle.std.proofs.Common.{refl}
use Rattle.std.proofs.Output.{has_written_append}
use Rattle.refusals.proofs.entries.EntryDisplay.fmt.Goals as goal

pub returns-clause-writes : goal.returns-clause-writes
returns-clause-writes g c = λ plain ok.
    let took = g.W.Write.write_str_gives in
    let lines = c.in_ok-write_str.ensures.writes plain refl in
    let meaning = c.in_ok-write_part.ensures lines.plain refl in
    let input = c.in_ok-write_part-2.ensures meaning.plain refl in
    let advice = c.write_part-3.ensures input.plain ok in
    has_written_append took _ _ _ _ _ lines (has_written_append took _ _ _ _ _ meaning (has_written_append took _ _ _ _ _ input advice))
