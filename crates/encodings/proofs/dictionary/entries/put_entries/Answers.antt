-- Proofs of the goals of `put_entries` (`dictionary::entries`).
use Rattle.std.proofs.Common.{map, ◌∙◌, arith}
use Rattle.std.proofs.lemmas.List.{length-set}
use Rattle.encodings.proofs.NumberEntries.{codes_next, number_entries}
use Rattle.encodings.proofs.dictionary.entries.put_entries.Goals as goal

pub loop-index-preserved : goal.loop-index-preserved
loop-index-preserved g c =
    let cells = map g.K.Cell.value c.args.cells.now in
    let kept = c.in_ok-code.ensures.kept in (
      c.in_ok-code.ensures.entries,
      codes_next g.K.Cell.value cells c.args.firsts.now c.loop-index.entry_rows.items kept.0 c.enter.new.entry_rows.items c.loop-index.codes c.args.sorted.now c.loop-index.index c.in_ok-code.code c.index-sorted-index.result c.requires.numbered (omega arith) c.loop-index.invariant.1 c.loop-index.invariant.2 kept.1 c.in_ok-code.ensures.code,
      length-set c.loop-index.codes _ _ ∙ c.loop-index.invariant.2,
    )

pub returns : goal.returns
returns g c =
    let cells = map g.K.Cell.value c.args.cells.now in
    number_entries g.K.Cell.value cells c.args.firsts.now c.loop-index.entry_rows.items c.loop-index.codes c.args.sorted.now c.loop-index.index c.requires.numbered c.loop-index.invariant.0 c.loop-index.invariant.1 (omega arith) c.loop-index.invariant.2
