-- Proofs of the goals of `choice_of` (`choosing`).
use Rattle.encodings.proofs.EncodedBlocks.{ints_fit, texts_fit}
use Rattle.encodings.proofs.ChosenRows.{best_rows}
use Rattle.encodings.proofs.choosing.choice_of.Goals as goal

pub returns-in-Ints : goal.returns-in-Ints
returns-in-Ints c =
    let lent = c.in-Ints.ensures.cells in
    best_rows c.args.column.now c.args.from c.args.to _ _ c.choose_ints.result lent.0 (ints_fit c.args.column.now c.args.from c.args.to c.in-Ints.ints.now c.cells.ensures.column lent.0 lent.1).0 c.choose_ints.ensures

pub returns-in-Texts : goal.returns-in-Texts
returns-in-Texts c =
    let lent = c.in-Texts.ensures.cells in
    best_rows c.args.column.now c.args.from c.args.to _ _ c.choose_texts.result lent.0 (texts_fit c.args.column.now c.args.from c.args.to c.in-Texts.texts.now c.cells.ensures.column lent.0 lent.1).0 c.choose_texts.ensures
